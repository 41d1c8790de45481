use Rattle.std.proofs.Common.{◌≡◌, sym, refl, subst, rules}
use Rattle.lua_names.specs.Keywords.{keyword_of}
use Rattle.lua_print.specs.Printed.{HasNames}
use Rattle.manifest_text.specs.Text.{manifest_pairs}
use Rattle.manifest_text.specs.declared.view.ManifestView.{ManifestView}
use Rattle.manifest_text.proofs.tables.manifest_table.Goals as goal

named : (whole : ManifestView) → HasNames (manifest_pairs whole)
unfolding keyword_of
named whole = (refl, (refl, (refl, (refl, (refl, tt)))))

pub returns-clause-named : goal.returns-clause-named
returns-clause-named c =
    let made : c.set-5.new.table ≡ manifest_pairs c.args.whole.now = search rules in
    subst HasNames (sym made) (named c.args.whole.now)
