use Rattle.std.proofs.Common.{◌≡◌, ◌||◌, ℕ, ◌+◌, Bool, true, false, cond, List, ◌∷◌, drop, length, Option, Some, None, option_map, refl, sym, ap, ◌∙◌}
use Rattle.std.specs.Prelude.{is_some}
use Rattle.std.specs.List.{list_any}
use Rattle.std.specs.Str.{bytes_eq}
use Rattle.std.proofs.lemmas.Map.Text.{is_eq-slice_cmp}
use Rattle.std.proofs.lemmas.Option.{slice_get_read}
use Rattle.lua_syntax.specs.declared.tree.Named.{Named}
use Rattle.lua_value.specs.declared.key.Key.TheVariants.{Text}
use Rattle.lua_value.specs.declared.table.Value.{Value}
use Rattle.lua_value.specs.Pairs.{Datum, Pairs, value_at, put}
use Rattle.lua_value.specs.View.{datum}
use Rattle.lua_value.proofs.Puts.{value_at-put}
use Rattle.lua_eval.specs.Names.{twice}
use Rattle.lua_eval.proofs.Walks.{drop-member}
use Rattle.lua_eval.proofs.run.differ.Goals as goal

some_put : (b : Bool) (value : Datum) (old : Option Datum) → is_some (cond b (Some value) old) ≡ (b || is_some old)
some_put true value old = refl
some_put false value old = refl

some_seen : (old : Option Value) → is_some (option_map datum old) ≡ is_some old
some_seen None = refl
some_seen (Some value) = refl

-- a name that is put in is seen
seen-put : (name : List ℕ) (value : Datum) (before : List (List ℕ)) (seen : Pairs) → ((q : List ℕ) → list_any (bytes_eq q) before ≡ is_some (value_at (Text q) seen)) → (q : List ℕ) → list_any (bytes_eq q) (name ∷ before) ≡ is_some (value_at (Text q) (put (Text name) value seen))
seen-put name value before seen same q =
    ap (λ b. bytes_eq q name || b) (same q) ∙ ap (λ b. b || is_some (value_at (Text q) seen)) (sym (is_eq-slice_cmp q name))
    ∙ sym (ap is_some (value_at-put (Text q) (Text name) value seen) ∙ some_put _ value (value_at (Text q) seen))

-- a name that wasn't seen stands before the others
twice-next : (before : List (List ℕ)) (named : Named) (rest : List Named) → list_any (bytes_eq named.name) before ≡ false → twice before (named ∷ rest) ≡ twice (named.name ∷ before) rest
twice-next before named rest new = ap (λ b. cond b (Some named.place) (twice (named.name ∷ before) rest)) new

pub loop-named-preserved : goal.loop-named-preserved
loop-named-preserved c =
    let l = c.loop-named in
    let named : Named = c.named-item.result in
    let names = c.args.names.now in
    let rest = drop (l.named-index + 1) names in
    let at = slice_get_read names (length names) l.named-index named refl c.loop-named-test.true c.named-item.is in
    let begins = drop-member names l.named-index named at in
    let (before, same, whole) = l.invariant.seen in
    let copied : c.in_ok-copy.field-0 ≡ named.name = c.in_ok-copy.ensures in
    let old : option_map datum c.in_ok-insert.field-0 ≡ value_at (Text c.in_ok-copy.field-0) l.seen = c.in_ok-insert.ensures.old in
    let none : is_some c.in_ok-insert.field-0 ≡ false = sym c.is_some.ensures ∙ c.if-is_some.false in
    let new : list_any (bytes_eq named.name) before ≡ false =
    same named.name ∙ ap (λ n. is_some (value_at (Text n) l.seen)) (sym copied) ∙ ap is_some (sym old) ∙ some_seen c.in_ok-insert.field-0 ∙ none in
    record {
      seen = (
        named.name ∷ before,
        λ q. seen-put named.name _ before l.seen same q ∙ ap (λ n. is_some (value_at (Text q) (put (Text n) _ l.seen))) (sym copied) ∙ ap (λ ps. is_some (value_at (Text q) ps)) (sym c.in_ok-insert.ensures.ok),
        sym (twice-next before named rest new) ∙ ap (twice before) (sym begins) ∙ whole,
      );
      ordered = c.in_ok-insert.ensures.ordered;
    }
