use Rattle.std.proofs.Common.{rules, ◌≡◌, ◌∙◌, sym, ap}
use Rattle.std.specs.Prelude.{Some, None}
use Rattle.std.specs.FinMap.{get, insert, remove}
use Rattle.rocks_outside.specs.Held.{files_of}
use Rattle.rocks_outside.proofs.Held.{get-files_of, renamed_none, renamed_apart, renamed_same, same_path, told_apart}
use Rattle.rocks_outside.proofs.memory_device.move_file.Goals as goal

pub returns-in_default-clause-ok : goal.returns-in_default-clause-ok
returns-in_default-clause-ok c =
    let none : get (files_of c.args.files.now) c.args.from.now ≡ None = rw get-files_of (search rules) in
    sym (renamed_none _ _ _ none)

pub returns-then-ne-clause-ok : goal.returns-then-ne-clause-ok
returns-then-ne-clause-ok c =
    let some : get (files_of c.args.files.now) c.args.from.now ≡ Some c.in-Some.bytes.now = rw get-files_of (search rules) in
    let put : files_of c.put.new.files ≡ insert (files_of c.args.files.now) c.args.to.now c.in-Some.bytes.now = search rules in
    let apart : c.args.from.now ≡ c.args.to.now → ⊥ = (told_apart _ _ _ (same_path _ _)).0 (sym c.ne.ensures ∙ c.if-ne.true) in
    c.take_away.ensures ∙ ap (λ files. remove files c.args.from.now) put ∙ renamed_apart _ _ _ _ some apart

pub returns-else-ne-clause-ok : goal.returns-else-ne-clause-ok
returns-else-ne-clause-ok c =
    let some : get (files_of c.args.files.now) c.args.from.now ≡ Some c.in-Some.bytes.now = rw get-files_of (search rules) in
    let put : files_of c.put.new.files ≡ insert (files_of c.args.files.now) c.args.to.now c.in-Some.bytes.now = search rules in
    let same : c.args.from.now ≡ c.args.to.now = (told_apart _ _ _ (same_path _ _)).1 (sym c.ne.ensures ∙ c.if-ne.false) in
    put ∙ renamed_same _ _ _ _ some same
