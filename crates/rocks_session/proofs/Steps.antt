-- A step has one outcome at most, and it has one where it reads no rockspec.
use Rattle.std.proofs.Common.{◌≡◌, ◌<◌, ◌≤◌, ◌⊎◌, ℕ, true, false, ltb, List, Option, None, Some, length, refl, sym, ap, ◌∙◌, arith, inl, inr, ⊎_elim}
use Rattle.std.proofs.lemmas.Bool.Decides.{nat_tests}
use Rattle.lua_text.proofs.One.{one_outcome, some_outcome}
use Rattle.rocks_text.specs.Files.{Files}
use Rattle.rock_record.specs.declared.rock.Rock.{Rock}
use Rattle.rocks_session.specs.Step.{Outcome, ReadsNoRockspec, IsStep, Joins, Evaluates, compared, joined, refused, told, too_long}
use Rattle.served_rocks.proofs.OneFetched.{one_fetched}
use Rattle.served_rocks.specs.Rockspecs.{spec_path}
use Rattle.served_rocks.specs.Search.{earliest_at}
use Rattle.served_rocks.specs.declared.rockspecs.Origin.{Origin}
use Rattle.served_rocks.specs.declared.rockspecs.Origin.TheVariants.{Unpacked, Sources}
use Rattle.rocks_version.specs.declared.key.RockKey.{RockKey}
use Rattle.rocks_session.specs.declared.eval.TheConstants.{LONGEST_TEXT}
use Rattle.rocks_reply.specs.declared.reply.Refusal.TheVariants.{NoFile}
use Rattle.rocks_session.proofs.Linting.{one_linting}
use Rattle.rocks_command.specs.declared.command.Command.{Command}
use Rattle.rocks_command.specs.declared.command.Command.TheVariants.{Add, Compare, Eval, Install, Lint}

one_answer : (set : List Rock) (path : List ℕ) (held : Option (List ℕ)) (one other : Outcome) → Evaluates set path held one → Evaluates set path held other → one ≡ other
one_answer set path None one other first second = first ∙ sym second
one_answer set path (Some text) one other first second =
    ⊎_elim
    (λ a. ⊎_elim (λ b. a.1 ∙ sym b.1) (λ b. absurd (omega (arith, a.0, b.0))) second)
    (λ a. ⊎_elim (λ b. absurd (omega (arith, a.0, b.0))) (λ b. a.1.2 ∙ ap (told set) (one_outcome text a.1.0 b.1.0 a.1.1 b.1.1) ∙ sym b.1.2) second)
    first

one_joining : (origin : Origin) (servers : List Files) (set : List Rock) (key : RockKey) (one other : Outcome) → Joins origin servers set key one → Joins origin servers set key other → one ≡ other
one_joining origin servers set key one other (inl is) (inl too) = is.1 ∙ sym too.1
one_joining origin servers set key one other (inl is) (inr too) = let both : true ≡ false = sym is.0 ∙ too.0 in cc
one_joining origin servers set key one other (inr is) (inl too) = let both : true ≡ false = sym too.0 ∙ is.0 in cc
one_joining origin servers set key one other (inr (named, (made, is, says))) (inr (named_too, (again, too, says_too))) =
    says ∙ ap (joined set) (one_fetched origin key servers made again is too) ∙ sym says_too

pub one_step : (servers : List Files) (set : List Rock) (command : Command) (one other : Outcome) → IsStep servers set command one → IsStep servers set command other → one ≡ other
one_step servers set (Add key) one other first second = one_joining Unpacked servers set key one other first second
one_step servers set (Install key) one other first second = one_joining Sources servers set key one other first second
one_step servers set (Eval path) one other first second = one_answer set path (earliest_at path servers) one other first second
one_step servers set (Compare left right) one other first second = first ∙ sym second
one_step servers set (Lint key) one other first second = one_linting key set (earliest_at (spec_path Sources key) servers) one other first second

short_or_long : (text : List ℕ) → (LONGEST_TEXT < length text) ⊎ (length text ≤ LONGEST_TEXT)
short_or_long text =
    elim (ltb LONGEST_TEXT (length text)) as (λ b. ltb LONGEST_TEXT (length text) ≡ b → (LONGEST_TEXT < length text) ⊎ (length text ≤ LONGEST_TEXT)) [
      | true ↦ λ e. inl (grind (arith, nat_tests))
      | false ↦ λ e. inr (grind (arith, nat_tests))
    ] refl

some_answer : (set : List Rock) (path : List ℕ) (held : Option (List ℕ)) → (outcome : Outcome) × Evaluates set path held outcome
some_answer set path None = (refused set (NoFile path), refl)
some_answer set path (Some text) =
    let read = some_outcome text in
    ⊎_elim (λ long. (refused set too_long, inl (long, refl))) (λ short. (told set read.0, inr (short, (read.0, read.1, refl)))) (short_or_long text)

pub some_step : (servers : List Files) (set : List Rock) (command : Command) → ReadsNoRockspec command → (outcome : Outcome) × IsStep servers set command outcome
some_step servers set (Add key) other = absurd other
some_step servers set (Install key) other = absurd other
some_step servers set (Eval path) other = some_answer set path (earliest_at path servers)
some_step servers set (Compare left right) other = (compared set left right, refl)
some_step servers set (Lint key) other = absurd other
