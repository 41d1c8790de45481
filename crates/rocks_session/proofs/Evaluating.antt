-- From what the parts of `eval` leave to what it leaves.
use Rattle.std.proofs.Common.{◌≡◌, ℕ, List, Option, None, Some, IfSome, sym, ap, ◌∙◌, ◌+◌, arith, inl, inr, ⊎_elim}
use Rattle.std.specs.Prelude.{Err, option_and_then}
use Rattle.std.specs.FinMap.{get}
use Rattle.lua_text.specs.declared.fault.EvalFailed.TheVariants.{Lex}
use Rattle.lua_lexer.specs.declared.fault.LexFault.TheVariants as lex
use Rattle.rocks_text.specs.Files.{Files}
use Rattle.rock_record.specs.declared.rock.Rock.{Rock}
use Rattle.rocks_session.specs.Execute.{IsModels, outcome_of}
use Rattle.rocks_reply.specs.Texts.{refusal_text}
use Rattle.rocks_session.specs.Step.{Outcome, refused, too_long}
use Rattle.served_rocks.specs.Search.{earliest_with, earliest_at, IsFoundIn}
use Rattle.rocks_session.specs.declared.eval.TheConstants.{LONGEST_TEXT}
use Rattle.rocks_reply.specs.declared.reply.Refusal.{Refusal}
use Rattle.rocks_reply.specs.declared.reply.Reply.{Reply}
use Rattle.served_rocks.specs.declared.search.Found.TheVariants.{TooLong}
use Rattle.rocks_command.specs.declared.command.Command.TheVariants.{Eval}

-- a reply that is a refusal
pub refuses : (set : List Rock) (refusal : Refusal) (reply : Reply) → reply.refusal ≡ Some refusal → reply.text ≡ refusal_text refusal → outcome_of set reply ≡ refused set refusal
refuses set refusal reply is says = λ i. record { set = set; refusal = is i; text = says i }

-- the bytes of the file that was found
pub bytes_at : (path : List ℕ) (servers : List Files) (files : Files) (held : Option (List ℕ)) → earliest_with path servers ≡ Some files → get files path ≡ held → earliest_at path servers ≡ held
bytes_at path servers files held first at = ap (option_and_then (λ (f : Files). get f path)) first ∙ at

module _ (path : List ℕ) (set : List Rock) where
  -- the model's only outcome, where the file is too long
  pub overlong : (holds : Option (List Files)) (outcome : Outcome) → outcome ≡ refused set too_long → IfSome holds (λ servers. IsFoundIn LONGEST_TEXT servers path TooLong) → IsModels (Eval path) set holds outcome
  overlong None outcome is found = record { told = tt; only = tt; own = inr (Err (Lex (lex.TooLong (LONGEST_TEXT + 1))), is) }
  overlong (Some servers) outcome is (files, text, first, at, long) =
      let e : earliest_at path servers ≡ Some text = bytes_at path servers files (Some text) first at in
      record {
        told = rw e (inl (long, is));
        only = λ other step. ⊎_elim (λ so. so.1 ∙ sym is) (λ so. absurd (omega (arith, so.0, long))) (rw e at step);
        own = inr (Err (Lex (lex.TooLong (LONGEST_TEXT + 1))), is);
      }
