-- What is replied to a Lua text.
use Rattle.std.specs.Prelude.{ℕ, ◌≡◌, List, Result}
use Rattle.lua_text.specs.Outcomes.{HasOutcome}
use Rattle.lua_text.specs.declared.fault.EvalFailed.{EvalFailed}
use Rattle.lua_value.specs.Pairs.{Pairs}
use Rattle.rock_record.specs.declared.rock.Rock.{Rock}
use Rattle.rocks_session.specs.Execute.{outcome_of}
use Rattle.rocks_session.specs.Step.{told}
use Rattle.rocks_reply.specs.declared.reply.Reply.{Reply}

-- the reply tells the only outcome of the text
pub record Tells (text : List ℕ) (reply : Reply) : Type 0 where
  pub read : Result Pairs EvalFailed
  pub outcome : HasOutcome text read
  pub only : (other : Result Pairs EvalFailed) → HasOutcome text other → other ≡ read
  pub told : (set : List Rock) → outcome_of set reply ≡ told set read
