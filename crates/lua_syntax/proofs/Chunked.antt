-- What the reading of a whole list says of its chunk or its fault.
use Rattle.std.proofs.Common.{◌≡◌, ◌⊎◌, inl, inr, List, [], Ok, Err}
use Rattle.std.specs.Prelude.{Result, IfOk, IfErr, MatchResult}
use Rattle.lua_lexer.specs.declared.token.Token.{Token}
use Rattle.lua_syntax.specs.declared.fault.SyntaxFault.{SyntaxFault}
use Rattle.lua_syntax.specs.declared.fault.SyntaxFault.TheVariants as faults
use Rattle.lua_syntax.specs.declared.tree.LuaChunk.{LuaChunk}
use Rattle.lua_syntax.specs.Brackets.{IsLow}
use Rattle.lua_syntax.specs.Chunks.{IsChunk, Derives}
use Rattle.lua_syntax.specs.Failing.{IsFailure}
use Rattle.lua_syntax.specs.Faults.{HasFault}
use Rattle.lua_syntax.specs.States.{statement_start}
use Rattle.lua_syntax.proofs.Faulty.{failure_is_fault, one_fault, not_both}
use Rattle.lua_syntax.proofs.Levels.{low_shallow}
use Rattle.lua_syntax.proofs.TakenChunks.{one_tree}

module _ (tokens : List Token) where
  pub is_derived : (r : Result LuaChunk SyntaxFault) → IfOk r (λ found. IsChunk tokens found) → IfOk r (λ found. IsLow 0 tokens) → IfOk r (λ found. Derives tokens found)
  is_derived (Ok found) is low = (is, low_shallow tokens low)
  is_derived (Err fault) is low = tt

  by_failure : (fault : SyntaxFault) → IsFailure 0 (statement_start []) tokens fault → (fault ≡ faults.NoMemory) ⊎ HasFault tokens fault
  by_failure fault (inl out) = inl out
  by_failure fault (inr f) = inr (failure_is_fault tokens fault f)

  pub is_fault : (r : Result LuaChunk SyntaxFault) → IfErr r (λ fault. IsFailure 0 (statement_start []) tokens fault) → IfErr r (λ fault. (fault ≡ faults.NoMemory) ⊎ HasFault tokens fault)
  is_fault (Ok found) f = tt
  is_fault (Err fault) f = by_failure fault f

  only_memory : (fault : SyntaxFault) (chunk : LuaChunk) → Derives tokens chunk → (fault ≡ faults.NoMemory) ⊎ HasFault tokens fault → fault ≡ faults.NoMemory
  only_memory fault chunk derives (inl out) = out
  only_memory fault chunk derives (inr has) = absurd (not_both tokens chunk fault derives has)

  pub is_only : (r : Result LuaChunk SyntaxFault) → IfOk r (λ found. IsChunk tokens found) → IfErr r (λ fault. IsFailure 0 (statement_start []) tokens fault)
      → (chunk : LuaChunk) → Derives tokens chunk → MatchResult r (λ found. found ≡ chunk) (λ fault. fault ≡ faults.NoMemory)
  is_only (Ok found) is f chunk derives = one_tree tokens found chunk is derives.0
  is_only (Err fault) is f chunk derives = only_memory fault chunk derives (by_failure fault f)

  same_fault : (found fault : SyntaxFault) → HasFault tokens fault → (found ≡ faults.NoMemory) ⊎ HasFault tokens found → (found ≡ faults.NoMemory) ⊎ (found ≡ fault)
  same_fault found fault has (inl out) = inl out
  same_fault found fault has (inr found_has) = inr (one_fault tokens found fault found_has has)

  pub is_only_fault : (r : Result LuaChunk SyntaxFault) → IfOk r (λ found. IsChunk tokens found) → IfOk r (λ found. IsLow 0 tokens) → IfErr r (λ fault. IsFailure 0 (statement_start []) tokens fault)
      → (fault : SyntaxFault) → HasFault tokens fault → MatchResult r (λ found. ⊥) (λ found. (found ≡ faults.NoMemory) ⊎ (found ≡ fault))
  is_only_fault (Ok found) is low f fault has = not_both tokens found fault (is, low_shallow tokens low) has
  is_only_fault (Err found) is low f fault has = same_fault found fault has (by_failure found f)
