use Rattle.lua_syntax.proofs.Chunked.{is_derived, is_only, is_fault, is_only_fault}
use Rattle.lua_syntax.proofs.statement.chunk.Goals as goal

pub returns-clause-ok : goal.returns-clause-ok
returns-clause-ok c = is_derived c.args.tokens.now c.whole.result (rw c.as_slice.ensures.tokens at c.whole.ensures.ok) (rw c.as_slice.ensures.tokens at c.whole.ensures.low)

pub returns-clause-only : goal.returns-clause-only
returns-clause-only c = is_only c.args.tokens.now c.whole.result (rw c.as_slice.ensures.tokens at c.whole.ensures.ok) (rw c.as_slice.ensures.tokens at c.whole.ensures.fails)

pub returns-clause-fault : goal.returns-clause-fault
returns-clause-fault c = is_fault c.args.tokens.now c.whole.result (rw c.as_slice.ensures.tokens at c.whole.ensures.fails)

pub returns-clause-only_fault : goal.returns-clause-only_fault
returns-clause-only_fault c = is_only_fault c.args.tokens.now c.whole.result (rw c.as_slice.ensures.tokens at c.whole.ensures.ok) (rw c.as_slice.ensures.tokens at c.whole.ensures.low) (rw c.as_slice.ensures.tokens at c.whole.ensures.fails)
