-- What a Lua text comes to (Lua 5.4 manual, section 3, as far as served).
use Rattle.std.specs.Prelude.{◌≡◌, ◌≢◌, ℕ, List, Result, Ok, Err}
use Rattle.lua_lexer.specs.declared.fault.LexFault.{LexFault}
use Rattle.lua_lexer.specs.declared.fault.LexFault.TheVariants as lex
use Rattle.lua_lexer.specs.declared.token.Token.{Token}
use Rattle.lua_lexer.specs.Faults.{HasFault as HasLexFault}
use Rattle.lua_lexer.specs.Spelling.{Spells}
use Rattle.lua_syntax.specs.declared.fault.SyntaxFault.{SyntaxFault}
use Rattle.lua_syntax.specs.declared.fault.SyntaxFault.TheVariants as syntax
use Rattle.lua_syntax.specs.declared.tree.LuaChunk.{LuaChunk}
use Rattle.lua_syntax.specs.Chunks.{Derives}
use Rattle.lua_syntax.specs.Faults.{HasFault as HasSyntaxFault}
use Rattle.lua_value.specs.Pairs.{Pairs}
use Rattle.lua_eval.specs.declared.fault.EvalFault.{EvalFault}
use Rattle.lua_eval.specs.declared.fault.EvalFault.TheVariants as eval
use Rattle.lua_eval.specs.Values.{value_of}
use Rattle.lua_text.specs.declared.fault.EvalFailed.{EvalFailed}
use Rattle.lua_text.specs.declared.fault.EvalFailed.TheVariants.{Lex, Syntax, Eval}

-- the globals of the chunk that its tokens derive, or the first fault: of its bytes, of its tokens or of its chunk
pub data HasOutcome (text : List ℕ) : Result Pairs EvalFailed → Type 0 where
  evaluated : (tokens : List Token) (chunk : LuaChunk) (globals : Pairs)
      → Spells text tokens → Derives tokens chunk → value_of chunk ≡ Ok globals → HasOutcome text (Ok globals)
  faulty : (tokens : List Token) (chunk : LuaChunk) (fault : EvalFault)
      → Spells text tokens → Derives tokens chunk → value_of chunk ≡ Err fault → HasOutcome text (Err (Eval fault))
  underived : (tokens : List Token) (fault : SyntaxFault)
      → Spells text tokens → HasSyntaxFault tokens fault → HasOutcome text (Err (Syntax fault))
  unspelled : (fault : LexFault) → HasLexFault text fault → HasOutcome text (Err (Lex fault))

-- the fault is the text's, and no want of memory
abbrev pub IsOfText : EvalFailed → Type 0
IsOfText (Lex fault) = fault ≢ lex.NoMemory
IsOfText (Syntax fault) = fault ≢ syntax.NoMemory
IsOfText (Eval fault) = fault ≢ eval.NoMemory
