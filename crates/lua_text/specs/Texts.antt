-- How faults are told (this project's own): the name of the fault, then its values, places, lengths and counts in
-- decimal, and what isn't served and kinds by name, with a blank between.
use Rattle.std.specs.Prelude.{ℕ, List, ◌++◌, codes}
use Rattle.std.specs.Fmt.{decimal}
use Rattle.lua_lexer.specs.declared.fault.LexFault.{LexFault}
use Rattle.lua_lexer.specs.declared.fault.LexFault.TheVariants as lex
use Rattle.lua_syntax.specs.declared.fault.SyntaxFault.{SyntaxFault}
use Rattle.lua_syntax.specs.declared.fault.SyntaxFault.TheVariants as syntax
use Rattle.lua_syntax.specs.declared.fault.Unserved.{Unserved}
use Rattle.lua_syntax.specs.declared.fault.Unserved.TheVariants as unserved
use Rattle.lua_eval.specs.declared.fault.EvalFault.{EvalFault}
use Rattle.lua_eval.specs.declared.fault.EvalFault.TheVariants as eval
use Rattle.lua_eval.specs.declared.fault.ValueKind.{ValueKind}
use Rattle.lua_eval.specs.declared.fault.ValueKind.TheVariants as kinds
use Rattle.lua_text.specs.declared.fault.EvalFailed.{EvalFailed}
use Rattle.lua_text.specs.declared.fault.EvalFailed.TheVariants.{Lex, Syntax, Eval}

-- a name and a number
abbrev pub numbered : (name : List ℕ) → ℕ → List ℕ
numbered name n = name ++ codes " " ++ decimal n

abbrev pub lex_text : LexFault → List ℕ
lex_text (lex.TooLong length) = numbered (codes "TooLong") length
lex_text (lex.BadByte place) = numbered (codes "BadByte") place
lex_text (lex.OpenString place) = numbered (codes "OpenString") place
lex_text (lex.OpenBracket place) = numbered (codes "OpenBracket") place
lex_text (lex.BadEscape place) = numbered (codes "BadEscape") place
lex_text (lex.BadNumeral place) = numbered (codes "BadNumeral") place
lex_text (lex.NumberTooLarge place) = numbered (codes "NumberTooLarge") place
lex_text lex.NoMemory = codes "NoMemory"

abbrev pub unserved_text : Unserved → List ℕ
unserved_text unserved.Control = codes "Control"
unserved_text unserved.Function = codes "Function"
unserved_text unserved.Call = codes "Call"
unserved_text unserved.Vararg = codes "Vararg"
unserved_text unserved.Operator = codes "Operator"
unserved_text unserved.FieldAssign = codes "FieldAssign"
unserved_text unserved.Attribute = codes "Attribute"
unserved_text unserved.Environment = codes "Environment"

abbrev pub syntax_text : SyntaxFault → List ℕ
syntax_text (syntax.Expected place) = numbered (codes "Expected") place
syntax_text (syntax.NotServed place which) = numbered (codes "NotServed") place ++ codes " " ++ unserved_text which
syntax_text (syntax.TooDeep place) = numbered (codes "TooDeep") place
syntax_text syntax.NoMemory = codes "NoMemory"

-- the name of a type (Lua 5.4 manual, section 2.1)
abbrev pub kind_text : ValueKind → List ℕ
kind_text kinds.Nil = codes "nil"
kind_text kinds.Bool = codes "boolean"
kind_text kinds.Int = codes "number"
kind_text kinds.Text = codes "string"
kind_text kinds.Table = codes "table"

abbrev pub eval_text : EvalFault → List ℕ
eval_text (eval.ConcatOf place kind) = numbered (codes "ConcatOf") place ++ codes " " ++ kind_text kind
eval_text (eval.IndexOf place kind) = numbered (codes "IndexOf") place ++ codes " " ++ kind_text kind
eval_text (eval.NilKey place) = numbered (codes "NilKey") place
eval_text (eval.TableKey place) = numbered (codes "TableKey") place
eval_text (eval.TwiceKey place) = numbered (codes "TwiceKey") place
eval_text (eval.TwiceName place) = numbered (codes "TwiceName") place
eval_text (eval.TooLarge place) = numbered (codes "TooLarge") place
eval_text eval.NoMemory = codes "NoMemory"

-- the inner fault alone
abbrev pub fault_text : EvalFailed → List ℕ
fault_text (Lex fault) = lex_text fault
fault_text (Syntax fault) = syntax_text fault
fault_text (Eval fault) = eval_text fault
