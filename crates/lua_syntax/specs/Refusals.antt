-- The fault of a token that fits at none of the places at which it stands.
use Rattle.std.specs.Prelude.{List, [], ◌∷◌, Option, Some, None}
use Rattle.lua_lexer.specs.declared.token.Token.{Token}
use Rattle.lua_syntax.specs.declared.fault.SyntaxFault.{SyntaxFault}
use Rattle.lua_syntax.specs.declared.fault.SyntaxFault.TheVariants.{Expected, NotServed}
use Rattle.lua_syntax.specs.declared.fault.Unserved.{Unserved}
use Rattle.lua_syntax.specs.declared.position.Ending.{Ending}
use Rattle.lua_syntax.specs.declared.position.Ending.TheVariants.{Whole, Prefix}
use Rattle.lua_syntax.specs.declared.position.Position.{Position}
use Rattle.lua_syntax.specs.declared.position.Position.TheVariants.{BehindExpression, BehindPrefix}
use Rattle.lua_syntax.specs.Faults.{unserved_at}

abbrev pub positions_behind : Ending → List Position
positions_behind Whole = BehindExpression ∷ []
positions_behind Prefix = BehindExpression ∷ BehindPrefix ∷ []

abbrev pub refusal_by : Option Unserved → Token → SyntaxFault → SyntaxFault
refusal_by (Some which) token other = NotServed token.place which
refusal_by None token other = other

-- by the first of the positions that the table has a row for
abbrev pub refusal : List Position → Token → SyntaxFault
refusal [] token = Expected token.place
refusal (position ∷ positions) token = refusal_by (unserved_at position token.kind) token (refusal positions token)
