-- The parts of the grammar: none is empty, and operands, suffixes and fields may be added at the end.
use Rattle.std.proofs.Common.{◌≡◌, ℕ, ◌<◌, List, [], ◌∷◌, ◌++◌, length, refl, sym, subst, append_assoc, length-append, arith}
use Rattle.lua_lexer.specs.declared.token.Token.{Token}
use Rattle.lua_syntax.specs.declared.tree.Expr.{Expr}
use Rattle.lua_syntax.specs.declared.tree.Field.{Field}
use Rattle.lua_syntax.specs.declared.tree.Suffix.{Suffix}
use Rattle.lua_syntax.specs.Grammar.{IsExp, exp, IsJoined, no_operand, operand, IsSimple, nil, yes, no, int, text, table, prefix, IsPrefix, based, IsBase, name, parentheses, IsSuffixes, no_suffix, dotted, bracketed, IsTable, empty, filled, IsField, keyed, named, positional, place_of}

pub base_some : (tokens : List Token) (made : Expr) → IsBase tokens made → 0 < length tokens
base_some tokens made (name token bytes is) = omega arith
base_some tokens made (parentheses opening closing opens inside closes) = omega arith

table_some : (tokens : List Token) (made : Expr) → IsTable tokens made → 0 < length tokens
table_some tokens made (empty opening closing opens closes) = omega arith
table_some tokens made (filled opening closing opens inside closes) = omega arith

pub table_two : (tokens : List Token) (made : Expr) → IsTable tokens made → 1 < length tokens
table_two tokens made (empty opening closing opens closes) = omega arith
table_two tokens made (filled opening closing {inner} opens inside closes) = omega (arith, length-append inner (closing ∷ []))

front_some : (front more : List Token) → 0 < length front → 0 < length (front ++ more)
front_some front more some = omega (arith, length-append front more)

prefix_some : (tokens : List Token) (made : Expr) → IsPrefix tokens made → 0 < length tokens
prefix_some tokens made (based {first} {more} {base} {suffixes} is then') = front_some first more (base_some first base is)

pub simple_some : (tokens : List Token) (made : Expr) → IsSimple tokens made → 0 < length tokens
simple_some tokens made (nil token is) = omega arith
simple_some tokens made (yes token is) = omega arith
simple_some tokens made (no token is) = omega arith
simple_some tokens made (int token n is) = omega arith
simple_some tokens made (text token bytes is) = omega arith
simple_some tokens made (table is) = table_some tokens made is
simple_some tokens made (prefix is) = prefix_some tokens made is

pub exp_some : (tokens : List Token) (made : Expr) → IsExp tokens made → 0 < length tokens
exp_some tokens made (exp {first} {more} {operand} is then') = front_some first more (simple_some first operand is)

pub joined_more : (a b : List Token) (xs ys : List Expr) (ps qs : List ℕ) → IsJoined a xs ps → IsJoined b ys qs → IsJoined (a ++ b) (xs ++ ys) (ps ++ qs)
joined_more a b xs ys ps qs no_operand j = j
joined_more a b xs ys ps qs (operand dots {first} {more} {next} {others} {operators} is simple then') j =
    subst (λ (l : List Token). IsJoined l (next ∷ others ++ ys) (dots.place ∷ operators ++ qs)) (sym (append_assoc (dots ∷ first) more b))
    (operand dots is simple (joined_more more b others ys operators qs then' j))

pub suffixes_more : (a b : List Token) (xs ys : List Suffix) → IsSuffixes a xs → IsSuffixes b ys → IsSuffixes (a ++ b) (xs ++ ys)
suffixes_more a b xs ys no_suffix j = j
suffixes_more a b xs ys (dotted dot token bytes {more} {suffixes} is is_name then') j = dotted dot token bytes is is_name (suffixes_more more b suffixes ys then' j)
suffixes_more a b xs ys (bracketed opening closing {inner} {more} {key} {suffixes} opens inside closes then') j =
    subst (λ (l : List Token). IsSuffixes l (record { place = opening.place; key = key } ∷ suffixes ++ ys)) (sym (append_assoc (opening ∷ inner) (closing ∷ more) b))
    (bracketed opening closing opens inside closes (suffixes_more more b suffixes ys then' j))

pub place_of-append : (front more : List Token) → 0 < length front → place_of (front ++ more) ≡ place_of front
place_of-append [] more some = absurd (omega arith)
place_of-append (token ∷ tokens) more some = refl

pub field_some : (tokens : List Token) (made : Field) → IsField tokens made → 0 < length tokens
field_some tokens made (keyed opening closing assign opens key closes assigns is) = omega arith
field_some tokens made (named token assign bytes is assigns value) = omega arith
field_some tokens made (positional {value} is) = exp_some tokens value is
