-- Every name that a statement assigns is that of a token, and so no keyword.
use Rattle.std.proofs.Common.{◌≡◌, inl, inr, ℕ, List, [], ◌∷◌, Ok, sym, subst}
use Rattle.std.specs.Prelude.{IsTrue}
use Rattle.std.specs.List.{AllByRecursion}
use Rattle.lua_names.specs.Names.{is_name}
use Rattle.lua_lexer.specs.declared.token.Token.{Token}
use Rattle.lua_lexer.specs.TokenLists.{FitsToken, IsInRange, IsTokenList}
use Rattle.lua_print.specs.Printed.{IsNameKey, HasNames}
use Rattle.lua_syntax.specs.declared.tree.LuaChunk.{LuaChunk}
use Rattle.lua_syntax.specs.declared.tree.Named.{Named}
use Rattle.lua_syntax.specs.declared.tree.Statement.{Statement}
use Rattle.lua_syntax.specs.declared.tree.Statement.TheVariants as statements
use Rattle.lua_syntax.specs.Chunks.{IsChunk}
use Rattle.lua_syntax.specs.Grammar.{IsName, IsNames, one_name, more_names, IsStatement, semicolon, assignment, local_names, local_values, IsStatements, no_statement, statement}
use Rattle.lua_value.specs.Pairs.{Pairs, no_pairs, with_pair}
use Rattle.lua_eval.specs.Laws.{EachKey, IsOneOf, IsAssigned}
use Rattle.lua_eval.specs.Values.{value_of}
use Rattle.lua_eval.proofs.Keyed.{globals-keyed}
use Rattle.lua_text.proofs.Fitting.{Fit, fit_front, fit_back, all_append}

-- ---- statements

-- the name of a token
token_name : (token : Token) (bytes : List ℕ) → IsName token bytes → FitsToken token → IsTrue (is_name bytes)
token_name token bytes is fits = subst IsInRange is.0 fits.1

-- each of these names is one and no keyword
abbrev AreNames : List Named → Type 0
AreNames names = (name : List ℕ) → IsOneOf names name → IsTrue (is_name name)

-- and so is one with others behind
names_more : (place : ℕ) (bytes : List ℕ) (others : List Named) → IsTrue (is_name bytes) → AreNames others → AreNames (record { place = place; name = bytes } ∷ others)
names_more place bytes others one all name (inl e) = subst (λ (l : List ℕ). IsTrue (is_name l)) e one
names_more place bytes others one all name (inr among) = all name among

tokens_names : (tokens : List Token) (names : List Named) → IsNames tokens names → Fit tokens → AreNames names
tokens_names tokens names (one_name token bytes is) fit =
    names_more token.place bytes [] (token_name token bytes is fit.0) (λ name among. absurd among)
tokens_names tokens names (more_names token comma bytes {tokens = behind} {others} is separates follow) fit =
    names_more token.place bytes others (token_name token bytes is fit.0) (tokens_names behind others follow fit.1.1)

-- what the statement assigns are names
abbrev AssignsNames : Statement → Type 0
AssignsNames (statements.Assign names values) = AreNames names
AssignsNames (statements.Local names values) = Unit {0}

statement_names : (tokens : List Token) (made : List Statement) → IsStatement tokens made → Fit tokens → AllByRecursion AssignsNames made
statement_names tokens made (semicolon token is) fit = tt
statement_names tokens made (assignment {before} {after} assign {names} are is valued) fit =
    (tokens_names before names are (fit_front before (assign ∷ after) fit), tt)
statement_names tokens made (local_names local is are) fit = (tt, tt)
statement_names tokens made (local_values local assign is are assigns valued) fit = (tt, tt)

statements_names : (tokens : List Token) (made : List Statement) → IsStatements tokens made → Fit tokens → AllByRecursion AssignsNames made
statements_names tokens made no_statement fit = tt
statements_names tokens made (statement {tokens = front} {more} {first} {others} is follow) fit =
    all_append AssignsNames first others
    (statement_names front first is (fit_front front more fit)) (statements_names more others follow (fit_back front more fit))

-- what one of the statements assigns is a name
assigned_name : (made : List Statement) → AllByRecursion AssignsNames made → (name : List ℕ) → IsAssigned made name → IsTrue (is_name name)
assigned_name [] all name among = absurd among
assigned_name (statements.Assign names values ∷ rest) all name (inl is) = all.0 name is
assigned_name (statements.Assign names values ∷ rest) all name (inr among) = assigned_name rest all.1 name among
assigned_name (statements.Local names values ∷ rest) all name among = assigned_name rest all.1 name among

-- ---- globals

-- keys of a kind that only names have
named_keys : (P : List ℕ → Type 0) → ((name : List ℕ) → P name → IsTrue (is_name name)) → (globals : Pairs) → EachKey P globals → HasNames globals
named_keys P names no_pairs each = tt
named_keys P names (with_pair key value rest) each =
    (subst IsNameKey (sym each.0.1) (names each.0.0 each.0.2), named_keys P names rest each.1)

-- each global of the chunk of a list of tokens has a name that is no keyword
pub globals_names : (tokens : List Token) (chunk : LuaChunk) (globals : Pairs) → IsTokenList tokens → IsChunk tokens chunk → value_of chunk ≡ Ok globals → HasNames globals
globals_names tokens chunk globals listed is e =
    let fit = fit_front is.front (is.end_token ∷ []) (subst Fit is.cut listed.fitting) in
    named_keys (IsAssigned chunk.statements)
    (assigned_name chunk.statements (statements_names is.front chunk.statements is.statements fit))
    globals (globals-keyed chunk globals e)
