-- What the readers of statements take.
use Rattle.std.proofs.Common.{◌≡◌, ℕ, ◌<◌, List, [], ◌∷◌, ◌++◌, length, Option, Some, None, refl, sym, ap, subst, ◌∙◌, append_assoc, length-append, arith}
use Rattle.std.proofs.lemmas.List.{append-nil}
use Rattle.lua_lexer.specs.declared.token.Token.{Token}
use Rattle.lua_lexer.specs.declared.token.TokenKind.TheVariants as kinds
use Rattle.lua_lexer.specs.declared.vocabulary.Symbol.TheVariants as symbols
use Rattle.lua_names.specs.declared.keyword.Keyword.TheVariants as keywords
use Rattle.lua_lexer.specs.TokenLists.{EndsOnce}
use Rattle.lua_syntax.specs.declared.position.Ending.{Ending}
use Rattle.lua_syntax.specs.declared.tree.Expr.{Expr}
use Rattle.lua_syntax.specs.declared.tree.Named.{Named}
use Rattle.lua_syntax.specs.declared.tree.Statement.{Statement}
use Rattle.lua_syntax.specs.declared.tree.Statement.TheVariants as statements
use Rattle.lua_syntax.specs.Grammar.{IsExp, IsName, IsNames, one_name, more_names, IsValues, one_value, more_values, IsStatement, semicolon, assignment, local_names, local_values, IsStatements, no_statement, statement}
use Rattle.lua_syntax.specs.Reading.{Heads, HeadsName, Takes, TakesSome, IsOneStatement, IsLocalFrom, IsMaybeStatement}
use Rattle.lua_syntax.specs.Chunks.{IsChunk}
use Rattle.lua_syntax.proofs.Ends.{behind_symbol}
use Rattle.lua_syntax.proofs.Parts.{exp_some}
use Rattle.lua_syntax.proofs.Loops.{cut_shorter, ending_behind}

abbrev pub NamesSo : List Token → List Named → List Token → Type 0
NamesSo tokens names rest = TakesSome IsNames tokens names rest

names_more : (a : List Token) (xs : List Named) (comma token : Token) (bytes : List ℕ) → IsNames a xs → comma.kind ≡ kinds.Symbol symbols.Comma → IsName token bytes
    → IsNames (a ++ comma ∷ token ∷ []) (xs ++ record { place = token.place; name = bytes } ∷ [])
names_more a xs comma token bytes (one_name first first_bytes is) is_comma is_name = more_names first comma first_bytes is is_comma (one_name token bytes is_name)
names_more a xs comma token bytes (more_names first between first_bytes {tokens} {others} is is_between then') is_comma is_name =
    more_names first between first_bytes is is_between (names_more tokens others comma token bytes then' is_comma is_name)

pub names_begin : (tokens : List Token) (found : Named) (rest : List Token) → HeadsName tokens found rest → NamesSo tokens (found ∷ []) rest
names_begin tokens found rest n = record {
  front = n.token ∷ [];
  cut = n.cut;
  is = subst (λ (p : ℕ). IsNames (n.token ∷ []) (record { place = p; name = found.name } ∷ [])) (sym n.place_is) (one_name n.token found.name n.is);
  ends = n.ends;
}

pub names_go_on : (tokens : List Token) (names : List Named) (rest : List Token) (place : ℕ) (after : List Token) (found : Named) (behind : List Token)
    → NamesSo tokens names rest → Heads symbols.Comma rest place after → HeadsName after found behind → NamesSo tokens (names ++ found ∷ []) behind
names_go_on tokens names rest place after found behind s h n = record {
  front = s.front ++ h.token ∷ n.token ∷ [];
  cut = s.cut ∙ ap (λ (l : List Token). s.front ++ l) (h.cut ∙ ap (λ (l : List Token). h.token ∷ l) n.cut) ∙ sym (append_assoc s.front (h.token ∷ n.token ∷ []) behind);
  is = subst (λ (p : ℕ). IsNames (s.front ++ h.token ∷ n.token ∷ []) (names ++ record { place = p; name = found.name } ∷ [])) (sym n.place_is)
      (names_more s.front names h.token n.token found.name s.is h.is n.is);
  ends = n.ends;
}

values_more : (a b : List Token) (xs : List Expr) (comma : Token) (value : Expr) → IsValues a xs → comma.kind ≡ kinds.Symbol symbols.Comma → IsExp b value
    → IsValues (a ++ comma ∷ b) (xs ++ value ∷ [])
values_more a b xs comma value (one_value is) is_comma last = more_values comma is is_comma (one_value last)
values_more a b xs comma value (more_values {tokens} {more} {value = first} between {others} is is_between then') is_comma last =
    subst (λ (l : List Token). IsValues l (first ∷ others ++ value ∷ [])) (sym (append_assoc tokens (between ∷ more) (comma ∷ b)))
    (more_values between is is_between (values_more more b others comma value then' is_comma last))

pub values_begin : (tokens : List Token) (value : Expr) (ending : Ending) (rest : List Token) → Takes IsExp tokens value ending rest → Takes IsValues tokens (value ∷ []) ending rest
values_begin tokens value ending rest t = record {
  part = record { front = t.part.front; cut = t.part.cut; is = one_value t.part.is; ends_so = t.part.ends_so; ends = t.part.ends };
  no_suffix = t.no_suffix;
}

pub values_go_on : (tokens : List Token) (values : List Expr) (ending : Ending) (rest : List Token) (place : ℕ) (after : List Token) (value : Expr) (ends : Ending) (behind : List Token)
    → Takes IsValues tokens values ending rest → Heads symbols.Comma rest place after → Takes IsExp after value ends behind → Takes IsValues tokens (values ++ value ∷ []) ends behind
values_go_on tokens values ending rest place after value ends behind s h t =
    let piece : List Token = h.token ∷ t.part.front in
    let some = exp_some t.part.front value t.part.is in
    record {
      part = record {
        front = s.part.front ++ piece;
        cut = s.part.cut ∙ ap (λ (l : List Token). s.part.front ++ l) (h.cut ∙ ap (λ (l : List Token). h.token ∷ l) t.part.cut) ∙ sym (append_assoc s.part.front piece behind);
        is = values_more s.part.front t.part.front values h.token value s.part.is h.is t.part.is;
        ends_so = ending_behind s.part.front piece ends (omega arith) (ending_behind (h.token ∷ []) t.part.front ends some t.part.ends_so);
        ends = t.part.ends;
      };
      no_suffix = t.no_suffix;
    }

pub comma_shorter : (rest : List Token) (place : ℕ) (after : List Token) (value : Expr) (ends : Ending) (behind : List Token)
    → Heads symbols.Comma rest place after → Takes IsExp after value ends behind → length behind < length rest
comma_shorter rest place after value ends behind h t =
    let l = ap length h.cut in omega (arith, cut_shorter after t.part.front behind t.part.cut (exp_some t.part.front value t.part.is))

pub assigned : (tokens : List Token) (names : List Named) (mid : List Token) (last : List Token) (values : List Expr) (ending : Ending) (rest : List Token)
    → TakesSome IsNames tokens names mid → ((place : ℕ) × Heads symbols.Assign mid place last) → Takes IsValues last values ending rest
    → TakesSome IsOneStatement tokens (statements.Assign names values) rest
assigned tokens names mid last values ending rest n closed v =
    let k = closed.1 in
    record {
      front = n.front ++ k.token ∷ v.part.front;
      cut = n.cut ∙ ap (λ (l : List Token). n.front ++ l) (k.cut ∙ ap (λ (l : List Token). k.token ∷ l) v.part.cut) ∙ sym (append_assoc n.front (k.token ∷ v.part.front) rest);
      is = assignment k.token n.is k.is v.part.is;
      ends = v.part.ends;
    }

pub local_assigned : (tokens : List Token) (names : List Named) (mid : List Token) (place : ℕ) (last : List Token) (values : List Expr) (ending : Ending) (rest : List Token)
    → TakesSome IsNames tokens names mid → Heads symbols.Assign mid place last → Takes IsValues last values ending rest
    → TakesSome IsLocalFrom tokens (statements.Local names values) rest
local_assigned tokens names mid place last values ending rest n k v = record {
  front = n.front ++ k.token ∷ v.part.front;
  cut = n.cut ∙ ap (λ (l : List Token). n.front ++ l) (k.cut ∙ ap (λ (l : List Token). k.token ∷ l) v.part.cut) ∙ sym (append_assoc n.front (k.token ∷ v.part.front) rest);
  is = λ token is. local_values token k.token is n.is k.is v.part.is;
  ends = v.part.ends;
}

pub local_named : (tokens : List Token) (names : List Named) (rest : List Token) → TakesSome IsNames tokens names rest → TakesSome IsLocalFrom tokens (statements.Local names []) rest
local_named tokens names rest n = record { front = n.front; cut = n.cut; is = λ token is. local_names token is n.is; ends = n.ends }

pub statement_semicolon : (tokens : List Token) (token : Token) (rest : List Token) → EndsOnce tokens → tokens ≡ token ∷ rest → token.kind ≡ kinds.Symbol symbols.Semicolon
    → TakesSome IsMaybeStatement tokens None rest
statement_semicolon tokens token rest ends cut is = record {
  front = token ∷ [];
  cut = cut;
  is = semicolon token is;
  ends = behind_symbol token rest symbols.Semicolon is (subst (λ (l : List Token). EndsOnce l) cut ends);
}

pub statement_local : (tokens : List Token) (token : Token) (behind : List Token) (made : Statement) (rest : List Token) → tokens ≡ token ∷ behind → token.kind ≡ kinds.Keyword keywords.Local
    → TakesSome IsLocalFrom behind made rest → TakesSome IsMaybeStatement tokens (Some made) rest
statement_local tokens token behind made rest cut is t = record {
  front = token ∷ t.front;
  cut = cut ∙ ap (λ (l : List Token). token ∷ l) t.cut;
  is = t.is token is;
  ends = t.ends;
}

pub statement_assigned : (tokens : List Token) (made : Statement) (rest : List Token) → TakesSome IsOneStatement tokens made rest → TakesSome IsMaybeStatement tokens (Some made) rest
statement_assigned tokens made rest t = record { front = t.front; cut = t.cut; is = t.is; ends = t.ends }

-- ---- statements in turn

pub statements_more : (a b : List Token) (xs ys : List Statement) → IsStatements a xs → IsStatement b ys → IsStatements (a ++ b) (xs ++ ys)
statements_more a b xs ys no_statement last =
    subst (λ (l : List Token). IsStatements l ys) (append-nil b) (subst (λ (ss : List Statement). IsStatements (b ++ []) ss) (append-nil ys) (statement last no_statement))
statements_more a b xs ys (statement {tokens} {more} {first} {others} is then') last =
    subst (λ (l : List Token). IsStatements l ((first ++ others) ++ ys)) (sym (append_assoc tokens more b))
    (subst (λ (ss : List Statement). IsStatements (tokens ++ (more ++ b)) ss) (sym (append_assoc first others ys)) (statement is (statements_more more b others ys then' last)))

abbrev pub StatementsSo : List Token → List Statement → List Token → Type 0
StatementsSo tokens statements rest = TakesSome IsStatements tokens statements rest

pub statements_go_on : (tokens : List Token) (statements more : List Statement) (rest behind : List Token) → StatementsSo tokens statements rest
    → TakesSome {V = Unit {0}} (λ l _. IsStatement l more) rest tt behind → StatementsSo tokens (statements ++ more) behind
statements_go_on tokens statements more rest behind s t = record {
  front = s.front ++ t.front;
  cut = s.cut ∙ ap (λ (l : List Token). s.front ++ l) t.cut ∙ sym (append_assoc s.front t.front behind);
  is = statements_more s.front t.front statements more s.is t.is;
  ends = t.ends;
}

nothing_behind : (token : Token) (rest : List Token) → token.kind ≡ kinds.End → EndsOnce (token ∷ rest) → rest ≡ []
nothing_behind token [] is ends = refl
nothing_behind token (other ∷ others) is ends = absurd (ends.0 is)

-- at the end the tokens are a chunk
pub chunk_done : (tokens : List Token) (statements : List Statement) (rest : List Token) (token : Token) (behind : List Token) → StatementsSo tokens statements rest → rest ≡ token ∷ behind → token.kind ≡ kinds.End
    → IsChunk tokens (record { statements = statements })
chunk_done tokens statements rest token behind s cut is = record {
  front = s.front;
  end_token = token;
  cut = s.cut ∙ ap (λ (l : List Token). s.front ++ l) (cut ∙ ap (λ (l : List Token). token ∷ l) (nothing_behind token behind is (subst (λ (l : List Token). EndsOnce l) cut s.ends)));
  ended = is;
  statements = s.is;
}

statement_some : (tokens : List Token) (made : List Statement) → IsStatement tokens made → 0 < length tokens
statement_some tokens made (semicolon token is) = omega arith
statement_some tokens made (assignment {before} {after} assign named assigns valued) = omega (arith, length-append before (assign ∷ after))
statement_some tokens made (local_names token is named) = omega arith
statement_some tokens made (local_values token assign is named assigns valued) = omega arith

pub statements_begin : (tokens : List Token) → EndsOnce tokens → StatementsSo tokens [] tokens
statements_begin tokens ends = record { front = []; cut = refl; is = no_statement; ends = ends }

pub none_goes_on : (tokens : List Token) (statements : List Statement) (rest behind : List Token) → StatementsSo tokens statements rest → TakesSome IsMaybeStatement rest None behind → StatementsSo tokens statements behind
none_goes_on tokens statements rest behind s t =
    subst (λ (ss : List Statement). StatementsSo tokens ss behind) (append-nil statements)
    (statements_go_on tokens statements [] rest behind s (record { front = t.front; cut = t.cut; is = t.is; ends = t.ends }))

pub some_goes_on : (tokens : List Token) (statements : List Statement) (made : Statement) (rest behind : List Token) → StatementsSo tokens statements rest → TakesSome IsMaybeStatement rest (Some made) behind
    → StatementsSo tokens (statements ++ made ∷ []) behind
some_goes_on tokens statements made rest behind s t =
    statements_go_on tokens statements (made ∷ []) rest behind s (record { front = t.front; cut = t.cut; is = t.is; ends = t.ends })

pub statement_shorter : (rest : List Token) (found : Option Statement) (behind : List Token) → TakesSome IsMaybeStatement rest found behind → length behind < length rest
statement_shorter rest None behind t = cut_shorter rest t.front behind t.cut (statement_some t.front [] t.is)
statement_shorter rest (Some made) behind t = cut_shorter rest t.front behind t.cut (statement_some t.front (made ∷ []) t.is)
