-- What the readers of expressions take, put together.
use Rattle.std.proofs.Common.{◌≡◌, ◌≢◌, ℕ, true, false, List, [], ◌∷◌, ◌++◌, refl, sym, ap, subst, ◌∙◌, append_assoc, length-append, arith}
use Rattle.lua_lexer.specs.declared.token.Token.{Token}
use Rattle.lua_lexer.specs.declared.token.TokenKind.TheVariants as kinds
use Rattle.lua_lexer.specs.declared.vocabulary.Symbol.{Symbol}
use Rattle.lua_lexer.specs.declared.vocabulary.Symbol.TheVariants as symbols
use Rattle.lua_names.specs.declared.keyword.Keyword.TheVariants as keywords
use Rattle.lua_lexer.specs.TokenLists.{EndsOnce}
use Rattle.lua_syntax.specs.declared.position.Ending.{Ending}
use Rattle.lua_syntax.specs.declared.position.Ending.TheVariants.{Whole, Prefix}
use Rattle.lua_syntax.specs.declared.tree.Expr.{Expr}
use Rattle.lua_syntax.specs.declared.tree.ExprKind.{ExprKind}
use Rattle.lua_syntax.specs.declared.tree.ExprKind.TheVariants as exprs
use Rattle.lua_syntax.specs.declared.tree.FieldKey.{FieldKey}
use Rattle.lua_syntax.specs.declared.tree.FieldKey.TheVariants as field_keys
use Rattle.lua_syntax.specs.declared.tree.Named.{Named}
use Rattle.lua_syntax.specs.Brackets.{open_after}
use Rattle.lua_syntax.specs.Grammar.{IsExp, IsSimple, nil, yes, no, int, text, table, prefix, IsPrefix, IsBase, name, parentheses, no_suffix, dotted, bracketed, IsTable, IsField, keyed, named, positional, IsName, node, place_of}
use Rattle.lua_syntax.specs.Fields.{HeadsNamedField, IsNamedKey}
use Rattle.lua_syntax.specs.Reading.{Heads, HeadsName, Takes, TakesPart, TakesKey, IsSuffix, IsBracketed, IsLiteral, IsTableFrom, ending_of, ending_by}
use Rattle.lua_syntax.proofs.Ends.{ending_of-append}
use Rattle.lua_syntax.proofs.Parts.{table_two, exp_some, place_of-append}
use Rattle.lua_syntax.proofs.Loops.{ending_behind}

abbrev Closed : Symbol → List Token → List Token → Type 0
Closed symbol tokens rest = (place : ℕ) × Heads symbol tokens place rest

-- ---- literals

pub literal_nil : (token : Token) → token.kind ≡ kinds.Keyword keywords.Nil → IsLiteral token exprs.Nil
literal_nil token is = record { is = nil token is; whole = ap ending_by is; goes_on = λ e. let f : kinds.Keyword keywords.Nil ≡ kinds.End = sym is ∙ e in cc; level = λ depth. ap (open_after depth) is }

pub literal_true : (token : Token) → token.kind ≡ kinds.Keyword keywords.True → IsLiteral token (exprs.Bool true)
literal_true token is = record { is = yes token is; whole = ap ending_by is; goes_on = λ e. let f : kinds.Keyword keywords.True ≡ kinds.End = sym is ∙ e in cc; level = λ depth. ap (open_after depth) is }

pub literal_false : (token : Token) → token.kind ≡ kinds.Keyword keywords.False → IsLiteral token (exprs.Bool false)
literal_false token is = record { is = no token is; whole = ap ending_by is; goes_on = λ e. let f : kinds.Keyword keywords.False ≡ kinds.End = sym is ∙ e in cc; level = λ depth. ap (open_after depth) is }

pub literal_int : (token : Token) (n : ℕ) → token.kind ≡ kinds.Int n → IsLiteral token (exprs.Int n)
literal_int token n is = record { is = int token n is; whole = ap ending_by is; goes_on = λ e. let f : kinds.Int n ≡ kinds.End = sym is ∙ e in cc; level = λ depth. ap (open_after depth) is }

pub literal_text : (token : Token) (bytes copied : List ℕ) → token.kind ≡ kinds.Text bytes → copied ≡ bytes → IsLiteral token (exprs.Text copied)
literal_text token bytes copied is same = subst (λ (b : List ℕ). IsLiteral token (exprs.Text b)) (sym same)
    (record { is = text token bytes is; whole = ap ending_by is; goes_on = λ e. let f : kinds.Text bytes ≡ kinds.End = sym is ∙ e in cc; level = λ depth. ap (open_after depth) is })

-- behind a token that isn't the end
behind_token : (token : Token) (rest : List Token) → token.kind ≢ kinds.End → EndsOnce (token ∷ rest) → EndsOnce rest
behind_token token [] goes_on ends = absurd (goes_on ends)
behind_token token (other ∷ others) goes_on ends = ends.1

name_goes_on : (token : Token) (bytes : List ℕ) → IsName token bytes → token.kind ≢ kinds.End
name_goes_on token bytes is e = let f : kinds.Name bytes ≡ kinds.End = sym is.0 ∙ e in cc

name_ends : (token : Token) (bytes : List ℕ) → IsName token bytes → ending_by token.kind ≡ Prefix
name_ends token bytes is = ap ending_by is.0

module _ (tokens : List Token) where
  pub base_name : (token : Token) (rest : List Token) (bytes copied : List ℕ) → EndsOnce tokens → tokens ≡ token ∷ rest → IsName token bytes → copied ≡ bytes
      → TakesPart IsBase tokens (node token.place (exprs.Name copied)) Prefix rest
  base_name token rest bytes copied ends cut is same = record {
    front = token ∷ [];
    cut = cut;
    is = subst (λ (b : List ℕ). IsBase (token ∷ []) (node token.place (exprs.Name b))) (sym same) (name token bytes is);
    ends_so = name_ends token bytes is;
    ends = behind_token token rest (name_goes_on token bytes is) (subst (λ (l : List Token). EndsOnce l) cut ends);
  }

  pub base_parentheses : (place : ℕ) (rest : List Token) (inner : Expr) (ending : Ending) (mid last : List Token)
      → Heads symbols.OpenParen tokens place rest → Takes IsExp rest inner ending mid → Closed symbols.CloseParen mid last → TakesPart IsBase tokens inner Prefix last
  base_parentheses place rest inner ending mid last h t closed =
      let k = closed.1 in
      record {
        front = h.token ∷ t.part.front ++ k.token ∷ [];
        cut = h.cut ∙ ap (λ (l : List Token). h.token ∷ l) (t.part.cut ∙ ap (λ (l : List Token). t.part.front ++ l) k.cut ∙ sym (append_assoc t.part.front (k.token ∷ []) last));
        is = parentheses h.token k.token h.is t.part.is k.is;
        ends_so = ending_of-append (h.token ∷ t.part.front) k.token [] ∙ ap ending_by k.is;
        ends = k.ends t.part.ends;
      }

  pub bracketed_part : (key : Expr) (ending : Ending) (mid last : List Token) → Takes IsExp tokens key ending mid → Closed symbols.CloseBracket mid last
      → TakesPart IsBracketed tokens key Prefix last
  bracketed_part key ending mid last t closed =
      let k = closed.1 in
      record {
        front = t.part.front ++ k.token ∷ [];
        cut = t.part.cut ∙ ap (λ (l : List Token). t.part.front ++ l) k.cut ∙ sym (append_assoc t.part.front (k.token ∷ []) last);
        is = record { inner = t.part.front; closing = k.token; cut = refl; is = t.part.is; closes = k.is };
        ends_so = ending_of-append t.part.front k.token [] ∙ ap ending_by k.is;
        ends = k.ends t.part.ends;
      }

  pub simple_literal : (token : Token) (rest : List Token) (kind : ExprKind) → EndsOnce tokens → tokens ≡ token ∷ rest → IsLiteral token kind → Takes IsSimple tokens (node token.place kind) Whole rest
  simple_literal token rest kind ends cut is = record {
    part = record { front = token ∷ []; cut = cut; is = is.is; ends_so = is.whole; ends = behind_token token rest is.goes_on (subst (λ (l : List Token). EndsOnce l) cut ends) };
    no_suffix = tt;
  }

  pub simple_table : (place : ℕ) (rest : List Token) (made : Expr) (last : List Token) → Heads symbols.OpenBrace tokens place rest → TakesPart (IsTableFrom place) rest made Whole last
      → Takes IsSimple tokens made Whole last
  simple_table place rest made last h t =
      let is : IsTable (h.token ∷ t.front) made = t.is h.token h.is (sym h.place_is) in
      record {
        part = record {
          front = h.token ∷ t.front;
          cut = h.cut ∙ ap (λ (l : List Token). h.token ∷ l) t.cut;
          is = table is;
          ends_so = ending_behind (h.token ∷ []) t.front Whole (omega (arith, table_two (h.token ∷ t.front) made is)) t.ends_so;
          ends = t.ends;
        };
        no_suffix = tt;
      }

  pub simple_prefix : (made : Expr) (rest : List Token) → Takes IsPrefix tokens made Prefix rest → Takes IsSimple tokens made Prefix rest
  simple_prefix made rest t = record {
    part = record { front = t.part.front; cut = t.part.cut; is = prefix t.part.is; ends_so = t.part.ends_so; ends = t.part.ends };
    no_suffix = t.no_suffix;
  }

  pub suffix_dotted : (place : ℕ) (rest : List Token) (found : Named) (last : List Token) → Heads symbols.Dot tokens place rest → HeadsName rest found last
      → TakesPart IsSuffix tokens (record { place = place; key = node found.place (exprs.Text found.name) }) Prefix last
  suffix_dotted place rest found last h n =
      let here = dotted h.token n.token found.name h.is n.is no_suffix in
      record {
        front = h.token ∷ n.token ∷ [];
        cut = h.cut ∙ ap (λ (l : List Token). h.token ∷ l) n.cut;
        is = subst (λ (p : ℕ). IsSuffix (h.token ∷ n.token ∷ []) (record { place = p; key = node found.place (exprs.Text found.name) })) (sym h.place_is)
            (subst (λ (q : ℕ). IsSuffix (h.token ∷ n.token ∷ []) (record { place = h.token.place; key = node q (exprs.Text found.name) })) (sym n.place_is) here);
        ends_so = name_ends n.token found.name n.is;
        ends = n.ends;
      }

  pub suffix_bracketed : (place : ℕ) (rest : List Token) (key : Expr) (last : List Token) → Heads symbols.OpenBracket tokens place rest → TakesPart IsBracketed rest key Prefix last
      → TakesPart IsSuffix tokens (record { place = place; key = key }) Prefix last
  suffix_bracketed place rest key last h t =
      let b = t.is in
      let made = bracketed h.token b.closing h.is b.is b.closes no_suffix in
      record {
        front = h.token ∷ t.front;
        cut = h.cut ∙ ap (λ (l : List Token). h.token ∷ l) t.cut;
        is = subst (λ (p : ℕ). IsSuffix (h.token ∷ t.front) (record { place = p; key = key })) (sym h.place_is)
            (subst (λ (l : List Token). IsSuffix (h.token ∷ l) (record { place = h.token.place; key = key })) (sym b.cut) made);
        ends_so = ap (λ (l : List Token). ending_of (h.token ∷ l)) b.cut ∙ ending_of-append (h.token ∷ b.inner) b.closing [] ∙ ap ending_by b.closes;
        ends = t.ends;
      }

  pub key_position : EndsOnce tokens → TakesKey tokens field_keys.Position tokens
  key_position ends = record { front = []; cut = refl; is = λ ts value is. positional is; ends = ends }

  pub key_named : (token : Token) (key : Expr) (last : List Token) → HeadsNamedField tokens token last → IsNamedKey token key
      → TakesKey tokens (field_keys.Given key) last
  key_named token key last h k = record {
    front = token ∷ h.assign ∷ [];
    cut = h.cut;
    is = λ ts value is. subst (λ (e : Expr). IsField (token ∷ h.assign ∷ ts) (record { place = token.place; key = field_keys.Given e; value = value })) (sym k.key_is)
        (named token h.assign k.bytes k.is h.assigns is);
    ends = h.ends;
  }

  pub key_bracketed : (place : ℕ) (rest : List Token) (key : Expr) (mid last : List Token) → Heads symbols.OpenBracket tokens place rest → TakesPart IsBracketed rest key Prefix mid
      → Closed symbols.Assign mid last → TakesKey tokens (field_keys.Given key) last
  key_bracketed place rest key mid last h t closed =
      let b = t.is in
      let k = closed.1 in
      record {
        front = h.token ∷ t.front ++ k.token ∷ [];
        cut = h.cut ∙ ap (λ (l : List Token). h.token ∷ l) (t.cut ∙ ap (λ (l : List Token). t.front ++ l) k.cut ∙ sym (append_assoc t.front (k.token ∷ []) last));
        is = λ ts value is.
            let whole : h.token ∷ b.inner ++ b.closing ∷ k.token ∷ ts ≡ (h.token ∷ t.front ++ k.token ∷ []) ++ ts =
            sym (ap (λ (l : List Token). (h.token ∷ l ++ k.token ∷ []) ++ ts) b.cut ∙ append_assoc (h.token ∷ b.inner ++ b.closing ∷ []) (k.token ∷ []) ts ∙ append_assoc (h.token ∷ b.inner) (b.closing ∷ []) (k.token ∷ ts)) in
            subst (λ (l : List Token). IsField l (record { place = place_of l; key = field_keys.Given key; value = value })) whole (keyed h.token b.closing k.token h.is b.is b.closes k.is is);
        ends = k.ends t.ends;
      }

  pub field_taken : (token : Token) (others : List Token) (key : FieldKey) (mid : List Token) (value : Expr) (ending : Ending) (rest : List Token) → tokens ≡ token ∷ others
      → TakesKey tokens key mid → Takes IsExp mid value ending rest → Takes IsField tokens (record { place = token.place; key = key; value = value }) ending rest
  field_taken token others key mid value ending rest head k t =
      let some = exp_some t.part.front value t.part.is in
      let front : List Token = k.front ++ t.part.front in
      let cut : tokens ≡ front ++ rest = k.cut ∙ ap (λ (l : List Token). k.front ++ l) t.part.cut ∙ sym (append_assoc k.front t.part.front rest) in
      let place : place_of front ≡ token.place = sym (place_of-append front rest (omega (arith, length-append k.front t.part.front))) ∙ ap place_of (sym cut ∙ head) in
      record {
        part = record {
          front = front;
          cut = cut;
          is = subst (λ (p : ℕ). IsField front (record { place = p; key = key; value = value })) place (k.is t.part.front value t.part.is);
          ends_so = ending_behind k.front t.part.front ending some t.part.ends_so;
          ends = t.part.ends;
        };
        no_suffix = t.no_suffix;
      }
