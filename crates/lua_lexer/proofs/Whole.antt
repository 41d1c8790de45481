-- What the reader of a whole text answers, and the laws.
use Rattle.std.proofs.Common.{◌≡◌, ℕ, ◌+◌, ◌<◌, ◌≤◌, List, [], ◌∷◌, ◌++◌, length, get_or, Result, Ok, Err, refl, sym, ap, subst, ◌∙◌, append_assoc, length-append, arith, inl, inr}
use Rattle.std.specs.Prelude.{◌⊎◌}
use Rattle.std.specs.List.{flat_map}
use Rattle.std.proofs.lemmas.List.{append-nil}
use Rattle.lua_lexer.specs.declared.fault.LexFault.{LexFault}
use Rattle.lua_lexer.specs.declared.fault.LexFault.TheVariants as faults
use Rattle.lua_lexer.specs.declared.stop.Stop.{Stop}
use Rattle.lua_lexer.specs.declared.stop.Stop.TheVariants as stops
use Rattle.lua_lexer.specs.declared.token.Token.{Token}
use Rattle.lua_lexer.specs.declared.token.TokenKind.{TokenKind}
use Rattle.lua_lexer.specs.declared.token.TokenKind.TheVariants as kinds
use Rattle.lua_lexer.specs.Turns.{InTurn}
use Rattle.lua_lexer.specs.TokenLists.{IsTokenList}
use Rattle.lua_lexer.specs.Spelling.{SpellsToken, Element, Gap, Spelled, element_bytes, FitsElement, tokens_from, Spells}
use Rattle.lua_lexer.specs.Faults.{HasFault}
use Rattle.lua_lexer.specs.Laws.{Rises, StandsAs, EachStands}
use Rattle.lua_lexer.specs.Reading.{Stops, fault_of, placed_faults, tokens_at, lex}
use Rattle.lua_lexer.proofs.Choices.{ok_is, err_is}
use Rattle.lua_lexer.proofs.Lexing.{lex_sound, lex_again, lex_fault, lex_fault_again, lex_short, fits_some}
use Rattle.lua_lexer.proofs.Ranges.{bytes_from, spells_list}

abbrev Lexed : Type 0
Lexed = Result (List Token) LexFault

abbrev wrong : LexFault → Lexed
wrong fault = Err fault

abbrev right : List Token → Lexed
right tokens = Ok tokens

-- ---- what is answered

pub lexed : (text : List ℕ) (tokens : List Token) → length text ≤ 8388608 → tokens_at text ≡ Ok tokens → lex text ≡ Ok tokens
lexed text tokens short e = lex_short text short ∙ ap (placed_faults text) e

pub list_lexed : (text : List ℕ) (tokens : List Token) → ((k : ℕ) → get_or text k 0 < 256) → length text ≤ 8388608 → tokens_at text ≡ Ok tokens → IsTokenList tokens
list_lexed text tokens bytes short e = spells_list text tokens (bytes_from text bytes) (lex_sound text tokens (lexed text tokens short e))

pub only_list : (text : List ℕ) (found tokens : List Token) → lex text ≡ Ok found → Spells text tokens → found ≡ tokens
only_list text found tokens e s = ok_is faults.NoMemory found tokens (sym e ∙ lex_again text tokens s)

pub never_fault : (text : List ℕ) (found : List Token) (fault : LexFault) → lex text ≡ Ok found → HasFault text fault → ⊥
never_fault text found fault e h = let g : right found ≡ wrong fault = sym e ∙ lex_fault_again text fault h in cc

-- the fault of a stop
stopped : (text : List ℕ) (stop : Stop) (fault : LexFault) → length text ≤ 8388608 → Stops stop (tokens_at text) → fault ≡ fault_of (length text) stop → (fault ≡ faults.NoMemory) ⊎ (lex text ≡ Err fault)
stopped text stops.NoMemory fault short e is = inl is
stopped text (stops.At cause left) fault short e is = inr (lex_short text short ∙ ap (placed_faults text) e ∙ ap (λ (f : LexFault). Err f) (sym is))

pub never_list : (text : List ℕ) (stop : Stop) (fault : LexFault) (tokens : List Token) → length text ≤ 8388608 → Stops stop (tokens_at text) → fault ≡ fault_of (length text) stop → Spells text tokens → fault ≡ faults.NoMemory
never_list text stop fault tokens short e is s = elim (stopped text stop fault short e is) [
  | inl p ↦ p
  | inr p ↦ absurd (let g : right tokens ≡ wrong fault = sym (lex_again text tokens s) ∙ p in cc)
]

pub has_its_fault : (text : List ℕ) (stop : Stop) (fault : LexFault) → length text ≤ 8388608 → Stops stop (tokens_at text) → fault ≡ fault_of (length text) stop → (fault ≡ faults.NoMemory) ⊎ HasFault text fault
has_its_fault text stop fault short e is = elim (stopped text stop fault short e is) [
  | inl p ↦ inl p
  | inr p ↦ inr (lex_fault text fault p)
]

pub only_its_fault : (text : List ℕ) (stop : Stop) (found fault : LexFault) → length text ≤ 8388608 → Stops stop (tokens_at text) → found ≡ fault_of (length text) stop → HasFault text fault → (found ≡ faults.NoMemory) ⊎ (found ≡ fault)
only_its_fault text stop found fault short e is h = elim (stopped text stop found short e is) [
  | inl p ↦ inl p
  | inr p ↦ inr (err_is [] found fault (sym p ∙ lex_fault_again text fault h))
]

-- ---- laws

pub one_list : (text : List ℕ) (some others : List Token) → Spells text some → Spells text others → some ≡ others
one_list text some others s t = only_list text some others (lex_again text some s) t

pub either : (text : List ℕ) → ((tokens : List Token) × Spells text tokens) ⊎ ((fault : LexFault) × HasFault text fault)
either text = by_answer (lex text) refl
  where
    by_answer : (r : Lexed) → lex text ≡ r → ((tokens : List Token) × Spells text tokens) ⊎ ((fault : LexFault) × HasFault text fault)
    by_answer (Ok tokens) e = inl (tokens, lex_sound text tokens e)
    by_answer (Err fault) e = inr (fault, lex_fault text fault e)

pub not_both : (text : List ℕ) (tokens : List Token) (fault : LexFault) → Spells text tokens → HasFault text fault → ⊥
not_both text tokens fault s h = never_fault text tokens fault (lex_again text tokens s) h

pub one_fault : (text : List ℕ) (fault other : LexFault) → HasFault text fault → HasFault text other → fault ≡ other
one_fault text fault other h g = err_is [] fault other (sym (lex_fault_again text fault h) ∙ lex_fault_again text other g)

abbrev StartsAt : ℕ → List Token → Type 0
StartsAt place [] = Unit {0}
StartsAt place (t ∷ ts) = place ≤ t.place

rises_more : (t : Token) (ts : List Token) (next : ℕ) → t.place < next → StartsAt next ts → Rises ts → Rises (t ∷ ts)
rises_more t [] next lt starts rises = tt
rises_more t (u ∷ ts) next lt starts rises = (omega arith, rises)

starts_later : (first next : ℕ) (ts : List Token) → first ≤ next → StartsAt next ts → StartsAt first ts
starts_later first next [] le starts = tt
starts_later first next (t ∷ ts) le starts = omega arith

rises_from : (place : ℕ) (elements : List Element) (after : List ℕ) → InTurn element_bytes FitsElement elements after → Rises (tokens_from place elements) × StartsAt place (tokens_from place elements)
rises_from place [] after turn = (tt, omega arith)
rises_from place (Gap bytes ∷ elements) after turn =
    let more = rises_from (place + length bytes) elements after turn.1 in
    (more.0, starts_later place (place + length bytes) (tokens_from (place + length bytes) elements) (omega arith) more.1)
rises_from place (Spelled kind bytes ∷ elements) after turn =
    let more = rises_from (place + length bytes) elements after turn.1 in
    let some = fits_some (Spelled kind bytes) (flat_map element_bytes elements ++ after) turn.0 in
    (rises_more (record { place = place; kind = kind }) (tokens_from (place + length bytes) elements) (place + length bytes) (omega arith) more.1 more.0, omega arith)

pub rise : (text : List ℕ) (tokens : List Token) → Spells text tokens → Rises tokens
rise text tokens s = subst (λ (ts : List Token). Rises ts) (sym s.in_place) (rises_from 0 s.elements [] s.in_turn).0

stands_as : (kind : TokenKind) (bytes after : List ℕ) → SpellsToken kind bytes after → StandsAs kind bytes after
stands_as (kinds.Name n) bytes after s = s
stands_as (kinds.Keyword k) bytes after s = s
stands_as (kinds.Symbol y) bytes after s = s
stands_as (kinds.Text t) bytes after s = s
stands_as (kinds.Int n) bytes after s = s
stands_as kinds.End bytes after s = absurd s

each_stands : (text front : List ℕ) (elements : List Element) → InTurn element_bytes FitsElement elements [] → text ≡ front ++ flat_map element_bytes elements → EachStands text (tokens_from (length front) elements)
each_stands text front [] turn cut = ((front, [], [], cut, refl, (refl, refl)), tt)
each_stands text front (Gap bytes ∷ elements) turn cut =
    let regrouped : text ≡ (front ++ bytes) ++ flat_map element_bytes elements = cut ∙ sym (append_assoc front bytes (flat_map element_bytes elements)) in
    subst (λ (n : ℕ). EachStands text (tokens_from n elements)) (length-append front bytes) (each_stands text (front ++ bytes) elements turn.1 regrouped)
each_stands text front (Spelled kind bytes ∷ elements) turn cut =
    let regrouped : text ≡ (front ++ bytes) ++ flat_map element_bytes elements = cut ∙ sym (append_assoc front bytes (flat_map element_bytes elements)) in
    let here = stands_as kind bytes (flat_map element_bytes elements) (subst (λ (l : List ℕ). SpellsToken kind bytes l) (append-nil (flat_map element_bytes elements)) turn.0.0) in
    ((front, bytes, flat_map element_bytes elements, cut, refl, here), subst (λ (n : ℕ). EachStands text (tokens_from n elements)) (length-append front bytes) (each_stands text (front ++ bytes) elements turn.1 regrouped))

pub stand : (text : List ℕ) (tokens : List Token) → Spells text tokens → EachStands text tokens
stand text tokens s = subst (λ (ts : List Token). EachStands text ts) (sym s.in_place) (each_stands text [] s.elements s.in_turn s.spelled)
