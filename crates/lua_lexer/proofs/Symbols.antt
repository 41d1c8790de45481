-- Symbols: those that the reader gives stand there, and none that stands there is longer.
use Rattle.std.proofs.Common.{◌≡◌, ℕ, ◌+◌, ◌≤◌, Bool, true, false, cond, ◌&&◌, List, [], ◌∷◌, ◌++◌, length, Option, Some, None, refl, sym, ap, ◌∙◌, arith, inl, inr}
use Rattle.std.specs.Prelude.{IsSome, ◌⊎◌, ◌==◌}
use Rattle.std.proofs.lemmas.Bool.{eqb-true}
use Rattle.std.specs.List.{AllByRecursion}
use Rattle.lua_lexer.specs.declared.vocabulary.Symbol.{Symbol}
use Rattle.lua_lexer.specs.declared.vocabulary.Symbol.TheVariants.{Plus, Minus, Star, Slash, Percent, Caret, Hash, Amp, Tilde, Bar, ShiftLeft, ShiftRight, DoubleSlash, Equal, NotEqual, LessEqual, GreaterEqual, Less, Greater, Assign, OpenParen, CloseParen, OpenBrace, CloseBrace, OpenBracket, CloseBracket, DoubleColon, Semicolon, Colon, Comma, Dot, Concat, Dots}
use Rattle.lua_lexer.specs.Vocabulary.{symbol_bytes}
use Rattle.lua_lexer.specs.Reading.{first_of, with_rest, pair_of, symbol_among, singles, single_of, single_at, pair_at, dots_at, symbol_at}
use Rattle.lua_lexer.proofs.Choices.{chosen, some_is, and_cases}

-- ---- what is given stands there

abbrev IsSingle : ℕ × Symbol → Type 0
IsSingle entry = symbol_bytes entry.1 ≡ entry.0 ∷ []

among_sound : (entries : List (ℕ × Symbol)) → AllByRecursion IsSingle entries → (b : ℕ) (y : Symbol) → symbol_among entries b ≡ Some y → symbol_bytes y ≡ b ∷ []
among_sound [] all b y e = absurd cc
among_sound (entry ∷ entries) all b y e = elim (chosen (b == entry.0) (Some entry.1) (symbol_among entries b) (Some y) e) [
  | inl p ↦ ap symbol_bytes (sym (some_is entry.1 y p.1)) ∙ all.0 ∙ ap (λ (c : ℕ). c ∷ []) (sym (eqb-true b entry.0 p.0))
  | inr p ↦ among_sound entries all.1 b y p.1
]

singles_are : AllByRecursion IsSingle singles
singles_are = (refl, (refl, (refl, (refl, (refl, (refl, (refl, (refl, (refl, (refl, (refl, (refl, (refl, (refl, (refl, (refl, (refl, (refl, (refl, (refl, (refl, (refl, (refl, tt)))))))))))))))))))))))

pub single_sound : (b : ℕ) (y : Symbol) → single_of b ≡ Some y → symbol_bytes y ≡ b ∷ []
unfolding single_of
single_sound b y e = among_sound singles singles_are b y e

-- one of the second bytes
second : (a b k : ℕ) (s y : Symbol) (t : Bool) → (b == k) ≡ t → cond t (Some s) None ≡ Some y → symbol_bytes s ≡ a ∷ k ∷ [] → symbol_bytes y ≡ a ∷ b ∷ []
second a b k s y true e e' is = ap symbol_bytes (sym (some_is s y e')) ∙ is ∙ ap (λ (c : ℕ). a ∷ c ∷ []) (sym (eqb-true b k e))
second a b k s y false e e' is = absurd cc

seconds : (a b k l : ℕ) (s r y : Symbol) (t u : Bool) → (b == k) ≡ t → (b == l) ≡ u → cond t (Some s) (cond u (Some r) None) ≡ Some y → symbol_bytes s ≡ a ∷ k ∷ [] → symbol_bytes r ≡ a ∷ l ∷ [] → symbol_bytes y ≡ a ∷ b ∷ []
seconds a b k l s r y true u e f e' is ir = ap symbol_bytes (sym (some_is s y e')) ∙ is ∙ ap (λ (c : ℕ). a ∷ c ∷ []) (sym (eqb-true b k e))
seconds a b k l s r y false u e f e' is ir = second a b l r y u f e' ir

-- at the first byte k, the second byte decides
at_first : (a k b : ℕ) (y : Symbol) (t : Bool) (here there : Option Symbol) → (a == k) ≡ t → cond t here there ≡ Some y
    → (here ≡ Some y → symbol_bytes y ≡ k ∷ b ∷ []) → (there ≡ Some y → symbol_bytes y ≡ a ∷ b ∷ []) → symbol_bytes y ≡ a ∷ b ∷ []
at_first a k b y true here there e e' p q = p e' ∙ ap (λ (c : ℕ). c ∷ b ∷ []) (sym (eqb-true a k e))
at_first a k b y false here there e e' p q = q e'

pair_sound : (a b : ℕ) (y : Symbol) → pair_of a b ≡ Some y → symbol_bytes y ≡ a ∷ b ∷ []
unfolding pair_of
pair_sound a b y e =
    at_first a 60 b y (a == 60) _ _ refl e (λ h. seconds 60 b 60 61 ShiftLeft LessEqual y (b == 60) (b == 61) refl refl h refl refl) (λ e1.
    at_first a 62 b y (a == 62) _ _ refl e1 (λ h. seconds 62 b 62 61 ShiftRight GreaterEqual y (b == 62) (b == 61) refl refl h refl refl) (λ e2.
    at_first a 47 b y (a == 47) _ _ refl e2 (λ h. second 47 b 47 DoubleSlash y (b == 47) refl h refl) (λ e3.
    at_first a 61 b y (a == 61) _ _ refl e3 (λ h. second 61 b 61 Equal y (b == 61) refl h refl) (λ e4.
    at_first a 126 b y (a == 126) _ _ refl e4 (λ h. second 126 b 61 NotEqual y (b == 61) refl h refl) (λ e5.
    at_first a 58 b y (a == 58) _ _ refl e5 (λ h. second 58 b 58 DoubleColon y (b == 58) refl h refl) (λ e6.
    at_first a 46 b y (a == 46) _ _ refl e6 (λ h. second 46 b 46 Concat y (b == 46) refl h refl) (λ e7. absurd cc)))))))

abbrev Given : Type 0
Given = Symbol × List ℕ

rest_sound : (o : Option Symbol) (rest : List ℕ) (x : Given) → with_rest o rest ≡ Some x → (o ≡ Some x.0) × (rest ≡ x.1)
rest_sound None rest x e = absurd cc
rest_sound (Some y) rest x e = let both = some_is (y, rest) x e in (ap (λ (z : Given). Some z.0) both, ap (λ (z : Given). z.1) both)

single_at_sound : (bytes : List ℕ) (x : Given) → single_at bytes ≡ Some x → bytes ≡ symbol_bytes x.0 ++ x.1
single_at_sound [] x e = absurd cc
single_at_sound (a ∷ rest) x e = let p = rest_sound (single_of a) rest x e in
    ap (λ (l : List ℕ). a ∷ l) p.1 ∙ ap (λ (l : List ℕ). l ++ x.1) (sym (single_sound a x.0 p.0))

pair_at_sound : (bytes : List ℕ) (x : Given) → pair_at bytes ≡ Some x → bytes ≡ symbol_bytes x.0 ++ x.1
pair_at_sound [] x e = absurd cc
pair_at_sound (a ∷ []) x e = absurd cc
pair_at_sound (a ∷ b ∷ rest) x e = let p = rest_sound (pair_of a b) rest x e in
    ap (λ (l : List ℕ). a ∷ b ∷ l) p.1 ∙ ap (λ (l : List ℕ). l ++ x.1) (sym (pair_sound a b x.0 p.0))

dots_at_sound : (bytes : List ℕ) (x : Given) → dots_at bytes ≡ Some x → bytes ≡ symbol_bytes x.0 ++ x.1
dots_at_sound [] x e = absurd cc
dots_at_sound (a ∷ []) x e = absurd cc
dots_at_sound (a ∷ b ∷ []) x e = absurd cc
dots_at_sound (a ∷ b ∷ c ∷ rest) x e = elim (chosen ((a == 46 && b == 46) && c == 46) (Some (Dots, rest)) None (Some x) e) [
  | inl p ↦
      let outer = and_cases (a == 46 && b == 46) (c == 46) p.0 in
      let inner = and_cases (a == 46) (b == 46) outer.0 in
      let both = some_is (Dots, rest) x p.1 in
      ap (λ (n : ℕ). n ∷ b ∷ c ∷ rest) (eqb-true a 46 inner.0) ∙ ap (λ (n : ℕ). 46 ∷ n ∷ c ∷ rest) (eqb-true b 46 inner.1) ∙ ap (λ (n : ℕ). 46 ∷ 46 ∷ n ∷ rest) (eqb-true c 46 outer.1)
      ∙ ap (λ (z : Given). symbol_bytes z.0 ++ z.1) both
  | inr p ↦ absurd (let h : None ≡ Some x = p.1 in cc)
]

first_cases : (a b : Option Given) (x : Given) → first_of a b ≡ Some x → (a ≡ Some x) ⊎ ((a ≡ None) × (b ≡ Some x))
first_cases None b x e = inr (refl, e)
first_cases (Some y) b x e = inl e

pub symbol_sound : (bytes : List ℕ) (x : Given) → symbol_at bytes ≡ Some x → bytes ≡ symbol_bytes x.0 ++ x.1
unfolding symbol_at
symbol_sound bytes x e = elim (first_cases (dots_at bytes) (first_of (pair_at bytes) (single_at bytes)) x e) [
  | inl p ↦ dots_at_sound bytes x p
  | inr p ↦ elim (first_cases (pair_at bytes) (single_at bytes) x p.1) [
    | inl q ↦ pair_at_sound bytes x q
    | inr q ↦ single_at_sound bytes x q.1
  ]
]

-- ---- none that stands there is longer

-- a symbol is given, and it leaves no more than this
abbrev Reaches : List ℕ → List ℕ → Type 0
Reaches bytes rest = (x : Given) × (symbol_at bytes ≡ Some x) × (length x.1 ≤ length rest)

dots_reach : (bytes : List ℕ) (x : Given) → dots_at bytes ≡ Some x → length x.1 + 3 ≡ length bytes
dots_reach [] x e = absurd cc
dots_reach (a ∷ []) x e = absurd cc
dots_reach (a ∷ b ∷ []) x e = absurd cc
dots_reach (a ∷ b ∷ c ∷ rest) x e = elim (chosen ((a == 46 && b == 46) && c == 46) (Some (Dots, rest)) None (Some x) e) [
  | inl p ↦ let l = ap (λ (z : Given). length z.1) (some_is (Dots, rest) x p.1) in omega arith
  | inr p ↦ absurd (let h : None ≡ Some x = p.1 in cc)
]

pair_reach : (bytes : List ℕ) (x : Given) → pair_at bytes ≡ Some x → length x.1 + 2 ≡ length bytes
pair_reach [] x e = absurd cc
pair_reach (a ∷ []) x e = absurd cc
pair_reach (a ∷ b ∷ rest) x e = let p = rest_sound (pair_of a b) rest x e in let l = ap length p.1 in omega arith

reach_single : (a : ℕ) (rest : List ℕ) (y : Symbol) → single_of a ≡ Some y → Reaches (a ∷ rest) rest
unfolding symbol_at
reach_single a rest y e = by_dots (dots_at (a ∷ rest)) refl
  where
    by_pair : dots_at (a ∷ rest) ≡ None → (o : Option Given) → pair_at (a ∷ rest) ≡ o → Reaches (a ∷ rest) rest
    by_pair none (Some x) p = (x, rw (none, p) refl, let l = pair_reach (a ∷ rest) x p in omega arith)
    by_pair none None p = ((y, rest), rw (none, p, e) refl, omega arith)

    by_dots : (o : Option Given) → dots_at (a ∷ rest) ≡ o → Reaches (a ∷ rest) rest
    by_dots (Some x) d = (x, rw d refl, let l = dots_reach (a ∷ rest) x d in omega arith)
    by_dots None d = by_pair d (pair_at (a ∷ rest)) refl

reach_pair : (a b : ℕ) (rest : List ℕ) (y : Symbol) → pair_of a b ≡ Some y → Reaches (a ∷ b ∷ rest) rest
unfolding symbol_at
reach_pair a b rest y e = by_dots (dots_at (a ∷ b ∷ rest)) refl
  where
    by_dots : (o : Option Given) → dots_at (a ∷ b ∷ rest) ≡ o → Reaches (a ∷ b ∷ rest) rest
    by_dots (Some x) d = (x, rw d refl, let l = dots_reach (a ∷ b ∷ rest) x d in omega arith)
    by_dots None d = ((y, rest), rw (d, e) refl, omega arith)

reach_dots : (rest : List ℕ) → Reaches (46 ∷ 46 ∷ 46 ∷ rest) rest
unfolding symbol_at
reach_dots rest = ((Dots, rest), refl, omega arith)

pub symbol_reaches : (y : Symbol) (rest : List ℕ) → Reaches (symbol_bytes y ++ rest) rest
unfolding single_of pair_of
symbol_reaches Plus rest = reach_single 43 rest Plus refl
symbol_reaches Minus rest = reach_single 45 rest Minus refl
symbol_reaches Star rest = reach_single 42 rest Star refl
symbol_reaches Slash rest = reach_single 47 rest Slash refl
symbol_reaches Percent rest = reach_single 37 rest Percent refl
symbol_reaches Caret rest = reach_single 94 rest Caret refl
symbol_reaches Hash rest = reach_single 35 rest Hash refl
symbol_reaches Amp rest = reach_single 38 rest Amp refl
symbol_reaches Tilde rest = reach_single 126 rest Tilde refl
symbol_reaches Bar rest = reach_single 124 rest Bar refl
symbol_reaches ShiftLeft rest = reach_pair 60 60 rest ShiftLeft refl
symbol_reaches ShiftRight rest = reach_pair 62 62 rest ShiftRight refl
symbol_reaches DoubleSlash rest = reach_pair 47 47 rest DoubleSlash refl
symbol_reaches Equal rest = reach_pair 61 61 rest Equal refl
symbol_reaches NotEqual rest = reach_pair 126 61 rest NotEqual refl
symbol_reaches LessEqual rest = reach_pair 60 61 rest LessEqual refl
symbol_reaches GreaterEqual rest = reach_pair 62 61 rest GreaterEqual refl
symbol_reaches Less rest = reach_single 60 rest Less refl
symbol_reaches Greater rest = reach_single 62 rest Greater refl
symbol_reaches Assign rest = reach_single 61 rest Assign refl
symbol_reaches OpenParen rest = reach_single 40 rest OpenParen refl
symbol_reaches CloseParen rest = reach_single 41 rest CloseParen refl
symbol_reaches OpenBrace rest = reach_single 123 rest OpenBrace refl
symbol_reaches CloseBrace rest = reach_single 125 rest CloseBrace refl
symbol_reaches OpenBracket rest = reach_single 91 rest OpenBracket refl
symbol_reaches CloseBracket rest = reach_single 93 rest CloseBracket refl
symbol_reaches DoubleColon rest = reach_pair 58 58 rest DoubleColon refl
symbol_reaches Semicolon rest = reach_single 59 rest Semicolon refl
symbol_reaches Colon rest = reach_single 58 rest Colon refl
symbol_reaches Comma rest = reach_single 44 rest Comma refl
symbol_reaches Dot rest = reach_single 46 rest Dot refl
symbol_reaches Concat rest = reach_pair 46 46 rest Concat refl
symbol_reaches Dots rest = reach_dots rest

-- the first byte of a symbol is a symbol too
pub symbol_begins : (y : Symbol) → (b : ℕ) × (more : List ℕ) × (symbol_bytes y ≡ b ∷ more) × IsSome (single_of b)
unfolding single_of
symbol_begins Plus = (43, [], refl, refl)
symbol_begins Minus = (45, [], refl, refl)
symbol_begins Star = (42, [], refl, refl)
symbol_begins Slash = (47, [], refl, refl)
symbol_begins Percent = (37, [], refl, refl)
symbol_begins Caret = (94, [], refl, refl)
symbol_begins Hash = (35, [], refl, refl)
symbol_begins Amp = (38, [], refl, refl)
symbol_begins Tilde = (126, [], refl, refl)
symbol_begins Bar = (124, [], refl, refl)
symbol_begins ShiftLeft = (60, 60 ∷ [], refl, refl)
symbol_begins ShiftRight = (62, 62 ∷ [], refl, refl)
symbol_begins DoubleSlash = (47, 47 ∷ [], refl, refl)
symbol_begins Equal = (61, 61 ∷ [], refl, refl)
symbol_begins NotEqual = (126, 61 ∷ [], refl, refl)
symbol_begins LessEqual = (60, 61 ∷ [], refl, refl)
symbol_begins GreaterEqual = (62, 61 ∷ [], refl, refl)
symbol_begins Less = (60, [], refl, refl)
symbol_begins Greater = (62, [], refl, refl)
symbol_begins Assign = (61, [], refl, refl)
symbol_begins OpenParen = (40, [], refl, refl)
symbol_begins CloseParen = (41, [], refl, refl)
symbol_begins OpenBrace = (123, [], refl, refl)
symbol_begins CloseBrace = (125, [], refl, refl)
symbol_begins OpenBracket = (91, [], refl, refl)
symbol_begins CloseBracket = (93, [], refl, refl)
symbol_begins DoubleColon = (58, 58 ∷ [], refl, refl)
symbol_begins Semicolon = (59, [], refl, refl)
symbol_begins Colon = (58, [], refl, refl)
symbol_begins Comma = (44, [], refl, refl)
symbol_begins Dot = (46, [], refl, refl)
symbol_begins Concat = (46, 46 ∷ [], refl, refl)
symbol_begins Dots = (46, 46 ∷ 46 ∷ [], refl, refl)

-- equal spellings are of one symbol
pub symbol_one : (y z : Symbol) → symbol_bytes y ≡ symbol_bytes z → y ≡ z
unfolding symbol_at single_of pair_of
symbol_one y z e = by_code y z e
  where
    code_of : List ℕ → Option Given
    code_of bytes = symbol_at bytes

    again : (w : Symbol) → code_of (symbol_bytes w) ≡ Some (w, [])
    again Plus = refl
    again Minus = refl
    again Star = refl
    again Slash = refl
    again Percent = refl
    again Caret = refl
    again Hash = refl
    again Amp = refl
    again Tilde = refl
    again Bar = refl
    again ShiftLeft = refl
    again ShiftRight = refl
    again DoubleSlash = refl
    again Equal = refl
    again NotEqual = refl
    again LessEqual = refl
    again GreaterEqual = refl
    again Less = refl
    again Greater = refl
    again Assign = refl
    again OpenParen = refl
    again CloseParen = refl
    again OpenBrace = refl
    again CloseBrace = refl
    again OpenBracket = refl
    again CloseBracket = refl
    again DoubleColon = refl
    again Semicolon = refl
    again Colon = refl
    again Comma = refl
    again Dot = refl
    again Concat = refl
    again Dots = refl

    by_code : (v w : Symbol) → symbol_bytes v ≡ symbol_bytes w → v ≡ w
    by_code v w e' = ap (λ (x : Given). x.0) (some_is (v, []) (w, []) (sym (again v) ∙ ap code_of e' ∙ again w))
