-- Gaps and tokens: what is read stands there and is the longest that fits, and what stands there is read.
use Rattle.std.proofs.Common.{◌≡◌, ℕ, suc, ◌<◌, ◌≤◌, Bool, true, false, cond, ◌&&◌, List, [], ◌∷◌, ◌++◌, length, Option, Some, None, Ok, Err, refl, sym, ap, subst, ◌∙◌, append_assoc, length-append, arith, inl, inr}
use Rattle.std.specs.Prelude.{◌==◌, ◌||◌}
use Rattle.std.specs.List.{list_all}
use Rattle.std.proofs.lemmas.Bool.{eqb-true}
use Rattle.std.proofs.lemmas.Bool.Decides.{nat_tests}
use Rattle.std.proofs.lemmas.List.{nil_from_length}
use Rattle.lua_lexer.specs.declared.element.Lexeme.{Lexeme}
use Rattle.lua_lexer.specs.declared.element.Lexeme.TheVariants as lexemes
use Rattle.lua_lexer.specs.declared.stop.Cause.{Cause}
use Rattle.lua_lexer.specs.declared.stop.Cause.TheVariants as causes
use Rattle.lua_lexer.specs.declared.token.TokenKind.{TokenKind}
use Rattle.lua_lexer.specs.declared.token.TokenKind.TheVariants as kinds
use Rattle.lua_lexer.specs.declared.vocabulary.Symbol.{Symbol}
use Rattle.lua_lexer.specs.declared.vocabulary.Symbol.TheVariants.{Minus, OpenBracket}
use Rattle.lua_names.specs.Names.{is_digit, is_name_start, is_name_byte}
use Rattle.lua_lexer.specs.Alphabet.{is_space, is_numeral_byte, is_quote, begins_with}
use Rattle.lua_lexer.specs.Vocabulary.{symbol_bytes}
use Rattle.lua_lexer.specs.QuotedText.{IsQuoted}
use Rattle.lua_lexer.specs.LongBracket.{long_text, IsBracket}
use Rattle.lua_lexer.specs.Spelling.{IsNumeral, begins_numeral, IsInteger, StandsBefore, IsLongest, Element, Gap, Spelled, element_bytes, FitsElement}
use Rattle.lua_names.specs.Keywords.{keyword_of}
use Rattle.lua_lexer.specs.Reading.{Outcome, then_with, or_cause, within, greatest, run, after_run, word_kind, word_at, symbol_at, integer_of, numeral_at, bracket_at, comment_at, quoted_at, begins_bracket, lexeme_of, Read, symbol_by, lexeme_at, element_at}
use Rattle.lua_lexer.proofs.Choices.{ok_is, some_is, or_cases, and_cases, true_not_false}
use Rattle.lua_lexer.proofs.Runs.{run_then_rest, run_passes, rest_stops}
use Rattle.lua_lexer.proofs.Appended.{no_more}
use Rattle.lua_lexer.proofs.Words.{IsWord, word_spells}
use Rattle.lua_lexer.proofs.Symbols.{symbol_sound, symbol_reaches, symbol_begins}
use Rattle.lua_lexer.proofs.Integers.{integer_answer}
use Rattle.lua_lexer.proofs.Escapes.{within_is}
use Rattle.lua_lexer.proofs.QuotedTexts.{quoted_sound, quoted_again}
use Rattle.lua_lexer.proofs.BracketTexts.{bracket_sound, bracket_again, comment_sound}
use Rattle.lua_lexer.proofs.Announcements.{Announced, front_lexeme, announced}

abbrev nowhere : Cause × ℕ
nowhere = (causes.BadByte, 0)

-- ---- what each lexeme says of the first two bytes

abbrev pub Announces : Lexeme → ℕ → List ℕ → Type 0
Announces lexemes.Space b rest = is_space b ≡ true
Announces lexemes.Comment b rest = (b ≡ 45) × (begins_with (λ c. c == 45) rest ≡ true)
Announces lexemes.Word b rest = is_name_start b ≡ true
Announces lexemes.Numeral b rest = begins_numeral (b ∷ rest) ≡ true
Announces lexemes.Quoted b rest = is_quote b ≡ true
Announces lexemes.Bracket b rest = (b ≡ 91) × (begins_bracket rest ≡ true)
Announces lexemes.Symbol b rest =
    (is_space b ≡ false) × (is_name_start b ≡ false) × (is_digit b ≡ false) × (is_quote b ≡ false)
    × ((b == 46 && begins_with is_digit rest) ≡ false) × ((b == 45 && begins_with (λ c. c == 45) rest) ≡ false) × ((b == 91 && begins_bracket rest) ≡ false)

pub or_left : (a b : Bool) → a ≡ true → (a || b) ≡ true
or_left a b e = rw e refl

or_right : (a b : Bool) → b ≡ true → (a || b) ≡ true
or_right true b e = refl
or_right false b e = e

module _ (b : ℕ) (rest : List ℕ) where
  by_bracket : is_space b ≡ false → is_name_start b ≡ false → is_digit b ≡ false → is_quote b ≡ false → (b == 46 && begins_with is_digit rest) ≡ false → (b == 45 && begins_with (λ c. c == 45) rest) ≡ false
      → (t : Bool) → (b == 91 && begins_bracket rest) ≡ t → Announces (cond t lexemes.Bracket lexemes.Symbol) b rest
  by_bracket s w d q n c true e = let both = and_cases (b == 91) (begins_bracket rest) e in (eqb-true b 91 both.0, both.1)
  by_bracket s w d q n c false e = (s, w, d, q, n, c, e)

  by_comment : is_space b ≡ false → is_name_start b ≡ false → is_digit b ≡ false → is_quote b ≡ false → (b == 46 && begins_with is_digit rest) ≡ false
      → (t : Bool) → (b == 45 && begins_with (λ c. c == 45) rest) ≡ t → Announces (cond t lexemes.Comment (cond (b == 91 && begins_bracket rest) lexemes.Bracket lexemes.Symbol)) b rest
  by_comment s w d q n true e = let both = and_cases (b == 45) (begins_with (λ c. c == 45) rest) e in (eqb-true b 45 both.0, both.1)
  by_comment s w d q n false e = by_bracket s w d q n e (b == 91 && begins_bracket rest) refl

  by_dot : is_space b ≡ false → is_name_start b ≡ false → is_digit b ≡ false → is_quote b ≡ false
      → (t : Bool) → (b == 46 && begins_with is_digit rest) ≡ t
      → Announces (cond t lexemes.Numeral (cond (b == 45 && begins_with (λ c. c == 45) rest) lexemes.Comment (cond (b == 91 && begins_bracket rest) lexemes.Bracket lexemes.Symbol))) b rest
  by_dot s w d q true e = or_right (is_digit b) (b == 46 && begins_with is_digit rest) e
  by_dot s w d q false e = by_comment s w d q e (b == 45 && begins_with (λ c. c == 45) rest) refl

  by_quote : is_space b ≡ false → is_name_start b ≡ false → is_digit b ≡ false → (t : Bool) → is_quote b ≡ t
      → Announces (cond t lexemes.Quoted (cond (b == 46 && begins_with is_digit rest) lexemes.Numeral (cond (b == 45 && begins_with (λ c. c == 45) rest) lexemes.Comment (cond (b == 91 && begins_bracket rest) lexemes.Bracket lexemes.Symbol)))) b rest
  by_quote s w d true e = e
  by_quote s w d false e = by_dot s w d e (b == 46 && begins_with is_digit rest) refl

  by_digit : is_space b ≡ false → is_name_start b ≡ false → (t : Bool) → is_digit b ≡ t
      → Announces (cond t lexemes.Numeral (cond (is_quote b) lexemes.Quoted (cond (b == 46 && begins_with is_digit rest) lexemes.Numeral (cond (b == 45 && begins_with (λ c. c == 45) rest) lexemes.Comment (cond (b == 91 && begins_bracket rest) lexemes.Bracket lexemes.Symbol))))) b rest
  by_digit s w true e = or_left (is_digit b) (b == 46 && begins_with is_digit rest) e
  by_digit s w false e = by_quote s w e (is_quote b) refl

  by_name : is_space b ≡ false → (t : Bool) → is_name_start b ≡ t
      → Announces (cond t lexemes.Word (cond (is_digit b) lexemes.Numeral (cond (is_quote b) lexemes.Quoted (cond (b == 46 && begins_with is_digit rest) lexemes.Numeral (cond (b == 45 && begins_with (λ c. c == 45) rest) lexemes.Comment (cond (b == 91 && begins_bracket rest) lexemes.Bracket lexemes.Symbol)))))) b rest
  by_name s true e = e
  by_name s false e = by_digit s e (is_digit b) refl

  by_space : (t : Bool) → is_space b ≡ t
      → Announces (cond t lexemes.Space (cond (is_name_start b) lexemes.Word (cond (is_digit b) lexemes.Numeral (cond (is_quote b) lexemes.Quoted (cond (b == 46 && begins_with is_digit rest) lexemes.Numeral (cond (b == 45 && begins_with (λ c. c == 45) rest) lexemes.Comment (cond (b == 91 && begins_bracket rest) lexemes.Bracket lexemes.Symbol))))))) b rest
  by_space true e = e
  by_space false e = by_name e (is_name_start b) refl

  pub announces : Announces (lexeme_of b rest) b rest
  unfolding lexeme_of
  announces = by_space (is_space b) refl

  pub announces_as : (lexeme : Lexeme) → lexeme_of b rest ≡ lexeme → Announces lexeme b rest
  announces_as lexeme e = subst (λ (l : Lexeme). Announces l b rest) e announces

-- ---- what fits longest

longest_by : (bytes after : List ℕ) (lexeme : Lexeme) → front_lexeme (bytes ++ after) ≡ lexeme
    → ((more rest : List ℕ) → after ≡ more ++ rest → Announced lexeme (bytes ++ more) rest → more ≡ []) → IsLongest bytes after
longest_by bytes after lexeme is so more rest cut fits =
    let regrouped : (bytes ++ more) ++ rest ≡ bytes ++ after = append_assoc bytes more rest ∙ ap (λ (l : List ℕ). bytes ++ l) (sym cut) in
    so more rest cut (subst (λ (l : Lexeme). Announced l (bytes ++ more) rest) (ap front_lexeme regrouped ∙ is) (announced (bytes ++ more) rest fits))

pub all_after : (test : ℕ → Bool) (front more : List ℕ) → list_all test (front ++ more) ≡ true → list_all test more ≡ true
all_after test [] more e = e
all_after test (b ∷ bs) more e = all_after test bs more (and_cases (test b) (list_all test (bs ++ more)) e).1

pub nothing_more : (test : ℕ → Bool) (more rest after : List ℕ) → after ≡ more ++ rest → list_all test more ≡ true → begins_with test after ≡ false → more ≡ []
nothing_more test [] rest after cut all stops = refl
nothing_more test (b ∷ bs) rest after cut all stops =
    true_not_false (test b) (and_cases (test b) (list_all test bs) all).0 (subst (λ (l : List ℕ). begins_with test l ≡ false) cut stops)

word_longest : (word after : List ℕ) → front_lexeme (word ++ after) ≡ lexemes.Word → begins_with is_name_byte after ≡ false → IsLongest word after
word_longest word after is stops = longest_by word after lexemes.Word is
    (λ more rest cut longer. nothing_more is_name_byte more rest after cut (all_after is_name_byte word more longer.1) stops)

dot_alone : (bytes more : List ℕ) → IsNumeral bytes → bytes ++ more ≡ 46 ∷ [] → more ≡ []
dot_alone [] more is e = absurd (let h : false ≡ true = is.0 in cc)
dot_alone (b ∷ bs) more is e = nil_from_length more (let l : length ((b ∷ bs) ++ more) ≡ 1 = ap length e in let s = length-append (b ∷ bs) more in omega arith)

numeral_longest : (bytes after : List ℕ) → front_lexeme (bytes ++ after) ≡ lexemes.Numeral → IsNumeral bytes → begins_with is_numeral_byte after ≡ false → IsLongest bytes after
numeral_longest bytes after is numeral stops = longest_by bytes after lexemes.Numeral is so
  where
    so : (more rest : List ℕ) → after ≡ more ++ rest → Announced lexemes.Numeral (bytes ++ more) rest → more ≡ []
    so more rest cut (inl longer) = nothing_more is_numeral_byte more rest after cut (all_after is_numeral_byte bytes more longer.1) stops
    so more rest cut (inr dot) = dot_alone bytes more numeral dot

regroup : (bytes more rest after : List ℕ) → after ≡ more ++ rest → (bytes ++ more) ++ rest ≡ bytes ++ after
regroup bytes more rest after cut = append_assoc bytes more rest ∙ ap (λ (l : List ℕ). bytes ++ l) (sym cut)

quoted_longest : (text bytes after : List ℕ) → front_lexeme (bytes ++ after) ≡ lexemes.Quoted → IsQuoted text bytes → IsLongest bytes after
quoted_longest text bytes after is quoted = longest_by bytes after lexemes.Quoted is
    (λ more rest cut longer.
    let first : (text, after) ≡ (longer.0, rest) = ok_is nowhere (text, after) (longer.0, rest) (sym (quoted_again text bytes after quoted) ∙ ap quoted_at (sym (regroup bytes more rest after cut)) ∙ quoted_again longer.0 (bytes ++ more) rest longer.1) in
    no_more bytes more rest after cut (let l = ap (λ (p : List ℕ × List ℕ). length p.1) first in omega arith))

bracket_longest : (body bytes after : List ℕ) → front_lexeme (bytes ++ after) ≡ lexemes.Bracket → IsBracket body bytes after → IsLongest bytes after
bracket_longest body bytes after is bracket = longest_by bytes after lexemes.Bracket is
    (λ more rest cut longer.
    let first : (long_text body, after) ≡ (long_text longer.0, rest) = ok_is nowhere (long_text body, after) (long_text longer.0, rest) (sym (bracket_again body bytes after bracket) ∙ ap bracket_at (sym (regroup bytes more rest after cut)) ∙ bracket_again longer.0 (bytes ++ more) rest longer.1) in
    no_more bytes more rest after cut (let l = ap (λ (p : List ℕ × List ℕ). length p.1) first in omega arith))

symbol_longest : (symbol : Symbol) (bytes after : List ℕ) → front_lexeme (bytes ++ after) ≡ lexemes.Symbol → symbol_at (bytes ++ after) ≡ Some (symbol, after) → IsLongest bytes after
symbol_longest symbol bytes after is given = longest_by bytes after lexemes.Symbol is
    (λ more rest cut longer.
    let reach = symbol_reaches longer.0 rest in
    let same : symbol_at (symbol_bytes longer.0 ++ rest) ≡ Some (symbol, after) = ap (λ (l : List ℕ). symbol_at (l ++ rest)) (sym longer.1) ∙ ap symbol_at (regroup bytes more rest after cut) ∙ given in
    let pair = some_is reach.0 (symbol, after) (sym reach.1 ∙ same) in
    no_more bytes more rest after cut (let l = ap (λ (p : Symbol × List ℕ). length p.1) pair in let le = reach.2 in omega arith))

-- ---- what is read stands there

abbrev pub kind_in : Element → Option TokenKind
kind_in (Gap bytes) = None
kind_in (Spelled kind bytes) = Some kind

abbrev Taken : Type 0
Taken = Option TokenKind × List ℕ

abbrev gave : Taken → Read
gave x = Ok x

pub record ElementFound (bytes : List ℕ) (x : Taken) : Type 0 where
  pub element : Element
  pub spelled : bytes ≡ element_bytes element ++ x.1
  pub fits : FitsElement element x.1
  pub kind : x.0 ≡ kind_in element
  pub some : 0 < length (element_bytes element)

is_found : (bytes : List ℕ) (made x : Taken) → gave made ≡ gave x → ElementFound bytes made → ElementFound bytes x
is_found bytes made x e f = subst (λ (y : Taken). ElementFound bytes y) (ok_is nowhere made x e) f

then_gave : {A : Type 0} (r : Outcome A) (f : A → Taken) (x : Taken) → then_with r (λ a. Ok (f a)) ≡ gave x → (a : A) × (r ≡ Ok a) × (gave (f a) ≡ gave x)
then_gave (Ok a) f x e = (a, refl, e)
then_gave (Err d) f x e = absurd cc

pub front_here : (b : ℕ) (rest : List ℕ) → front_lexeme (b ∷ rest) ≡ lexeme_of b rest
unfolding front_lexeme
front_here b rest = refl

-- the lexeme of the bytes that were taken and what follows them
front_of : (b : ℕ) (rest bytes after : List ℕ) (lexeme : Lexeme) → lexeme_of b rest ≡ lexeme → b ∷ rest ≡ bytes ++ after → front_lexeme (bytes ++ after) ≡ lexeme
front_of b rest bytes after lexeme e cut = ap front_lexeme (sym cut) ∙ front_here b rest ∙ e

name_run : (b : ℕ) (rest : List ℕ) → is_name_start b ≡ true → begins_with is_name_start (run is_name_byte (b ∷ rest)) ≡ true
name_run b rest e = ap (λ (t : Bool). begins_with is_name_start (cond t (b ∷ run is_name_byte rest) [])) (or_left (is_name_start b) (is_digit b) e) ∙ e

word_found : (b : ℕ) (rest : List ℕ) → lexeme_of b rest ≡ lexemes.Word → is_name_start b ≡ true → ElementFound (b ∷ rest) (Some (word_at (b ∷ rest)).0, (word_at (b ∷ rest)).1)
unfolding word_at
word_found b rest e start =
    let word : List ℕ = run is_name_byte (b ∷ rest) in
    let after : List ℕ = after_run is_name_byte (b ∷ rest) in
    let cut : b ∷ rest ≡ word ++ after = sym (run_then_rest is_name_byte (b ∷ rest)) in
    let is : IsWord word = (name_run b rest start, run_passes is_name_byte (b ∷ rest)) in
    record {
      element = Spelled (word_kind (keyword_of word) word) word;
      spelled = cut;
      fits = (word_spells word after is, word_longest word after (front_of b rest word after lexemes.Word e cut) (rest_stops is_name_byte (b ∷ rest)));
      kind = refl;
      some = begun word is.0;
    }
  where
    begun : (word : List ℕ) → begins_with is_name_start word ≡ true → 0 < length word
    begun [] h = absurd (let g : false ≡ true = h in cc)
    begun (c ∷ cs) h = omega arith

digit_numeral : (b : ℕ) → is_digit b ≡ true → is_numeral_byte b ≡ true
digit_numeral b e = grind (arith, nat_tests)

pub numeral_run : (b : ℕ) (rest : List ℕ) → begins_numeral (b ∷ rest) ≡ true → begins_numeral (run is_numeral_byte (b ∷ rest)) ≡ true
numeral_run b rest e = elim (or_cases (is_digit b) (b == 46 && begins_with is_digit rest) e) [
  | inl d ↦ ap (λ (t : Bool). begins_numeral (cond t (b ∷ run is_numeral_byte rest) [])) (digit_numeral b d) ∙ or_left (is_digit b) (b == 46 && begins_with is_digit (run is_numeral_byte rest)) d
  | inr p ↦
      let both = and_cases (b == 46) (begins_with is_digit rest) p in
      subst (λ (c : ℕ). begins_numeral (run is_numeral_byte (c ∷ rest)) ≡ true) (sym (eqb-true b 46 both.0)) (at_digit rest both.1)
]
  where
    at_digit : (l : List ℕ) → begins_with is_digit l ≡ true → begins_numeral (run is_numeral_byte (46 ∷ l)) ≡ true
    at_digit [] h = absurd (let g : false ≡ true = h in cc)
    at_digit (d ∷ ds) h = ap (λ (t : Bool). begins_numeral (46 ∷ cond t (d ∷ run is_numeral_byte ds) [])) (digit_numeral d h) ∙ h

numeral_begun : (bytes : List ℕ) → begins_numeral bytes ≡ true → 0 < length bytes
numeral_begun [] h = absurd (let g : false ≡ true = h in cc)
numeral_begun (c ∷ cs) h = omega arith

or_within : (n m left : ℕ) → or_cause (within greatest n) (causes.NumberTooLarge, left) ≡ Ok m → (n ≤ greatest) × (m ≡ n)
or_within n m left e = by_answer (within greatest n) refl e
  where
    by_answer : (o : Option ℕ) → within greatest n ≡ o → or_cause o (causes.NumberTooLarge, left) ≡ Ok m → (n ≤ greatest) × (m ≡ n)
    by_answer None w e' = absurd cc
    by_answer (Some k) w e' = let p = within_is greatest n k w in (p.0, sym (ok_is nowhere k m e') ∙ p.1)

numeral_found : (b : ℕ) (rest : List ℕ) (x : Taken) → lexeme_of b rest ≡ lexemes.Numeral → begins_numeral (b ∷ rest) ≡ true → then_with (numeral_at (b ∷ rest)) (λ y. Ok (Some (kinds.Int y.0), y.1)) ≡ gave x → ElementFound (b ∷ rest) x
unfolding numeral_at
numeral_found b rest x e begins e' =
    let bytes : List ℕ = run is_numeral_byte (b ∷ rest) in
    let after : List ℕ = after_run is_numeral_byte (b ∷ rest) in
    let left : ℕ = length (b ∷ rest) in
    let cut : b ∷ rest ≡ bytes ++ after = sym (run_then_rest is_numeral_byte (b ∷ rest)) in
    let is : IsNumeral bytes = (numeral_run b rest begins, run_passes is_numeral_byte (b ∷ rest)) in
    let read = then_gave (then_with (integer_of bytes left) (λ n. Ok (n, after))) (λ y. (Some (kinds.Int y.0), y.1)) x e' in
    let inner = then_number (integer_of bytes left) after read.0 read.1 in
    let longest = numeral_longest bytes after (front_of b rest bytes after lexemes.Numeral e cut) is (rest_stops is_numeral_byte (b ∷ rest)) in
    is_found (b ∷ rest) (Some (kinds.Int read.0.0), read.0.1) x read.2 (subst (λ (l : List ℕ). ElementFound (b ∷ rest) (Some (kinds.Int read.0.0), l)) inner.1 (elim (integer_answer bytes left is) [
      | inl a ↦
          let w = or_within a.n read.0.0 left (sym a.answer ∙ inner.0) in
          record {
            element = Spelled (kinds.Int read.0.0) bytes;
            spelled = cut;
            fits = ((subst (λ (n : ℕ). IsInteger n bytes) (sym w.1) a.is, subst (λ (n : ℕ). n ≤ 9223372036854775807) (sym w.1) w.0), longest);
            kind = refl;
            some = numeral_begun bytes is.0;
          }
      | inr bad ↦ absurd (let h : Err (causes.BadNumeral, left) ≡ number read.0.0 = sym bad.0 ∙ inner.0 in cc)
    ]))
  where
    number : ℕ → Outcome ℕ
    number n = Ok n

    then_number : (r : Outcome ℕ) (after : List ℕ) (y : ℕ × List ℕ) → then_with r (λ n. Ok (n, after)) ≡ Ok y → (r ≡ Ok y.0) × (after ≡ y.1)
    then_number (Ok n) after y h = let p = ok_is nowhere (n, after) y h in (ap (λ (z : ℕ × List ℕ). Ok z.0) p, ap (λ (z : ℕ × List ℕ). z.1) p)
    then_number (Err d) after y h = absurd cc

quoted_found : (b : ℕ) (rest : List ℕ) (x : Taken) → lexeme_of b rest ≡ lexemes.Quoted → is_quote b ≡ true → then_with (quoted_at (b ∷ rest)) (λ y. Ok (Some (kinds.Text y.0), y.1)) ≡ gave x → ElementFound (b ∷ rest) x
quoted_found b rest x e quote e' =
    let read = then_gave (quoted_at (b ∷ rest)) (λ y. (Some (kinds.Text y.0), y.1)) x e' in
    let f = quoted_sound b rest read.0 quote read.1 in
    is_found (b ∷ rest) (Some (kinds.Text read.0.0), read.0.1) x read.2 (record {
      element = Spelled (kinds.Text read.0.0) f.bytes;
      spelled = f.spelled;
      fits = (inl f.is, quoted_longest read.0.0 f.bytes read.0.1 (front_of b rest f.bytes read.0.1 lexemes.Quoted e f.spelled) f.is);
      kind = refl;
      some = let l = ap length f.is.spelled in omega arith;
    })

bracket_found : (b : ℕ) (rest : List ℕ) (x : Taken) → lexeme_of b rest ≡ lexemes.Bracket → then_with (bracket_at (b ∷ rest)) (λ y. Ok (Some (kinds.Text y.0), y.1)) ≡ gave x → ElementFound (b ∷ rest) x
bracket_found b rest x e e' =
    let read = then_gave (bracket_at (b ∷ rest)) (λ y. (Some (kinds.Text y.0), y.1)) x e' in
    let f = bracket_sound (b ∷ rest) read.0 read.1 in
    is_found (b ∷ rest) (Some (kinds.Text read.0.0), read.0.1) x read.2 (record {
      element = Spelled (kinds.Text read.0.0) f.spelling;
      spelled = f.spelled;
      fits = (inr (f.body, f.text, f.is), bracket_longest f.body f.spelling read.0.1 (front_of b rest f.spelling read.0.1 lexemes.Bracket e f.spelled) f.is);
      kind = refl;
      some = let l = ap length f.is.spelled in omega arith;
    })

stands : (symbol : Symbol) (after : List ℕ) (b : ℕ) (rest : List ℕ) → b ∷ rest ≡ symbol_bytes symbol ++ after → Announces lexemes.Symbol b rest → StandsBefore symbol after
stands OpenBracket after b rest cut a =
    let head : b ≡ 91 = cc in
    let tail : rest ≡ after = cc in
    subst (λ (l : List ℕ). begins_bracket l ≡ false) tail (subst (λ (c : ℕ). (c == 91 && begins_bracket rest) ≡ false) head a.6)
stands Minus after b rest cut a =
    let head : b ≡ 45 = cc in
    let tail : rest ≡ after = cc in
    subst (λ (l : List ℕ). begins_with (λ c. c == 45) l ≡ false) tail (subst (λ (c : ℕ). (c == 45 && begins_with (λ d. d == 45) rest) ≡ false) head a.5)
stands _ after b rest cut a = tt

symbol_found : (b : ℕ) (rest : List ℕ) (x : Taken) → lexeme_of b rest ≡ lexemes.Symbol → Announces lexemes.Symbol b rest → (o : Option (Symbol × List ℕ)) → symbol_at (b ∷ rest) ≡ o → symbol_by o (suc (length rest)) ≡ gave x → ElementFound (b ∷ rest) x
symbol_found b rest x e a None given e' = absurd cc
symbol_found b rest x e a (Some y) given e' =
    let cut = symbol_sound (b ∷ rest) y given in
    let begins = symbol_begins y.0 in
    is_found (b ∷ rest) (Some (kinds.Symbol y.0), y.1) x e' (record {
      element = Spelled (kinds.Symbol y.0) (symbol_bytes y.0);
      spelled = cut;
      fits = ((refl, stands y.0 y.1 b rest cut a), symbol_longest y.0 (symbol_bytes y.0) y.1 (front_of b rest (symbol_bytes y.0) y.1 lexemes.Symbol e cut) (ap symbol_at (sym cut) ∙ given));
      kind = refl;
      some = let l = ap length begins.2 in omega arith;
    })

comment_found : (b : ℕ) (rest : List ℕ) (x : Taken) → b ≡ 45 → begins_with (λ c. c == 45) rest ≡ true → then_with (comment_at (b ∷ rest)) (λ after. Ok (None, after)) ≡ gave x → ElementFound (b ∷ rest) x
comment_found b [] x dash begins e' = absurd (let g : false ≡ true = begins in cc)
comment_found b (c ∷ cs) x dash begins e' =
    let both : b ∷ c ∷ cs ≡ 45 ∷ 45 ∷ cs = ap (λ (d : ℕ). d ∷ c ∷ cs) dash ∙ ap (λ (d : ℕ). 45 ∷ d ∷ cs) (eqb-true c 45 begins) in
    let read = then_gave (comment_at (b ∷ c ∷ cs)) (λ after. (None, after)) x e' in
    let f = comment_sound cs read.0 (ap comment_at (sym both) ∙ read.1) in
    is_found (b ∷ c ∷ cs) (None, read.0) x read.2 (record {
      element = Gap f.spelling;
      spelled = both ∙ f.spelled;
      fits = inr f.is;
      kind = refl;
      some = elim f.is [ inl s ↦ (let l = ap length s.spelled in omega arith) | inr s ↦ (let l = ap length s.spelled in omega arith) ];
    })

pub element_sound : (b : ℕ) (rest : List ℕ) (x : Taken) → element_at (b ∷ rest) ≡ Ok x → ElementFound (b ∷ rest) x
unfolding element_at
element_sound b rest x e = by_lexeme (lexeme_of b rest) refl e
  where
    by_lexeme : (l : Lexeme) → lexeme_of b rest ≡ l → lexeme_at l b rest ≡ gave x → ElementFound (b ∷ rest) x
    by_lexeme lexemes.Space is e' = is_found (b ∷ rest) (None, rest) x e' (record { element = Gap (b ∷ []); spelled = refl; fits = inl (b, refl, announces_as b rest lexemes.Space is); kind = refl; some = omega arith })
    by_lexeme lexemes.Comment is e' = let a = announces_as b rest lexemes.Comment is in comment_found b rest x a.0 a.1 e'
    by_lexeme lexemes.Word is e' = is_found (b ∷ rest) (Some (word_at (b ∷ rest)).0, (word_at (b ∷ rest)).1) x e' (word_found b rest is (announces_as b rest lexemes.Word is))
    by_lexeme lexemes.Numeral is e' = numeral_found b rest x is (announces_as b rest lexemes.Numeral is) e'
    by_lexeme lexemes.Quoted is e' = quoted_found b rest x is (announces_as b rest lexemes.Quoted is) e'
    by_lexeme lexemes.Bracket is e' = bracket_found b rest x is e'
    by_lexeme lexemes.Symbol is e' = symbol_found b rest x is (announces_as b rest lexemes.Symbol is) (symbol_at (b ∷ rest)) refl e'
