-- Words and the keywords among them.
use Rattle.std.proofs.Common.{◌≡◌, ℕ, true, false, List, [], ◌∷◌, Option, Some, None, refl, ap, ◌∙◌}
use Rattle.std.specs.Prelude.{IsTrue, not, is_some}
use Rattle.std.specs.List.{list_all}
use Rattle.lua_names.specs.declared.keyword.Keyword.{Keyword}
use Rattle.lua_names.specs.Keywords.{keyword_bytes, keyword_of}
use Rattle.lua_names.specs.Names.{is_name_start, is_name_byte, is_word, is_name}
use Rattle.lua_names.proofs.KeywordTable.{keyword_sound, keyword_is_word}
use Rattle.lua_lexer.specs.Alphabet.{begins_with}
use Rattle.lua_lexer.specs.Spelling.{SpellsToken}
use Rattle.lua_lexer.specs.Reading.{word_kind}
use Rattle.lua_lexer.proofs.Choices.{and_cases, and_both}

-- a word, by its first byte and by all of them
abbrev pub IsWord : List ℕ → Type 0
IsWord bytes = IsTrue (begins_with is_name_start bytes) × IsTrue (list_all is_name_byte bytes)

start_stands : (b : ℕ) → is_name_start b ≡ true → is_name_byte b ≡ true
start_stands b e = rw e refl

pub word_parts : (bytes : List ℕ) → is_word bytes ≡ true → IsWord bytes
word_parts [] e = absurd (let h : false ≡ true = e in cc)
word_parts (b ∷ bs) e =
    let both = and_cases (is_name_start b) (list_all is_name_byte bs) e in
    (both.0, and_both (is_name_byte b) (list_all is_name_byte bs) (start_stands b both.0) both.1)

pub word_made : (bytes : List ℕ) → IsWord bytes → is_word bytes ≡ true
word_made [] is = is.0
word_made (b ∷ bs) is = and_both (is_name_start b) (list_all is_name_byte bs) is.0 (and_cases (is_name_byte b) (list_all is_name_byte bs) is.1).1

pub name_is_word : (bytes : List ℕ) → is_name bytes ≡ true → IsWord bytes
name_is_word bytes e = word_parts bytes (and_cases (is_word bytes) (not (is_some (keyword_of bytes))) e).0

pub keyword_word : (bytes : List ℕ) (k : Keyword) → bytes ≡ keyword_bytes k → IsWord bytes
keyword_word bytes k e = word_parts bytes (ap is_word e ∙ keyword_is_word k)

-- a word spells the kind that the reader gives it
pub word_spells : (word after : List ℕ) → IsWord word → SpellsToken (word_kind (keyword_of word) word) word after
word_spells word after is = by_answer (keyword_of word) refl
  where
    by_answer : (o : Option Keyword) → keyword_of word ≡ o → SpellsToken (word_kind o word) word after
    by_answer (Some k) e = keyword_sound word k e
    by_answer None e = (refl, and_both (is_word word) (not (is_some (keyword_of word))) (word_made word is) (ap (λ (o : Option Keyword). not (is_some o)) e))

-- and no other
pub name_again : (word : List ℕ) → is_name word ≡ true → keyword_of word ≡ None
name_again word e = by_answer (keyword_of word) refl (and_cases (is_word word) (not (is_some (keyword_of word))) e).1
  where
    by_answer : (o : Option Keyword) → keyword_of word ≡ o → not (is_some o) ≡ true → o ≡ None
    by_answer (Some k) is e' = absurd (let h : false ≡ true = e' in cc)
    by_answer None is e' = refl
