-- What the table of keywords says, read both ways.
use Rattle.std.proofs.Common.{◌≡◌, ◌≢◌, ℕ, Bool, true, false, cond, List, [], ◌∷◌, Option, Some, None, refl, sym, ap, ◌∙◌}
use Rattle.std.specs.Prelude.{find}
use Rattle.std.specs.Str.{bytes_eq}
use Rattle.std.proofs.lemmas.Slice.Eq.{bytes_eq-Decides}
use Rattle.lua_names.specs.declared.keyword.Keyword.{Keyword}
use Rattle.lua_names.specs.declared.keyword.Keyword.TheVariants.{And, Break, Do, Else, Elseif, End, False, For, Function, Goto, If, In, Local, Nil, Not, Or, Repeat, Return, Then, True, Until, While}
use Rattle.lua_names.specs.Keywords.{keyword_bytes, all_keywords, keyword_of}
use Rattle.lua_names.specs.Names.{is_word}

some_is : (x y : Keyword) → ◌≡◌ {A = Option Keyword} (Some x) (Some y) → x ≡ y
some_is x y e = cc

found_passes : (test : Keyword → Bool) (ks : List Keyword) (k : Keyword) → find test ks ≡ Some k → test k ≡ true
found_passes test [] k e = absurd cc
found_passes test (c ∷ cs) k e = by_test (test c) refl (λ e'. found_passes test cs k e') e
  where
    by_test : (t : Bool) → test c ≡ t → (find test cs ≡ Some k → test k ≡ true) → cond t (Some c) (find test cs) ≡ Some k → test k ≡ true
    by_test true is later e' = ap test (sym (some_is c k e')) ∙ is
    by_test false is later e' = later e'

pub keyword_sound : (word : List ℕ) (k : Keyword) → keyword_of word ≡ Some k → word ≡ keyword_bytes k
unfolding keyword_of
keyword_sound word k e = (bytes_eq-Decides word (keyword_bytes k)).0 (found_passes (λ c. bytes_eq word (keyword_bytes c)) all_keywords k e)

pub keyword_again : (k : Keyword) → keyword_of (keyword_bytes k) ≡ Some k
unfolding keyword_of
keyword_again And = refl
keyword_again Break = refl
keyword_again Do = refl
keyword_again Else = refl
keyword_again Elseif = refl
keyword_again End = refl
keyword_again False = refl
keyword_again For = refl
keyword_again Function = refl
keyword_again Goto = refl
keyword_again If = refl
keyword_again In = refl
keyword_again Local = refl
keyword_again Nil = refl
keyword_again Not = refl
keyword_again Or = refl
keyword_again Repeat = refl
keyword_again Return = refl
keyword_again Then = refl
keyword_again True = refl
keyword_again Until = refl
keyword_again While = refl

pub keyword_is_word : (k : Keyword) → is_word (keyword_bytes k) ≡ true
keyword_is_word And = refl
keyword_is_word Break = refl
keyword_is_word Do = refl
keyword_is_word Else = refl
keyword_is_word Elseif = refl
keyword_is_word End = refl
keyword_is_word False = refl
keyword_is_word For = refl
keyword_is_word Function = refl
keyword_is_word Goto = refl
keyword_is_word If = refl
keyword_is_word In = refl
keyword_is_word Local = refl
keyword_is_word Nil = refl
keyword_is_word Not = refl
keyword_is_word Or = refl
keyword_is_word Repeat = refl
keyword_is_word Return = refl
keyword_is_word Then = refl
keyword_is_word True = refl
keyword_is_word Until = refl
keyword_is_word While = refl

-- bytes that spell no keyword have none
pub none_again : (word : List ℕ) → ((k : Keyword) → word ≢ keyword_bytes k) → keyword_of word ≡ None
none_again word differs = by_answer (keyword_of word) refl
  where
    by_answer : (o : Option Keyword) → keyword_of word ≡ o → o ≡ None
    by_answer (Some k) e = absurd (differs k (keyword_sound word k e))
    by_answer None e = refl
