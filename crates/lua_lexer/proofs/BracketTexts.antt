-- Long brackets and comments: what is read stands there, what stands there is read, and each fault is the defined one.
use Rattle.std.proofs.Common.{◌≡◌, ℕ, Bool, true, false, List, [], ◌∷◌, ◌++◌, length, Option, Some, None, Ok, Err, refl, sym, ap, subst, ◌∙◌, append_assoc, inl, inr}
use Rattle.std.specs.Prelude.{not, ◌⊎◌}
use Rattle.lua_lexer.specs.declared.stop.Cause.{Cause}
use Rattle.lua_lexer.specs.declared.stop.Cause.TheVariants as causes
use Rattle.lua_lexer.specs.Alphabet.{is_line_break, begins_with}
use Rattle.lua_lexer.specs.QuotedText.{ends_line}
use Rattle.lua_lexer.specs.LongBracket.{opening, closing, long_text, IsBracket, Opens, StaysOpen}
use Rattle.lua_lexer.specs.Spelling.{IsShortComment, IsLongComment}
use Rattle.lua_lexer.specs.Reading.{then_with, or_cause, run, after_run, opened, close_at, bracket_by, bracket_at, comment_by, comment_at}
use Rattle.lua_lexer.proofs.Choices.{ok_is, err_is}
use Rattle.lua_lexer.proofs.Runs.{run_then_rest, run_passes, rest_stops, run_is}
use Rattle.lua_lexer.proofs.LongBrackets.{opened_sound, opened_again, close_sound, close_none, close_again}

abbrev Body : Type 0
Body = List ℕ × List ℕ

abbrev nowhere : Cause × ℕ
nowhere = (causes.BadByte, 0)

-- ---- where a bracket opens

pub not_open : (bytes : List ℕ) → opened bytes ≡ None → Opens bytes → ⊥
not_open bytes none o = let h : opened bytes ≡ Some (o.0, o.1) = ap opened o.2 ∙ opened_again o.0 o.1 in let g : None ≡ Some (o.0, o.1) = sym none ∙ h in cc

pub open_none : (bytes : List ℕ) → (Opens bytes → ⊥) → opened bytes ≡ None
open_none bytes shut = by_answer (opened bytes) refl
  where
    by_answer : (o : Option (ℕ × List ℕ)) → opened bytes ≡ o → o ≡ None
    by_answer None e = refl
    by_answer (Some x) e = absurd (shut (x.0, x.1, opened_sound bytes x e))

stays : (bytes : List ℕ) (x : ℕ × List ℕ) → opened bytes ≡ Some x → close_at x.0 x.1 ≡ None → StaysOpen bytes
stays bytes x e none = (x.0, x.1, opened_sound bytes x e, close_none x.0 x.1 none)

no_close : (level : ℕ) (inner : List ℕ) → ((x y : List ℕ) → inner ≡ x ++ (closing level ++ y) → ⊥) → close_at level inner ≡ None
no_close level inner never = by_answer (close_at level inner) refl
  where
    by_answer : (o : Option Body) → close_at level inner ≡ o → o ≡ None
    by_answer None e = refl
    by_answer (Some x) e = absurd (never x.0 x.1 (close_sound level inner x e).spelled)

-- a bracket that opens and its first close
found : (bytes : List ℕ) (x : ℕ × List ℕ) (y : Body) → opened bytes ≡ Some x → close_at x.0 x.1 ≡ Some y → (bytes ≡ (opening x.0 ++ (y.0 ++ closing x.0)) ++ y.1) × IsBracket y.0 (opening x.0 ++ (y.0 ++ closing x.0)) y.1
found bytes x y e c =
    let f = close_sound x.0 x.1 y c in
    let regrouped : opening x.0 ++ x.1 ≡ (opening x.0 ++ (y.0 ++ closing x.0)) ++ y.1 =
    ap (λ (l : List ℕ). opening x.0 ++ l) (f.spelled ∙ sym (append_assoc y.0 (closing x.0) y.1)) ∙ sym (append_assoc (opening x.0) (y.0 ++ closing x.0) y.1) in
    (opened_sound bytes x e ∙ regrouped, record { level = x.0; spelled = refl; first = λ a b cut. f.first a b (f.spelled ∙ cut) })

opens_so : (body bytes after : List ℕ) (is : IsBracket body bytes after) → opened (bytes ++ after) ≡ Some (is.level, body ++ (closing is.level ++ after))
opens_so body bytes after is =
    ap (λ (l : List ℕ). opened (l ++ after)) is.spelled
    ∙ ap opened (append_assoc (opening is.level) (body ++ closing is.level) after ∙ ap (λ (l : List ℕ). opening is.level ++ l) (append_assoc body (closing is.level) after))
    ∙ opened_again is.level (body ++ (closing is.level ++ after))

closes_so : (body bytes after : List ℕ) (is : IsBracket body bytes after) → close_at is.level (body ++ (closing is.level ++ after)) ≡ Some (body, after)
closes_so body bytes after is = close_again is.level (body ++ (closing is.level ++ after)) (body, after) (record { spelled = refl; first = is.first })

-- ---- brackets

pub record BracketFound (bytes : List ℕ) (x : Body) : Type 0 where
  pub body : List ℕ
  pub spelling : List ℕ
  pub spelled : bytes ≡ spelling ++ x.1
  pub is : IsBracket body spelling x.1
  pub text : x.0 ≡ long_text body

pub bracket_sound : (bytes : List ℕ) (x : Body) → bracket_at bytes ≡ Ok x → BracketFound bytes x
unfolding bracket_at
bracket_sound bytes x e = by_open (opened bytes) refl e
  where
    by_close : (o : ℕ × List ℕ) → opened bytes ≡ Some o → (c : Option Body) → close_at o.0 o.1 ≡ c → then_with (or_cause c (causes.OpenBracket, length bytes)) (λ y. Ok (long_text y.0, y.1)) ≡ Ok x → BracketFound bytes x
    by_close o p None q e' = absurd cc
    by_close o p (Some y) q e' =
        let made : Body = (long_text y.0, y.1) in
        let f = found bytes o y p q in
        subst (λ (z : Body). BracketFound bytes z) (ok_is nowhere made x e') (record { body = y.0; spelling = opening o.0 ++ (y.0 ++ closing o.0); spelled = f.0; is = f.1; text = refl })

    by_open : (o : Option (ℕ × List ℕ)) → opened bytes ≡ o → bracket_by o (length bytes) ≡ Ok x → BracketFound bytes x
    by_open None p e' = absurd cc
    by_open (Some o) p e' = by_close o p (close_at o.0 o.1) refl e'

pub bracket_again : (body bytes after : List ℕ) → IsBracket body bytes after → bracket_at (bytes ++ after) ≡ Ok (long_text body, after)
unfolding bracket_at
bracket_again body bytes after is =
    ap (λ o. bracket_by o (length (bytes ++ after))) (opens_so body bytes after is)
    ∙ ap (λ c. then_with (or_cause c (causes.OpenBracket, length (bytes ++ after))) (λ y. Ok (long_text y.0, y.1))) (closes_so body bytes after is)

pub bracket_fails : (bytes : List ℕ) (d : Cause × ℕ) → bracket_at bytes ≡ Err d → ((d ≡ (causes.BadByte, length bytes)) × (Opens bytes → ⊥)) ⊎ ((d ≡ (causes.OpenBracket, length bytes)) × StaysOpen bytes)
unfolding bracket_at
bracket_fails bytes d e = by_open (opened bytes) refl e
  where
    none : Body
    none = ([], [])

    by_close : (o : ℕ × List ℕ) → opened bytes ≡ Some o → (c : Option Body) → close_at o.0 o.1 ≡ c → then_with {B = Body} (or_cause c (causes.OpenBracket, length bytes)) (λ y. Ok (long_text y.0, y.1)) ≡ Err d
        → ((d ≡ (causes.BadByte, length bytes)) × (Opens bytes → ⊥)) ⊎ ((d ≡ (causes.OpenBracket, length bytes)) × StaysOpen bytes)
    by_close o p None q e' = inr (sym (err_is none (causes.OpenBracket, length bytes) d e'), stays bytes o p q)
    by_close o p (Some y) q e' = absurd cc

    by_open : (o : Option (ℕ × List ℕ)) → opened bytes ≡ o → bracket_by o (length bytes) ≡ Err d → ((d ≡ (causes.BadByte, length bytes)) × (Opens bytes → ⊥)) ⊎ ((d ≡ (causes.OpenBracket, length bytes)) × StaysOpen bytes)
    by_open None p e' = inl (sym (err_is none (causes.BadByte, length bytes) d e'), not_open bytes p)
    by_open (Some o) p e' = by_close o p (close_at o.0 o.1) refl e'

pub bracket_bad : (bytes : List ℕ) → (Opens bytes → ⊥) → bracket_at bytes ≡ Err (causes.BadByte, length bytes)
unfolding bracket_at
bracket_bad bytes shut = ap (λ o. bracket_by o (length bytes)) (open_none bytes shut)

pub bracket_stays : (bytes : List ℕ) → StaysOpen bytes → bracket_at bytes ≡ Err (causes.OpenBracket, length bytes)
unfolding bracket_at
bracket_stays bytes s =
    ap (λ o. bracket_by o (length bytes)) (ap opened s.2 ∙ opened_again s.0 s.1)
    ∙ ap (λ c. then_with (or_cause c (causes.OpenBracket, length bytes)) (λ y. Ok (long_text y.0, y.1))) (no_close s.0 s.1 s.3)

-- ---- comments

abbrev in_line : ℕ → Bool
in_line b = not (is_line_break b)

line_ends : (after : List ℕ) → begins_with in_line after ≡ false → ends_line after ≡ true
line_ends [] e = refl
line_ends (b ∷ bs) e = by_test (is_line_break b) refl
  where
    by_test : (t : Bool) → is_line_break b ≡ t → t ≡ true
    by_test true q = refl
    by_test false q = absurd (let h : not (is_line_break b) ≡ false = e in let g : true ≡ false = rw q at h in cc)

ends_so : (after : List ℕ) → ends_line after ≡ true → begins_with in_line after ≡ false
ends_so [] e = refl
ends_so (b ∷ bs) e = rw e refl

pub record CommentFound (bytes after : List ℕ) : Type 0 where
  pub spelling : List ℕ
  pub spelled : bytes ≡ spelling ++ after
  pub is : IsShortComment spelling after ⊎ IsLongComment spelling after

short_found : (rest : List ℕ) → opened rest ≡ None → CommentFound (45 ∷ 45 ∷ rest) (after_run in_line rest)
short_found rest none = record {
  spelling = 45 ∷ 45 ∷ run in_line rest;
  spelled = ap (λ (l : List ℕ). 45 ∷ 45 ∷ l) (sym (run_then_rest in_line rest));
  is = inl (record {
    line = run in_line rest;
    spelled = refl;
    in_line = run_passes in_line rest;
    ended = line_ends (after_run in_line rest) (rest_stops in_line rest);
    short = λ o. not_open rest none (subst (λ (l : List ℕ). Opens l) (run_then_rest in_line rest) o);
  });
}

pub comment_sound : (rest after : List ℕ) → comment_at (45 ∷ 45 ∷ rest) ≡ Ok after → CommentFound (45 ∷ 45 ∷ rest) after
unfolding comment_at
comment_sound rest after e = by_open (opened rest) refl e
  where
    bytes : List ℕ
    bytes = 45 ∷ 45 ∷ rest

    by_close : (o : ℕ × List ℕ) → opened rest ≡ Some o → (c : Option Body) → close_at o.0 o.1 ≡ c → then_with (or_cause c (causes.OpenBracket, length bytes)) (λ y. Ok y.1) ≡ Ok after → CommentFound bytes after
    by_close o p None q e' = absurd cc
    by_close o p (Some y) q e' =
        let f = found rest o y p q in
        let bracket : List ℕ = opening o.0 ++ (y.0 ++ closing o.0) in
        subst (λ (l : List ℕ). CommentFound bytes l) (ok_is nowhere y.1 after e') (record {
          spelling = 45 ∷ 45 ∷ bracket;
          spelled = ap (λ (l : List ℕ). 45 ∷ 45 ∷ l) f.0;
          is = inr (record { body = y.0; bracket_bytes = bracket; spelled = refl; bracket = f.1 });
        })

    by_open : (o : Option (ℕ × List ℕ)) → opened rest ≡ o → comment_by o rest (length bytes) ≡ Ok after → CommentFound bytes after
    by_open None p e' = subst (λ (l : List ℕ). CommentFound bytes l) (ok_is nowhere (after_run in_line rest) after e') (short_found rest p)
    by_open (Some o) p e' = by_close o p (close_at o.0 o.1) refl e'

pub short_again : (bytes after : List ℕ) → IsShortComment bytes after → comment_at (bytes ++ after) ≡ Ok after
unfolding comment_at
short_again bytes after is =
    ap (λ (l : List ℕ). comment_at (l ++ after)) is.spelled
    ∙ ap (λ o. comment_by o (is.line ++ after) (length (45 ∷ 45 ∷ (is.line ++ after)))) (open_none (is.line ++ after) is.short)
    ∙ ap (λ (l : List ℕ). Ok l) (run_is in_line is.line after is.in_line (ends_so after is.ended)).1

pub long_again : (bytes after : List ℕ) → IsLongComment bytes after → comment_at (bytes ++ after) ≡ Ok after
unfolding comment_at
long_again bytes after is =
    ap (λ (l : List ℕ). comment_at (l ++ after)) is.spelled
    ∙ ap (λ o. comment_by o (is.bracket_bytes ++ after) (length (45 ∷ 45 ∷ (is.bracket_bytes ++ after)))) (opens_so is.body is.bracket_bytes after is.bracket)
    ∙ ap (λ c. then_with (or_cause c (causes.OpenBracket, length (45 ∷ 45 ∷ (is.bracket_bytes ++ after)))) (λ y. Ok y.1)) (closes_so is.body is.bracket_bytes after is.bracket)

pub comment_fails : (rest : List ℕ) (d : Cause × ℕ) → comment_at (45 ∷ 45 ∷ rest) ≡ Err d → (d ≡ (causes.OpenBracket, length (45 ∷ 45 ∷ rest))) × StaysOpen rest
unfolding comment_at
comment_fails rest d e = by_open (opened rest) refl e
  where
    bytes : List ℕ
    bytes = 45 ∷ 45 ∷ rest

    by_close : (o : ℕ × List ℕ) → opened rest ≡ Some o → (c : Option Body) → close_at o.0 o.1 ≡ c → then_with (or_cause c (causes.OpenBracket, length bytes)) (λ y. Ok y.1) ≡ Err d → (d ≡ (causes.OpenBracket, length bytes)) × StaysOpen rest
    by_close o p None q e' = (sym (err_is [] (causes.OpenBracket, length bytes) d e'), stays rest o p q)
    by_close o p (Some y) q e' = absurd cc

    by_open : (o : Option (ℕ × List ℕ)) → opened rest ≡ o → comment_by o rest (length bytes) ≡ Err d → (d ≡ (causes.OpenBracket, length bytes)) × StaysOpen rest
    by_open None p e' = absurd cc
    by_open (Some o) p e' = by_close o p (close_at o.0 o.1) refl e'

pub comment_stays : (rest : List ℕ) → StaysOpen rest → comment_at (45 ∷ 45 ∷ rest) ≡ Err (causes.OpenBracket, length (45 ∷ 45 ∷ rest))
unfolding comment_at
comment_stays rest s =
    ap (λ o. comment_by o rest (length (45 ∷ 45 ∷ rest))) (ap opened s.2 ∙ opened_again s.0 s.1)
    ∙ ap (λ c. then_with (or_cause c (causes.OpenBracket, length (45 ∷ 45 ∷ rest))) (λ y. Ok y.1)) (no_close s.0 s.1 s.3)
