-- The close of a long bracket, found behind what was passed.
use Rattle.std.proofs.Common.{◌≡◌, ℕ, suc, ◌+◌, ◌-◌, ◌<◌, List, [], ◌∷◌, ◌++◌, length, get_or, take, drop, Option, Some, None, refl, sym, ap, ◌∙◌, append_assoc, add-one, length-drop}
use Rattle.std.proofs.lemmas.List.{append-nil}
use Rattle.std.proofs.Math.Seq.{drop-cons, take-suc, take-length}
use Rattle.lua_lexer.specs.Reading.{closed_at, close_at, longer, body_or}

-- what is found behind a front that was passed
abbrev pub behind : List ℕ → Option (List ℕ × List ℕ) → Option (List ℕ × List ℕ)
behind front None = None
behind front (Some found) = Some (front ++ found.0, found.1)

close_step : (level : ℕ) (bytes rest : List ℕ) → closed_at level bytes ≡ Some rest → close_at level bytes ≡ Some ([], rest)
unfolding closed_at close_at
close_step level [] rest e = absurd cc
close_step level (b ∷ bs) rest e = ap (λ (o : Option (List ℕ)). body_or b o (close_at level bs)) e

close_pass : (level : ℕ) (b : ℕ) (bs : List ℕ) → closed_at level (b ∷ bs) ≡ None → close_at level (b ∷ bs) ≡ longer b (close_at level bs)
unfolding close_at
close_pass level b bs e = ap (λ (o : Option (List ℕ)). body_or b o (close_at level bs)) e

behind-longer : (front : List ℕ) (b : ℕ) (later : Option (List ℕ × List ℕ)) → behind front (longer b later) ≡ behind (front ++ b ∷ []) later
behind-longer front b None = refl
behind-longer front b (Some found) = ap (λ (f : List ℕ). Some (f, found.1)) (sym (append_assoc front (b ∷ []) found.0))

-- a slice from an index to the end
pub whole_rest : (i : ℕ) (l : List ℕ) → take (length l - i) (drop i l) ≡ drop i l
whole_rest i l = ap (λ (n : ℕ). take n (drop i l)) (sym (length-drop i l)) ∙ take-length (drop i l)

pub found_here : (level taken : ℕ) (bytes rest : List ℕ) → closed_at level (take (length bytes - taken) (drop taken bytes)) ≡ Some rest
    → close_at level bytes ≡ behind (take taken bytes) (close_at level (drop taken bytes)) → Some (take taken bytes, rest) ≡ close_at level bytes
found_here level taken bytes rest found so_far =
    let e : closed_at level (drop taken bytes) ≡ Some rest = ap (closed_at level) (sym (whole_rest taken bytes)) ∙ found in
    sym (so_far ∙ ap (behind (take taken bytes)) (close_step level (drop taken bytes) rest e) ∙ ap (λ (f : List ℕ). Some (f, rest)) (append-nil (take taken bytes)))

pub goes_on : (level taken : ℕ) (bytes : List ℕ) → taken < length bytes → closed_at level (take (length bytes - taken) (drop taken bytes)) ≡ None
    → close_at level bytes ≡ behind (take taken bytes) (close_at level (drop taken bytes))
    → close_at level bytes ≡ behind (take (taken + 1) bytes) (close_at level (drop (taken + 1) bytes))
goes_on level taken bytes lt none so_far =
    let e : closed_at level (drop taken bytes) ≡ None = ap (closed_at level) (sym (whole_rest taken bytes)) ∙ none in
    let cut = drop-cons bytes taken 0 lt in
    let next = close_pass level (get_or bytes taken 0) (drop (suc taken) bytes) (rw cut at e) in
    so_far ∙ ap (λ (l : List ℕ). behind (take taken bytes) (close_at level l)) cut ∙ ap (behind (take taken bytes)) next
    ∙ behind-longer (take taken bytes) (get_or bytes taken 0) (close_at level (drop (suc taken) bytes))
    ∙ ap (λ (f : List ℕ). behind f (close_at level (drop (suc taken) bytes))) (sym (take-suc bytes taken 0 lt))
    ∙ ap (λ (k : ℕ). behind (take k bytes) (close_at level (drop k bytes))) (sym (add-one taken))
