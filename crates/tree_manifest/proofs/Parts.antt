-- What is found in lines that are printed.
use Rattle.std.proofs.Common.{◌≡◌, ℕ, ◌+◌, ◌-◌, List, [], ◌∷◌, ◌++◌, length, take, drop, refl, sym, ap, ◌∙◌, true, cond, not, ◌==◌, nat_lt, codes, arith, append_assoc, length-append}
use Rattle.std.specs.Prelude.{nat_eq, slice_range}
use Rattle.std.specs.List.{ends_with, filter, flat_map, list_all, prefix_len}
use lib.Pointwise.{pointwise}
use Rattle.std.proofs.lemmas.Bool.{and_parts, cond-false, le-ltb}
use Rattle.std.proofs.lemmas.Bool.Decides.{nat_tests}
use Rattle.std.proofs.lemmas.List.{take_at, drop_at}
use Rattle.lua_print.specs.Printed.{key_text as entry_key}
use Rattle.lua_print.specs.Quoted.{escaped}
use Rattle.lua_value.specs.declared.key.Key.TheVariants.{Text}
use Rattle.rock_manifest.specs.Reading.{path_in}
use Rattle.rock_manifest.proofs.Finding.{path_again}
use Rattle.rock_manifest.proofs.Pieces.{unescaped}
use Rattle.rocks_text.specs.Texts.{is_name_byte}
use Rattle.rocks_version.specs.declared.key.RockKey.{RockKey}
use Rattle.manifest_text.specs.Text.{key_text}
use Rattle.manifest_text.specs.Views.{IsRockKey}
use Rattle.tree_manifest.specs.Forms.{empty_at, opening, text_line}
use Rattle.tree_manifest.specs.Reading.{key_of, text_of}
use Rattle.tree_manifest.proofs.Bytes.{are_part_bytes, name_alone}
use Rattle.tree_manifest.proofs.Nth.{take_all}

-- what stands before the last bytes
before_end : (text end : List ℕ) (n : ℕ) → n ≡ length end
    → slice_range (text ++ end) 0 (length (text ++ end) - n) ≡ text
before_end text end n e = take_at text end (length (text ++ end) - n - 0) (omega (arith, length-append text end))

-- what stands between the first bytes and the last
between : (start text end : List ℕ) (m n : ℕ) → m ≡ length start → n ≡ length end
    → slice_range (start ++ (text ++ end)) m (length (start ++ (text ++ end)) - n) ≡ text
between start text end m n s e =
    ap (λ (l : List ℕ). take (length (start ++ (text ++ end)) - n - m) l) (drop_at start (text ++ end) m (sym s))
    ∙ take_at text end (length (start ++ (text ++ end)) - n - m)
    (omega (arith, length-append start (text ++ end), length-append text end))

-- ---- keys

-- whether it ends with a comma
last_byte : (text : List ℕ) (b : ℕ) → drop (length (text ++ b ∷ []) - 1) (text ++ b ∷ []) ≡ b ∷ []
last_byte text b = drop_at text (b ∷ []) (length (text ++ b ∷ []) - 1) (omega (arith, length-append text (b ∷ [])))

opened : (x : List ℕ) → key_of (x ++ codes "{") ≡ path_in x
unfolding key_of
opened x =
    let line = x ++ codes "{" in
    ap (λ (d : List ℕ). path_in (slice_range line 0 (length line - cond (pointwise nat_eq (codes ",") d) 3 1)))
    (last_byte x 123)
    ∙ ap path_in (before_end x (codes "{") 1 refl)

comma_ends : (x : List ℕ) → ends_with nat_eq (x ++ codes "{},") (codes ",") ≡ true
comma_ends x =
    ap (λ (l : List ℕ). ends_with nat_eq l (codes ",")) (sym (append_assoc x (codes "{}") (codes ",")))
    ∙ ap (pointwise nat_eq (codes ",")) (last_byte (x ++ codes "{}") 44)

emptied : (x : List ℕ) → key_of (x ++ codes "{},") ≡ path_in x
unfolding key_of
emptied x =
    let line = x ++ codes "{}," in
    ap (λ t. path_in (slice_range line 0 (length line - cond t 3 1))) (comma_ends x)
    ∙ ap path_in (before_end x (codes "{},") 3 refl)

pub opening_again : (key : List ℕ) → are_part_bytes key ≡ true → key_of (opening key) ≡ key
opening_again key bytes = opened (entry_key (Text key)) ∙ path_again key bytes

pub empty_again : (key : List ℕ) → are_part_bytes key ≡ true → key_of (empty_at key) ≡ key
empty_again key bytes = emptied (entry_key (Text key)) ∙ path_again key bytes

-- ---- texts

pub text_again : (front text : List ℕ) (n : ℕ) → n ≡ length front → are_part_bytes text ≡ true
    → text_of n (text_line front text) ≡ text
unfolding text_of
text_again front text n e bytes =
    let inner = flat_map escaped text in
    let line = text_line front text in
    let regrouped : (front ++ 34 ∷ []) ++ (inner ++ codes "\",") ≡ line = simp append_assoc in
    let size : length line ≡ length front + 1 + length inner + 2 =
    ap length (sym regrouped) ∙ omega (arith, length-append (front ++ 34 ∷ []) (inner ++ codes "\","), length-append front (34 ∷ []), length-append inner (codes "\",")) in
    cond-false (nat_lt (length line) (n + 3)) [] (filter (λ b. not (b == 92)) (slice_range line (n + 1) (length line - 2)))
    (le-ltb (length line) (n + 3) (omega arith))
    ∙ ap (λ (l : List ℕ). filter (λ b. not (b == 92)) (slice_range l (n + 1) (length l - 2))) (sym regrouped)
    ∙ ap (λ (l : List ℕ). filter (λ b. not (b == 92)) l)
    (between (front ++ 34 ∷ []) inner (codes "\",") (n + 1) 2 (omega (arith, length-append front (34 ∷ []))) refl)
    ∙ unescaped text bytes

-- ---- names and versions

no_slash : (b : ℕ) → is_name_byte b ≡ true → not (b == 47) ≡ true
no_slash b is = grind (arith, nat_tests)

stops : (name rest : List ℕ) → list_all is_name_byte name ≡ true
    → prefix_len (λ b. not (b == 47)) (name ++ 47 ∷ rest) ≡ length name
stops [] rest all = refl
stops (b ∷ name) rest all =
    let h = and_parts (is_name_byte b) (list_all is_name_byte name) all in
    ap (λ t. cond t (1 + prefix_len (λ c. not (c == 47)) (name ++ 47 ∷ rest)) 0) (no_slash b h.0)
    ∙ ap (λ n. 1 + n) (stops name rest h.1) ∙ omega arith

pub slash_at : (key : RockKey) → IsRockKey key → prefix_len (λ b. not (b == 47)) (key_text key) ≡ length key.name
slash_at key is = stops key.name key.version (name_alone key.name is.0)

pub name_before : (key : RockKey) (n : ℕ) → n ≡ length key.name → take n (key_text key) ≡ key.name
name_before key n e = take_at key.name (codes "/" ++ key.version) n (sym e)

pub version_behind : (key : RockKey) (n : ℕ) → n ≡ length key.name → drop (n + 1) (key_text key) ≡ key.version
version_behind key n e =
    ap (drop (n + 1)) (sym (append_assoc key.name (codes "/") key.version))
    ∙ drop_at (key.name ++ codes "/") key.version (n + 1) (omega (arith, length-append key.name (codes "/")))

pub version_last : (key : RockKey) (n : ℕ) → n ≡ length key.name
    → slice_range (key_text key) (n + 1) (length (key_text key)) ≡ key.version
version_last key n e =
    ap (take (length (key_text key) - (n + 1))) (version_behind key n e)
    ∙ take_all key.version (length (key_text key) - (n + 1))
    (omega (arith, length-append key.name (codes "/" ++ key.version), length-append (codes "/") key.version))
