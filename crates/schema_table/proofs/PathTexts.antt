-- The text of a path, key by key.
use Rattle.std.proofs.Common.{◌≡◌, ℕ, zero, suc, ◌+◌, ◌<◌, ◌≤◌, List, [], ◌∷◌, ◌++◌, length, get_or, map, take, sym, ap}
use Rattle.std.proofs.Common.{◌∙◌, arith}
use Rattle.std.proofs.lemmas.List.{map-append, take_more}
use Rattle.std.specs.Borrow.{Bor}
use Rattle.std.specs.List.{join_with_byte}
use Rattle.lua_value.specs.declared.key.Key.{Key}
use Rattle.schema_table.specs.Paths.{referents, key_text, path_text}
use Rattle.schema_table.proofs.Lists.{referents-last, join-last}

-- the text of the first keys of a path
abbrev pub text_before : List (Bor Key) → ℕ → List ℕ
text_before path at = path_text (referents (take at path))

path_text-last : (first : Key) (path : List Key) (key : Key) →
    path_text ((first ∷ path) ++ key ∷ []) ≡ (path_text (first ∷ path) ++ 46 ∷ []) ++ key_text key
path_text-last first path key =
    ap (λ texts. join_with_byte 46 texts) (map-append key_text (first ∷ path) (key ∷ []))
    ∙ join-last 46 (key_text first) (map key_text path) (key_text key)

taken : (path : List (Bor Key)) (at : ℕ) (key : Bor Key) → at < length path → key ≡ get_or path at key →
    referents (take (at + 1) path) ≡ referents (take at path) ++ key.now ∷ []
taken path at key lt e =
    referents-last (take (at + 1) path) (take at path) key (take_more path at key lt
    ∙ ap (λ k. take at path ++ k ∷ []) (sym e))

pub text_first : (path : List (Bor Key)) (at : ℕ) (key : Bor Key) → at ≤ 0 → at < length path →
    key ≡ get_or path at key → text_before path (at + 1) ≡ text_before path at ++ key_text key.now
text_first path zero key first lt e = ap path_text (taken path 0 key lt e)
text_first path (suc at) key first lt e = absurd (omega arith)

pub text_more : (path : List (Bor Key)) (at : ℕ) (key : Bor Key) → 0 < at → at < length path →
    key ≡ get_or path at key → text_before path (at + 1) ≡ (text_before path at ++ 46 ∷ []) ++ key_text key.now
text_more [] at key some lt e = absurd (omega arith)
text_more (first ∷ rest) zero key some lt e = absurd (omega arith)
text_more (first ∷ rest) (suc at) key some lt e =
    ap path_text (taken (first ∷ rest) (suc at) key lt e) ∙ path_text-last first.now (referents (take at rest)) key.now
