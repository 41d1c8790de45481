-- Items read one after another: how much is enough, and that what is read is what stands there.
use Rattle.std.proofs.Common.{◌≡◌, ℕ, zero, suc, ◌<◌, List, [], ◌∷◌, ◌++◌, length, Option, Some, None, Ok, Err, refl, sym, ap, subst, ◌∙◌, append_assoc, map, arith}
use Rattle.std.specs.List.{flat_map}
use Rattle.lua_lexer.specs.declared.stop.Cause.{Cause}
use Rattle.lua_lexer.specs.declared.stop.Cause.TheVariants as causes
use Rattle.lua_lexer.specs.Turns.{InTurn}
use Rattle.lua_lexer.specs.Reading.{Outcome, ahead, items_by, items_for, items}
use Rattle.lua_lexer.proofs.Choices.{ok_is, err_is}

-- each item takes something
abbrev pub Shrinks : {V : Type 0} → (List ℕ → Outcome (Option V × List ℕ)) → Type 0
Shrinks {V} item_at = (bytes : List ℕ) (v : V) (rest : List ℕ) → item_at bytes ≡ Ok (Some v, rest) → length rest < length bytes

-- two continuations that agree on what is shorter lead to the same
by_same : {V : Type 0} (f g : List ℕ → Outcome (List V × List ℕ)) (bytes : List ℕ) (read : Outcome (Option V × List ℕ))
    → ((v : V) (rest : List ℕ) → read ≡ Ok (Some v, rest) → f rest ≡ g rest) → items_by f read ≡ items_by g read
by_same f g bytes (Err e) same = refl
by_same f g bytes (Ok (None, rest)) same = refl
by_same f g bytes (Ok (Some v, rest)) same = ap (ahead v) (same v rest refl)

pub enough : {V : Type 0} (item_at : List ℕ → Outcome (Option V × List ℕ)) → Shrinks item_at
    → (n m : ℕ) (bytes : List ℕ) → length bytes < n → length bytes < m → items_for item_at n bytes ≡ items_for item_at m bytes
unfolding items_for
enough item_at shrinks zero m bytes lt lt' = absurd (omega arith)
enough item_at shrinks (suc n) zero bytes lt lt' = absurd (omega arith)
enough item_at shrinks (suc n) (suc m) bytes lt lt' =
    by_same (λ rest. items_for item_at n rest) (λ rest. items_for item_at m rest) bytes (item_at bytes)
    (λ v rest e. let shorter = shrinks bytes v rest e in enough item_at shrinks n m rest (omega arith) (omega arith))

-- the first item, and then the others
pub unroll : {V : Type 0} (item_at : List ℕ → Outcome (Option V × List ℕ)) → Shrinks item_at
    → (bytes : List ℕ) → items item_at bytes ≡ items_by (items item_at) (item_at bytes)
unfolding items items_for
unroll item_at shrinks bytes =
    by_same (λ rest. items_for item_at (length bytes) rest) (items item_at) bytes (item_at bytes)
    (λ v rest e. let shorter = shrinks bytes v rest e in enough item_at shrinks (length bytes) (suc (length rest)) rest shorter (omega arith))

-- what item_at reads are these items, each as seen
pub record IsReading {X V : Type 0} (bytes_of : X → List ℕ) (Fits : X → List ℕ → Type 0) (seen : X → V) (item_at : List ℕ → Outcome (Option V × List ℕ)) : Type 0 where
  pub shrinks : Shrinks item_at
  pub sound : (bytes : List ℕ) (v : V) (rest : List ℕ) → item_at bytes ≡ Ok (Some v, rest) → (x : X) × (bytes ≡ bytes_of x ++ rest) × Fits x rest × (v ≡ seen x)
  pub reads : (x : X) (rest : List ℕ) → Fits x rest → item_at (bytes_of x ++ rest) ≡ Ok (Some (seen x), rest)

-- items stand one after another up to a place
pub record Stand {X V : Type 0} (bytes_of : X → List ℕ) (Fits : X → List ℕ → Type 0) (seen : X → V) (bytes : List ℕ) (vs : List V) (mid : List ℕ) : Type 0 where
  pub list : List X
  pub spelled : bytes ≡ flat_map bytes_of list ++ mid
  pub in_turn : InTurn bytes_of Fits list mid
  pub are : vs ≡ map seen list

abbrev pub fronted : {V : Type 0} → List V → Outcome (List V × List ℕ) → Outcome (List V × List ℕ)
fronted [] read = read
fronted (v ∷ vs) read = ahead v (fronted vs read)

module _ {X V : Type 0} (bytes_of : X → List ℕ) (Fits : X → List ℕ → Type 0) (seen : X → V) (item_at : List ℕ → Outcome (Option V × List ℕ)) (reading : IsReading bytes_of Fits seen item_at) where
  stand_none : (bytes : List ℕ) → Stand bytes_of Fits seen bytes [] bytes
  stand_none bytes = record { list = []; spelled = refl; in_turn = tt; are = refl }

  stand_more : (bytes : List ℕ) (v : V) (rest : List ℕ) (vs : List V) (mid : List ℕ) → item_at bytes ≡ Ok (Some v, rest) → Stand bytes_of Fits seen rest vs mid → Stand bytes_of Fits seen bytes (v ∷ vs) mid
  stand_more bytes v rest vs mid e s =
      let f = reading.sound bytes v rest e in
      record {
        list = f.0 ∷ s.list;
        spelled = f.1 ∙ ap (λ (l : List ℕ). bytes_of f.0 ++ l) s.spelled ∙ sym (append_assoc (bytes_of f.0) (flat_map bytes_of s.list) mid);
        in_turn = (subst (λ (l : List ℕ). Fits f.0 l) s.spelled f.2, s.in_turn);
        are = ap (λ (w : V). w ∷ vs) f.3 ∙ ap (λ (ws : List V). seen f.0 ∷ ws) s.are;
      }

  pub record ReadTo (bytes : List ℕ) (x : List V × List ℕ) : Type 0 where
    pub mid : List ℕ
    pub stand : Stand bytes_of Fits seen bytes x.0 mid
    pub ended : item_at mid ≡ Ok (None, x.1)

  pub record StuckAt (bytes : List ℕ) (e : Cause × ℕ) : Type 0 where
    pub mid : List ℕ
    pub before : List V
    pub stand : Stand bytes_of Fits seen bytes before mid
    pub stuck : item_at mid ≡ Err e

  abbrev Outcome-of : Type 0
  Outcome-of = Outcome (List V × List ℕ)

  gave : List V × List ℕ → Outcome-of
  gave x = Ok x

  more_read : (n : ℕ) (bytes : List ℕ) (v : V) (rest : List ℕ) (x : List V × List ℕ) → item_at bytes ≡ Ok (Some v, rest)
      → (read : Outcome-of) → ((y : List V × List ℕ) → read ≡ Ok y → ReadTo rest y) → ahead v read ≡ Ok x → ReadTo bytes x
  more_read n bytes v rest x e (Ok y) others e' =
      let r = others y refl in
      let made : List V × List ℕ = (v ∷ y.0, y.1) in
      subst (λ (z : List V × List ℕ). ReadTo bytes z) (ok_is (causes.BadByte, 0) made x e') (record { mid = r.mid; stand = stand_more bytes v rest y.0 r.mid e r.stand; ended = r.ended })
  more_read n bytes v rest x e (Err d) others e' = absurd cc

  item_read : (bytes : List ℕ) (others : List ℕ → Outcome-of) (x : List V × List ℕ) (read : Outcome (Option V × List ℕ)) → item_at bytes ≡ read
      → ((v : V) (rest : List ℕ) → item_at bytes ≡ Ok (Some v, rest) → (y : List V × List ℕ) → others rest ≡ Ok y → ReadTo rest y)
      → items_by others read ≡ Ok x → ReadTo bytes x
  item_read bytes others x (Err d) e ih e' = absurd cc
  item_read bytes others x (Ok (None, rest)) e ih e' =
      let made : List V × List ℕ = ([], rest) in
      subst (λ (z : List V × List ℕ). ReadTo bytes z) (ok_is (causes.BadByte, 0) made x e') (record { mid = bytes; stand = stand_none bytes; ended = e })
  item_read bytes others x (Ok (Some v, rest)) e ih e' = more_read 0 bytes v rest x e (others rest) (ih v rest e) e'

  read_for : (n : ℕ) (bytes : List ℕ) (x : List V × List ℕ) → length bytes < n → items_for item_at n bytes ≡ Ok x → ReadTo bytes x
  unfolding items_for
  read_for zero bytes x lt e = absurd (omega arith)
  read_for (suc n) bytes x lt e =
      item_read bytes (λ rest. items_for item_at n rest) x (item_at bytes) refl
      (λ v rest found y e'. let shorter = reading.shrinks bytes v rest found in read_for n rest y (omega arith) e') e

  pub read_sound : (bytes : List ℕ) (x : List V × List ℕ) → items item_at bytes ≡ Ok x → ReadTo bytes x
  unfolding items
  read_sound bytes x e = read_for (suc (length bytes)) bytes x (omega arith) e

  more_stuck : (bytes : List ℕ) (v : V) (rest : List ℕ) (d : Cause × ℕ) → item_at bytes ≡ Ok (Some v, rest)
      → (read : Outcome-of) → ((f : Cause × ℕ) → read ≡ Err f → StuckAt rest f) → ahead v read ≡ Err d → StuckAt bytes d
  more_stuck bytes v rest d e (Ok y) others e' = absurd cc
  more_stuck bytes v rest d e (Err f) others e' =
      let r = others f refl in
      let none : List V × List ℕ = ([], []) in
      subst (λ (z : Cause × ℕ). StuckAt bytes z) (err_is none f d e') (record { mid = r.mid; before = v ∷ r.before; stand = stand_more bytes v rest r.before r.mid e r.stand; stuck = r.stuck })

  item_stuck : (bytes : List ℕ) (others : List ℕ → Outcome-of) (d : Cause × ℕ) (read : Outcome (Option V × List ℕ)) → item_at bytes ≡ read
      → ((v : V) (rest : List ℕ) → item_at bytes ≡ Ok (Some v, rest) → (f : Cause × ℕ) → others rest ≡ Err f → StuckAt rest f)
      → items_by others read ≡ Err d → StuckAt bytes d
  item_stuck bytes others d (Err f) e ih e' =
      let none : List V × List ℕ = ([], []) in
      subst (λ (z : Cause × ℕ). StuckAt bytes z) (err_is none f d e') (record { mid = bytes; before = []; stand = stand_none bytes; stuck = e })
  item_stuck bytes others d (Ok (None, rest)) e ih e' = absurd cc
  item_stuck bytes others d (Ok (Some v, rest)) e ih e' = more_stuck bytes v rest d e (others rest) (ih v rest e) e'

  stuck_for : (n : ℕ) (bytes : List ℕ) (d : Cause × ℕ) → length bytes < n → items_for item_at n bytes ≡ Err d → StuckAt bytes d
  unfolding items_for
  stuck_for zero bytes d lt e = absurd (omega arith)
  stuck_for (suc n) bytes d lt e =
      item_stuck bytes (λ rest. items_for item_at n rest) d (item_at bytes) refl
      (λ v rest found f e'. let shorter = reading.shrinks bytes v rest found in stuck_for n rest f (omega arith) e') e

  pub read_stuck : (bytes : List ℕ) (d : Cause × ℕ) → items item_at bytes ≡ Err d → StuckAt bytes d
  unfolding items
  read_stuck bytes d e = stuck_for (suc (length bytes)) bytes d (omega arith) e

  pub read_again : (list : List X) (mid : List ℕ) → InTurn bytes_of Fits list mid → items item_at (flat_map bytes_of list ++ mid) ≡ fronted (map seen list) (items item_at mid)
  read_again [] mid in_turn = refl
  read_again (x ∷ xs) mid in_turn =
      let regrouped : flat_map bytes_of (x ∷ xs) ++ mid ≡ bytes_of x ++ (flat_map bytes_of xs ++ mid) = append_assoc (bytes_of x) (flat_map bytes_of xs) mid in
      ap (items item_at) regrouped ∙ unroll item_at reading.shrinks (bytes_of x ++ (flat_map bytes_of xs ++ mid))
      ∙ ap (items_by (items item_at)) (reading.reads x (flat_map bytes_of xs ++ mid) in_turn.0)
      ∙ ap (ahead (seen x)) (read_again xs mid in_turn.1)
