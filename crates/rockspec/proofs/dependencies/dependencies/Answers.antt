use Rattle.std.proofs.Common.{◌≡◌, ◌++◌, ◌+◌, List, ℕ, ◌∙◌, ap, sym, subst, inl, inr, ⊎_elim, length, arith, append_assoc, length-append, min}
use Rattle.std.proofs.lemmas.List.{length-map}
use Rattle.std.proofs.lemmas.Result.{err_from_is_err_and}
use Rattle.std.specs.Borrow.{Bor}
use Rattle.rockspec.specs.declared.fault.SpecFault.{SpecFault}
use Rattle.rockspec.specs.Bad.{AreGood, IsBadFrom}
use Rattle.rockspec.specs.Fields.{told}
use Rattle.rockspec.proofs.Several.{behind, both_good, in_front, nows, read_good}
use Rattle.rockspec.proofs.dependencies.dependencies.Goals as goal

module _ (own_refs build_refs test_refs : List (Bor (List ℕ))) (own build test : List (List ℕ))
    (own_are : nows own_refs ≡ own) (build_are : nows build_refs ≡ build) (test_are : nows test_refs ≡ test) where
  own_bad : (fault : SpecFault) → IsBadFrom (nows own_refs) 0 fault → IsBadFrom (own ++ (build ++ test)) 0 fault
  own_bad fault bad = in_front own (build ++ test) 0 fault (subst (λ texts. IsBadFrom texts 0 fault) own_are bad)

  build_bad : (before : ℕ) (fault : SpecFault) → AreGood (nows own_refs) → before ≡ length own_refs
      → IsBadFrom (nows build_refs) before fault → IsBadFrom (own ++ (build ++ test)) 0 fault
  build_bad before fault good is bad =
      let size : length (nows own_refs) ≡ length own_refs = length-map own_refs _ in
      let sized : length own ≡ before = ap length (sym own_are) ∙ size ∙ sym is in
      behind own (build ++ test) before fault (subst AreGood own_are good) (λ place. ap (λ n. told (n + place)) (sym sized))
      (in_front build test before fault (subst (λ texts. IsBadFrom texts before fault) build_are bad))

  test_bad : (before : ℕ) (fault : SpecFault) → AreGood (nows own_refs) → AreGood (nows build_refs)
      → before ≡ min (length own_refs + length build_refs) 18446744073709551615
      → IsBadFrom (nows test_refs) before fault → IsBadFrom (own ++ (build ++ test)) 0 fault
  test_bad before fault good good_build is bad =
      let own_size : length own ≡ length own_refs = ap length (sym own_are) ∙ length-map own_refs _ in
      let build_size : length build ≡ length build_refs = ap length (sym build_are) ∙ length-map build_refs _ in
      let size : length (own ++ build) ≡ length own_refs + length build_refs = length-append own build ∙ ap (λ n. n + length build) own_size ∙ ap (λ n. length own_refs + n) build_size in
      subst (λ texts. IsBadFrom texts 0 fault) (append_assoc own build test)
      (behind (own ++ build) test before fault (both_good own build (subst AreGood own_are good) (subst AreGood build_are good_build))
      (λ place. omega (arith, is, size))
      (subst (λ texts. IsBadFrom texts before fault) test_are bad))

  all_good : AreGood (nows own_refs) → AreGood (nows build_refs) → AreGood (nows test_refs) → AreGood (own ++ (build ++ test))
  all_good good good_build good_test =
      both_good own (build ++ test) (subst AreGood own_are good)
      (both_good build test (subst AreGood build_are good_build) (subst AreGood test_are good_test))

pub returns-in_err-read-clause-fault : goal.returns-in_err-read-clause-fault
returns-in_err-read-clause-fault c =
    let p = err_from_is_err_and c.from_residual-in_err-read.result c.from_residual-in_err-read.ensures.1 in
    let own = ap nows c.deref.ensures.value ∙ c.in_ok-own.ensures in
    rw (p.1, p.2) (⊎_elim inl (λ bad. inr (own_bad c.deref.result.now c.in_ok-to_build.to_build.items c.in_ok-to_test.to_test.items _ _ _ own c.in_ok-to_build.ensures c.in_ok-to_test.ensures _ bad)) c.in_err-read.ensures.fault)

pub returns-in_err-read_all-clause-fault : goal.returns-in_err-read_all-clause-fault
returns-in_err-read_all-clause-fault c =
    let p = err_from_is_err_and c.from_residual-in_err-read_all.result c.from_residual-in_err-read_all.ensures.1 in
    let own = ap nows c.deref.ensures.value ∙ c.in_ok-own.ensures in
    let build = ap nows c.deref-2.ensures.value ∙ c.in_ok-to_build.ensures in
    rw (p.1, p.2) (⊎_elim inl (λ bad. inr (build_bad c.deref.result.now c.deref-2.result.now c.in_ok-to_test.to_test.items _ _ _ own build c.in_ok-to_test.ensures
    c.len.result _ (read_good _ _ c.in_ok-read.ensures.read) (omega (arith, c.len.ensures, ap length c.deref.ensures.value)) bad)) c.in_err-read_all.ensures.fault)

pub returns-in_err-read_all-2-clause-fault : goal.returns-in_err-read_all-2-clause-fault
returns-in_err-read_all-2-clause-fault c =
    let p = err_from_is_err_and c.from_residual-in_err-read_all-2.result c.from_residual-in_err-read_all-2.ensures.1 in
    let own = ap nows c.deref.ensures.value ∙ c.in_ok-own.ensures in
    let build = ap nows c.deref-2.ensures.value ∙ c.in_ok-to_build.ensures in
    let test = ap nows c.deref-3.ensures.value ∙ c.in_ok-to_test.ensures in
    rw (p.1, p.2) (⊎_elim inl (λ bad. inr (test_bad c.deref.result.now c.deref-2.result.now c.deref-3.result.now _ _ _ own build test
    c.saturating_add.result _ (read_good _ _ c.in_ok-read.ensures.read) (read_good _ _ c.in_ok-read_all.ensures.read)
    (omega (arith, c.saturating_add.ensures, c.len-2.ensures, c.len-3.ensures, ap length c.deref.ensures.value, ap length c.deref-2.ensures.value)) bad)) c.in_err-read_all-2.ensures.fault)

pub returns-clause-good : goal.returns-clause-good
returns-clause-good c =
    let own = ap nows c.deref.ensures.value ∙ c.in_ok-own.ensures in
    let build = ap nows c.deref-2.ensures.value ∙ c.in_ok-to_build.ensures in
    let test = ap nows c.deref-3.ensures.value ∙ c.in_ok-to_test.ensures in
    all_good c.deref.result.now c.deref-2.result.now c.deref-3.result.now _ _ _ own build test
    (read_good _ _ c.in_ok-read.ensures.read) (read_good _ _ c.in_ok-read_all.ensures.read) (read_good _ _ c.in_ok-read_all-2.ensures.read)
