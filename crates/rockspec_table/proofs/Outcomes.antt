-- Globals have one outcome at most, besides want of memory.
use Rattle.std.proofs.Common.{◌≡◌, ◌≢◌, ℕ, inl, inr, List, Some, Result, Ok, Err, refl, sym, ap, ◌∙◌, subst}
use Rattle.std.proofs.lemmas.Bool.{cases_order}
use Rattle.std.specs.List.{slice_get}
use Rattle.lua_value.specs.Pairs.{Pairs}
use Rattle.schema_table.specs.declared.row.Row.{Row}
use Rattle.schema_table.specs.declared.row.Format.{Format}
use Rattle.schema_table.specs.declared.fault.ShapeFault.{ShapeFault}
use Rattle.schema_table.specs.declared.fault.ShapeFault.TheVariants as shape
use Rattle.schema_table.specs.Checks.{Checks}
use Rattle.schema_table.proofs.Answered.{one}
use Rattle.rockspec_table.specs.declared.fault.TableFault.{TableFault}
use Rattle.rockspec_table.specs.declared.fault.TableFault.TheVariants.{BadFormat, BadPlatforms, Shape, NoMemory}
use Rattle.rockspec_table.specs.Fields.{AreMerged, FitsRockspec, IsMisfit, HasFields, HasMisfit, IsTableFault}
use Rattle.rockspec_table.specs.Platforms.{platform_fields, IsFirstBadField}
use Rattle.rockspec_table.specs.Rows.{AreRockspecRows}
use Rattle.rockspec_table.proofs.Alike.{checks_alike}

-- the answers of rows that say the same are the same
same_answer : (rows others : List Row) (table : Pairs) (format : Format) (r s : Result (Unit {0}) ShapeFault) →
    AreRockspecRows rows → AreRockspecRows others → Checks rows table format r → Checks others table format s →
    r ≢ Err shape.NoMemory → s ≢ Err shape.NoMemory → r ≡ s
same_answer rows others table format r s are others_are a b told also =
    one rows table format r s a
    (checks_alike others rows (record { rules = others_are ∙ sym are }) table format s b) told also

one_misfit : (table : Pairs) (format : Format) (fault other : ShapeFault) → IsMisfit table format fault →
    IsMisfit table format other → fault ≡ other
one_misfit table format fault other m n =
    let failed : Result (Unit {0}) ShapeFault = Err fault in
    let failed_too : Result (Unit {0}) ShapeFault = Err other in
    let same : failed ≡ failed_too =
    same_answer m.rows n.rows table format failed failed_too m.are n.are m.checks n.checks
    (λ e. m.told (let s = e in cc)) (λ e. n.told (let s = e in cc)) in
    cc

fits_alone : (table : Pairs) (format : Format) (fault : ShapeFault) → FitsRockspec table format →
    ¬ IsMisfit table format fault
fits_alone table format fault f m =
    let fitted : Result (Unit {0}) ShapeFault = Ok tt in
    let failed : Result (Unit {0}) ShapeFault = Err fault in
    let same : fitted ≡ failed = same_answer f.rows m.rows table format fitted failed f.are m.are f.fits m.checks
    (λ e. cc) (λ e. m.told (let s = e in cc)) in
    cc

module _ (globals : Pairs) where
  pub one_merged : (format other : Format) (table found : Pairs) → AreMerged globals format table →
      AreMerged globals other found → (format ≡ other) × (table ≡ found)
  one_merged format other table found m n =
      let said : Some format ≡ Some other = sym m.said ∙ n.said in
      (cc, m.merged ∙ sym n.merged)

  one_field : (name other : List ℕ) → IsFirstBadField globals name → IsFirstBadField globals other → name ≡ other
  one_field name other a b = elim (cases_order a.number b.number) [
    | inl same ↦
        let found : Some name ≡ Some other = sym a.here.is ∙ ap (slice_get platform_fields) same ∙ b.here.is in
        cc
    | inr (inl below) ↦ absurd (b.first a.number name below a.here)
    | inr (inr above) ↦ absurd (a.first b.number other above b.here)
  ]

  one_shape : (fault other : ShapeFault) → HasMisfit globals fault → HasMisfit globals other → fault ≡ other
  one_shape fault other a b =
      let same = one_merged a.format b.format a.table b.table a.merged b.merged in
      one_misfit b.table b.format fault other
      (subst (λ t. IsMisfit t b.format fault) same.1 (subst (λ f. IsMisfit a.table f fault) same.0 a.misfit)) b.misfit

  pub one_fault : (fault other : TableFault) → fault ≢ NoMemory → other ≢ NoMemory → IsTableFault globals fault →
      IsTableFault globals other → fault ≡ other
  one_fault NoMemory other told also a b = absurd (told refl)
  one_fault fault NoMemory told also a b = absurd (also refl)
  one_fault BadFormat BadFormat told also a b = refl
  one_fault BadFormat (BadPlatforms field) told also a b = let clash = sym a ∙ b.said in cc
  one_fault BadFormat (Shape fault) told also a b = let clash = sym a ∙ b.merged.said in cc
  one_fault (BadPlatforms field) BadFormat told also a b = let clash = sym b ∙ a.said in cc
  one_fault (BadPlatforms field) (BadPlatforms name) told also a b =
      ap BadPlatforms (one_field field name a.first b.first)
  one_fault (BadPlatforms field) (Shape fault) told also a b =
      absurd (b.merged.platforms a.first.number field a.first.here)
  one_fault (Shape fault) BadFormat told also a b = let clash = sym b ∙ a.merged.said in cc
  one_fault (Shape fault) (BadPlatforms field) told also a b =
      absurd (a.merged.platforms b.first.number field b.first.here)
  one_fault (Shape fault) (Shape other) told also a b = ap Shape (one_shape fault other a b)

  pub no_fault : (format : Format) (table : Pairs) (fault : TableFault) → fault ≢ NoMemory →
      HasFields globals format table → ¬ IsTableFault globals fault
  no_fault format table NoMemory told f a = told refl
  no_fault format table BadFormat told f a = let clash = sym a ∙ f.merged.said in cc
  no_fault format table (BadPlatforms field) told f a = f.merged.platforms a.first.number field a.first.here
  no_fault format table (Shape fault) told f a =
      let same = one_merged a.format format a.table table a.merged f.merged in
      fits_alone table format fault f.fits
      (subst (λ t. IsMisfit t format fault) same.1 (subst (λ f. IsMisfit a.table f fault) same.0 a.misfit))
