-- Which fault of a rockspec comes first, and that bytes come to one thing.
use Rattle.std.proofs.Common.{◌≡◌, ◌≢◌, ◌≤◌, ◌⊎◌, ℕ, true, false, List, refl, sym, ◌∙◌, arith, inl, inr, length, ⊎_elim, subst, Result, Ok, Err}
use Rattle.std.specs.Prelude.{IfOk, IfErr}
use Rattle.lua_text.proofs.One.{one_outcome}
use Rattle.lua_text.specs.declared.fault.EvalFailed.{EvalFailed}
use Rattle.lua_text.specs.declared.fault.EvalFailed.TheVariants as failed
use Rattle.lua_text.specs.Outcomes.{HasOutcome}
use Rattle.lua_value.specs.Pairs.{Pairs}
use Rattle.rocks_constraint.proofs.FaultLaws.{no_fault as not_both}
use Rattle.rocks_constraint.specs.declared.fault.DependencyFault.{DependencyFault}
use Rattle.rocks_text.specs.Texts.{is_name}
use Rattle.rocks_version.specs.Texts.{is_rock_version}
use Rattle.rockspec_table.proofs.Outcomes.{one_merged, one_fault, no_fault}
use Rattle.rockspec_table.specs.declared.fault.TableFault.{TableFault}
use Rattle.rockspec_table.specs.declared.fault.TableFault.TheVariants as table
use Rattle.rockspec_table.specs.Fields.{HasFields, IsTableFault}
use Rattle.schema_table.specs.declared.row.Format.{Format}
use Rattle.rockspec.specs.declared.fault.SpecFault.{SpecFault}
use Rattle.rockspec.specs.declared.fault.SpecFault.TheVariants as spec
use Rattle.rockspec.specs.declared.read.Rockspec.{Rockspec}
use Rattle.rockspec.specs.declared.read.TheConstants.{LONGEST_ROCKSPEC}
use Rattle.rockspec.specs.Bad.{AreGood}
use Rattle.rockspec.specs.Fields.{dependency_texts, is_supported, rock_name, rock_version, HasFieldFault, IsFirstBad, here, later}
use Rattle.rockspec.specs.Reading.{fault_of_table, HasNoFieldFault, IsFirstOfFields}
use Rattle.rockspec.specs.Specs.{fault_rank, AreFieldsOf, HasSpecFault, HaveBadField, HaveBadTable, IsFirstSpecFault, IsSpec, Says}

good_not_bad : (texts : List (List ℕ)) (place : ℕ) (fault : DependencyFault) → AreGood texts → IsFirstBad texts place fault → ⊥
good_not_bad _ _ fault good (here text texts _ has) = not_both text good.0.name good.0.constraints fault good.0.is has
good_not_bad _ _ fault good (later text texts place _ is bad) = good_not_bad texts place fault good.1 bad

-- ---- faults of fields

module _ (fields : Pairs) (name : is_name (rock_name fields) ≡ true) (version : is_rock_version (rock_version fields) ≡ true)
    (good : AreGood (dependency_texts fields)) where
  earlier : (other : SpecFault) → HasFieldFault fields other → fault_rank spec.Platform ≤ fault_rank other
  earlier (spec.TooLarge n) has = absurd has
  earlier (spec.Lex f) has = absurd has
  earlier (spec.Syntax f) has = absurd has
  earlier (spec.Eval f) has = absurd has
  earlier spec.BadFormat has = absurd has
  earlier (spec.BadPlatforms f) has = absurd has
  earlier (spec.Shape f) has = absurd has
  earlier spec.BadName has = let clash : true ≡ false = sym name ∙ has in cc
  earlier spec.BadVersion has = let clash : true ≡ false = sym version ∙ has in cc
  earlier (spec.BadDependency which fault) has = absurd (good_not_bad (dependency_texts fields) has.place fault good has.first)
  earlier spec.Platform has = omega arith
  earlier spec.NoMemory has = absurd has

  pub platform_first : is_supported fields ≡ false → IsFirstOfFields fields spec.Platform
  platform_first is = record { has = is; first = earlier }

  pub no_field_fault : is_supported fields ≡ true → HasNoFieldFault fields
  no_field_fault is (spec.TooLarge n) has = has
  no_field_fault is (spec.Lex f) has = has
  no_field_fault is (spec.Syntax f) has = has
  no_field_fault is (spec.Eval f) has = has
  no_field_fault is spec.BadFormat has = has
  no_field_fault is (spec.BadPlatforms f) has = has
  no_field_fault is (spec.Shape f) has = has
  no_field_fault is spec.BadName has = let clash : true ≡ false = sym name ∙ has in cc
  no_field_fault is spec.BadVersion has = let clash : true ≡ false = sym version ∙ has in cc
  no_field_fault is (spec.BadDependency which fault) has = good_not_bad (dependency_texts fields) has.place fault good has.first
  no_field_fault is spec.Platform has = let clash : true ≡ false = sym is ∙ has in cc
  no_field_fault is spec.NoMemory has = has

-- ---- faults of bytes whose globals are these

module _ (bytes : List ℕ) (globals : Pairs) (short : length bytes ≤ LONGEST_ROCKSPEC) (read : HasOutcome bytes (Ok globals)) where
  no_text_fault : (fault : EvalFailed) → HasOutcome bytes (Err fault) → ⊥
  no_text_fault fault has = let clash : Ok globals ≡ Err fault = one_outcome bytes (Ok globals) (Err fault) read has in cc

  same_globals : (other : Pairs) → HasOutcome bytes (Ok other) → other ≡ globals
  same_globals other has = let same : Ok other ≡ Ok globals = one_outcome bytes (Ok other) (Ok globals) has read in cc

  bad_table : (fault : TableFault) → HaveBadTable bytes fault → IsTableFault globals fault
  bad_table fault bad = subst (λ some. IsTableFault some fault) (same_globals bad.globals bad.read) bad.bad

  -- a fault of the table excludes others of the table, and of fields
  module _ (found : TableFault) (told : found ≢ table.NoMemory) (bad : IsTableFault globals found) where
    same_fault : (other : TableFault) → other ≢ table.NoMemory → HaveBadTable bytes other → found ≡ other
    same_fault other also has = one_fault globals found other told also bad (bad_table other has)

    no_fields : (format : Format) (fields : Pairs) → AreFieldsOf bytes format fields → ⊥
    no_fields format fields are =
        no_fault globals format fields found told (subst (λ some. HasFields some format fields) (same_globals are.globals are.read) are.are) bad

    ranked : (other : TableFault) (rank : ℕ) → found ≡ other → fault_rank (fault_of_table other) ≡ rank → fault_rank (fault_of_table found) ≤ rank
    ranked other rank same is = rw same (omega (arith, is))

    not_earlier : (other : SpecFault) → HasSpecFault bytes other → fault_rank (fault_of_table found) ≤ fault_rank other
    not_earlier (spec.TooLarge n) has = absurd (omega (arith, has.1, short))
    not_earlier (spec.Lex f) has = absurd (no_text_fault (failed.Lex f) has)
    not_earlier (spec.Syntax f) has = absurd (no_text_fault (failed.Syntax f) has)
    not_earlier (spec.Eval f) has = absurd (no_text_fault (failed.Eval f) has)
    not_earlier spec.BadFormat has = ranked table.BadFormat 4 (same_fault table.BadFormat (λ e. cc) has) refl
    not_earlier (spec.BadPlatforms f) has = ranked (table.BadPlatforms f) 5 (same_fault (table.BadPlatforms f) (λ e. cc) has) refl
    not_earlier (spec.Shape f) has = ranked (table.Shape f) 6 (same_fault (table.Shape f) (λ e. cc) has) refl
    not_earlier spec.BadName has = absurd (no_fields has.format has.fields has.are)
    not_earlier spec.BadVersion has = absurd (no_fields has.format has.fields has.are)
    not_earlier (spec.BadDependency which fault) has = absurd (no_fields has.format has.fields has.are)
    not_earlier spec.Platform has = absurd (no_fields has.format has.fields has.are)
    not_earlier spec.NoMemory has = absurd has

  has_table_fault : (found : TableFault) → found ≢ table.NoMemory → IsTableFault globals found → HasSpecFault bytes (fault_of_table found)
  has_table_fault table.BadFormat told bad = record { globals = globals; read = read; bad = bad }
  has_table_fault (table.BadPlatforms field) told bad = record { globals = globals; read = read; bad = bad }
  has_table_fault (table.Shape fault) told bad = record { globals = globals; read = read; bad = bad }
  has_table_fault table.NoMemory told bad = absurd (told refl)

  -- the first fault is that of the table
  pub table_first : (found : TableFault) → IsTableFault globals found
      → (fault_of_table found ≡ spec.NoMemory) ⊎ IsFirstSpecFault bytes (fault_of_table found)
  table_first table.NoMemory bad = inl refl
  table_first table.BadFormat bad = inr (record { has = has_table_fault table.BadFormat (λ e. cc) bad; first = not_earlier table.BadFormat (λ e. cc) bad })
  table_first (table.BadPlatforms field) bad = inr (record { has = has_table_fault (table.BadPlatforms field) (λ e. cc) bad; first = not_earlier (table.BadPlatforms field) (λ e. cc) bad })
  table_first (table.Shape fault) bad = inr (record { has = has_table_fault (table.Shape fault) (λ e. cc) bad; first = not_earlier (table.Shape fault) (λ e. cc) bad })

  -- where the globals are fields
  module _ (format : Format) (fields : Pairs) (are : HasFields globals format fields) where
    no_bad_table : (fault : TableFault) → fault ≢ table.NoMemory → HaveBadTable bytes fault → ⊥
    no_bad_table fault told has = no_fault globals format fields fault told are (bad_table fault has)

    same_fields : (other : Format) (found : Pairs) → AreFieldsOf bytes other found → found ≡ fields
    same_fields other found also =
        (one_merged globals other format found fields (subst (λ some. HasFields some other found) (same_globals also.globals also.read) also.are).merged are.merged).1

    of_fields : (fault : SpecFault) → HaveBadField bytes fault → HasFieldFault fields fault
    of_fields fault has = subst (λ some. HasFieldFault some fault) (same_fields has.format has.fields has.are) has.bad

    fields_are : AreFieldsOf bytes format fields
    fields_are = record { globals = globals; read = read; are = are }

    field_fault : (fault : SpecFault) → HasFieldFault fields fault → HaveBadField bytes fault
    field_fault fault has = record { format = format; fields = fields; are = fields_are; bad = has }

    has_field_fault : (fault : SpecFault) → HasFieldFault fields fault → HasSpecFault bytes fault
    has_field_fault (spec.TooLarge n) has = absurd has
    has_field_fault (spec.Lex f) has = absurd has
    has_field_fault (spec.Syntax f) has = absurd has
    has_field_fault (spec.Eval f) has = absurd has
    has_field_fault spec.BadFormat has = absurd has
    has_field_fault (spec.BadPlatforms f) has = absurd has
    has_field_fault (spec.Shape f) has = absurd has
    has_field_fault spec.BadName has = field_fault spec.BadName has
    has_field_fault spec.BadVersion has = field_fault spec.BadVersion has
    has_field_fault (spec.BadDependency which fault) has = field_fault (spec.BadDependency which fault) has
    has_field_fault spec.Platform has = field_fault spec.Platform has
    has_field_fault spec.NoMemory has = absurd has

    -- any fault of the bytes is one of the fields
    only_of_fields : (fault : SpecFault) → HasSpecFault bytes fault → HasFieldFault fields fault
    only_of_fields (spec.TooLarge n) has = absurd (omega (arith, has.1, short))
    only_of_fields (spec.Lex f) has = absurd (no_text_fault (failed.Lex f) has)
    only_of_fields (spec.Syntax f) has = absurd (no_text_fault (failed.Syntax f) has)
    only_of_fields (spec.Eval f) has = absurd (no_text_fault (failed.Eval f) has)
    only_of_fields spec.BadFormat has = absurd (no_bad_table table.BadFormat (λ e. cc) has)
    only_of_fields (spec.BadPlatforms f) has = absurd (no_bad_table (table.BadPlatforms f) (λ e. cc) has)
    only_of_fields (spec.Shape f) has = absurd (no_bad_table (table.Shape f) (λ e. cc) has)
    only_of_fields spec.BadName has = of_fields spec.BadName has
    only_of_fields spec.BadVersion has = of_fields spec.BadVersion has
    only_of_fields (spec.BadDependency which fault) has = of_fields (spec.BadDependency which fault) has
    only_of_fields spec.Platform has = of_fields spec.Platform has
    only_of_fields spec.NoMemory has = has

    pub field_first : (fault : SpecFault) → IsFirstOfFields fields fault → IsFirstSpecFault bytes fault
    field_first fault is = record {
      has = has_field_fault fault is.has;
      first = λ other has. is.first other (only_of_fields other has);
    }

    pub is_spec : (rockspec : Rockspec) → HasNoFieldFault fields → Says format fields rockspec → IsSpec bytes rockspec
    is_spec rockspec none says = record {
      faultless = λ fault has. none fault (only_of_fields fault has);
      format = format;
      fields = fields;
      are = fields_are;
      says = says;
    }

    pub spec_if_ok : (result : Result Rockspec SpecFault) → IfOk result (Says format fields) → IfOk result (λ _. HasNoFieldFault fields)
        → IfOk result (IsSpec bytes)
    spec_if_ok (Ok rockspec) says none = is_spec rockspec none says
    spec_if_ok (Err fault) says none = tt

    pub first_if_err : (result : Result Rockspec SpecFault)
        → IfErr result (λ fault. (fault ≡ spec.NoMemory) ⊎ IsFirstOfFields fields fault)
        → IfErr result (λ fault. (fault ≡ spec.NoMemory) ⊎ IsFirstSpecFault bytes fault)
    first_if_err (Ok rockspec) is = tt
    first_if_err (Err fault) is = ⊎_elim inl (λ first. inr (field_first fault first)) is
