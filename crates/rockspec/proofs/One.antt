-- Bytes come to one thing.
use Rattle.std.proofs.Common.{◌≡◌, ℕ, suc, Bool, true, false, IsTrue, List, [], ◌∷◌, refl, sym, ap, ◌∙◌, arith, subst, Result, Ok, Err}
use Rattle.build_plan.proofs.PlanLaws.{only_plan}
use Rattle.build_plan.specs.Plans.{HasPlan}
use Rattle.lua_text.proofs.One.{one_outcome}
use Rattle.lua_text.specs.declared.fault.EvalFailed.TheVariants as failed
use Rattle.lua_text.specs.Outcomes.{HasOutcome}
use Rattle.lua_value.specs.Pairs.{Pairs}
use Rattle.rocks_constraint.proofs.FaultLaws.{no_fault as not_both}
use Rattle.rocks_constraint.proofs.LawLemmas.{one_read}
use Rattle.rocks_constraint.proofs.OneFault.{one_fault as one_wrong}
use Rattle.rocks_constraint.specs.declared.fault.DependencyFault.{DependencyFault}
use Rattle.rocks_constraint.specs.Wanted.{Wanted}
use Rattle.rocks_text.specs.Texts.{is_name}
use Rattle.rocks_version.specs.Keys.{rockspec_name}
use Rattle.rocks_version.specs.Texts.{is_rock_version}
use Rattle.rockspec_table.proofs.Outcomes.{one_merged, one_fault}
use Rattle.rockspec_table.specs.declared.fault.TableFault.{TableFault}
use Rattle.rockspec_table.specs.declared.fault.TableFault.TheVariants as table
use Rattle.rockspec_table.specs.Fields.{HasFields, IsTableFault}
use Rattle.schema_table.specs.declared.row.Format.{Format}
use Rattle.rockspec.specs.declared.fault.SpecFault.{SpecFault}
use Rattle.rockspec.specs.declared.fault.SpecFault.TheVariants as spec
use Rattle.rockspec.specs.declared.read.Rockspec.{Rockspec}
use Rattle.rockspec.specs.Fields.{dependency_texts, rock_name, rock_version, told, AreRead, HasFieldFault, IsFirstBad, IsToldBad, here, later}
use Rattle.rockspec.specs.Specs.{fault_rank, AreFieldsOf, HasSpec, HasSpecFault, HaveBadField, HaveBadTable, IsFirstSpecFault, IsSpec, Says}

-- ---- dependencies

first_bad : (texts : List (List ℕ)) (place other : ℕ) (fault wrong : DependencyFault)
    → IsFirstBad texts place fault → IsFirstBad texts other wrong → (place ≡ other) × (fault ≡ wrong)
first_bad _ _ _ fault wrong (here text texts _ has) (here _ _ _ also) = (refl, one_wrong text fault wrong has also)
first_bad _ _ _ fault wrong (here text texts _ has) (later _ _ place _ is bad) = absurd (not_both text is.name is.constraints fault is.is has)
first_bad _ _ _ fault wrong (later text texts place _ is bad) (here _ _ _ has) = absurd (not_both text is.name is.constraints wrong is.is has)
first_bad _ _ _ fault wrong (later text texts place _ is bad) (later _ _ other _ also worse) =
    let same = first_bad texts place other fault wrong bad worse in
    (ap suc same.0, same.1)

told_bad : (texts : List (List ℕ)) (which other : ℕ) (fault wrong : DependencyFault)
    → IsToldBad texts which fault → IsToldBad texts other wrong → spec.BadDependency which fault ≡ spec.BadDependency other wrong
told_bad texts which other fault wrong bad worse =
    let same = first_bad texts bad.place worse.place fault wrong bad.first worse.first in
    let number : which ≡ other = bad.is ∙ ap told same.0 ∙ sym worse.is in
    let inner : fault ≡ wrong = same.1 in
    cc

are_read : (texts : List (List ℕ)) (one other : List Wanted) → AreRead texts one → AreRead texts other → one ≡ other
are_read [] [] [] a b = refl
are_read [] (first ∷ one) other a b = absurd a
are_read [] [] (first ∷ other) a b = absurd b
are_read (text ∷ texts) [] other a b = absurd a
are_read (text ∷ texts) (first ∷ one) [] a b = absurd b
are_read (text ∷ texts) (first ∷ one) (second ∷ other) a b =
    let same = one_read text first.name second.name first.constraints second.constraints a.0 b.0 in
    let head : first ≡ second = λ i. record { name = same.0 i; constraints = same.1 i } in
    let tail : one ≡ other = are_read texts one other a.1 b.1 in
    cc

-- ---- bytes

module _ (bytes : List ℕ) where
  same_globals : (globals other : Pairs) → HasOutcome bytes (Ok globals) → HasOutcome bytes (Ok other) → other ≡ globals
  same_globals globals other read also =
      let same : Ok other ≡ Ok globals = one_outcome bytes (Ok other) (Ok globals) also read in cc

  same_fields : (format other : Format) (fields found : Pairs) → AreFieldsOf bytes format fields → AreFieldsOf bytes other found
      → (format ≡ other) × (fields ≡ found)
  same_fields format other fields found are also =
      one_merged are.globals format other fields found are.are.merged
      (subst (λ some. HasFields some other found) (same_globals are.globals also.globals are.read also.read) also.are).merged

  same_table : (fault other : TableFault) → (fault ≡ table.NoMemory → ⊥) → (other ≡ table.NoMemory → ⊥)
      → HaveBadTable bytes fault → HaveBadTable bytes other → fault ≡ other
  same_table fault other told also bad worse =
      one_fault bad.globals fault other told also bad.bad
      (subst (λ some. IsTableFault some other) (same_globals bad.globals worse.globals bad.read worse.read) worse.bad)

  -- faults of one rank are equal
  same_rank : (one other : SpecFault) → HasSpecFault bytes one → HasSpecFault bytes other → fault_rank one ≡ fault_rank other → one ≡ other
  same_rank (spec.TooLarge n) (spec.TooLarge m) a b ranks = ap spec.TooLarge (a.0 ∙ sym b.0)
  same_rank (spec.Lex f) (spec.Lex g) a b ranks =
      let same : Err (failed.Lex f) ≡ Err (failed.Lex g) = one_outcome bytes (Err (failed.Lex f)) (Err (failed.Lex g)) a b in cc
  same_rank (spec.Syntax f) (spec.Syntax g) a b ranks =
      let same : Err (failed.Syntax f) ≡ Err (failed.Syntax g) = one_outcome bytes (Err (failed.Syntax f)) (Err (failed.Syntax g)) a b in cc
  same_rank (spec.Eval f) (spec.Eval g) a b ranks =
      let same : Err (failed.Eval f) ≡ Err (failed.Eval g) = one_outcome bytes (Err (failed.Eval f)) (Err (failed.Eval g)) a b in cc
  same_rank spec.BadFormat spec.BadFormat a b ranks = refl
  same_rank (spec.BadPlatforms f) (spec.BadPlatforms g) a b ranks =
      let same : table.BadPlatforms f ≡ table.BadPlatforms g = same_table (table.BadPlatforms f) (table.BadPlatforms g) (λ e. cc) (λ e. cc) a b in cc
  same_rank (spec.Shape f) (spec.Shape g) a b ranks =
      let same : table.Shape f ≡ table.Shape g = same_table (table.Shape f) (table.Shape g) (λ e. cc) (λ e. cc) a b in cc
  same_rank spec.BadName spec.BadName a b ranks = refl
  same_rank spec.BadVersion spec.BadVersion a b ranks = refl
  same_rank (spec.BadDependency n f) (spec.BadDependency m g) a b ranks =
      let same = same_fields a.format b.format a.fields b.fields a.are b.are in
      told_bad (dependency_texts a.fields) n m f g a.bad (subst (λ fields. IsToldBad (dependency_texts fields) m g) (sym same.1) b.bad)
  same_rank spec.Platform spec.Platform a b ranks = refl
  same_rank spec.NoMemory spec.NoMemory a b ranks = refl
  same_rank one other a b ranks = absurd (omega (arith, ranks))

  same_first : (one other : SpecFault) → IsFirstSpecFault bytes one → IsFirstSpecFault bytes other → one ≡ other
  same_first one other a b = same_rank one other a.has b.has (omega (arith, a.first other b.has, b.first one a.has))

  same_spec : (one other : Rockspec) → IsSpec bytes one → IsSpec bytes other → one ≡ other
  same_spec one other a b =
      let same = same_fields a.format b.format a.fields b.fields a.are b.are in
      let says = subst (λ fields. Says b.format fields other) (sym same.1) b.says in
      let name : one.key.name ≡ other.key.name = a.says.name ∙ sym says.name in
      let version : one.key.version ≡ other.key.version = a.says.version ∙ sym says.version in
      let dependencies : one.dependencies ≡ other.dependencies = are_read _ one.dependencies other.dependencies a.says.dependencies says.dependencies in
      let format : one.format ≡ other.format = a.says.in_format ∙ same.0 ∙ sym says.in_format in
      let plan : HasPlan (rockspec_name one.key.name one.key.version) a.fields other.plan
      = rw (name, version) says.plan in
      let planned : one.plan ≡ other.plan = only_plan (rockspec_name one.key.name one.key.version) a.fields one.plan other.plan a.says.plan plan in
      λ i. record {
        format = format i;
        key = record { name = name i; version = version i };
        dependencies = dependencies i;
        plan = planned i;
      }

pub one_spec : (bytes : List ℕ) (one other : Result Rockspec SpecFault) → HasSpec bytes one → HasSpec bytes other → one ≡ other
one_spec bytes (Ok one) (Ok other) a b = ap Ok (same_spec bytes one other a b)
one_spec bytes (Ok one) (Err fault) a b = absurd (a.faultless fault b.has)
one_spec bytes (Err fault) (Ok other) a b = absurd (b.faultless fault a.has)
one_spec bytes (Err fault) (Err other) a b = ap Err (same_first bytes fault other a b)

-- ---- what the parts of a rockspec are

bad_field : (bytes : List ℕ) (rockspec : Rockspec) (is : IsSpec bytes rockspec) (fault : SpecFault) → HasFieldFault is.fields fault → HaveBadField bytes fault
bad_field bytes rockspec is fault has = record { format = is.format; fields = is.fields; are = is.are; bad = has }

pub has_name : (bytes : List ℕ) (rockspec : Rockspec) → IsSpec bytes rockspec → IsTrue (is_name rockspec.key.name)
has_name bytes rockspec is = ap is_name is.says.name ∙ from (is_name (rock_name is.fields)) refl
  where
    from : (b : Bool) → is_name (rock_name is.fields) ≡ b → is_name (rock_name is.fields) ≡ true
    from true is_so = is_so
    from false is_not = absurd (is.faultless spec.BadName (bad_field bytes rockspec is spec.BadName is_not))

pub has_version : (bytes : List ℕ) (rockspec : Rockspec) → IsSpec bytes rockspec → IsTrue (is_rock_version rockspec.key.version)
has_version bytes rockspec is = ap is_rock_version is.says.version ∙ from (is_rock_version (rock_version is.fields)) refl
  where
    from : (b : Bool) → is_rock_version (rock_version is.fields) ≡ b → is_rock_version (rock_version is.fields) ≡ true
    from true is_so = is_so
    from false is_not = absurd (is.faultless spec.BadVersion (bad_field bytes rockspec is spec.BadVersion is_not))
