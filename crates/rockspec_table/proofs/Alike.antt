-- The answers of a check depend only on what its rows say.
use Rattle.std.proofs.Common.{◌≡◌, ℕ, inl, inr, Bool, not, ◌&&◌, cond, List, [], ◌∷◌, map, Option, Some, None}
use Rattle.std.proofs.Common.{Result, Ok, Err, option_map, refl, sym, ap, ◌∙◌, subst}
use Rattle.std.proofs.lemmas.List.{length-map}
use Rattle.std.proofs.lemmas.Option.{slice_get-map, slice_get-get_or, slice_get_within, get_or_from_slice_get}
use Rattle.std.specs.List.{slice_get, position, prefix_len, list_all}
use Rattle.std.specs.Option.{option_or}
use Rattle.std.proofs.Common.{nat_lt, ◌+◌}
use Rattle.lua_value.specs.declared.key.Key.{Key}
use Rattle.lua_value.specs.Pairs.{Datum, Pairs}
use Rattle.schema_table.specs.declared.row.Row.{Row}
use Rattle.schema_table.specs.declared.row.Format.{Format}
use Rattle.schema_table.specs.declared.row.Shape.{Shape}
use Rattle.schema_table.specs.declared.row.Shape.TheVariants.{Text, Bool as Truth, Texts, Mixed, Named, Closed, Open}
use Rattle.schema_table.specs.declared.row.Shape.TheVariants.{Lists}
use Rattle.schema_table.specs.declared.fault.ShapeFault.{ShapeFault}
use Rattle.schema_table.specs.declared.fault.ShapeFault.TheVariants.{Unknown, TooNew, WrongShape, Missing, NoMemory}
use Rattle.schema_table.specs.Absence.{IsAbsent, IsMissing}
use Rattle.schema_table.specs.Checks.{Fits, IsFirstMissing, Checks}
use Rattle.schema_table.specs.Formats.{IsOlder, IsMandatory}
use Rattle.schema_table.specs.Rows.{is_star, matches, row_number, IsRowOf, HasDeeper}
use Rattle.schema_table.specs.Shapes.{HasShape}
use Rattle.schema_table.specs.Visits.{IsOpened, IsGoneInto, IsVisited, IsClosed}
use Rattle.schema_table.specs.Visits.{IsFaultOf, IsFaultless, IsFirstFault}
use Rattle.rockspec_table.specs.Rows.{Rule, rule_of}

-- two lists of rows say the same
pub record AreAlike (rows others : List Row) : Type 0 where
  pub rules : map rule_of rows ≡ map rule_of others

pub turned : (rows others : List Row) → AreAlike rows others → AreAlike others rows
turned rows others a = record { rules = sym a.rules }

prefix_len-map : {X Y : Type 0} (f : X → Y) (p : Y → Bool) (xs : List X) →
    prefix_len p (map f xs) ≡ prefix_len (λ x. p (f x)) xs
prefix_len-map f p [] = refl
prefix_len-map f p (x ∷ xs) = ap (λ n. cond (p (f x)) (1 + n) 0) (prefix_len-map f p xs)

position-map : {X Y : Type 0} (f : X → Y) (p : Y → Bool) (xs : List X) →
    position p (map f xs) ≡ position (λ x. p (f x)) xs
position-map f p xs =
    let place = prefix_len-map f (λ y. not (p y)) xs in
    let all = length-map xs f in
    λ i. cond (nat_lt (place i) (all i)) (Some (place i)) None

-- whether a rule's path matches
abbrev rule_matches : List Key → Rule → Bool
rule_matches path rule = matches rule.path path

abbrev rule_matches_exactly : List Key → Rule → Bool
rule_matches_exactly path rule = list_all (λ part. not (is_star part)) rule.path && rule_matches path rule

-- the row of a path by rules
abbrev rule_number : List Rule → List Key → Option ℕ
rule_number rules path = option_or (position (rule_matches_exactly path) rules) (position (rule_matches path) rules)

rule_number-of : (rows : List Row) (path : List Key) → rule_number (map rule_of rows) path ≡ row_number rows path
rule_number-of rows path =
    let exact = position-map rule_of (rule_matches_exactly path) rows in
    let first = position-map rule_of (rule_matches path) rows in
    λ i. option_or (exact i) (first i)

-- a row that says the same as another one
record Twin (others : List Row) (number : ℕ) (row : Row) : Type 0 where
  other : Row
  there : slice_get others number ≡ Some other
  same : rule_of row ≡ rule_of other

twin_in : (others : List Row) (number : ℕ) (row : Row) (found : Option Row) → slice_get others number ≡ found →
    Some (rule_of row) ≡ option_map rule_of found → Twin others number row
twin_in others number row (Some other) at e = record { other = other; there = at; same = (let s = e in cc) }
twin_in others number row None at e = cc

module _ (rows others : List Row) (alike : AreAlike rows others) where
  number_same : (path : List Key) → row_number rows path ≡ row_number others path
  number_same path =
      sym (rule_number-of rows path) ∙ ap (λ rules. rule_number rules path) alike.rules ∙ rule_number-of others path

  twin : (number : ℕ) (row : Row) → slice_get rows number ≡ Some row → Twin others number row
  twin number row there = twin_in others number row (slice_get others number) refl
      (ap (option_map rule_of) (sym there) ∙ sym (slice_get-map rule_of rows number)
      ∙ ap (λ rules. slice_get rules number) alike.rules ∙ slice_get-map rule_of others number)

  twin_row : (path : List Key) (number : ℕ) (row : Row) (is_row : IsRowOf rows path number row) →
      IsRowOf others path number (twin number row is_row.there).other
  twin_row path number row is_row =
      record { first = sym (number_same path) ∙ is_row.first; there = (twin number row is_row.there).there }

  has_deeper : (path : List Key) → HasDeeper rows path → HasDeeper others path
  has_deeper path h =
      let there : slice_get rows h.among.0 ≡ Some h.row =
      slice_get-get_or rows h.among.0 h.row h.among.1 ∙ ap Some h.among.2 in
      let t = twin h.among.0 h.row there in
      record {
        row = t.other;
        among = (
          h.among.0,
          slice_get_within others h.among.0 t.other t.there,
          get_or_from_slice_get others h.among.0 t.other t.other t.there,
        );
        deeper = record {
          front = h.deeper.front;
          last = h.deeper.last;
          are = ap (λ (rule : Rule). rule.path) (sym t.same) ∙ h.deeper.are;
          leads = h.deeper.leads;
        };
      }

  is_opened : (path : List Key) (shape : Shape) → IsOpened rows path shape → IsOpened others path shape
  is_opened path Text o = o
  is_opened path Truth o = o
  is_opened path Texts o = o
  is_opened path Mixed o = o
  is_opened path Named o = has_deeper path o
  is_opened path Closed o = o
  is_opened path Open o = o
  is_opened path Lists o = o

  gone_into : (path : List Key) → IsGoneInto rows path → IsGoneInto others path
  gone_into path g =
      let t = twin g.number g.row g.is_row.there in
      record {
        number = g.number;
        row = t.other;
        is_row = twin_row path g.number g.row g.is_row;
        opened = subst (λ (rule : Rule). IsOpened others path rule.shape) t.same (is_opened path g.row.shape g.opened);
      }

  visited : (table : Pairs) (path : List Key) (value : Datum) → IsVisited rows table path value →
      IsVisited others table path value
  visited table path value v = record {
    some = v.some;
    there = v.there;
    through = λ front back e f b. gone_into front (v.through front back e f b);
  }

  closed : (path : List Key) → IsClosed rows path → IsClosed others path
  closed path (inl whole) = inl whole
  closed path (inr h) =
      let t = twin h.number h.row h.is_row.there in
      inr (record {
        number = h.number;
        row = t.other;
        is_row = twin_row path h.number h.row h.is_row;
        closed = ap (λ (rule : Rule). rule.shape) (sym t.same) ∙ h.closed;
      })

  fault_of : (format : Format) (path : List Key) (value : Datum) (fault : ShapeFault) →
      IsFaultOf rows format path value fault → IsFaultOf others format path value fault
  fault_of format path value (Unknown told) u = record {
    no_row = sym (number_same path) ∙ u.no_row;
    front = u.front;
    last = u.last;
    are = u.are;
    closed = closed u.front u.closed;
    text = u.text;
  }
  fault_of format path value (TooNew number) n =
      let t = twin number n.row n.is_row.there in
      record {
        row = t.other;
        is_row = twin_row path number n.row n.is_row;
        older = subst (λ (rule : Rule). IsOlder format rule.since) t.same n.older;
      }
  fault_of format path value (WrongShape number) w =
      let t = twin number w.row w.is_row.there in
      record {
        row = t.other;
        is_row = twin_row path number w.row w.is_row;
        in_time = subst (λ (rule : Rule). ¬ IsOlder format rule.since) t.same w.in_time;
        other = subst (λ (rule : Rule). ¬ HasShape rule.shape value) t.same w.other;
      }
  fault_of format path value (Missing number) f = f
  fault_of format path value NoMemory f = f

  missing : (table : Pairs) (format : Format) (number : ℕ) → IsMissing rows table format number →
      IsMissing others table format number
  missing table format number m =
      let t = twin number m.row m.is_row in
      record {
        row = t.other;
        is_row = t.there;
        missing = record {
          mandatory = subst (λ (rule : Rule). IsMandatory rule.must format) t.same m.missing.mandatory;
          absent = subst (λ (rule : Rule). IsAbsent rule.path table) t.same m.missing.absent;
        };
      }

module _ (rows others : List Row) (alike : AreAlike rows others) (table : Pairs) (format : Format) where
  abbrev back : AreAlike others rows
  back = turned rows others alike

  faultless : IsFaultless rows table format → IsFaultless others table format
  faultless f path value fault v is =
      f path value fault (visited others rows back table path value v)
      (fault_of others rows back format path value fault is)

  first_fault : (fault : ShapeFault) → IsFirstFault rows table format fault → IsFirstFault others table format fault
  first_fault fault f = record {
    path = f.path;
    value = f.value;
    visited = visited rows others alike table f.path f.value f.visited;
    is = fault_of rows others alike format f.path f.value fault f.is;
    earlier = λ other found its v before is. f.earlier other found its
        (visited others rows back table other found v) before (fault_of others rows back format other found its is);
  }

  fits : Fits rows table format → Fits others table format
  fits f = record {
    faultless = faultless f.faultless;
    complete = λ number m. f.complete number (missing others rows back table format number m);
  }

  first_missing : (number : ℕ) → IsFirstMissing rows table format number → IsFirstMissing others table format number
  first_missing number f = record {
    faultless = faultless f.faultless;
    missing = missing rows others alike table format number f.missing;
    earlier = λ other below m. f.earlier other below (missing others rows back table format other m);
  }

  pub checks_alike : (answer : Result (Unit {0}) ShapeFault) → Checks rows table format answer →
      Checks others table format answer
  checks_alike (Ok _) f = fits f
  checks_alike (Err (Unknown told)) f = first_fault (Unknown told) f
  checks_alike (Err (TooNew number)) f = first_fault (TooNew number) f
  checks_alike (Err (WrongShape number)) f = first_fault (WrongShape number) f
  checks_alike (Err (Missing number)) f = first_missing number f
  checks_alike (Err NoMemory) f = f
