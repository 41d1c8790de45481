-- What a step that stops says of the steps around it.
use Rattle.std.proofs.Common.{◌≡◌, ℕ, List, [], ◌++◌, map, take, refl, sym, ap, ◌∙◌, Bool, true, false, Option, Some, None, Err, append_assoc}
use Rattle.std.specs.Prelude.{slice_get, if◌then◌else◌}
use Rattle.build_targets.specs.Folders.{is_folder}
use Rattle.build_targets.specs.Meanings.{source}
use Rattle.build_targets.specs.declared.target.Target.{Target}
use Rattle.build_plan.specs.declared.stop.Stop.{Stop}
use Rattle.build_plan.specs.declared.stop.Stop.TheVariants.{NoMemory, Refused}
use Rattle.build_plan.specs.Entries.{Entry}
use Rattle.build_plan.specs.Plans.{folder_blame}
use Rattle.build_plan.specs.Steps.{blamed_in, first_some, targets_of, IsMeantAt, IsNamedAt, IsStopped}
use Rattle.build_plan.proofs.Firsts.{found_now}
use Rattle.build_plan.proofs.Meant.{blamed_append, blamed_first, blamed_now, targets_append}

-- a step around it stops alike
pub stops_alike : (blamed other : Option (List ℕ)) (stop : Stop) → IsStopped blamed stop → ((text : List ℕ) → blamed ≡ Some text → other ≡ Some text) → IsStopped other stop
stops_alike blamed other NoMemory found more = tt
stops_alike blamed other (Refused fault) found more = (found.0, found.1, more found.0 found.2)

pub target_stops : (entries : List Entry) (at : ℕ) (stop : Stop) → IsMeantAt (slice_get entries at) (Err stop) → blamed_in (take at entries) ≡ None → IsStopped (blamed_in entries) stop
target_stops entries at NoMemory means none = tt
target_stops entries at (Refused fault) means none = (means.2.0, means.2.1, blamed_now entries at means.0 means.1 means.2.0 means.2.2 none)

pub folder_stops : (rockspec : List ℕ) (texts : List (List ℕ)) (at : ℕ) (stop : Stop) → IsNamedAt rockspec (slice_get texts at) (Err stop)
    → first_some (map (folder_blame rockspec) (take at texts)) ≡ None → IsStopped (first_some (map (folder_blame rockspec) texts)) stop
folder_stops rockspec texts at NoMemory named none = tt
folder_stops rockspec texts at (Refused fault) named none = (named.0, named.2, found_now (folder_blame rockspec) texts at named.0 named.0 named.1 none named.3)

-- ---- whether a text names a folder

if_folder : (is : Bool) (text folder : List ℕ) → (if is then Some (source text) else None) ≡ Some folder → (folder ≡ source text) × ((if is then None else Some text) ≡ None)
if_folder true text folder e = let same : source text ≡ folder = cc in (sym same, refl)
if_folder false text folder e = absurd cc

pub folder_named : (rockspec text folder : List ℕ) (found : Option (List ℕ)) → found ≡ (if is_folder rockspec text then Some (source text) else None) → found ≡ Some folder
    → (folder ≡ source text) × (folder_blame rockspec text ≡ None)
folder_named rockspec text folder found told is = if_folder (is_folder rockspec text) text folder (sym told ∙ is)

no_folder : (is : Bool) (text : List ℕ) → (if is then Some (source text) else None) ≡ None → (if is then None else Some text) ≡ Some text
no_folder true text e = absurd cc
no_folder false text e = refl

pub folder_blamed : (rockspec text : List ℕ) (found : Option (List ℕ)) → found ≡ (if is_folder rockspec text then Some (source text) else None) → found ≡ None → folder_blame rockspec text ≡ Some text
folder_blamed rockspec text found told is = no_folder (is_folder rockspec text) text (sym told ∙ is)

-- ---- five lists in a row

module _ (a b c d e : List Entry) where
  pub first_of_five : (text : List ℕ) → blamed_in a ≡ Some text → blamed_in (a ++ (b ++ (c ++ (d ++ e)))) ≡ Some text
  first_of_five text h = blamed_first a (b ++ (c ++ (d ++ e))) text h

  pub second_of_five : blamed_in a ≡ None → (text : List ℕ) → blamed_in b ≡ Some text → blamed_in (a ++ (b ++ (c ++ (d ++ e)))) ≡ Some text
  second_of_five no_a text h = blamed_append a (b ++ (c ++ (d ++ e))) no_a ∙ blamed_first b (c ++ (d ++ e)) text h

  pub third_of_five : blamed_in a ≡ None → blamed_in b ≡ None → (text : List ℕ) → blamed_in c ≡ Some text → blamed_in (a ++ (b ++ (c ++ (d ++ e)))) ≡ Some text
  third_of_five no_a no_b text h = blamed_append a (b ++ (c ++ (d ++ e))) no_a ∙ blamed_append b (c ++ (d ++ e)) no_b ∙ blamed_first c (d ++ e) text h

  pub fourth_of_five : blamed_in a ≡ None → blamed_in b ≡ None → blamed_in c ≡ None → (text : List ℕ) → blamed_in d ≡ Some text → blamed_in (a ++ (b ++ (c ++ (d ++ e)))) ≡ Some text
  fourth_of_five no_a no_b no_c text h =
      blamed_append a (b ++ (c ++ (d ++ e))) no_a ∙ blamed_append b (c ++ (d ++ e)) no_b ∙ blamed_append c (d ++ e) no_c ∙ blamed_first d e text h

  pub last_of_five : blamed_in a ≡ None → blamed_in b ≡ None → blamed_in c ≡ None → blamed_in d ≡ None → (blamed : Option (List ℕ)) → blamed_in e ≡ blamed → blamed_in (a ++ (b ++ (c ++ (d ++ e)))) ≡ blamed
  last_of_five no_a no_b no_c no_d blamed h =
      blamed_append a (b ++ (c ++ (d ++ e))) no_a ∙ blamed_append b (c ++ (d ++ e)) no_b ∙ blamed_append c (d ++ e) no_c ∙ blamed_append d e no_d ∙ h

  pub five_targets : (zero one two three four five : List Target) → zero ≡ [] → one ≡ zero ++ targets_of a → two ≡ one ++ targets_of b → three ≡ two ++ targets_of c → four ≡ three ++ targets_of d → five ≡ four ++ targets_of e
      → five ≡ targets_of (a ++ (b ++ (c ++ (d ++ e))))
  five_targets zero one two three four five h0 h1 h2 h3 h4 h5 =
      let first = h1 ∙ ap (λ (l : List Target). l ++ targets_of a) h0 in
      let second = h2 ∙ ap (λ (l : List Target). l ++ targets_of b) first in
      let third = h3 ∙ ap (λ (l : List Target). l ++ targets_of c) second in
      let fourth = h4 ∙ ap (λ (l : List Target). l ++ targets_of d) third in
      let fifth = h5 ∙ ap (λ (l : List Target). l ++ targets_of e) fourth in
      fifth ∙ append_assoc (targets_of a ++ targets_of b ++ targets_of c) (targets_of d) (targets_of e)
      ∙ append_assoc (targets_of a ++ targets_of b) (targets_of c) (targets_of d ++ targets_of e)
      ∙ append_assoc (targets_of a) (targets_of b) (targets_of c ++ (targets_of d ++ targets_of e))
      ∙ sym (targets_append a (b ++ (c ++ (d ++ e))) ∙ ap (λ (l : List Target). targets_of a ++ l) (targets_append b (c ++ (d ++ e))
      ∙ ap (λ (l : List Target). targets_of b ++ l) (targets_append c (d ++ e) ∙ ap (λ (l : List Target). targets_of c ++ l) (targets_append d e))))
