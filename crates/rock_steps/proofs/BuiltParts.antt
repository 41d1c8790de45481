-- Which items and own files the steps of a build make.
use Rattle.std.proofs.Common.{◌≡◌, ℕ, List, [], ◌∷◌, ◌++◌, Option, Some, codes, map, refl, sym, ap, ◌∙◌}
use Rattle.std.specs.List.{filter, filter_map, flat_map}
use Rattle.std.proofs.lemmas.List.{append-nil}
use Rattle.std.proofs.lemmas.List.Elements.{filter_map-append}
use Rattle.rocks_text.specs.declared.item.Item.{Item}
use Rattle.build_targets.specs.declared.target.Dest.{Dest}
use Rattle.build_targets.specs.declared.target.Dest.TheVariants as dests
use Rattle.build_targets.specs.declared.target.Target.{Target}
use Rattle.build_plan.specs.declared.recipe.Recipe.{Recipe}
use Rattle.rock_parts.specs.Parts.{item_in, item_made, items_made, own_in, own_made, own_paths_made}
use Rattle.rock_steps.proofs.Made.{made_of_map}
use Rattle.rock_steps.specs.Steps.{build_steps, folder_steps, is_in, kept, part_of, steps_with, target_step}

-- ---- a target's

abbrev pub item_at : Target → Option Item
item_at target = item_made (target_step target)

abbrev pub own_at : Target → Option (List ℕ)
own_at target = own_made (target_step target)

pub to_item : (to : Dest) (item : Item) → item_in (part_of to) ≡ Some item → to ≡ dests.Item item
to_item (dests.Item other) item is = let same : other ≡ item = cc in ap dests.Item same
to_item (dests.Conf path) item is = absurd cc

pub to_conf : (to : Dest) (path : List ℕ) → own_in (part_of to) ≡ Some path → (rest : List ℕ) × (to ≡ dests.Conf rest) × (path ≡ codes "conf/" ++ rest)
to_conf (dests.Item item) path is = absurd cc
to_conf (dests.Conf rest) path is = let same : codes "conf/" ++ rest ≡ path = cc in (rest, refl, sym same)

-- ---- a named folder's

-- its files
abbrev pub files_in : (listing : List (List ℕ)) → (folder : List ℕ) → List (List ℕ)
files_in listing folder = filter (is_in folder) listing

items_kept : (paths : List (List ℕ)) → items_made (map kept paths) ≡ []
items_kept [] = refl
items_kept (path ∷ paths) = items_kept paths

own_kept : (paths : List (List ℕ)) → own_paths_made (map kept paths) ≡ paths
own_kept [] = refl
own_kept (path ∷ paths) = ap (λ (l : List (List ℕ)). path ∷ l) (own_kept paths)

items_with : (folder : List ℕ) (paths : List (List ℕ)) → items_made (steps_with folder paths) ≡ []
items_with folder [] = refl
items_with folder (path ∷ paths) = items_kept (path ∷ paths)

own_with : (folder : List ℕ) (paths : List (List ℕ)) → own_paths_made (steps_with folder paths) ≡ paths
own_with folder [] = refl
own_with folder (path ∷ paths) = own_kept (path ∷ paths)

-- ---- all

module _ (listing : List (List ℕ)) where
  items_in_folders : (folders : List (List ℕ)) → items_made (flat_map (folder_steps listing) folders) ≡ []
  items_in_folders [] = refl
  items_in_folders (folder ∷ folders) =
      filter_map-append item_made (folder_steps listing folder) (flat_map (folder_steps listing) folders)
      ∙ (λ i. items_with folder (files_in listing folder) i ++ items_in_folders folders i)

  own_in_folders : (folders : List (List ℕ)) → own_paths_made (flat_map (folder_steps listing) folders) ≡ flat_map (files_in listing) folders
  own_in_folders [] = refl
  own_in_folders (folder ∷ folders) =
      filter_map-append own_made (folder_steps listing folder) (flat_map (folder_steps listing) folders)
      ∙ (λ i. own_with folder (files_in listing folder) i ++ own_in_folders folders i)

pub built_items : (recipe : Recipe) (listing : List (List ℕ)) → items_made (build_steps recipe listing) ≡ filter_map item_at recipe.files
built_items recipe listing =
    filter_map-append item_made (map target_step recipe.files) (flat_map (folder_steps listing) recipe.folders)
    ∙ (λ i. made_of_map item_made target_step recipe.files i ++ items_in_folders listing recipe.folders i)
    ∙ append-nil (filter_map item_at recipe.files)

pub built_own : (recipe : Recipe) (listing : List (List ℕ))
    → own_paths_made (build_steps recipe listing) ≡ filter_map own_at recipe.files ++ flat_map (files_in listing) recipe.folders
built_own recipe listing =
    filter_map-append own_made (map target_step recipe.files) (flat_map (folder_steps listing) recipe.folders)
    ∙ (λ i. made_of_map own_made target_step recipe.files i ++ own_in_folders listing recipe.folders i)
