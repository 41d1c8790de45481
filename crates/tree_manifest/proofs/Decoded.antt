-- What lines and groups spell can be read off them.
use Rattle.std.proofs.Common.{◌≡◌, ℕ, ◌+◌, List, [], ◌∷◌, take, drop, refl, sym, ap, ◌∙◌, codes, not, ◌==◌, map, subst, IsTrue}
use Rattle.std.specs.List.{All, flat_map, list_all, prefix_len}
use Rattle.std.proofs.lemmas.Bool.{and_from}
use Rattle.std.proofs.lemmas.List.Elements.{All-head, All-tail}
use Rattle.manifest_text.specs.declared.view.ViewRock.{ViewRock}
use Rattle.manifest_text.specs.Text.{key_text}
use Rattle.manifest_text.specs.Views.{IsPath, IsRockKey, IsWanted}
use Rattle.rocks_constraint.proofs.LawLemmas.{one_reading}
use Rattle.rocks_constraint.proofs.PrintedLemmas.{printed_reading}
use Rattle.rocks_constraint.specs.Grammar.{IsRead}
use Rattle.rocks_constraint.specs.Printed.{printed}
use Rattle.rocks_constraint.specs.Wanted.{Wanted}
use Rattle.rocks_constraint.specs.declared.constraint.Constraint.{Constraint}
use Rattle.rocks_version.specs.Texts.{is_version}
use Rattle.rocks_version.specs.declared.key.RockKey.{RockKey}
use Rattle.rock_manifest.proofs.Pieces.{path_bytes}
use Rattle.tree_manifest.specs.declared.groups.Group.{Group}
use Rattle.tree_manifest.specs.Forms.{key_line, need_texts, opening, path_group, rock_group, text_line, version_line}
use Rattle.tree_manifest.specs.Found.{ArePaths, AreRocks}
use Rattle.tree_manifest.specs.Reading.{key_of, text_of}
use Rattle.tree_manifest.proofs.Bytes.{key_bytes, name_bytes, version_bytes, wanted_bytes}
use Rattle.tree_manifest.proofs.Parts.{empty_again, name_before, opening_again, slash_at, text_again, version_behind}

abbrev pub IsNeed : Wanted × RockKey → Type 0
IsNeed need = IsWanted need.0 × IsRockKey need.1

-- ---- rocks

abbrev key_read : List ℕ → RockKey
key_read bytes =
    let n = prefix_len (λ b. not (b == 47)) bytes in record { name = take n bytes; version = drop (n + 1) bytes }

key_again : (key : RockKey) → IsRockKey key → key_read (key_text key) ≡ key
key_again key is =
    let at = slash_at key is in
    let names = name_before key _ at in
    let versions = version_behind key _ at in
    λ i. record { name = names i; version = versions i }

key_line_again : (key : RockKey) → IsRockKey key → key_read (text_of 0 (key_line key)) ≡ key
key_line_again key is = ap key_read (text_again [] (key_text key) 0 refl (key_bytes key is)) ∙ key_again key is

keys_again : (keys : List RockKey) → All IsRockKey keys
    → map (λ t. key_read (text_of 0 t)) (map key_line keys) ≡ keys
keys_again [] all = refl
keys_again (key ∷ keys) all =
    let first = key_line_again key (All-head IsRockKey key keys all) in
    let rest = keys_again keys (All-tail IsRockKey key keys all) in
    λ i. first i ∷ rest i

-- ---- paths

path_read : Group → List ℕ × List RockKey
path_read group = (key_of group.head, map (λ t. key_read (text_of 0 t)) group.texts)

path_again : (path : List ℕ × List RockKey) → IsPath path.0 → All IsRockKey path.1
    → path_read (path_group path) ≡ path
unfolding path_read
path_again path is keys =
    let first = opening_again path.0 (path_bytes path.0 is.0) in
    let rest = keys_again path.1 keys in
    λ i. (first i, rest i)

paths_again : (paths : List (List ℕ × List RockKey)) → All (λ path. IsPath path.0) paths
    → All (λ path. All IsRockKey path.1) paths → map path_read (map path_group paths) ≡ paths
paths_again [] are have = refl
paths_again (path ∷ paths) are have =
    let first = path_again path (All-head (λ p. IsPath p.0) path paths are)
    (All-head (λ p. All IsRockKey p.1) path paths have) in
    let rest = paths_again paths (All-tail (λ p. IsPath p.0) path paths are)
    (All-tail (λ p. All IsRockKey p.1) path paths have) in
    λ i. first i ∷ rest i

-- paths that are gathered alike are equal
pub one_provided : (paths others : List (List ℕ × List RockKey)) → ArePaths paths → ArePaths others
    → map path_group paths ≡ map path_group others → paths ≡ others
one_provided paths others is are same =
    sym (paths_again paths is.are_paths is.are_keys) ∙ ap (map path_read) same
    ∙ paths_again others are.are_paths are.are_keys

-- ---- dependencies

versions_pass : (constraints : List Constraint) → All (λ c. IsTrue (is_version c.version)) constraints
    → IsTrue (list_all (λ c. is_version c.version) constraints)
versions_pass [] all = refl
versions_pass (c ∷ constraints) all =
    and_from _ _ (All-head (λ (x : Constraint). IsTrue (is_version x.version)) c constraints all)
    (versions_pass constraints (All-tail (λ (x : Constraint). IsTrue (is_version x.version)) c constraints all))

pub reading : (wanted : Wanted) → IsWanted wanted
    → IsRead (printed wanted.name wanted.constraints) wanted.name wanted.constraints
reading wanted is =
    printed_reading wanted.name wanted.constraints is.name (versions_pass wanted.constraints is.versions) is.few

pub one_wanted : (wanted other : Wanted) (text : List ℕ) → IsRead text wanted.name wanted.constraints
    → IsRead text other.name other.constraints → wanted ≡ other
one_wanted wanted other text reads read =
    let both = one_reading text wanted.name other.name wanted.constraints other.constraints reads read in
    let names = both.0 in
    let constraints = both.1 in
    λ i. record { name = names i; constraints = constraints i }

printed_alike : (wanted other : Wanted) → IsWanted wanted → IsWanted other
    → printed wanted.name wanted.constraints ≡ printed other.name other.constraints → wanted ≡ other
printed_alike wanted other is are same =
    one_wanted wanted other (printed other.name other.constraints)
    (subst (λ (t : List ℕ). IsRead t wanted.name wanted.constraints) same (reading wanted is)) (reading other are)

pub met_text : (need : Wanted × RockKey) → IsNeed need
    → text_of 6 (text_line (codes "met = ") (key_text need.1)) ≡ key_text need.1
met_text need is = text_again (codes "met = ") (key_text need.1) 6 refl (key_bytes need.1 is.1)

pub key_line_text : (key : RockKey) → IsRockKey key → text_of 0 (key_line key) ≡ key_text key
key_line_text key is = text_again [] (key_text key) 0 refl (key_bytes key is)

met_again : (need : Wanted × RockKey) → IsNeed need
    → key_read (text_of 6 (text_line (codes "met = ") (key_text need.1))) ≡ need.1
met_again need is =
    ap key_read (text_again (codes "met = ") (key_text need.1) 6 refl (key_bytes need.1 is.1)) ∙ key_again need.1 is.1

pub wanted_again : (need : Wanted × RockKey) → IsNeed need
    → text_of 8 (text_line (codes "needs = ") (printed need.0.name need.0.constraints))
    ≡ printed need.0.name need.0.constraints
wanted_again need is =
    text_again (codes "needs = ") (printed need.0.name need.0.constraints) 8 refl (wanted_bytes need.0 is.0)

one_need : (need other : Wanted × RockKey) → IsNeed need → IsNeed other
    → text_line (codes "met = ") (key_text need.1) ≡ text_line (codes "met = ") (key_text other.1)
    → text_line (codes "needs = ") (printed need.0.name need.0.constraints)
    ≡ text_line (codes "needs = ") (printed other.0.name other.0.constraints)
    → need ≡ other
one_need need other is are mets wants =
    let met = sym (met_again need is) ∙ ap (λ (t : List ℕ). key_read (text_of 6 t)) mets ∙ met_again other are in
    let wanted = printed_alike need.0 other.0 is.0 are.0
    (sym (wanted_again need is) ∙ ap (text_of 8) wants ∙ wanted_again other are) in
    λ i. (wanted i, met i)

one_needs : (needs others : List (Wanted × RockKey)) → All IsNeed needs → All IsNeed others
    → flat_map need_texts needs ≡ flat_map need_texts others → needs ≡ others
one_needs [] [] is are same = refl
one_needs [] (other ∷ others) is are same = absurd (cc same)
one_needs (need ∷ needs) [] is are same = absurd (cc same)
one_needs (need ∷ needs) (other ∷ others) is are same =
    let mets : text_line (codes "met = ") (key_text need.1) ≡ text_line (codes "met = ") (key_text other.1) = cc same in
    let wants : text_line (codes "needs = ") (printed need.0.name need.0.constraints)
    ≡ text_line (codes "needs = ") (printed other.0.name other.0.constraints) = cc same in
    let more : flat_map need_texts needs ≡ flat_map need_texts others = cc same in
    let first = one_need need other (All-head IsNeed need needs is) (All-head IsNeed other others are) mets wants in
    let rest = one_needs needs others (All-tail IsNeed need needs is) (All-tail IsNeed other others are) more in
    λ i. first i ∷ rest i

-- ---- rocks with what they need

pub version_again : (key : RockKey) (needs : List (Wanted × RockKey)) → IsRockKey key
    → key_of (version_line key.version needs) ≡ key.version
version_again key [] is = empty_again key.version (version_bytes key.version is.1)
version_again key (need ∷ needs) is = opening_again key.version (version_bytes key.version is.1)

pub name_again : (key : RockKey) → IsRockKey key → key_of (opening key.name) ≡ key.name
name_again key is = opening_again key.name (name_bytes key.name is.0)

one_rock : (rock other : ViewRock) → IsRockKey rock.key → IsRockKey other.key → All IsNeed rock.dependencies
    → All IsNeed other.dependencies → rock_group rock ≡ rock_group other → rock ≡ other
one_rock rock other is are needs others same =
    let names = sym (name_again rock.key is) ∙ ap (λ (g : Group). key_of g.outer) same ∙ name_again other.key are in
    let versions = sym (version_again rock.key rock.dependencies is) ∙ ap (λ (g : Group). key_of g.head) same
    ∙ version_again other.key other.dependencies are in
    let dependencies = one_needs rock.dependencies other.dependencies needs others (ap (λ (g : Group). g.texts) same) in
    λ i. record { key = record { name = names i; version = versions i }; dependencies = dependencies i }

rocks_alike : (rocks others : List ViewRock) → All (λ rock. IsRockKey rock.key) rocks
    → All (λ rock. IsRockKey rock.key) others → All (λ rock. All IsNeed rock.dependencies) rocks
    → All (λ rock. All IsNeed rock.dependencies) others → map rock_group rocks ≡ map rock_group others → rocks ≡ others
rocks_alike [] [] is are need needs same = refl
rocks_alike [] (other ∷ others) is are need needs same = absurd (cc same)
rocks_alike (rock ∷ rocks) [] is are need needs same = absurd (cc same)
rocks_alike (rock ∷ rocks) (other ∷ others) is are need needs same =
    let K = λ (r : ViewRock). IsRockKey r.key in
    let N = λ (r : ViewRock). All IsNeed r.dependencies in
    let heads : rock_group rock ≡ rock_group other = cc same in
    let more : map rock_group rocks ≡ map rock_group others = cc same in
    let first = one_rock rock other (All-head K rock rocks is) (All-head K other others are) (All-head N rock rocks need)
    (All-head N other others needs) heads in
    let rest = rocks_alike rocks others (All-tail K rock rocks is) (All-tail K other others are)
    (All-tail N rock rocks need) (All-tail N other others needs) more in
    λ i. first i ∷ rest i

-- rocks that are gathered alike are equal
pub one_gathered : (rocks others : List ViewRock) → AreRocks rocks → AreRocks others
    → map rock_group rocks ≡ map rock_group others → rocks ≡ others
one_gathered rocks others is are same =
    rocks_alike rocks others is.are_keys are.are_keys is.are_wanted are.are_wanted same
