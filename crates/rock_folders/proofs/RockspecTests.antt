-- What the tests of a rockspec tell.
use Rattle.std.proofs.Common.{◌≡◌, ◌≢◌, ◌&&◌, ℕ, Bool, List, length, sym, ap, ◌∙◌, subst, Some, None, Ok, IsTrue}
use Rattle.std.specs.FinMap.{get}
use Rattle.std.specs.Global.{Vec}
use Rattle.std.specs.Option.{option_map}
use Rattle.std.specs.Prelude.{IfSome, ◌↔◌, Option, MatchOption}
use Rattle.std.specs.Ordering.{eq_by_cmp}
use Rattle.std.proofs.lemmas.Bool.{and_from, and_parts}
use Rattle.md5.specs.Md5.{md5}
use Rattle.rocks_text.specs.Files.{path_cmp, Files}
use Rattle.rocks_version.specs.declared.key.RockKey.{RockKey}
use Rattle.rockspec.proofs.One.{one_spec}
use Rattle.rockspec.specs.Specs.{IsSpec}
use Rattle.rockspec.specs.declared.read.Rockspec.{Rockspec}
use Rattle.tree_sets.proofs.PathTies.{tied, ties}
use Rattle.rock_folders.specs.Folders.{IsRockspecOf}
use Rattle.rock_folders.specs.Steps.{IsNoRockspecOf, IsRockspecRead, IsSomeRockspec}
use Rattle.rock_folders.specs.declared.folder.FoundRockspec.{FoundRockspec}

pub same_key : (left right : RockKey) (same : Bool) → same ≡ (eq_by_cmp path_cmp left.name right.name && eq_by_cmp path_cmp left.version right.version)
    → IsTrue same ↔ (left ≡ right)
same_key left right same is = (
  λ told.
      let parts = and_parts (eq_by_cmp path_cmp left.name right.name) (eq_by_cmp path_cmp left.version right.version) (sym is ∙ told) in
      let names = tied left.name right.name parts.0 in
      let versions = tied left.version right.version parts.1 in
      λ i. record { name = names i; version = versions i },
  λ e. is ∙ and_from (eq_by_cmp path_cmp left.name right.name) (eq_by_cmp path_cmp left.version right.version)
      (ties left.name right.name (ap (λ (k : RockKey). k.name) e)) (ties left.version right.version (ap (λ (k : RockKey). k.version) e)),
)

-- what is kept of the rockspec that the bytes are
pub kept_is : (key : RockKey) (bytes : List ℕ) (spec : Rockspec) (kept : Option FoundRockspec) → IsSpec bytes spec
    → MatchOption kept (spec.key ≢ key)
    (λ found. (spec.key ≡ key) × (found.dependencies ≡ spec.dependencies) × (found.digest ≡ md5 bytes) × (found.length ≡ length bytes))
    → MatchOption kept (IsNoRockspecOf key bytes) (λ found. IsRockspecOf key (Some bytes) (Some found))
kept_is key bytes spec (Some found) is (same, needs, digests, sizes) = (spec, is, same, needs, digests, sizes)
kept_is key bytes spec None is told = λ other is_too same.
    let one = one_spec bytes (Ok spec) (Ok other) is is_too in
    let specs : spec ≡ other = cc in
    told (ap (λ (s : Rockspec). s.key) specs ∙ same)

-- what comes of a rockspec that isn't the rock's
pub none_read : (told : Option Files) (path : List ℕ) (read : Option (Vec ℕ)) (vec : Vec ℕ) (key : RockKey) (bytes : List ℕ) (found : Option FoundRockspec)
    → IfSome told (λ files. option_map (λ (v : Vec ℕ). v.items) read ≡ get files path) → read ≡ Some vec → bytes ≡ vec.items → found ≡ None
    → MatchOption found (IsNoRockspecOf key bytes) (λ one. IsRockspecOf key (Some bytes) (Some one))
    → IfSome told (λ files. IsRockspecRead key (get files path) None)
none_read None path read vec key bytes found held is bytes_are is_none tells = tt
none_read (Some files) path read vec key bytes found held is bytes_are is_none tells = (
  vec.items,
  sym held ∙ ap (option_map (λ (v : Vec ℕ). v.items)) is,
  subst (IsNoRockspecOf key) bytes_are
      (subst (λ (o : Option FoundRockspec). MatchOption o (IsNoRockspecOf key bytes) (λ one. IsRockspecOf key (Some bytes) (Some one))) is_none tells),
)

-- a rockspec that was read is that of some bytes
pub some_rockspec : (key : RockKey) (bytes : List ℕ) (read : Option FoundRockspec) (found : FoundRockspec) → read ≡ Some found
    → MatchOption read (IsNoRockspecOf key bytes) (λ one. IsRockspecOf key (Some bytes) (Some one)) → IsSomeRockspec key (Some found)
some_rockspec key bytes read found is tells =
    (Some bytes, subst (λ (o : Option FoundRockspec). MatchOption o (IsNoRockspecOf key bytes) (λ one. IsRockspecOf key (Some bytes) (Some one))) is tells)
