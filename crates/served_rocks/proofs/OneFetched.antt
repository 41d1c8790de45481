-- What the servers hold makes one rock of a key, or has one reason why not.
use Rattle.std.proofs.Common.{◌≡◌, ℕ, List, Option, None, Some, sym, ap, ◌∙◌, subst, arith, inl, inr, Ok, Err}
use Rattle.std.specs.Prelude.{Result}
use Rattle.rocks_text.specs.Files.{Files}
use Rattle.rocks_version.specs.declared.key.RockKey.{RockKey}
use Rattle.build_plan.specs.declared.plan.BuildPlan.{BuildPlan}
use Rattle.build_plan.specs.declared.plan.BuildPlan.TheVariants as plans
use Rattle.rock_build.proofs.OneRock.{one_built, one_unpacked}
use Rattle.rock_record.specs.declared.rock.Rock.{Rock}
use Rattle.rockspec.proofs.One.{one_spec}
use Rattle.rockspec.specs.declared.read.Rockspec.{Rockspec}
use Rattle.rocks_reply.specs.declared.reply.Refusal.{Refusal}
use Rattle.served_rocks.specs.Fetched.{built, IsFetched, IsFetchedBy, IsMade, IsMadeOf, IsPlanned}
use Rattle.served_rocks.specs.Rockspecs.{matching, spec_path, IsChecked}
use Rattle.served_rocks.specs.Search.{earliest_with}
use Rattle.served_rocks.specs.declared.rockspecs.Origin.{Origin}
use Rattle.served_rocks.specs.declared.rockspecs.Origin.TheVariants.{Unpacked, Sources}

module _ (key : RockKey) where
  pub one_checked : (bytes : List ℕ) (one other : Result Rockspec Refusal) → IsChecked key bytes one → IsChecked key bytes other → one ≡ other
  one_checked bytes one other (inl is) (inl too) = is.1 ∙ sym too.1
  one_checked bytes one other (inl is) (inr too) = absurd (omega (arith, is.0, too.0))
  one_checked bytes one other (inr is) (inl too) = absurd (omega (arith, is.0, too.0))
  one_checked bytes one other (inr (short, (read, has, is))) (inr (shorter, (again, has_too, too))) = is ∙ ap (matching key) (one_spec bytes read again has has_too) ∙ sym too

  module _ (files : Files) (bytes : List ℕ) (spec : Rockspec) where
    one_plan : (plan : BuildPlan) (one other : Result Rock Refusal) → IsPlanned key files bytes spec plan one → IsPlanned key files bytes spec plan other → one ≡ other
    one_plan (plans.Build recipe) one other (left, is, told) (right, too, told_too) = told ∙ ap (built key) (one_built spec bytes recipe files left right is too) ∙ sym told_too
    one_plan (plans.Refused fault) one other is too = is ∙ sym too

    one_made : (origin : Origin) (one other : Result Rock Refusal) → IsMade origin key files bytes spec one → IsMade origin key files bytes spec other → one ≡ other
    one_made Unpacked one other (left, is, told) (right, too, told_too) = told ∙ ap (built key) (one_unpacked spec bytes files left right is too) ∙ sym told_too
    one_made Sources one other is too = one_plan spec.plan one other is too

  one_of : (origin : Origin) (files : Files) (bytes : List ℕ) (checked : Result Rockspec Refusal) (one other : Result Rock Refusal) → IsMadeOf origin key files bytes checked one → IsMadeOf origin key files bytes checked other → one ≡ other
  one_of origin files bytes (Ok spec) one other is too = one_made files bytes spec origin one other is too
  one_of origin files bytes (Err refusal) one other is too = is ∙ sym too

  module _ (origin : Origin) where
    one_by : (found : Option Files) (one other : Result Rock Refusal) → IsFetchedBy origin key found one → IsFetchedBy origin key found other → one ≡ other
    one_by None one other is too = is ∙ sym too
    one_by (Some files) one other is too =
        let both : Some is.bytes ≡ Some too.bytes = sym is.at ∙ too.at in
        let same : is.bytes ≡ too.bytes = cc in
        let checked : is.checked ≡ too.checked = one_checked too.bytes is.checked too.checked (subst (λ b. IsChecked key b is.checked) same is.is_checked) too.is_checked in
        one_of origin files too.bytes too.checked one other
        (subst (λ c. IsMadeOf origin key files too.bytes c one) checked (subst (λ b. IsMadeOf origin key files b is.checked one) same is.makes)) too.makes

pub one_fetched : (origin : Origin) (key : RockKey) (servers : List Files) (one other : Result Rock Refusal) → IsFetched origin key servers one → IsFetched origin key servers other → one ≡ other
one_fetched origin key servers one other is too = one_by key origin (earliest_with (spec_path origin key) servers) one other is too
