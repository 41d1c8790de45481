-- The empty set is valid.
use Rattle.std.proofs.Common.{[], arith}
use Rattle.std.proofs.lemmas.List.Elements.{All-nil}
use Rattle.std.specs.List.Sorted.{IsStrictlySortedBy}
use Rattle.tree_claims.proofs.Members.{nil_none}
use Rattle.tree_claims.specs.Claims.{IsClean}
use Rattle.tree_sets.specs.Sets.{AreListed, CanStand, IsEntry}
use Rattle.valid_sets.specs.Valid.{IsValid}

none_listed : AreListed []
unfolding IsStrictlySortedBy
none_listed = tt

none_clean : IsClean []
none_clean = record { share = λ left right here there meet. absurd (nil_none left here) }

none_stands : CanStand []
none_stands = record {
  index = record { listed = none_listed; each = All-nil IsEntry; clean = none_clean };
  paths = All-nil _;
}

pub none_valid : IsValid []
none_valid = record {
  stands = none_stands;
  made = All-nil _;
  not_lua = All-nil _;
  closed = All-nil _;
  few_rocks = omega arith;
  few_files = omega arith;
}
