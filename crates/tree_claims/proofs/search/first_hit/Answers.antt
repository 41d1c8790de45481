use Rattle.std.proofs.Common.{subst, sym}
use Rattle.std.specs.Prelude.{◌⊎◌}
use Rattle.std.specs.List.{Any}
use Rattle.std.proofs.lemmas.List.{get_or_read, take_all}
use Rattle.std.proofs.lemmas.List.Elements.{All-more, All-same}
use Rattle.tree_claims.specs.Index.{Hits, IsFree}
use Rattle.tree_claims.specs.declared.entry.Entry.{Entry}
use Rattle.tree_claims.proofs.Found.{free_if, hit_if}
use Rattle.tree_claims.proofs.search.first_hit.Goals as goal

pub returns-then-not-branch : goal.returns-then-not-branch
returns-then-not-branch c = (
  c.loop-at-test.true,
  c.loop-at.invariant,
  λ d.
      let hit = hit_if c.args.others.now c.args.own.now _ c.in_ok-is_free.field-0 c.if-not-branch.true c.in_ok-is_free.ensures in
      let here = get_or_read c.args.own.now c.loop-at.at c.index-own-at.result c.loop-at-test.true c.index-own-at.is d in
      subst (λ (e : Entry). Any (Hits e) c.args.others.now ⊎ Any (Hits e) c.args.own.now) here hit,
)

pub loop-at-preserved : goal.loop-at-preserved
loop-at-preserved c = let free = free_if c.args.others.now c.args.own.now _ c.in_ok-is_free.field-0 c.if-not-branch.false c.in_ok-is_free.ensures in
    All-more (IsFree c.args.others.now c.args.own.now) c.args.own.now c.loop-at.at c.index-own-at.result c.loop-at-test.true c.loop-at.invariant
    (subst (λ (e : Entry). IsFree c.args.others.now c.args.own.now e) c.index-own-at.is free)

pub returns : goal.returns
returns c = All-same (IsFree c.args.others.now c.args.own.now) c.args.own.now _ (sym (take_all c.loop-at.at c.args.own.now c.loop-at-test.false)) c.loop-at.invariant
