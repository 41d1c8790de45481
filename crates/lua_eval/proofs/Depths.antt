-- How deep trees stand within one another: what recursion over them goes down.
use Rattle.std.proofs.Common.{ℕ, suc}
use Rattle.std.specs.Prelude.{max}
use Rattle.lua_syntax.specs.Trees.{Tree, Suffixes, Trees, Fields, nil, truth, int, text, name, index, concat, table, no_suffixes, with_suffix, no_trees, with_tree, no_fields, with_position, with_key}

abbrev mutual
  pub tree_depth : Tree → ℕ
  tree_depth (nil place) = 0
  tree_depth (truth place b) = 0
  tree_depth (int place n) = 0
  tree_depth (text place bytes) = 0
  tree_depth (name place bytes) = 0
  tree_depth (index place base suffixes) = suc (max (tree_depth base) (suffixes_depth suffixes))
  tree_depth (concat place operands operators) = suc (trees_depth operands)
  tree_depth (table place fields) = suc (fields_depth fields)

  pub suffixes_depth : Suffixes → ℕ
  suffixes_depth no_suffixes = 0
  suffixes_depth (with_suffix place key rest) = max (suc (tree_depth key)) (suffixes_depth rest)

  pub trees_depth : Trees → ℕ
  trees_depth no_trees = 0
  trees_depth (with_tree first rest) = max (suc (tree_depth first)) (trees_depth rest)

  pub fields_depth : Fields → ℕ
  fields_depth no_fields = 0
  fields_depth (with_position place value rest) = max (suc (tree_depth value)) (fields_depth rest)
  fields_depth (with_key place key value rest) = max (suc (max (tree_depth key) (tree_depth value))) (fields_depth rest)
