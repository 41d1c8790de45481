pub use Rattle.tree_sets.specs.Sets
pub use Rattle.tree_sets.specs.Trees
pub mod Valid
