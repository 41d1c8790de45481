pub use Rattle.tree_model.specs.Held
pub use Rattle.tree_moves.specs.Moves
pub use Rattle.tree_sets.specs.Trees
pub mod Change
