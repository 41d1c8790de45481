pub use Rattle.lua_print.specs.Printed
pub use Rattle.lua_value.specs.Pairs
pub mod Text
pub mod Views
