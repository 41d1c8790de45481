-- Locals as trees of numbers, which tell them apart: what a model asks of its values.
use Rattle.std.specs.Prelude.{ℕ, List, refl}
use Rattle.std.specs.Coded.{Coded, code_by, coded_list, coded×, coded_ℕ}
use Rattle.lua_value.specs.declared.key.Key.TheVariants.{Int}
use Rattle.lua_value.specs.Pairs.{Datum, Pairs, nil, no_pairs, with_pair}
use Rattle.lua_value.specs.Code.{coded_pairs}

-- a value as the pairs with that value alone, and back
abbrev alone : Datum → Pairs
alone value = with_pair (Int 0) value no_pairs

abbrev first_value : Pairs → Datum
first_value no_pairs = nil
first_value (with_pair key value rest) = value

abbrev coded_datum : Coded Datum
coded_datum = code_by Pairs coded_pairs alone first_value (λ _. refl)

abbrev pub coded_locals : Coded (List (List ℕ × Datum))
coded_locals = coded_list (coded× (coded_list coded_ℕ) coded_datum)
