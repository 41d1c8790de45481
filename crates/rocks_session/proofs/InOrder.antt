-- A rock whose files can stand beside each other has them in order.
use Rattle.std.proofs.Common.{◌<◌, ℕ, zero, suc, List, [], ◌∷◌, length, map, refl, arith, slice_index_or}
use Rattle.std.specs.List.{Contains}
use Rattle.rock_record.specs.Made.{HasGoodPaths}
use Rattle.rock_record.specs.Rocks.{IsInOrder}
use Rattle.rock_record.specs.declared.rock.Rock.{Rock}

abbrev File : Type 0
File = List ℕ × List ℕ

among : (files : List File) (k : ℕ) (d : File) → k < length files → Contains (map (λ file. file.0) files) (slice_index_or files k d).0
among [] k d within = absurd (omega arith)
among (file ∷ files) zero d within = (0, omega arith, refl)
among (file ∷ files) (suc k) d within = let later = among files k d (omega arith) in (suc later.0, omega arith, later.2)

pub in_order : (rock : Rock) → HasGoodPaths rock → IsInOrder rock
in_order rock good = record {
  items = good.items;
  own = good.own;
  apart = λ k d within. (good.own_beside (slice_index_or rock.own k d).0 (among rock.own k d within)).1.0;
}
