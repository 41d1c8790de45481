-- Which set an empty tree stands for.
use Rattle.std.proofs.Common.{◌≡◌, List, [], Option, IfSome, refl, subst, sym, ap}
use Rattle.std.specs.FinMap.{empty}
use Rattle.rocks_text.specs.Files.{Files}
use Rattle.rocks_outside.specs.Device.{DeviceState}
use Rattle.rock_record.specs.declared.rock.Rock.{Rock}
use Rattle.rocks_session.specs.Opened.{Opens, IsTreeOf, IsOpenAs}
use Rattle.rocks_session.specs.Step.{keys_of}

pub opens_empty : (found : Option Files) (device : DeviceState) → device.files ≡ found → IfSome found (λ files. files ≡ empty) → (set : List Rock) × IsOpenAs set [] device
opens_empty found device same none =
    ([], record { tree = refl; opens = record { empty = refl; files = subst (λ f. IfSome f (λ files. files ≡ empty)) (sym same) none } })

pub tree_of_opened : (set : List Rock) (found : Option Files) → Opens found set → IsTreeOf set []
tree_of_opened set found opens = ap keys_of (sym opens.empty)
