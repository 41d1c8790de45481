-- Facts for each fault but want of memory.
use Rattle.schema_table.specs.declared.fault.ShapeFault.{ShapeFault}
use Rattle.schema_table.specs.declared.fault.ShapeFault.TheVariants.{Unknown, TooNew, WrongShape, Missing, NoMemory}
use Rattle.schema_table.specs.Walk.{IfTold}

pub IfTold-weaker : (fault : ShapeFault) {P Q : Type 0} → (P → Q) → IfTold fault P → IfTold fault Q
IfTold-weaker (Unknown told) f p = f p
IfTold-weaker (TooNew number) f p = f p
IfTold-weaker (WrongShape number) f p = f p
IfTold-weaker (Missing number) f p = f p
IfTold-weaker NoMemory f p = tt
