-- The faults of the first stage of checking that has any. A stage is a predicate on faults.
use Rattle.std.specs.Prelude.{◌⊎◌}
use Rattle.types_declared.specs.declared.fault.Fault.{Fault}

-- the stage P has no fault
abbrev pub HasNoFault : (Fault → Type 0) → Type 0
HasNoFault P = (f : Fault) → P f → ⊥

-- f is a fault of the stage P, or where P has none, a fault of the later stages
abbrev pub FirstOf : (Fault → Type 0) → (Fault → Type 0) → Fault → Type 0
FirstOf P later f = P f ⊎ (HasNoFault P × later f)
