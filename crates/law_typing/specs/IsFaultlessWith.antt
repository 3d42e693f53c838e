-- The outcome of the check of a part without a fault, and the results of a function as targets.
use Rattle.std.specs.Prelude.{◌≡◌, List, [], Some, map}
use Rattle.types_expr.specs.Types.{PlainType}
use Rattle.types_expr.specs.World.{Locals}
use Rattle.types_stmt.specs.Checked.{FoundSoFar}
use Rattle.types_stmt.specs.Sides.{Target, Wants}

-- the check s has found no fault, and its locals are `after`
pub record IsFaultlessWith (s : FoundSoFar) (after : Locals) : Type 0 where
  pub locals : s.locals ≡ after
  pub faultless : s.faults ≡ []

-- the targets of returned values: the results of a function
abbrev pub typed_targets : List PlainType → List Target
typed_targets results = map (λ t. Wants (Some t)) results
