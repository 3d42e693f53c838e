-- The state of a path in a table, and the fault of an import of such a path.
use Rattle.std.specs.Prelude.{ℕ, List, Option, Some, None, unwrap_or}
use Rattle.std.specs.Cmp.Lexicographic.{slice_cmp}
use Rattle.std.specs.Ordering.{nat_cmp}
use Rattle.std.specs.BTreeMap.{get_by}
use Rattle.base_files.specs.declared.fault_kind.FaultKind.{FaultKind}
use Rattle.base_files.specs.declared.fault_kind.FaultKind.TheVariants as kind
use Rattle.types_declared.specs.declared.states.ImportState.{ImportState}
use Rattle.types_declared.specs.declared.states.ImportState.TheVariants.{Missing, OnCycle, Faulty, Good}
use Rattle.types_declared.specs.declared.states.ImportStates.{ImportStates}

-- the state of a path; a path without an entry is missing
abbrev pub state_in : ImportStates → List ℕ → ImportState
state_in t path = unwrap_or (get_by (λ key. slice_cmp nat_cmp path key.items) t.states) Missing

-- the kind of fault of an import whose path is in this state
abbrev pub import_fault : ImportState → Option FaultKind
import_fault Missing = Some kind.Missing
import_fault OnCycle = Some kind.Cycle
import_fault Faulty = Some kind.Import
import_fault Good = None
