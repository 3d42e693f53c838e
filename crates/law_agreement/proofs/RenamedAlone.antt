-- The uses of what a rename renames, where that is one declaration.
use Rattle.std.proofs.Common.{◌≡◌, List, subst}
use Rattle.std.specs.Prelude.{Contains}
use Rattle.base_files.specs.Workspace.{Workspace}
use Rattle.base_files.specs.declared.place.Place.{Place}
use Rattle.workspace_check.specs.Verdicts.{Verdicts}
use Rattle.refs_binding.specs.declared.declaration.Declaration.{Declaration}
use Rattle.refs_binding.specs.Uses.{IsUseOf}
use Rattle.refs_uses.specs.UsesOfEach.{IsUseOfSome}

-- a use of one of the set is one of the declaration
pub use_of_alone : (w : Workspace) (known : Verdicts) (d : Declaration) (set : List Declaration) → ((e : Declaration) → Contains set e → e ≡ d) →
    (place : Place) → IsUseOfSome w known set place → IsUseOf w known d place
use_of_alone w known d set only place u = subst (λ e. IsUseOf w known e place) (only u.declaration u.among) u.is_use

-- and a use of the declaration is one of the set
pub use_among : (w : Workspace) (known : Verdicts) (d : Declaration) (set : List Declaration) → Contains set d → (place : Place) → IsUseOf w known d place →
    IsUseOfSome w known set place
use_among w known d set has place u = record { declaration = d; among = has; is_use = u }
