-- What follows from a copy of what is known, and of threads that are begun beside others.
use Rattle.std.proofs.Common.{◌≡◌, ◌++◌, Bool, true, false, List, IfOk, OnOk, Result, Ok, Err, if◌then◌else◌, subst, sym}
use Rattle.std.specs.List.{All}
use Rattle.std.proofs.lemmas.List.Elements.{All-append, All-same}
use Rattle.base_files.specs.Workspace.{Workspace}
use Rattle.workspace_check.proofs.Telling.{known_same}
use Rattle.workspace_check.specs.Found.{HoldSameVerdicts, KnowsVerdicts}
use Rattle.workspace_check.specs.declared.known.Known.{Known}

-- A shared copy knows what was known.
pub copy_knows : {E : Type 0} (w : Workspace) (known copy : Known) (shared : Result Known E) → HoldSameVerdicts known.verdicts.items copy.verdicts.items
    → KnowsVerdicts w known → IfOk shared (λ one. one ≡ copy) → IfOk shared (KnowsVerdicts w)
copy_knows w known copy (Ok one) same knows e = subst (KnowsVerdicts w) (sym e) (known_same w known copy same knows)
copy_knows w known copy (Err fault) same knows e = tt

-- what holds of each of two lists holds of the list to which the second was appended, or was not
pub all_appended : {X : Type 0} (P : X → Type 0) (old other new : List X) (is_ok : Bool) → new ≡ (if is_ok then old ++ other else old)
    → All P old → All P other → All P new
all_appended P old other new true is first second = All-same P new (old ++ other) is (All-append P old other first second)
all_appended P old other new false is first second = All-same P new old is first

-- what holds anyway holds where the outcome is done
pub whatever : {X E : Type 0} (P : Type 0) (outcome : Result X E) → P → OnOk outcome P
whatever P (Ok x) holds = holds
whatever P (Err fault) holds = tt
