-- What threads give that check packages of a workspace.
use Rattle.std.specs.Prelude.{IfOk, Result, Vec}
use Rattle.base_files.specs.Workspace.{Workspace}
use Rattle.workspace_check.specs.Found.{AreVerdictsOf}
use Rattle.workspace_check.specs.declared.known.KnownVerdict.{KnownVerdict}

-- Where memory suffices, verdicts on packages of the workspace are given.
abbrev pub GiveVerdictsOf : {E Z : Type 0} → Workspace → Result (Vec KnownVerdict Z) E → Type 0
GiveVerdictsOf w given = IfOk given (λ found. AreVerdictsOf w found.items)
