-- The answers to the goals of `move_plan::plan_in`.
use Rattle.std.proofs.Common.{ap}
use Rattle.refs_binding.specs.WorkspaceFindings.{WorkspaceFindings}
use Rattle.refactor_plan.proofs.MovePlanned.{faults_refused}
use Rattle.refactor_plan.proofs.move_plan.plan_in.Goals as goal

pub returns-in-Err-clause-planned : goal.returns-in-Err-clause-planned
returns-in-Err-clause-planned c = faults_refused c.args.snapshot.now c.args.from.now c.args.to.now c.args.found.now.findings c.in-Err.refusal c.in-Err.ensures

pub plan_sound-requires-clause-same : goal.plan_sound-requires-clause-same
plan_sound-requires-clause-same c = ap (λ (v : WorkspaceFindings). v.graph) c.in-Ok.ensures.1
