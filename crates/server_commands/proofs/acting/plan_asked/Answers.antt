-- The rename is planned on the view's snapshot.
use Rattle.std.proofs.Common.{subst}
use Rattle.std.specs.Prelude.{Err, Ok}
use Rattle.refactor_affected.specs.Renames.{PlansAffectedRename}
use Rattle.workspace_snapshot.specs.declared.snapshot.Snapshot.{Snapshot}
use Rattle.server_commands.proofs.acting.plan_asked.Goals as goal

pub units_behind-units-requires-clause-planned : goal.units_behind-units-requires-clause-planned
units_behind-units-requires-clause-planned c =
    let asked = c.args.asked in
    subst (λ (s : Snapshot). PlansAffectedRename s asked.path.now asked.offset asked.name.now (Ok c.in-Ok.planned.change)) c.get.ensures c.in-Ok.ensures.planned

pub returns-in-Ok-clause-planned : goal.returns-in-Ok-clause-planned
returns-in-Ok-clause-planned c =
    let asked = c.args.asked in
    subst (λ (s : Snapshot). PlansAffectedRename s asked.path.now asked.offset asked.name.now (Ok c.in-Ok.planned.change)) c.get.ensures c.in-Ok.ensures.planned

pub returns-in-Err-clause-planned : goal.returns-in-Err-clause-planned
returns-in-Err-clause-planned c =
    let asked = c.args.asked in
    subst (λ (s : Snapshot). PlansAffectedRename s asked.path.now asked.offset asked.name.now (Err c.in-Err.refusal)) c.get.ensures c.in-Err.ensures.planned
