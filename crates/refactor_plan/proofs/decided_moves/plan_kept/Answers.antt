-- The answers to the goals of `decided_moves::plan_kept`.
use Rattle.std.proofs.Common.{ap, sym, subst, ◌∙◌}
use Rattle.base_files.specs.Workspace.{Workspace}
use Rattle.workspace_check.specs.Found.{KnowsVerdicts}
use Rattle.workspace_snapshot.specs.declared.change.Change.{Change}
use Rattle.workspace_snapshot.specs.declared.change.ChangeKind.TheVariants.{Move}
use Rattle.refactor_preserve.specs.Planned.{change_in}
use Rattle.refactor_plan.specs.DecidedMoves.{KnowsMoved}
use Rattle.refactor_plan.specs.Proposals.{proposed_snapshot, proposed_verdicts}
use Rattle.refactor_plan.proofs.DecidedMoves.{kept, preserved}
use Rattle.refactor_plan.proofs.Proposed.{kept_planned}
use Rattle.refactor_plan.proofs.decided_moves.plan_kept.Goals as goal

pub within_limits-requires : goal.within_limits-requires
within_limits-requires c =
    let p = c.args.proposal.now in
    let w = p.workspace.now.graph in
    let known = proposed_verdicts p in
    let s = c.args.edits in
    let rest = c.in_ok-known.known in
    let same = ap (λ (x : Change). x.files) c.in_ok-change.ensures in
    let moved = subst (λ (after : Workspace). KnowsMoved w after known p.path.now c.args.to.now p.known.now rest)
    (ap (λ (x : Change). x.files) c.get.ensures ∙ same) c.in_ok-known.ensures in
    subst (λ (after : Workspace). KnowsVerdicts after rest) (sym same)
    (kept w known p.path.now c.args.to.now s c.requires.planned p.known.now rest c.requires.proposed.known c.requires.kept moved)

pub returns-clause-planned : goal.returns-clause-planned
returns-clause-planned c =
    let p = c.args.proposal.now in
    let known = proposed_verdicts p in
    let s = c.args.edits in
    kept_planned (proposed_snapshot p) known Move s c.in_ok-change.change c.in_ok-change.ensures
    (preserved (proposed_snapshot p) known p.path.now c.args.to.now s c.requires.planned c.requires.kept) (change_in c.within_limits.result)
    c.within_limits.ensures.planned

pub returns-clause-known : goal.returns-clause-known
returns-clause-known c = c.within_limits.ensures.known
