-- The answers to the goals of `decided::plan_kept`.
use Rattle.std.proofs.Common.{inr, ap, sym, subst}
use Rattle.base_files.specs.Workspace.{Workspace}
use Rattle.workspace_check.specs.Found.{KnowsVerdicts}
use Rattle.workspace_snapshot.specs.declared.change.Change.{Change}
use Rattle.refactor_preserve.specs.Planned.{change_in}
use Rattle.refactor_plan.specs.Decided.{KeepsKnown}
use Rattle.refactor_plan.specs.Proposals.{proposed_snapshot, proposed_verdicts}
use Rattle.refactor_plan.proofs.DecidedRenames.{kept, preserved}
use Rattle.refactor_plan.proofs.Homes.{coupled_edits}
use Rattle.refactor_plan.proofs.ProposedRenames.{kept_renamed}
use Rattle.refactor_plan.proofs.decided.plan_kept.Goals as goal

pub within_limits-requires : goal.within_limits-requires
within_limits-requires c =
    let p = c.args.proposal.now in
    let s = c.in_ok-edits.edits in
    let asked = c.args.renaming.now in
    let set = asked.set.now in
    let are = coupled_edits p c.args.read.now c.requires.read asked c.requires.set s c.in_ok-edits.ensures.edits in
    let keeps : KeepsKnown p.workspace.now.graph set c.args.is_hidden p.known.now c.in_ok-known.known =
    subst (λ (w : Workspace). KeepsKnown w set c.args.is_hidden p.known.now c.in_ok-known.known)
    (sym c.requires.proposed.same) c.in_ok-known.ensures in
    subst (λ (w : Workspace). KnowsVerdicts w c.in_ok-known.known) (sym (ap (λ (x : Change). x.files) c.in_ok-change.ensures))
    (kept p.workspace.now.graph (proposed_verdicts p) set s c.args.is_hidden (c.requires.decided s are c.in_ok-edits.ensures.fits) p.known.now
    c.in_ok-known.known c.requires.proposed.known keeps)

pub returns-clause-planned : goal.returns-clause-planned
returns-clause-planned c =
    let p = c.args.proposal.now in
    let known = proposed_verdicts p in
    let s = c.in_ok-edits.edits in
    let asked = c.args.renaming.now in
    let set = asked.set.now in
    let are = coupled_edits p c.args.read.now c.requires.read asked c.requires.set s c.in_ok-edits.ensures.edits in
    let fits = c.in_ok-edits.ensures.fits in
    inr (
      set,
      (
        s,
        (
          are,
          (
            fits,
            kept_renamed (proposed_snapshot p) known s c.in_ok-change.change c.in_ok-change.ensures
                (preserved p.workspace.now.graph known set s c.args.is_hidden (c.requires.decided s are fits))
                (change_in c.within_limits.result) c.within_limits.ensures.planned,
          ),
        ),
      ),
    )

pub returns-clause-known : goal.returns-clause-known
returns-clause-known c = c.within_limits.ensures.known
