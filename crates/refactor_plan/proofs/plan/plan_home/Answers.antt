-- The answers to the goals of `plan::plan_home`.
use Rattle.std.proofs.Common.{inr, sym, ◌∙◌}
use Rattle.std.proofs.lemmas.Option.{none-some}
use Rattle.refs_binding.proofs.Units.{list_of_sound}
use Rattle.refactor_plan.specs.Proposals.{proposed_verdicts}
use Rattle.refactor_plan.proofs.Homes.{fixed_without_home, same_home}
use Rattle.refactor_plan.proofs.plan.plan_home.Goals as goal

pub returns-in-None-clause-planned : goal.returns-in-None-clause-planned
returns-in-None-clause-planned c =
    let p = c.args.proposal.now in
    let w = p.workspace.now.graph in
    let known = proposed_verdicts p in
    let d = c.args.declaration.now in
    let sound = c.has_no_faults.ensures in (
      list_of_sound w p.workspace.now.findings sound,
      inr (record {
        asked = record { known = known; right = sound.findings.right; declaration = d; has = c.requires.has };
        fixed = fixed_without_home w known sound.findings.right p.path.now p.offset d c.requires.has
            (λ q e has. none-some q (c.in-None.ensures ∙ sym (same_home d) ∙ e));
      }),
    )
