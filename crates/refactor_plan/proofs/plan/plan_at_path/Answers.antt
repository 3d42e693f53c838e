-- The answers to the goals of `plan::plan_at_path`.
use Rattle.std.proofs.Common.{◌≡◌, inr, ap, sym, subst, ◌∙◌}
use Rattle.std.specs.Prelude.{Some, Contains, slice_get}
use Rattle.std.proofs.lemmas.Option.{same_Some, slice_get_within}
use Rattle.base_files.specs.Packages.{package_paths}
use Rattle.types_declared.specs.PackageView.{package_of}
use Rattle.refs_binding.specs.WorkspaceFindings.{WorkspaceFindings}
use Rattle.refs_binding.specs.Workspaces.{IsPackageAt, known_in}
use Rattle.refs_binding.proofs.Units.{list_of_sound}
use Rattle.refactor_plan.specs.Proposals.{proposed_verdicts}
use Rattle.refactor_plan.proofs.Homes.{fixed_without_home, same_home}
use Rattle.refactor_plan.proofs.plan.plan_at_path.Goals as goal

pub returns-in-None-clause-planned : goal.returns-in-None-clause-planned
returns-in-None-clause-planned c =
    let p = c.args.proposal.now in
    let w = p.workspace.now.graph in
    let known = proposed_verdicts p in
    let d = c.args.declaration.now in
    let sound = c.has_no_faults.ensures in (
      list_of_sound w p.workspace.now.findings sound,
      inr (record {
        asked = record { known = known; right = sound.findings.right; declaration = d; has = c.requires.has };
        fixed = fixed_without_home w known sound.findings.right p.path.now p.offset d c.requires.has
            (λ q e has.
            let same : q ≡ c.args.path.now = same_Some q c.args.path.now (sym e ∙ same_home d ∙ sym c.requires.home) in
            c.in-None.ensures (subst (Contains (package_paths w)) (same ∙ sym c.path.ensures) has));
      }),
    )

pub plan_named-requires-clause-home : goal.plan_named-requires-clause-home
plan_named-requires-clause-home c =
    let p = c.args.proposal.now in
    let read = c.args.read.now in
    let w = p.workspace.now.graph in
    let unit = package_of read.of.unit in
    let here : IsPackageAt w (proposed_verdicts p) read.at.number unit =
    subst (λ (v : WorkspaceFindings). IsPackageAt v.graph (known_in v.findings) read.at.number unit) c.requires.read.same c.requires.read.is_read.unit in
    let there : slice_get (package_paths w) c.in-Some.number ≡ Some c.args.path.now = c.in-Some.ensures ∙ ap Some c.path.ensures in
    sym c.requires.home ∙ sym there ∙ ap (slice_get (package_paths w)) c.if-number-read.true ∙ here.has_number

pub plan_elsewhere-requires-clause-in_range : goal.plan_elsewhere-requires-clause-in_range
plan_elsewhere-requires-clause-in_range c =
    slice_get_within (package_paths c.args.proposal.now.workspace.now.graph) c.in-Some.number _ c.in-Some.ensures

pub plan_elsewhere-requires-clause-home : goal.plan_elsewhere-requires-clause-home
plan_elsewhere-requires-clause-home c = c.in-Some.ensures ∙ ap Some c.path.ensures ∙ c.requires.home ∙ sym (same_home c.args.declaration.now)
