-- The folder of the file, where it is that of a package, and else no identifier.
use Rattle.std.proofs.Common.{◌∙◌, ap, sym, subst}
use Rattle.std.specs.Prelude.{Some, Contains}
use Rattle.base_files.specs.Packages.{package_paths}
use Rattle.base_files.specs.declared.refusal.Refusal.TheVariants.{NoIdentifier}
use Rattle.refs_lookup.proofs.Asking.{no_folder}
use Rattle.refactor_plan.specs.Proposals.{proposed_verdicts}
use Rattle.refactor_affected.proofs.PlannedRead.{read_refused}
use Rattle.refactor_affected.proofs.in_part.plan_found.Goals as goal

pub returns-in-None-clause-planned : goal.returns-in-None-clause-planned
returns-in-None-clause-planned c =
    let p = c.args.proposal.now in
    let w = p.workspace.now.graph in
    let known = proposed_verdicts p in
    read_refused c.args.renaming.now c.requires.part p c.requires.proposed NoIdentifier (record {
      known = known;
      right = c.has_no_faults.ensures.findings.right;
      none = λ q is u holds. no_folder w known p.path.now (λ has. c.in-None.ensures (subst (Contains (package_paths w)) (sym c.folder.ensures) has)) q is;
    })

pub plan_package-requires-clause-folder : goal.plan_package-requires-clause-folder
plan_package-requires-clause-folder c = c.in-Some.ensures ∙ ap Some c.folder.ensures
