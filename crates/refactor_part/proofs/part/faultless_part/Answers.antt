-- The part differs from the workspace in the folders of packages with faults.
use Rattle.std.proofs.Common.{◌≡◌, List, ℕ, Bor, sym, subst}
use Rattle.std.specs.FinMap.{entries}
use Rattle.base_files.specs.Workspace.{Workspace}
use Rattle.build_carry.specs.Changes.{AreChanged}
use Rattle.workspace_check.specs.KnownFindings.{verdicts_by}
use Rattle.workspace_graph.specs.Borrows.{names}
use Rattle.refactor_part.specs.FaultlessPart.{faultless_part}
use Rattle.refactor_part.specs.LeftOut.{AreOfFaulty}
use Rattle.refactor_part.proofs.PartChanges.{part_differs}
use Rattle.refactor_part.proofs.part.faultless_part.Goals as goal

pub part_found-requires-clause-changed : goal.part_found-requires-clause-changed
part_found-requires-clause-changed c =
    let w = c.args.snapshot.now.files in
    let known = verdicts_by c.args.found.now.findings.export_table in
    let left = c.args.left.now in
    let folders = names left.folders.items in
    let paths : AreOfFaulty known (entries w) (names c.deref.result.now) =
    subst (λ (l : List (Bor (List ℕ))). AreOfFaulty known (entries w) (names l)) (sym c.deref.ensures.value) c.requires.left.files in
    let part : c.in_ok-files.files ≡ faultless_part w known = c.in_ok-files.ensures known paths in
    subst (λ (l : List (Bor (List ℕ))). AreChanged w c.in_ok-files.files (names l)) (sym c.deref-2.ensures.value)
    (subst (λ (v : Workspace). AreChanged w v folders) (sym part) (part_differs w known folders (names left.paths.items) c.requires.left))
