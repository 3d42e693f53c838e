-- The package has faults.
use Rattle.std.proofs.Common.{◌≡◌, true, ap, sym, ◌∙◌}
use Rattle.workspace_check.specs.KnownFindings.{verdicts_by}
use Rattle.workspace_graph.specs.Borrows.{names}
use Rattle.refactor_part.proofs.LeavingOut.{next_faulty}
use Rattle.refactor_part.proofs.leaving.add_if_faulty.Goals as goal

pub returns : goal.returns
returns c =
    let w = c.args.graph.now in
    let known = verdicts_by c.args.table.now in
    let one = c.package-one.result.now in
    let left = c.args.left.now in
    let more = c.add_package.new.left in
    let faulty : (known one.path.items).faulty ≡ true =
    ap (λ q. (known q).faulty) (sym c.deref.ensures.value) ∙ sym c.has_faults.ensures ∙ c.if-not-has_faults.false in
    next_faulty w known c.args.number (names left.folders.items) (names left.paths.items) one.path.items c.package-one.ensures.path c.requires.first faulty
    one.trees.items one.faulty.items c.package-one.ensures.files (names more.folders.items) (names more.paths.items) c.in_ok-add_package.ensures.folders
    c.in_ok-add_package.ensures.paths
