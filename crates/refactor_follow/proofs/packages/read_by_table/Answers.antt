-- The answers to the goals of `packages::read_by_table`.
use Rattle.std.proofs.Common.{sym, subst}
use Rattle.types_declared.specs.Package.{Package}
use Rattle.types_declared.specs.PackageView.{package_of}
use Rattle.refs_binding.specs.Workspaces.{known_in}
use Rattle.refs_binding.proofs.PackageReaders.{package_read}
use Rattle.refs_binding.proofs.Units.{one_at}
use Rattle.refactor_follow.specs.MoveReadings.{MarksImportUses}
use Rattle.refactor_follow.proofs.packages.read_by_table.Goals as goal

pub returns-clause-conflict : goal.returns-clause-conflict
returns-clause-conflict c =
    let p = package_of c.unit-unit.result in
    let at = package_read _ c.in_ok-reader.reader p c.in_ok-reader.ensures.at c.unit-unit.ensures in
    record { inside = p; is_package = at; first = c.in_ok-conflict.ensures }

pub returns-clause-uses : goal.returns-clause-uses
returns-clause-uses c = λ q is.
    let p = package_of c.unit-unit.result in
    let at = package_read _ c.in_ok-reader.reader p c.in_ok-reader.ensures.at c.unit-unit.ensures in
    let w = c.args.at.workspace.now.graph in
    subst (λ (x : Package). MarksImportUses x c.args.new.path.now c.in_ok-rows.rows.items)
    (one_at w (known_in c.args.at.workspace.now.findings) c.args.at.number p q at is) c.in_ok-rows.ensures
