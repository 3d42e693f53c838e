-- The answers to the goals of `exporting::exports`.
use Rattle.std.proofs.Common.{◌≡◌, length, subst, arith}
use Rattle.types_declared.specs.ExportTablesView.{exports_at}
use Rattle.types_check.specs.Exports.{AreExportsBelow}
use Rattle.types_declared.specs.PackageView.{package_of}
use Rattle.types_check.proofs.exporting.exports.Goals as goal

pub returns : goal.returns
returns c =
    let all : c.loop-d.d ≡ length c.args.pkg.table.now.sites = omega (arith, c.len-d-end.ensures) in
    subst (λ n. AreExportsBelow (package_of c.args.pkg) n (exports_at c.loop-d.found)) all c.loop-d.invariant
