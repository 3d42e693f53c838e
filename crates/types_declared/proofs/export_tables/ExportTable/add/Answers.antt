-- The answers to the goals of `export_tables::ExportTable::add`.
use Rattle.std.proofs.Common.{ap, subst}
use Rattle.std.specs.Prelude.{Option, Some}
use Rattle.types_expr.specs.declared.exports.ExportData.{ExportData}
use Rattle.types_declared.specs.ExportTablesView.{SetsKnown}
use Rattle.types_declared.proofs.export_tables.ExportTable.add.Goals as goal

pub returns-clause-added : goal.returns-clause-added
returns-clause-added c =
    let old = c.args.self.now in
    let new = c.set.new.self in
    let i = c.args.export_data in
    subst (λ p. SetsKnown old new p (Some i)) c.in_ok-path.ensures
    (subst (λ (k : Option ExportData). SetsKnown old new c.in_ok-path.path k)
    (ap (λ (x : ExportData). Some x) c.in_ok-known.ensures.ok) c.in_ok-set.ensures.set)
