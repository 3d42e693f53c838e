-- The answers to the goals of `export_tables::ExportTable::set`.
use Rattle.std.proofs.Common.{refl}
use Rattle.types_declared.specs.declared.export_tables.ExportTable.{ExportTable}
use Rattle.types_declared.proofs.AddingExports.{is_set}
use Rattle.types_declared.proofs.export_tables.ExportTable.set.Goals as goal

pub returns-clause-set : goal.returns-clause-set
returns-clause-set c =
    let old = c.args.self.now in
    let new : ExportTable = record { definitions = record { packages = c.put.new.self }; states = old.states } in
    is_set old new c.args.path c.args.known c.in_ok-put.ensures.ok refl
