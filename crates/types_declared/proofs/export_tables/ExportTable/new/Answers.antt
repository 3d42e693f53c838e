-- The answers to the goals of `export_tables::ExportTable::new`.
use Rattle.types_declared.specs.declared.export_tables.ExportTable.{ExportTable}
use Rattle.types_declared.proofs.AddingExports.{nothing_known, behind_none}
use Rattle.types_declared.proofs.export_tables.ExportTable.new.Goals as goal

pub returns-clause-export_table : goal.returns-clause-export_table
returns-clause-export_table c = λ path.
    let i : ExportTable = record { definitions = record { packages = c.new.result }; states = c.new-2.result } in
    nothing_known i c.new.ensures path

pub returns-clause-behind : goal.returns-clause-behind
returns-clause-behind c = λ path.
    let i : ExportTable = record { definitions = record { packages = c.new.result }; states = c.new-2.result } in
    behind_none i c.new.ensures path
