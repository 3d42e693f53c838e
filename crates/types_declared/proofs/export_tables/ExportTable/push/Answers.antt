-- The answers to the goals of `export_tables::ExportTable::push`.
use Rattle.std.proofs.Common.{refl}
use Rattle.types_declared.specs.declared.export_tables.ExportTable.{ExportTable}
use Rattle.types_declared.proofs.AddingExports.{is_pushed, ends_pushed}
use Rattle.types_declared.proofs.export_tables.ExportTable.push.Goals as goal

pub returns-clause-set : goal.returns-clause-set
returns-clause-set c =
    let old = c.args.self.now in
    let new : ExportTable = record { definitions = record { packages = c.push.new.self }; states = old.states } in
    is_pushed old new c.args.path c.args.known c.requires c.in_ok-push.ensures.ok refl

pub returns-clause-end : goal.returns-clause-end
returns-clause-end c =
    let old = c.args.self.now in
    let new : ExportTable = record { definitions = record { packages = c.push.new.self }; states = old.states } in
    ends_pushed old new c.args.path c.args.known c.requires c.in_ok-push.ensures.ok
