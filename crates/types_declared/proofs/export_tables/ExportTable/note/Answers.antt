-- The answers to the goals of `export_tables::ExportTable::note`.
use Rattle.std.proofs.Common.{ap}
use Rattle.std.specs.Prelude.{unwrap_or, Some}
use Rattle.types_declared.specs.declared.states.ImportState.TheVariants.{Missing}
use Rattle.types_declared.proofs.ByteKeys.{others_stay}
use Rattle.types_declared.proofs.export_tables.ExportTable.note.Goals as goal

pub returns-clause-noted : goal.returns-clause-noted
returns-clause-noted c = record {
  here = ap (λ o. unwrap_or o Missing) c.in_ok-insert.ensures.updates.1;
  elsewhere = λ p ne. ap (λ o. unwrap_or o Missing) (others_stay c.args.self.now.states.states c.insert.new.self c.args.path (Some c.args.state)
      c.in_ok-insert.ensures.updates p ne);
}
