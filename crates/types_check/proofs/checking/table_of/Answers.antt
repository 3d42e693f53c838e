-- The answers to the goals of `checking::table_of`.
use Rattle.std.proofs.Common.{subst}
use Rattle.std.specs.Prelude.{Contains}
use Rattle.std.proofs.lemmas.Option.{none-some, same_Some}
use Rattle.types_declared.specs.States.{state_in}
use Rattle.types_declared.specs.ExportTablesView.{name_in}
use Rattle.types_check.specs.Check.{IsSoundTable}
use Rattle.types_check.proofs.Staging.{none_found, nothing_in}
use Rattle.types_check.proofs.checking.table_of.Goals as goal

pub returns-then-not-is_empty : goal.returns-then-not-is_empty
returns-then-not-is_empty c = λ table is. absurd (none-some table is)

pub returns : goal.returns
returns c = λ table is.
    let faults = c.in_ok-faults.faults in
    subst (IsSoundTable c.args.files.now (state_in c.args.states.now) (name_in c.args.export_table.now)) (same_Some c.in_ok-table.table table is) (record {
      faultless = λ f by.
          nothing_in f (subst (λ fs. Contains fs f) (none_found faults c.is_empty.result c.is_empty.ensures c.if-not-is_empty.false)
          (c.in_ok-faults.ensures.listed.holds f by));
      is_laid = c.in_ok-table.ensures;
    })
