-- The answers to the goals of `checked_text::no_text`.
use Rattle.std.proofs.Common.{refl, subst}
use Rattle.types_declared.specs.States.{state_in}
use Rattle.types_declared.specs.ExportTablesView.{name_in, export_data_in}
use Rattle.types_check.specs.Check.{IsFindingIn}
use Rattle.build_unit.proofs.checked_text.no_text.Goals as goal

pub returns : goal.returns
returns c =
    let i = c.args.export_table.now in
    record {
      found = subst (λ ts. IsFindingIn c.args.path.now ts (state_in i.states) (name_in i) (export_data_in i) c.in_ok-checked.checked) c.deref.ensures.value
          c.in_ok-checked.ensures.found;
      text = refl;
    }
