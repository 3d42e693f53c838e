-- The answers to the goals of `checked_text::seen_text`.
use Rattle.std.proofs.Common.{subst}
use Rattle.types_declared.specs.States.{state_in}
use Rattle.types_declared.specs.ExportTablesView.{name_in}
use Rattle.types_check.specs.Check.{IsTableFound}
use Rattle.build_unit.proofs.checked_text.seen_text.Goals as goal

pub laid_text-requires : goal.laid_text-requires
laid_text-requires c =
    let i = c.args.export_table.now in
    record {
      at = c.requires.at;
      files = c.requires.files;
      read = c.requires.read;
      found = subst (λ s. IsTableFound c.args.files.now.trees.items (state_in s) (name_in i) c.in_ok-found.found) c.states.ensures
          (subst (λ ts. IsTableFound ts (state_in c.states.result.now) (name_in i) c.in_ok-found.found) c.deref.ensures.value c.in_ok-found.ensures);
    }
