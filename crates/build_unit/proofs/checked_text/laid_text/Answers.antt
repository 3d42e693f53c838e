-- The answers to the goals of `checked_text::laid_text`.
use Rattle.std.proofs.Common.{sym, ◌∙◌}
use Rattle.std.proofs.lemmas.Option.{none-some}
use Rattle.std.proofs.lemmas.Result.{IfOk-weaker}
use Rattle.types_declared.specs.States.{state_in}
use Rattle.types_declared.specs.ExportTablesView.{name_in, export_data_in}
use Rattle.build_unit.proofs.CheckedText.{parsed_all}
use Rattle.build_unit.proofs.checked_text.laid_text.Goals as goal

pub table_text-requires : goal.table_text-requires
table_text-requires c = record {
  at = c.requires.at;
  files = c.requires.files;
  read = c.requires.read;
}

pub returns-in-None : goal.returns-in-None
returns-in-None c =
    let w = c.args.at.graph.now in
    let p = c.args.of.path.now in
    let files = c.args.of.files.now in
    let i = c.args.of.export_table.now in
    record {
      checked = IfOk-weaker c.no_text.result _ _ (λ made found known seen states. record {
        files = files.trees.items;
        parsed = parsed_all w c.args.at.number p files c.requires.at.has_path c.requires.files c.requires.read;
        state = state_in i.states;
        are_states = states;
        name_of = name_in i;
        export_data_of = export_data_in i;
        are_seen = seen;
        is_found = found;
      }) c.no_text.ensures.found;
      text = IfOk-weaker c.no_text.result _ _ (λ made none known seen right text is. absurd (none-some text (sym none ∙ is))) c.no_text.ensures.text;
    }

pub returns-in-Some : goal.returns-in-Some
returns-in-Some c =
    let state = state_in c.args.of.export_table.now.states in
    let laid = c.requires.found c.in-Some.table c.in-Some.is in
    record {
      checked = IfOk-weaker c.table_text.result _ _ (λ made h known seen states. h known state laid seen states) c.table_text.ensures.checked;
      text = IfOk-weaker c.table_text.result _ _ (λ made h known seen right. h known state laid seen right) c.table_text.ensures.text;
    }
