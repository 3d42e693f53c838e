-- The answers to the goals of `checked_text::text_by_states`.
use Rattle.std.proofs.Common.{subst}
use Rattle.std.proofs.lemmas.Result.{IfOk-weaker}
use Rattle.types_declared.specs.States.{state_in}
use Rattle.types_declared.specs.ExportTablesView.{name_in}
use Rattle.types_check.specs.Check.{IsTableFound}
use Rattle.workspace_check.specs.KnownFindings.{verdicts_by}
use Rattle.build_unit.proofs.checked_text.text_by_states.Goals as goal

pub text_by_imports-requires : goal.text_by_imports-requires
text_by_imports-requires c = record { at = c.requires.at; files = c.requires.files; read = c.requires.read; whole = c.requires.whole }

pub table_text-requires : goal.table_text-requires
table_text-requires c = record { at = c.requires.at; files = c.requires.files; read = c.requires.read }

pub returns-in-Some : goal.returns-in-Some
returns-in-Some c =
    let i = c.args.of.export_table.now in
    let state = state_in c.args.noted.now.states in
    let known = verdicts_by i in
    let may = subst (λ s. IsTableFound c.args.of.files.now.trees.items (state_in s) (name_in i) c.in_ok-found.found) c.states.ensures
    (subst (λ ts. IsTableFound ts (state_in c.states.result.now) (name_in i) c.in_ok-found.found) c.deref.ensures.value c.in_ok-found.ensures) in
    let laid = may c.in-Some.table c.in-Some.is in
    record {
      checked = IfOk-weaker c.table_text.result _ _ (λ made h. h known state laid c.requires.told c.requires.states) c.table_text.ensures.checked;
      text = IfOk-weaker c.table_text.result _ _ (λ made h right. h known state laid c.requires.told right) c.table_text.ensures.text;
    }
