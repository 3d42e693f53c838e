-- The answers to the goals of `judging::judge_read`.
use Rattle.std.proofs.Common.{◌≡◌, sym, subst, ◌∙◌}
use Rattle.std.proofs.lemmas.Option.{same_Some}
use Rattle.std.proofs.lemmas.Result.{IfOk-weaker}
use Rattle.base_files.specs.Packages.{package_files}
use Rattle.workspace_graph.specs.Parsed.{AreParsed}
use Rattle.workspace_graph.proofs.ByPath.{at_contains}
use Rattle.types_declared.specs.States.{state_in}
use Rattle.types_declared.specs.ExportTablesView.{name_in, export_data_in}
use Rattle.types_check.specs.Check.{IsFindingIn}
use Rattle.workspace_check.specs.KnownFindings.{verdicts_by}
use Rattle.workspace_check.proofs.judging.judge_read.Goals as goal

pub judge_stopped-requires : goal.judge_stopped-requires
judge_stopped-requires c = record {
  in_range = c.requires.in_range;
  files = c.requires.files;
  read = c.requires.read;
  path = c.requires.path;
  cycles = c.requires.cycles;
  known = c.is_stopped.ensures.known c.if-is_stopped.true;
  faulty = c.is_stopped.ensures.faulty c.if-is_stopped.true;
}

pub returns : goal.returns
returns c =
    let w = c.args.graph.now in
    let files = c.args.files.now in
    let i = c.in_ok-export_table.export_table in
    let checked = c.in_ok-checked.checked in
    IfOk-weaker c.place_checked.result _ _
    (λ j is p at.
    let folder : files.path.items ≡ p = same_Some files.path.items p (sym c.requires.files.path ∙ at) in
    let parsed = subst (λ fs. AreParsed (package_files w p) files.trees.items fs) c.requires.read
    (subst (λ q. AreParsed (package_files w q) files.trees.items files.faulty.items) folder c.requires.files.files) in
    let found = subst (λ q. IsFindingIn q files.trees.items (state_in i.states) (name_in i) (export_data_in i) checked) (c.requires.path p at)
    (subst (λ ts. IsFindingIn c.args.path.now ts (state_in i.states) (name_in i) (export_data_in i) checked) c.deref.ensures.value
    c.in_ok-checked.ensures.found) in
    is w (verdicts_by c.args.all.now) p (at_contains w c.args.number p at) parsed (record {
      files = files.trees.items;
      parsed = parsed;
      state = state_in i.states;
      are_states = c.in_ok-export_table.ensures.states p at;
      name_of = name_in i;
      export_data_of = export_data_in i;
      are_seen = c.in_ok-export_table.ensures.seen p at;
      is_found = found;
    }))
    c.place_checked.ensures.checked
