-- The answers to the goals of `checked_text::text_by_imports`.
use Rattle.std.proofs.lemmas.Option.{slice_get_within}
use Rattle.std.proofs.lemmas.Result.{IfOk-weaker}
use Rattle.base_files.specs.Packages.{package_paths}
use Rattle.workspace_check.specs.KnownFindings.{verdicts_by}
use Rattle.build_unit.proofs.checked_text.text_by_imports.Goals as goal

pub seen_imports-requires : goal.seen_imports-requires
seen_imports-requires c = record {
  in_range = slice_get_within (package_paths c.args.at.graph.now) c.args.at.number c.args.path.now c.requires.at.has_path;
  whole = c.requires.whole;
}

pub returns : goal.returns
returns c =
    let known = verdicts_by c.args.all.now in
    let seen = c.in_ok-export_table.ensures.seen c.args.path.now c.requires.at.has_path in
    record {
      checked = IfOk-weaker c.seen_text.result _ _ (λ made h. h known seen (c.in_ok-export_table.ensures.states c.args.path.now c.requires.at.has_path))
          c.seen_text.ensures.checked;
      text = IfOk-weaker c.seen_text.result _ _ (λ made h right. h known seen right) c.seen_text.ensures.text;
    }
