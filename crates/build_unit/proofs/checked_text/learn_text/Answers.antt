-- The answers to the goals of `checked_text::learn_text`.
use Rattle.std.proofs.Common.{sym, subst, ◌∙◌}
use Rattle.std.proofs.lemmas.Option.{same_Some, slice_get_within}
use Rattle.base_files.specs.Packages.{package_paths}
use Rattle.workspace_check.specs.Steps.{IsCheckResult}
use Rattle.workspace_check.specs.KnownFindings.{verdicts_by}
use Rattle.workspace_check.proofs.Gathering.{known_right}
use Rattle.build_unit.proofs.checked_text.learn_text.Goals as goal

pub gathered_text-requires : goal.gathered_text-requires
gathered_text-requires c = record {
  at = c.requires.at;
  files = c.requires.files;
  read = c.requires.read;
  right = c.requires.right;
  told = c.requires.told;
}

pub learn-requires : goal.learn-requires
learn-requires c =
    let w = c.args.at.graph.now in
    let p = c.args.path.now in
    let all = c.args.progress.now.all in
    let checked = c.in_ok-made.made.checked in
    let at = c.requires.at.has_path in
    record {
      in_range = slice_get_within (package_paths w) c.args.at.number p at;
      right = c.requires.right;
      unknown = c.requires.unknown;
      path = λ q there. c.in_ok-own.ensures.cases ∙ same_Some p q (sym at ∙ there);
      checked = λ q there. subst (λ r. IsCheckResult w (verdicts_by all.export_table) r checked) (same_Some p q (sym at ∙ there)) c.in_ok-made.ensures.checked;
    }

pub returns : goal.returns
returns c =
    let w = c.args.at.graph.now in
    let p = c.args.path.now in
    let underway = c.requires.right in
    record {
      right = c.in_ok-learn.ensures;
      text = c.in_ok-made.ensures.text (known_right w p c.args.progress.now.all underway.right (underway.below p c.requires.at.has_path));
    }
