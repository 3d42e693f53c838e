-- The answers to the goals of `checked_text::gathered_text`.
use Rattle.std.proofs.Common.{sym, subst}
use Rattle.std.proofs.lemmas.Option.{slice_get_within}
use Rattle.std.proofs.lemmas.Result.{IfOk-weaker}
use Rattle.base_files.specs.Packages.{package_paths}
use Rattle.types_declared.specs.States.{state_in}
use Rattle.workspace_check.specs.Steps.{IsCheckResult, SeesExactly}
use Rattle.workspace_check.specs.KnownFindings.{verdicts_by, AreNamedEntries}
use Rattle.workspace_check.specs.Verdicts.{AreStates, AreVerdictsBelow}
use Rattle.build_unit.proofs.checked_text.gathered_text.Goals as goal

pub import_states-requires : goal.import_states-requires
import_states-requires c = record {
  in_range = slice_get_within (package_paths c.args.at.graph.now) c.args.at.number c.args.path.now c.requires.at.has_path;
  right = c.requires.right;
}

pub text_by_states-requires : goal.text_by_states-requires
text_by_states-requires c =
    let w = c.args.at.graph.now in
    let p = c.args.path.now in
    let same = sym c.export_table.ensures in
    record {
      at = c.requires.at;
      files = c.requires.files;
      read = c.requires.read;
      whole = subst AreNamedEntries same c.requires.right.right.verdicts.whole;
      told = subst (SeesExactly w p) same c.requires.told;
      states = subst (λ i. AreStates w (verdicts_by i) p (state_in c.in_ok-noted.noted.states)) same
          (c.in_ok-noted.ensures p c.requires.at.has_path);
    }

pub returns : goal.returns
returns c =
    let w = c.args.at.graph.now in
    let p = c.args.path.now in
    let same = c.export_table.ensures in
    record {
      checked = IfOk-weaker c.text_by_states.result _ _ (λ made h. subst (λ i. IsCheckResult w (verdicts_by i) p made.checked) same h)
          c.text_by_states.ensures.checked;
      text = IfOk-weaker c.text_by_states.result _ _ (λ made h right. h (subst (λ i. AreVerdictsBelow w p (verdicts_by i)) (sym same) right))
          c.text_by_states.ensures.text;
    }
