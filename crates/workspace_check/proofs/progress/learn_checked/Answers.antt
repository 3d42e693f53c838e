-- The answers to the goals of `progress::learn_checked`.
use Rattle.std.proofs.Common.{◌≡◌, refl, sym, subst, ◌∙◌}
use Rattle.std.proofs.lemmas.Option.{same_Some}
use Rattle.base_files.specs.Packages.{package_files}
use Rattle.workspace_graph.specs.Parsed.{AreParsed}
use Rattle.workspace_graph.proofs.ByPath.{at_contains}
use Rattle.workspace_check.specs.declared.finding.Finding.{Finding}
use Rattle.workspace_check.specs.Steps.{LearnsFinding}
use Rattle.workspace_check.specs.KnownFindings.{verdicts_by}
use Rattle.workspace_check.proofs.OnePackage.{all_read}
use Rattle.workspace_check.proofs.progress.learn_checked.Goals as goal

pub returns : goal.returns
returns c = λ p at.
    let w = c.args.graph.now in
    let n = c.args.number in
    let old = c.args.all.now in
    let files = c.package.result.now in
    let known = c.requires.all.verdicts in
    let checked = c.requires.checked p at in
    let folder : files.path.items ≡ p = same_Some files.path.items p (sym c.package.ensures.path ∙ at) in
    let all = subst (λ q. AreParsed (package_files w q) files.trees.items files.faulty.items) folder c.package.ensures.files in
    let parsed = subst (λ fs. AreParsed (package_files w p) files.trees.items fs) (all_read all checked.parsed) all in
    let judged = c.in_ok-judged.ensures.checked w (verdicts_by old.export_table) p (at_contains w n p at) parsed checked in
    record {
      finding = c.in_ok-finding-2.finding;
      is_set = refl;
      learns = subst (λ (f : Finding). LearnsFinding w p f old.export_table c.enter_judged.new.all) (sym c.in_ok-finding-2.ensures)
          (c.in_ok-finding.ensures w p (c.requires.path p at) known.whole (known.fresh n p c.requires.unknown at) judged);
    }
