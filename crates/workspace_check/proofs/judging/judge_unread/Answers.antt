-- The answers to the goals of `judging::judge_unread`.
use Rattle.std.proofs.Common.{◌≡◌, ◌↔◌, refl, sym, ap, subst, ◌∙◌}
use Rattle.std.specs.Prelude.{Contains}
use Rattle.std.proofs.lemmas.Option.{same_Some}
use Rattle.base_files.specs.Packages.{package_files}
use Rattle.workspace_graph.specs.Parsed.{AreParsed}
use Rattle.workspace_check.specs.Steps.{unread_faults}
use Rattle.workspace_check.proofs.Unread.{unread_judged}
use Rattle.workspace_check.proofs.judging.judge_unread.Goals as goal

pub returns : goal.returns
returns c = λ w number known of p at.
    let ts = c.args.files.now.trees.items in
    let fs = c.args.files.now.faulty.items in
    let path : c.args.files.now.path.items ≡ p = same_Some c.args.files.now.path.items p (sym of.path ∙ at) in
    let found = c.in_ok-faults.ensures ∙ ap unread_faults c.deref.ensures.value in
    unread_judged w known p ts fs (subst (λ q. AreParsed (package_files w q) ts fs) path of.files) c.requires _ c.sort.ensures.order
    (λ f. subst (λ l. Contains c.sort.new.found.items f ↔ Contains l f) found (c.sort.ensures.same f)) refl
