-- The answers to the goals of `may_use::importing_home`.
use Rattle.std.proofs.Common.{ℕ, sym, subst, ◌∙◌}
use Rattle.std.proofs.lemmas.Option.{none-some, same_Some}
use Rattle.std.proofs.lemmas.Result.{IfOk-weaker}
use Rattle.workspace_graph.specs.Graphs.{OfPackage}
use Rattle.workspace_graph.specs.Reaching.{MarksClosuresWith}
use Rattle.refs_uses.specs.Importing.{AreImporting}
use Rattle.refs_uses.proofs.may_use.importing_home.Goals as goal

pub returns-in-None : goal.returns-in-None
returns-in-None c = λ h e. absurd (none-some h (sym c.in-None.is ∙ e))

pub returns-in-Some : goal.returns-in-Some
returns-in-Some c =
    let w = c.args.workspace.now.graph in
    let n = c.in-Some.number in
    IfOk-weaker c.importing_number.result (λ marks. OfPackage w n (λ q. MarksClosuresWith w q marks.items)) (λ marks. AreImporting w c.args.home marks.items)
    (λ marks are h e. subst (λ (k : ℕ). OfPackage w k (λ q. MarksClosuresWith w q marks.items)) (same_Some n h (sym c.in-Some.is ∙ e)) are)
    c.importing_number.ensures
