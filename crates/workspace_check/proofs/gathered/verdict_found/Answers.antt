-- The answers to the goals of `gathered::verdict_found`.
use Rattle.std.proofs.Common.{◌≡◌, List, ℕ, sym, subst, ◌∙◌}
use Rattle.std.proofs.lemmas.Option.{none-some, same_Some}
use Rattle.types_expr.specs.WorldView.{known_at}
use Rattle.workspace_check.specs.declared.finding.Finding.{Finding}
use Rattle.workspace_check.specs.KnownFindings.{IsFindingOf, IsKnownVerdict}
use Rattle.workspace_check.proofs.Telling.{told_alone}
use Rattle.workspace_check.proofs.gathered.verdict_found.Goals as goal

pub returns-in_default : goal.returns-in_default
returns-in_default c = λ p at one is. absurd (none-some one is)

pub returns : goal.returns
returns c = λ p at one is.
    let w = c.args.graph.now in
    let n = c.args.number in
    let now = c.requires.now in
    let all = c.args.now.now.export_table in
    let told = c.in_ok-verdict.verdict in
    let f = c.in-Some.finding.now in
    let there = c.in-Some.ensures in
    let found : IsFindingOf w p f = now.each n p f at there in
    let copy : c.in_ok-finding.finding ≡ f = c.in_ok-finding.ensures.cases in
    let known : told.known ≡ known_at all.definitions p =
    subst (λ (q : List ℕ). told.known ≡ known_at all.definitions q) found.finding.has_path
    (subst (λ (g : Finding). told.known ≡ known_at all.definitions g.path) copy c.in_ok-verdict.ensures.known) in
    let finding = subst (IsFindingOf w p) (sym (c.in_ok-verdict.ensures.finding ∙ copy)) found in
    subst (IsKnownVerdict w p) (same_Some told one is) (told_alone w p all told known (now.verdicts.right n p (f, there) at) finding)
