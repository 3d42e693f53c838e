-- The answers to the goals of `progress::maybe_found`.
use Rattle.std.proofs.Common.{ℕ, List, [], ◌∷◌, subst}
use Rattle.std.specs.Prelude.{Contains}
use Rattle.std.proofs.lemmas.List.Elements.{Contains-append_right}
use Rattle.std.proofs.lemmas.Result.{IfOk-weaker}
use Rattle.workspace_check.proofs.progress.maybe_found.Goals as goal

pub returns-then-knew_each : goal.returns-then-knew_each
returns-then-knew_each c =
    let own : List ℕ = c.args.number ∷ [] in
    IfOk-weaker c.with_one.result _ _
    (λ all is n has. Contains-append_right c.args.below.now own n (subst (λ (l : List ℕ). Contains l n) is has))
    c.with_one.ensures

pub returns-else-knew_each : goal.returns-else-knew_each
returns-else-knew_each c =
    IfOk-weaker c.with_one-else-knew_each.result _ _ (λ all is n has. subst (λ (l : List ℕ). Contains l n) is has) c.with_one-else-knew_each.ensures
