-- The answers to the goals of `known::Known::then`.
use Rattle.std.proofs.Common.{sym, subst, ◌∙◌}
use Rattle.workspace_check.specs.Earlier.{AreVerdictsByNumber}
use Rattle.workspace_check.proofs.known.Known.then.Goals as goal

pub new-requires : goal.new-requires
new-requires c =
    subst (λ g. AreVerdictsByNumber g c.in_ok-verdicts.verdicts.items) (sym c.in_ok-graph.ensures.cases)
    (subst (AreVerdictsByNumber c.args.graph.now) (sym (c.in_ok-verdicts.ensures.items ∙ c.deref.ensures.value)) c.requires)
