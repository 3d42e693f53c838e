-- The answers to the goals of `earlier::Earlier::verdict`.
use Rattle.std.proofs.Common.{◌≡◌, List, Some, slice_get, ap, subst, ◌∙◌, MatchOption}
use Rattle.std.specs.Prelude.{Option}
use Rattle.workspace_check.specs.declared.earlier.EarlierParts.{EarlierParts}
use Rattle.workspace_check.specs.declared.known.KnownVerdict.{KnownVerdict}
use Rattle.workspace_check.specs.Earlier.{AreVerdictsByNumber}
use Rattle.workspace_check.proofs.earlier.Earlier.verdict.Goals as goal

pub returns-clause-verdict : goal.returns-clause-verdict
returns-clause-verdict c =
    subst (λ (vs : List (Option KnownVerdict)). MatchOption c.verdict_at.result
    ((one : KnownVerdict) → slice_get vs c.args.number ≡ Some (Some one) → ⊥) (λ one. slice_get vs c.args.number ≡ Some (Some one.now)))
    (c.deref-2.ensures.value ∙ ap (λ (e : EarlierParts). e.verdicts.items) (c.deref.ensures ∙ c.self.view_is)) c.verdict_at.ensures

pub returns-clause-told : goal.returns-clause-told
returns-clause-told c = subst (λ (e : EarlierParts). AreVerdictsByNumber e.graph e.verdicts.items) c.self.view_is c.self.invariant
