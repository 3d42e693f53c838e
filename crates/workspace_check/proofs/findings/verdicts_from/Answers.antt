-- The answers to the goals of `findings::verdicts_from`.
use Rattle.std.proofs.Common.{◌<◌, length, refl, sym, subst, ◌∙◌}
use Rattle.workspace_check.specs.Steps.{IsGathered}
use Rattle.workspace_check.proofs.Gathering.{each_there, all_found}
use Rattle.workspace_check.proofs.findings.verdicts_from.Goals as goal

pub all_there-requires : goal.all_there-requires
all_there-requires c = λ n lt.
    let there = each_there c.args.graph.now c.judge_rest.new.all c.in_ok-judge_rest.ensures n (subst (λ l. n < length l) c.deref.ensures.value lt) in
    subst (λ l. IsGathered l n) (sym c.deref.ensures.value) there

pub returns : goal.returns
returns c = record {
  findings = all_found c.args.graph.now c.judge_rest.new.all c.in_ok-judge_rest.ensures _ (c.in_ok-packages.ensures ∙ c.deref.ensures.value) refl;
  verdicts = c.in_ok-known.ensures;
}
