-- The answers to the goals of `findings::judge_next`.
use Rattle.std.proofs.Common.{inl, inr, refl, sym, ◌∙◌}
use Rattle.std.proofs.lemmas.Bool.{false≢true}
use Rattle.workspace_check.proofs.findings.judge_next.Goals as goal

pub returns-then-knows : goal.returns-then-knows
returns-then-knows c = λ p at. inr (c.knows.ensures.0 c.if-knows.true, refl)

pub judge_unknown-requires : goal.judge_unknown-requires
judge_unknown-requires c = record {
  in_range = c.requires.in_range;
  cycles = c.requires.cycles;
  all = c.requires.all;
  unknown = λ g.
      false≢true (sym c.if-knows.false ∙ c.knows.ensures.1 g);
}

pub returns : goal.returns
returns c = λ p at. inl (λ g. false≢true (sym c.if-knows.false ∙ c.knows.ensures.1 g), c.in_ok-judge_unknown.ensures p at)
