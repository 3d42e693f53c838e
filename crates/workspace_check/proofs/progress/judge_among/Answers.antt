-- The answers to the goals of `progress::judge_among`.
use Rattle.std.proofs.Common.{inl, inr, refl, sym, ◌∙◌}
use Rattle.std.proofs.lemmas.Bool.{false≢true}
use Rattle.std.proofs.lemmas.Result.{on_ok_weaker}
use Rattle.workspace_check.proofs.progress.judge_among.Goals as goal

pub is_among-requires : goal.is_among-requires
is_among-requires c = c.requires.below.rising

pub returns-then-is_among : goal.returns-then-is_among
returns-then-is_among c = on_ok_weaker c.judge_next.result (λ may p at. inl (c.is_among.ensures.0 c.if-is_among.true, may p at)) c.judge_next.ensures

pub returns-else-is_among : goal.returns-else-is_among
returns-else-is_among c = λ p at. inr (λ has. false≢true (sym c.if-is_among.false ∙ c.is_among.ensures.1 has), refl)
