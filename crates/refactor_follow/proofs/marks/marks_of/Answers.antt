-- The answer to the goal of `marks::marks_of`.
use Rattle.std.proofs.Common.{inl, inr, sym, ◌∙◌}
use Rattle.std.proofs.lemmas.Bool.{true≢false}
use Rattle.refactor_follow.proofs.marks.marks_of.Goals as goal

pub returns : goal.returns
returns c = λ file token e. elim (c.mark_lists.ensures file token e) [
  | inl old ↦ absurd (true≢false (sym old ∙ c.in_ok-rows.ensures file token))
  | inr listed ↦ listed
]
