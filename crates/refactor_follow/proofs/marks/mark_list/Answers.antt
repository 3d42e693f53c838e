-- The answers to the goals of `marks::mark_list`.
use Rattle.std.proofs.Common.{inl, inr, subst}
use Rattle.std.specs.Prelude.{Contains}
use Rattle.refactor_follow.specs.PlainPackages.{behind_dot}
use Rattle.refactor_follow.proofs.marks.mark_list.Goals as goal

pub returns-then-is_of_path : goal.returns-then-is_of_path
returns-then-is_of_path c = λ file token e. elim (c.mark_places.ensures file token e) [
  | inl old ↦ inl old
  | inr has ↦ inr (c.is_of_path.ensures.0 c.if-is_of_path.true, subst (λ ps. Contains ps (behind_dot file token)) c.deref.ensures.value has)
]
