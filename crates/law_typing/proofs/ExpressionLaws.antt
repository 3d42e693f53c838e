-- The laws of typing of expressions.
use Rattle.std.proofs.Common.{◌≡◌, ◌↔◌, ◌⊎◌, inl, inr, All, [], sym, ◌∙◌, subst}
use Rattle.go_ast.specs.Tree.{ExprTree}
use Rattle.types_expr.specs.Types.{Meaning}
use Rattle.types_expr.specs.World.{World, Locals}
use Rattle.types_expr.specs.Judge.{judge}
use Rattle.law_typing.specs.Meanings.{HasMeaning}
use Rattle.law_typing.specs.IsJudgedAs.{IsJudgedAs}
use Rattle.law_typing.specs.BrokenUses.{UsesBroken}
use Rattle.law_typing.specs.Faults.{HasFault}
use Rattle.law_typing.proofs.Soundness.{sound}
use Rattle.law_typing.proofs.Completeness.{complete}
use Rattle.law_typing.proofs.FaultlessExpressions.{settle}
use Rattle.law_typing.proofs.RuleFaults.{each_all}
use Rattle.law_typing.proofs.FaultsFound.{find}

agreed : (w : World) (locals : Locals) (e : ExprTree) (m : Meaning) → IsJudgedAs (judge w locals e) m → HasMeaning w locals e m
agreed w locals e m a = subst (λ z. HasMeaning w locals e z) a.meaning (complete w locals e (λ h. a.whole (sym a.meaning ∙ h)))

pub judged_by_the_rules : (w : World) (locals : Locals) (e : ExprTree) (m : Meaning) → HasMeaning w locals e m ↔ IsJudgedAs (judge w locals e) m
judged_by_the_rules w locals e m = (λ h. sound w locals h, λ a. agreed w locals e m a)

pub has_one_meaning : (w : World) (locals : Locals) (e : ExprTree) (m n : Meaning) → HasMeaning w locals e m → HasMeaning w locals e n → m ≡ n
has_one_meaning w locals e m n h k = sym (sound w locals h).meaning ∙ (sound w locals k).meaning

pub refused_or_meant : (w : World) (locals : Locals) (e : ExprTree) → (judge w locals e).faults ≡ [] → ((m : Meaning) × HasMeaning w locals e m) ⊎
    UsesBroken w locals e
refused_or_meant w locals e h = elim (settle w locals e h) [ inl n ↦ inl ((judge w locals e).meaning, complete w locals e n) | inr u ↦ inr u ]

pub faults_placed : (w : World) (locals : Locals) (e : ExprTree) → All (λ p. HasFault w locals e p) (judge w locals e).faults
faults_placed w locals e = each_all (λ p. HasFault w locals e p) (judge w locals e).faults (find (λ p. HasFault w locals e p) w locals e (λ p h. h))

pub meant_without_faults : (w : World) (locals : Locals) (e : ExprTree) → (UsesBroken w locals e → ⊥) →
    ((judge w locals e).faults ≡ []) ↔ ((m : Meaning) × HasMeaning w locals e m)
meant_without_faults w locals e n = (λ h. elim (refused_or_meant w locals e h) [ inl q ↦ q | inr u ↦ absurd (n u) ], λ s. (sound w locals s.1).faultless)
