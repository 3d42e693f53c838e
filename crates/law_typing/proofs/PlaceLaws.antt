-- The laws of places.
use Rattle.std.proofs.Common.{ℕ, ◌≡◌, ◌↔◌, ◌⊎◌, inl, inr, Bool, List, subst, [], ◌∷◌, refl}
use Rattle.std.specs.List.{Contains}
use Rattle.go_ast.specs.Tree.{ExprTree, FileTree}
use Rattle.types_expr.specs.World.{World, Locals}
use Rattle.types_expr.specs.Judge.{judge}
use Rattle.types_stmt.specs.Checked.{FoundSoFar}
use Rattle.types_stmt.specs.Declarations.{check_file}
use Rattle.law_typing.specs.Sequences.{PartRule}
use Rattle.law_typing.specs.Declarations.{FileIsTyped}
use Rattle.law_typing.specs.Excused.{FileIsExcused}
use Rattle.law_typing.proofs.Declarations.{file_true, file_settled}
use Rattle.law_typing.specs.ExpressionFaults.{BreaksAt}
use Rattle.law_typing.specs.SequenceFaults.{FaultRule}
use Rattle.law_typing.specs.DeclarationFaults.{FileBreaksAt}
use Rattle.law_typing.proofs.FaultLists.{HasToken, contains_holds, holds_contains}
use Rattle.law_typing.proofs.ExpressionFaults.{expression_told}
use Rattle.law_typing.proofs.SequenceFaults.{IsExact}
use Rattle.law_typing.proofs.DeclarationFaults.{file_told}

contained : {C : Type 0} (xs : List ℕ) (p : ℕ) → HasToken xs p ⊎ C → Contains xs p ⊎ C
contained xs p (inl h) = inl (holds_contains xs p h)
contained xs p (inr b) = inr b

stands_in : {X : Type 0} {R : PartRule X} {B : FaultRule X} {check : FoundSoFar → X → FoundSoFar} → IsExact X R B check → (s : FoundSoFar) (x : X) (p : ℕ) →
    Contains s.faults p ⊎ B s.locals x p → HasToken (check s x).faults p
stands_in t s x p (inl h) = t.stays s x p (contains_holds s.faults p h)
stands_in t s x p (inr b) = t.stands s x p b

-- the faults after a check are those before it and those at tokens where a rule is broken
pub places : {X : Type 0} {R : PartRule X} {B : FaultRule X} {check : FoundSoFar → X → FoundSoFar} → IsExact X R B check → (s : FoundSoFar) (x : X) (p : ℕ) →
    Contains (check s x).faults p ↔ (Contains s.faults p ⊎ B s.locals x p)
places {check = check} t s x p = (
  λ h. contained s.faults p (t.found s x p (contains_holds (check s x).faults p h)),
  λ h. holds_contains (check s x).faults p (stands_in t s x p h),
)

-- the locals after a check are those that the part declares
pub outcomes : {X : Type 0} {R : PartRule X} {B : FaultRule X} {check : FoundSoFar → X → FoundSoFar} → IsExact X R B check →
    (s : FoundSoFar) (x : X) (after : Locals) →
    R s.locals x after ↔ ((check s x).locals ≡ after)
outcomes {R = R} t s x after = (λ r. t.only s x after r, λ e. subst (λ z. R s.locals x z) e (t.leads s x))

pub file_places : (w : World) (is_init : ℕ → Bool) (f : FileTree) (p : ℕ) → Contains (check_file w is_init f).faults p ↔ FileBreaksAt w is_init f p
file_places w is_init f p = let t = file_told w is_init f in (
  λ h. t.found p (contains_holds (check_file w is_init f).faults p h),
  λ b. holds_contains (check_file w is_init f).faults p (t.stands p b),
)

pub expression_places : (w : World) (locals : Locals) (e : ExprTree) (p : ℕ) → Contains (judge w locals e).faults p ↔ BreaksAt w locals e p
expression_places w locals e p = let t = expression_told w locals e in (
  λ h. t.found p (contains_holds (judge w locals e).faults p h),
  λ b. holds_contains (judge w locals e).faults p (t.stands p b),
)

-- files that keep the rules, and files that break one

nothing_held : (xs : List ℕ) (p : ℕ) → xs ≡ [] → HasToken xs p → ⊥
nothing_held xs p e h = subst (λ z. HasToken z p) e h

empty_of : (xs : List ℕ) → ((p : ℕ) → HasToken xs p → ⊥) → xs ≡ []
empty_of [] n = refl
empty_of (x ∷ xs) n = absurd (n x (inl refl))

pub typed_breaks_none : (w : World) (is_init : ℕ → Bool) (f : FileTree) (p : ℕ) → FileIsTyped w is_init f → FileBreaksAt w is_init f p → ⊥
typed_breaks_none w is_init f p r b = let t = file_told w is_init f in nothing_held (check_file w is_init f).faults p (file_true w is_init f r) (t.stands p b)

pub unbroken_typed : (w : World) (is_init : ℕ → Bool) (f : FileTree) → ((p : ℕ) → FileBreaksAt w is_init f p → ⊥) → FileIsTyped w is_init f ⊎
    FileIsExcused w is_init f
unbroken_typed w is_init f n = let t = file_told w is_init f in file_settled w is_init f (empty_of (check_file w is_init f).faults (λ p h. n p (t.found p h)))
