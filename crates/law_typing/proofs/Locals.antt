-- Declarations of locals: a typed one has no fault, and one without a fault is typed or excused.
use Rattle.std.proofs.Common.{ℕ, ◌≡◌, inl, inr, List, [], ◌∷◌, map, Option, Some, None, refl, sym, ap, ◌∙◌, subst}
use Rattle.go_ast.specs.Tree.{Item, IdentTree, TypeTree, ExprTree, LocalTree}
use Rattle.types_expr.specs.Types.{PlainType}
use Rattle.types_expr.specs.World.{World, Locals}
use Rattle.types_expr.specs.Judge.{TypeJudged, judge_type, good_type}
use Rattle.types_stmt.specs.Checked.{FoundSoFar, with_declared}
use Rattle.types_stmt.specs.Sides.{Wants, rhs, all_named, first_of_idents, with_inferred, receiving}
use Rattle.types_stmt.specs.Sides as sides
use Rattle.types_stmt.specs.Simple.{check_local, check_local_of, check_typed_local, check_untyped_local, written_locals, written_targets, name_targets}
use Rattle.law_typing.specs.Names.{IsType}
use Rattle.law_typing.proofs.Judgements.{empty_first, empty_second}
use Rattle.law_typing.proofs.Naming.{type_true, true_type}
use Rattle.law_typing.proofs.BrokenRules.{type_or_broken}
use Rattle.law_typing.specs.Assignments.{Taker, Fresh, OfType, DeclareAs}
use Rattle.law_typing.specs.Simple.{LocalIsTyped, of_type, of_type_with_values, of_values}
use Rattle.law_typing.specs.Excused.{LocalIsExcused, of_broken_type, of_broken_value, of_nothing}
use Rattle.law_typing.proofs.Values.{rights_given, rights_settled}
use Rattle.law_typing.proofs.Assignments.{aim, AreNew, declare_true, declare_found, declare_as_true, declare_as_found, taken_by, taken_as}
use Rattle.law_typing.proofs.Lefts.{AreLefts}
use Rattle.law_typing.proofs.PartOutcomes.{IsAt, reached, IsSettled}
use Rattle.law_typing.proofs.Simple.{giving_at, giving_parts, taken_found}

fresh_new : (ts : List Taker) (ns : List (Option ℕ)) (n : Option ℕ) → AreNew ts ns → AreNew (Fresh ∷ ts) (n ∷ ns)
fresh_new ts ns None u = u
fresh_new ts ns (Some p) u = u

all_new : (names : List (Item IdentTree)) → AreNew (map (λ i. Fresh) names) (all_named names)
all_new [] = tt
all_new (i ∷ is) = fresh_new (map (λ i. Fresh) is) (all_named is) (sides.named i.value) (all_new is)

pub same_aims : {X : Type 0} (xs : List X) (t : Taker) → map (λ i. aim t) xs ≡ map aim (map (λ i. t) xs)
same_aims [] t = refl
same_aims (x ∷ xs) t = ap (λ z. aim t ∷ z) (same_aims xs t)

names_lefts : (names : List (Item IdentTree)) → AreLefts (name_targets names sides.Takes) (map (λ i. Fresh) names)
names_lefts names = record { targets = same_aims names Fresh; faultless = refl }

written_lefts : (names : List (Item IdentTree)) {j : TypeJudged} {t : PlainType} → j ≡ good_type t →
    AreLefts (written_targets names j) (map (λ i. OfType t) names)
written_lefts names {j} {t} e = record {
  targets = ap (λ (z : TypeJudged). map (λ i. Wants z.type_of) names) e
      ∙ same_aims names (OfType t);
  faultless = ap (λ (z : TypeJudged). z.faults) e;
}

written_true : (w : World) (s : FoundSoFar) (names : List (Item IdentTree)) {j : TypeJudged} {t : PlainType} {after : Locals} → j ≡ good_type t →
    DeclareAs t s.locals (all_named names) after → written_locals s.locals names j.type_of ≡ after
written_true w s names e d = ap (λ (z : TypeJudged). written_locals s.locals names z.type_of) e ∙ declare_as_true names d

pub typed_names : (w : World) (s : FoundSoFar) (names : List (Item IdentTree)) {x : TypeTree} {t : PlainType} {after : Locals} → s.faults ≡ [] →
    IsType w x t → DeclareAs t s.locals (all_named names) after →
    IsAt (with_declared s (written_locals s.locals names (judge_type w x).type_of) (judge_type w x).faults []) after
typed_names w s names {x} h i d = let e = type_true w i in reached s (judge_type w x).faults [] h (ap (λ (z : TypeJudged). z.faults) e)
    (written_true w s names e d)

chosen : (w : World) (s : FoundSoFar) (l : LocalTree) {t : Option TypeTree} {v : Option (ℕ × List (Item ExprTree))} {after : Locals} → l.type_use ≡ t →
    l.values ≡ v → IsAt (check_local_of w s l.names t v) after → IsAt (check_local w s l) after
unfolding check_local
chosen w s l {t} {v} {after} e f a = subst (λ z. IsAt (check_local_of w s l.names z l.values) after) (sym e) (subst (λ z. IsAt
    (check_local_of w s l.names t z) after) (sym f) a)

only_written : (w : World) (s : FoundSoFar) (names : List (Item IdentTree)) {x : TypeTree} {t : PlainType} {after : Locals} → s.faults ≡ [] → IsType w x t →
    DeclareAs t s.locals (all_named names) after →
    IsAt (check_local_of w s names (Some x) None) after
unfolding check_typed_local
only_written w s names h i d = typed_names w s names h i d

pub local_true : (w : World) (s : FoundSoFar) (l : LocalTree) (after : Locals) → s.faults ≡ [] → LocalIsTyped w s.locals l after →
    IsAt (check_local w s l) after
unfolding check_typed_local check_untyped_local
local_true w s l after h (of_type e f i d) = chosen w s l e f (only_written w s l.names h i d)
local_true w s l after h (of_type_with_values {x = x} {v = v} e f i g t d) = let q = type_true w i in
    let r = rights_given w s.locals g in
    chosen w s l e f (giving_at (receiving w v.1 (rhs w s.locals v.1).values) s (first_of_idents l.names)
    (written_locals s.locals l.names (judge_type w x).type_of) (written_targets l.names (judge_type w x)) (rhs w s.locals v.1) h (written_lefts l.names q)
    r (taken_by w v.1 (rhs w s.locals v.1).values r.kinds t) (written_true w s l.names q d))
local_true w s l after h (of_values {v = v} e f g t d) = let r = rights_given w s.locals g in
    chosen w s l e f (giving_at (receiving w v.1 (rhs w s.locals v.1).values) s (first_of_idents l.names)
    (with_inferred s.locals (all_named l.names) (rhs w s.locals v.1).values) (name_targets l.names sides.Takes) (rhs w s.locals v.1) h (names_lefts l.names)
    r (taken_by w v.1 (rhs w s.locals v.1).values r.kinds t) (declare_true (rhs w s.locals v.1).values r.kinds d))

pub found_as : (names : List (Item IdentTree)) (t : PlainType) (before : Locals) {o : Option PlainType} → o ≡ Some t →
    DeclareAs t before (all_named names) (written_locals before names o)
found_as names t before e = subst (λ z. DeclareAs t before (all_named names) (written_locals before names z)) (sym e) (declare_as_found names t before)

abbrev IsLocalSettled : World → FoundSoFar → LocalTree → FoundSoFar → Type 0
IsLocalSettled w s l after = IsSettled (LocalIsTyped w) (LocalIsExcused w) s l after

written_settled : (w : World) (s : FoundSoFar) (l : LocalTree) (x : TypeTree) → l.type_use ≡ Some x → l.values ≡ None →
    (check_typed_local w s l.names (judge_type w x) None).faults ≡ [] → IsLocalSettled w s l (check_typed_local w s l.names (judge_type w x) None)
unfolding check_typed_local
written_settled w s l x e f h = (
  empty_first s.faults (judge_type w x).faults h,
  elim (type_or_broken w x (empty_second s.faults (judge_type w x).faults h)) [
    | inl t ↦ inl (of_type e f (true_type w x t.0 t.1) (found_as l.names t.0 s.locals t.1))
    | inr b ↦ inr (of_broken_type e b)
  ],
)

values_settled : (w : World) (s : FoundSoFar) (l : LocalTree) (x : TypeTree) (v : ℕ × List (Item ExprTree)) → l.type_use ≡ Some x → l.values ≡ Some v →
    (check_typed_local w s l.names (judge_type w x) (Some v)).faults ≡ [] →
    IsLocalSettled w s l (check_typed_local w s l.names (judge_type w x) (Some v))
unfolding check_typed_local
values_settled w s l x v e f h =
    let world = receiving w v.1 (rhs w s.locals v.1).values in
    let g = giving_parts world s (first_of_idents l.names) (written_locals s.locals l.names (judge_type w x).type_of) (written_targets l.names
    (judge_type w x)) (rhs w s.locals v.1) h in (
      g.before,
      elim (type_or_broken w x g.lefts) [
        | inl t ↦ elim (rights_settled w s.locals v.1 g.rhs) [
          | inl r ↦ inl (of_type_with_values e f (true_type w x t.0 t.1) r.given (taken_as w v.1 (rhs w s.locals v.1).values r.found
              (taken_found world (first_of_idents l.names) (rhs w s.locals v.1).values r.kinds (map (λ i. OfType t.0) l.names) r.found
              (ap (λ (z : Option PlainType). map (λ i. Wants z) l.names) t.1 ∙ same_aims l.names (OfType t.0)) g.given)) (found_as l.names t.0 s.locals t.1))
          | inr u ↦ inr (of_broken_value f u)
        ]
        | inr b ↦ inr (of_broken_type e b)
      ],
    )

unwritten_settled : (w : World) (s : FoundSoFar) (l : LocalTree) (v : ℕ × List (Item ExprTree)) → l.type_use ≡ None → l.values ≡ Some v →
    (check_untyped_local w s l.names (Some v)).faults ≡ [] →
    IsLocalSettled w s l (check_untyped_local w s l.names (Some v))
unfolding check_untyped_local
unwritten_settled w s l v e f h =
    let world = receiving w v.1 (rhs w s.locals v.1).values in
    let g = giving_parts world s (first_of_idents l.names) (with_inferred s.locals (all_named l.names) (rhs w s.locals v.1).values)
    (name_targets l.names sides.Takes) (rhs w s.locals v.1) h in (
      g.before,
      elim (rights_settled w s.locals v.1 g.rhs) [
        | inl r ↦ let t = taken_found world (first_of_idents l.names) (rhs w s.locals v.1).values r.kinds (map (λ i. Fresh) l.names) r.found
            (same_aims l.names Fresh) g.given in
            inl (of_values e f r.given (taken_as w v.1 (rhs w s.locals v.1).values r.found t)
            (declare_found world (rhs w s.locals v.1).values s.locals (all_named l.names) (all_new l.names) r.found t))
        | inr u ↦ inr (of_broken_value f u)
      ],
    )

nothing_settled : (w : World) (s : FoundSoFar) (l : LocalTree) → l.type_use ≡ None → l.values ≡ None → (check_untyped_local w s l.names None).faults ≡ [] →
    IsLocalSettled w s l (check_untyped_local w s l.names None)
unfolding check_untyped_local
nothing_settled w s l e f h = (empty_first s.faults [] h, inr (of_nothing e f))

local_of_settled : (w : World) (s : FoundSoFar) (l : LocalTree) (t : Option TypeTree) (v : Option (ℕ × List (Item ExprTree))) → l.type_use ≡ t →
    l.values ≡ v → (check_local_of w s l.names t v).faults ≡ [] →
    IsLocalSettled w s l (check_local_of w s l.names t v)
local_of_settled w s l (Some x) None e f h = written_settled w s l x e f h
local_of_settled w s l (Some x) (Some v) e f h = values_settled w s l x v e f h
local_of_settled w s l None (Some v) e f h = unwritten_settled w s l v e f h
local_of_settled w s l None None e f h = nothing_settled w s l e f h

pub local_settled : (w : World) (s : FoundSoFar) (l : LocalTree) → (check_local w s l).faults ≡ [] → IsLocalSettled w s l (check_local w s l)
unfolding check_local
local_settled w s l h = local_of_settled w s l l.type_use l.values refl refl h
