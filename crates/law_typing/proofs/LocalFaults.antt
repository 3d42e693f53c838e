-- Declarations of locals: the check finds a fault at exactly the tokens where a rule is broken, and the locals that they declare.
use Rattle.std.proofs.Common.{ℕ, ◌≡◌, ◌⊎◌, inl, inr, List, [], ◌∷◌, ◌++◌, map, Option, Some, None, refl, sym, ap, ◌∙◌, subst}
use Rattle.go_ast.specs.Tree.{Item, IdentTree, TypeTree, ExprTree, LocalTree}
use Rattle.types_expr.specs.Types.{PlainType}
use Rattle.types_expr.specs.World.{World, Locals}
use Rattle.types_expr.specs.Judge.{ListValue, judge_type}
use Rattle.types_stmt.specs.Checked.{FoundSoFar}
use Rattle.types_stmt.specs.Sides.{Wants, rhs, given_faults, all_named, first_of_idents, with_inferred, receiving}
use Rattle.types_stmt.specs.Sides as sides
use Rattle.types_stmt.specs.Simple.{check_local, check_local_of, check_typed_local, check_untyped_local, written_locals, written_targets, name_targets}
use Rattle.law_typing.specs.Faults.{IsNoType}
use Rattle.law_typing.specs.Assignments.{Taker, Fresh}
use Rattle.law_typing.specs.AssignmentFaults.{SidesGive, taker_of, IsAssignmentFault}
use Rattle.law_typing.specs.DeclaredLocals.{WrittenTypeIs, LocalDeclares, of_type, of_values, of_neither}
use Rattle.law_typing.specs.SimpleFaults.{SidesBreakAt, LocalBreaksAt, in_type, in_values, no_values_of_type, no_values}
use Rattle.law_typing.proofs.FaultLists.{AreExactly, none_told, told_as, some_same, none_some}
use Rattle.law_typing.proofs.AssignmentFaults.{aim_of, sides_found, sides_only}
use Rattle.law_typing.proofs.DeclaredLocals.{taken_found, taken_only, untyped_found, untyped_only, written_found, written_only, type_found, type_only}
use Rattle.law_typing.proofs.TypeFaults.{type_told}
use Rattle.law_typing.proofs.SequenceFaults.{IsExact}
use Rattle.law_typing.proofs.SimpleFaults.{told_of, IsMisgivenBy, giving_told}

abbrev Values : Type 0
Values = Option (ℕ × List (Item ExprTree))

pub same_one : {A : Type 0} {o : Option A} {x y : A} → o ≡ Some x → o ≡ Some y → x ≡ y
same_one e f = some_same (sym e ∙ f)

-- what names of a type take

pub aim_of_type : (t : Option PlainType) → aim_of (taker_of t) ≡ Wants t
aim_of_type None = refl
aim_of_type (Some t) = refl

pub type_aims : {X : Type 0} (xs : List X) (t : Option PlainType) → map (λ i. Wants t) xs ≡ map aim_of (map (λ i. taker_of t) xs)
type_aims [] t = refl
type_aims (x ∷ xs) t = ap (λ z. z ∷ map (λ i. Wants t) xs) (sym (aim_of_type t)) ∙ ap (λ z. aim_of (taker_of t) ∷ z) (type_aims xs t)

fresh_aims : {X : Type 0} (xs : List X) → map (λ i. sides.Takes) xs ≡ map aim_of (map (λ i. Some Fresh) xs)
fresh_aims [] = refl
fresh_aims (x ∷ xs) = ap (λ z. sides.Takes ∷ z) (fresh_aims xs)

record TakeType (w : World) (x : TypeTree) (names : List (Item IdentTree)) (ts : List (Option Taker)) : Type 0 where
  type : Option PlainType
  written : WrittenTypeIs w x type
  are : ts ≡ map (λ i. taker_of type) names

typed_aims : (w : World) (x : TypeTree) (names : List (Item IdentTree)) (us : List (Option Taker)) → TakeType w x names us →
    map (λ i. Wants (judge_type w x).type_of) names ≡ map aim_of us
typed_aims w x names us t = ap (λ z. map (λ i. Wants z) names) (type_only w t.written) ∙ (type_aims names t.type ∙ ap (λ z. map aim_of z) (sym t.are))

new_aims : (names : List (Item IdentTree)) (us : List (Option Taker)) → us ≡ map (λ i. Some Fresh) names → map (λ i. sides.Takes) names ≡ map aim_of us
new_aims names us e = fresh_aims names ∙ ap (λ z. map aim_of z) (sym e)

-- faults

abbrev local_added_of : World → Locals → List (Item IdentTree) → Option TypeTree → Values → List ℕ
local_added_of w ls names (Some x) None = (judge_type w x).faults
local_added_of w ls names (Some x) (Some v) = (judge_type w x).faults ++ ((rhs w ls v.1).faults ++ given_faults (receiving w v.1 (rhs w ls v.1).values)
    (first_of_idents names) (rhs w ls v.1).values (map (λ i. Wants (judge_type w x).type_of) names))
local_added_of w ls names None None = []
local_added_of w ls names None (Some v) = [] ++ ((rhs w ls v.1).faults ++ given_faults (receiving w v.1 (rhs w ls v.1).values)
    (first_of_idents names) (rhs w ls v.1).values (map (λ i. sides.Takes) names))

abbrev local_added : World → Locals → LocalTree → List ℕ
local_added w ls l = local_added_of w ls l.names l.type_use l.values

written_only_cases : {w : World} {ls : Locals} {l : LocalTree} {p : ℕ} {x : TypeTree} → l.type_use ≡ Some x → l.values ≡ None → LocalBreaksAt w ls l p →
    IsNoType w x p
written_only_cases {w} {p = p} e f (in_type g b) = subst (λ z. IsNoType w z p) (same_one g e) b
written_only_cases e f (in_values g b) = absurd (none_some f g)
written_only_cases e f (no_values_of_type g h i s m) = absurd (none_some f h)
written_only_cases e f (no_values g h s m) = absurd (none_some f h)

abbrev IsMisgivenAt : World → LocalTree → List (Item ExprTree) → List ListValue → List (Option Taker) → ℕ → Type 0
IsMisgivenAt w l ys vs ts p = IsAssignmentFault (receiving w ys vs) (first_of_idents l.names) vs ts p

abbrev WithType : World → Locals → LocalTree → TypeTree → List (Item ExprTree) → ℕ → Type 0
WithType w ls l x ys p = IsNoType w x p ⊎ (SidesBreakAt w ls ys p ⊎ IsMisgivenBy w ls ys (first_of_idents l.names) (TakeType w x l.names) p)

abbrev WithoutType : World → Locals → LocalTree → List (Item ExprTree) → ℕ → Type 0
WithoutType w ls l ys p = ⊥ ⊎ (SidesBreakAt w ls ys p ⊎ IsMisgivenBy w ls ys (first_of_idents l.names) (λ ts. ts ≡ map (λ i. Some Fresh) l.names) p)

with_type_cases : {w : World} {ls : Locals} {l : LocalTree} {p : ℕ} {x : TypeTree} {v : ℕ × List (Item ExprTree)} → l.type_use ≡ Some x → l.values ≡ Some v →
    LocalBreaksAt w ls l p → WithType w ls l x v.1 p
with_type_cases {w} {p = p} e f (in_type g b) = inl (subst (λ z. IsNoType w z p) (same_one g e) b)
with_type_cases {w} {ls} {p = p} e f (in_values g b) = inr (inl (subst (λ (z : ℕ × List (Item ExprTree)). SidesBreakAt w ls z.1 p) (same_one g f) b))
with_type_cases {w} {ls} {l} {p} e f (no_values_of_type {t = t} {vs = vs} g h i s m) = inr (inr (record {
  values = vs;
  takers = map (λ i. taker_of t) l.names;
  give = subst (λ (z : ℕ × List (Item ExprTree)). SidesGive w ls z.1 vs) (same_one h f) s;
  take = record { type = t; written = subst (λ z. WrittenTypeIs w z t) (same_one g e) i; are = refl };
  misgiven = subst (λ (z : ℕ × List (Item ExprTree)). IsMisgivenAt w l z.1 vs (map (λ i. taker_of t) l.names) p) (same_one h f) m;
}))
with_type_cases e f (no_values g h s m) = absurd (none_some g e)

without_type_cases : {w : World} {ls : Locals} {l : LocalTree} {p : ℕ} {v : ℕ × List (Item ExprTree)} → l.type_use ≡ None → l.values ≡ Some v →
    LocalBreaksAt w ls l p → WithoutType w ls l v.1 p
without_type_cases e f (in_type g b) = absurd (none_some e g)
without_type_cases {w} {ls} {p = p} e f (in_values g b) = inr (inl (subst (λ (z : ℕ × List (Item ExprTree)). SidesBreakAt w ls z.1 p) (same_one g f) b))
without_type_cases e f (no_values_of_type g h i s m) = absurd (none_some e g)
without_type_cases {w} {ls} {l} {p} e f (no_values {vs = vs} g h s m) = inr (inr (record {
  values = vs;
  takers = map (λ i. Some Fresh) l.names;
  give = subst (λ (z : ℕ × List (Item ExprTree)). SidesGive w ls z.1 vs) (same_one h f) s;
  take = refl;
  misgiven = subst (λ (z : ℕ × List (Item ExprTree)). IsMisgivenAt w l z.1 vs (map (λ i. Some Fresh) l.names) p) (same_one h f) m;
}))

neither_cases : {w : World} {ls : Locals} {l : LocalTree} {p : ℕ} → l.type_use ≡ None → l.values ≡ None → LocalBreaksAt w ls l p → ⊥
neither_cases e f (in_type g b) = none_some e g
neither_cases e f (in_values g b) = none_some f g
neither_cases e f (no_values_of_type g h i s m) = none_some e g
neither_cases e f (no_values g h s m) = none_some f h

of_type_misgiven : {w : World} {ls : Locals} {l : LocalTree} {p : ℕ} {x : TypeTree} {v : ℕ × List (Item ExprTree)} → l.type_use ≡ Some x → l.values ≡ Some v →
    IsMisgivenBy w ls v.1 (first_of_idents l.names) (TakeType w x l.names) p → LocalBreaksAt w ls l p
of_type_misgiven {w} {l = l} {p} {v = v} e f m = let t = m.take in
    no_values_of_type e f t.written m.give (subst (λ z. IsMisgivenAt w l v.1 m.values z p) t.are m.misgiven)

local_places_of : (w : World) (ls : Locals) (l : LocalTree) (t : Option TypeTree) (v : Values) → l.type_use ≡ t → l.values ≡ v →
    AreExactly (local_added_of w ls l.names t v) (LocalBreaksAt w ls l)
local_places_of w ls l (Some x) None e f = told_as (type_told w x) (λ p b. in_type e b) (λ p b. written_only_cases e f b)
local_places_of w ls l (Some x) (Some v) e f = told_as (giving_told w ls v.1 (first_of_idents l.names) (written_targets l.names (judge_type w x))
    (TakeType w x l.names)
    (map (λ i. taker_of (judge_type w x).type_of) l.names) (type_told w x) (record { type = (judge_type w x).type_of; written = type_found w x; are = refl })
    (type_aims l.names (judge_type w x).type_of) (λ us u. typed_aims w x l.names us u)) (λ p b. elim b [
      | inl a ↦ in_type e a
      | inr c ↦ elim c [ inl d ↦ in_values f d | inr m ↦ of_type_misgiven e f m ]
    ]) (λ p b. with_type_cases e f b)
local_places_of w ls l None (Some v) e f = told_as (giving_told w ls v.1 (first_of_idents l.names) (name_targets l.names sides.Takes) {A = λ p. ⊥}
    (λ ts. ts ≡ map (λ i. Some Fresh) l.names) (map (λ i. Some Fresh) l.names) (none_told (λ p n. n)) refl (fresh_aims l.names) (λ us u. new_aims l.names us u))
    (λ p b. elim b [
      | inl a ↦ absurd a
      | inr c ↦ elim c [
        | inl d ↦ in_values f d
        | inr m ↦ no_values e f m.give (subst (λ z. IsMisgivenAt w l v.1 m.values z p) m.take m.misgiven)
      ]
    ]) (λ p b. without_type_cases e f b)
local_places_of w ls l None None e f = none_told (λ p b. neither_cases e f b)

local_places : (w : World) (ls : Locals) (l : LocalTree) → AreExactly (local_added w ls l) (LocalBreaksAt w ls l)
local_places w ls l = local_places_of w ls l l.type_use l.values refl refl

faults_of : (w : World) (s : FoundSoFar) (names : List (Item IdentTree)) (t : Option TypeTree) (v : Values) →
    (check_local_of w s names t v).faults ≡ s.faults ++
    local_added_of w s.locals names t v
unfolding check_typed_local check_untyped_local
faults_of w s names (Some x) None = refl
faults_of w s names (Some x) (Some v) = refl
faults_of w s names None (Some v) = refl
faults_of w s names None None = refl

local_faults_are : (w : World) (s : FoundSoFar) (l : LocalTree) → (check_local w s l).faults ≡ s.faults ++ local_added w s.locals l
unfolding check_local
local_faults_are w s l = faults_of w s l.names l.type_use l.values

-- locals

leads_of : (w : World) (s : FoundSoFar) (l : LocalTree) (t : Option TypeTree) (v : Values) → l.type_use ≡ t → l.values ≡ v →
    LocalDeclares w s.locals l (check_local_of w s l.names t v).locals
unfolding check_typed_local check_untyped_local
leads_of w s l (Some x) None e f = of_type e (type_found w x) (written_found l.names (judge_type w x).type_of s.locals)
leads_of w s l (Some x) (Some v) e f = of_type e (type_found w x) (written_found l.names (judge_type w x).type_of s.locals)
leads_of w s l None (Some v) e f = of_values e f (sides_found w s.locals v.1) (taken_found s.locals (all_named l.names) (rhs w s.locals v.1).values)
leads_of w s l None None e f = of_neither e f (untyped_found s.locals (all_named l.names))

local_leads : (w : World) (s : FoundSoFar) (l : LocalTree) → LocalDeclares w s.locals l (check_local w s l).locals
unfolding check_local
local_leads w s l = leads_of w s l l.type_use l.values refl refl

type_leads : (w : World) (before after : Locals) (l : LocalTree) (x : TypeTree) → l.type_use ≡ Some x → LocalDeclares w before l after →
    written_locals before l.names (judge_type w x).type_of ≡ after
type_leads w before after l x e (of_type g i d) = ap (λ z. written_locals before l.names (judge_type w z).type_of) (same_one e g)
    ∙ (ap (λ z. written_locals before l.names z) (type_only w i) ∙ written_only l.names d)
type_leads w before after l x e (of_values g h s d) = absurd (none_some g e)
type_leads w before after l x e (of_neither g h d) = absurd (none_some g e)

values_lead : (w : World) (before after : Locals) (l : LocalTree) (v : ℕ × List (Item ExprTree)) → l.type_use ≡ None → l.values ≡ Some v →
    LocalDeclares w before l after →
    with_inferred before (all_named l.names) (rhs w before v.1).values ≡ after
values_lead w before after l v e f (of_type g i d) = absurd (none_some e g)
values_lead w before after l v e f (of_values g h s d) = ap (λ (z : ℕ × List (Item ExprTree)). with_inferred before (all_named l.names)
    (rhs w before z.1).values)
    (same_one f h) ∙ (ap (λ z. with_inferred before (all_named l.names) z) (sides_only w before s) ∙ taken_only d)
values_lead w before after l v e f (of_neither g h d) = absurd (none_some h f)

neither_leads : (w : World) (before after : Locals) (l : LocalTree) → l.type_use ≡ None → l.values ≡ None → LocalDeclares w before l after →
    sides.with_locals before (all_named l.names) [] ≡ after
neither_leads w before after l e f (of_type g i d) = absurd (none_some e g)
neither_leads w before after l e f (of_values g h s d) = absurd (none_some f h)
neither_leads w before after l e f (of_neither g h d) = untyped_only d

only_of : (w : World) (s : FoundSoFar) (l : LocalTree) (after : Locals) (t : Option TypeTree) (v : Values) → l.type_use ≡ t → l.values ≡ v →
    LocalDeclares w s.locals l after → (check_local_of w s l.names t v).locals ≡ after
unfolding check_typed_local check_untyped_local
only_of w s l after (Some x) None e f r = type_leads w s.locals after l x e r
only_of w s l after (Some x) (Some v) e f r = type_leads w s.locals after l x e r
only_of w s l after None (Some v) e f r = values_lead w s.locals after l v e f r
only_of w s l after None None e f r = neither_leads w s.locals after l e f r

local_only : (w : World) (s : FoundSoFar) (l : LocalTree) (after : Locals) → LocalDeclares w s.locals l after → (check_local w s l).locals ≡ after
unfolding check_local
local_only w s l after r = only_of w s l after l.type_use l.values refl refl r

pub local_told : (w : World) → IsExact LocalTree (LocalDeclares w) (LocalBreaksAt w) (check_local w)
local_told w = told_of LocalTree (LocalDeclares w) (LocalBreaksAt w) (check_local w) (local_added w) (local_leads w) (local_only w) (local_faults_are w)
    (local_places w)
