-- The locals that declared names add, as the check finds them.
use Rattle.std.proofs.Common.{ℕ, ◌≡◌, ◌==◌, Bool, true, false, if◌then◌else◌, List, [], ◌∷◌, map, length, Option, Some, None, refl, sym, ap, ◌∙◌, suc}
use Rattle.std.proofs.Common.{true≢false, eq-eqb, eqb-true, arith}
use Rattle.go_ast.specs.Tree.{Item, IdentTree, TypeTree}
use Rattle.types_expr.specs.Types.{PlainType, ValueKind, Typed, Untyped, Nil}
use Rattle.types_expr.specs.World.{World, Locals, declared}
use Rattle.types_expr.specs.Judge.{ListValue, TypeJudged, judge_type}
use Rattle.types_stmt.specs.Sides.{default_type, inferred_type, inferred_types, inferred, with_locals, with_inferred, all_named, named}
use Rattle.types_stmt.specs.Simple.{written_locals}
use Rattle.law_typing.specs.Names.{IsType}
use Rattle.law_typing.proofs.Naming.{type_true, true_type}
use Rattle.law_typing.proofs.Tests.{none_is_some}
use Rattle.law_typing.specs.Assignments.{own, by_default}
use Rattle.law_typing.specs.DeclaredLocals.{InfersType, from_value, from_nil, from_nothing, DeclareEach}
use Rattle.law_typing.specs.DeclaredLocals.{all_declared, no_local, new_local, DeclareAll, no_name_left}
use Rattle.law_typing.specs.DeclaredLocals.{not_named, also_named, DeclareInferred, in_turn, under_wrong_count, WrittenTypeIs, a_type, no_type}

-- types from values

pub takes_found : (o : Option ValueKind) → InfersType o (inferred_type o)
unfolding inferred_type default_type
takes_found None = from_nothing
takes_found (Some (Typed t)) = from_value own
takes_found (Some (Untyped b)) = from_value by_default
takes_found (Some Nil) = from_nil

pub takes_only : {o : Option ValueKind} {t : Option PlainType} → InfersType o t → inferred_type o ≡ t
unfolding inferred_type default_type
takes_only (from_value own) = refl
takes_only (from_value by_default) = refl
takes_only from_nil = refl
takes_only from_nothing = refl

each_declared : (before : Locals) (ns : List (Option ℕ)) (vs : List ListValue) → length vs ≡ length ns →
    DeclareEach before ns vs (with_locals before ns (inferred_types vs))
unfolding with_locals
each_declared before [] [] h = all_declared
each_declared before [] (v ∷ vs) h = absurd (omega arith)
each_declared before (n ∷ ns) [] h = absurd (omega arith)
each_declared before (None ∷ ns) (v ∷ vs) h = let m : length vs ≡ length ns = omega arith in no_local (each_declared before ns vs m)
each_declared before (Some p ∷ ns) (v ∷ vs) h = let m : length vs ≡ length ns = omega arith in new_local (takes_found v.kind)
    (each_declared (declared before p (inferred_type v.kind)) ns vs m)

each_only : {before after : Locals} {ns : List (Option ℕ)} {vs : List ListValue} → DeclareEach before ns vs after →
    with_locals before ns (inferred_types vs) ≡ after
unfolding with_locals
each_only all_declared = refl
each_only (no_local more) = each_only more
each_only (new_local {before} {p = p} {ns = ns} {vs = vs} t more) = ap (λ z. with_locals (declared before p z) ns (inferred_types vs)) (takes_only t)
    ∙ each_only more

each_length : {before after : Locals} {ns : List (Option ℕ)} {vs : List ListValue} → DeclareEach before ns vs after → length vs ≡ length ns
each_length all_declared = refl
each_length (no_local more) = ap suc (each_length more)
each_length (new_local t more) = ap suc (each_length more)

-- names without types

pub untyped_found : (before : Locals) (ns : List (Option ℕ)) → DeclareAll None before ns (with_locals before ns [])
unfolding with_locals
untyped_found before [] = no_name_left
untyped_found before (None ∷ ns) = not_named (untyped_found before ns)
untyped_found before (Some p ∷ ns) = also_named (untyped_found (declared before p None) ns)

pub untyped_only : {before after : Locals} {ns : List (Option ℕ)} → DeclareAll None before ns after → with_locals before ns [] ≡ after
unfolding with_locals
untyped_only no_name_left = refl
untyped_only (not_named more) = untyped_only more
untyped_only (also_named more) = untyped_only more

taken_by : (before : Locals) (ns : List (Option ℕ)) (vs : List ListValue) (c : Bool) → (length vs == length ns) ≡ c →
    DeclareInferred before ns vs (with_locals before ns (if c then inferred_types vs else []))
taken_by before ns vs true h = in_turn (each_declared before ns vs (eqb-true (length vs) (length ns) h))
taken_by before ns vs false h = under_wrong_count (λ e. true≢false (sym (eq-eqb (length vs) (length ns) e) ∙ h)) (untyped_found before ns)

pub taken_found : (before : Locals) (ns : List (Option ℕ)) (vs : List ListValue) → DeclareInferred before ns vs (with_inferred before ns vs)
unfolding inferred
taken_found before ns vs = taken_by before ns vs (length vs == length ns) refl

not_equal : (m n : ℕ) → (m ≡ n → ⊥) → (b : Bool) → (m == n) ≡ b → b ≡ false
not_equal m n d true h = absurd (d (eqb-true m n h))
not_equal m n d false h = refl

pub taken_only : {before after : Locals} {ns : List (Option ℕ)} {vs : List ListValue} → DeclareInferred before ns vs after → with_inferred before ns vs ≡ after
unfolding inferred
taken_only (in_turn {before} {ns = ns} {vs = vs} d) = ap (λ c. with_locals before ns (if c then inferred_types vs else [])) (eq-eqb (length vs) (length ns)
    (each_length d)) ∙ each_only d
taken_only (under_wrong_count {before} {ns = ns} {vs = vs} n d) = ap (λ c. with_locals before ns (if c then inferred_types vs else [])) (not_equal (length vs)
    (length ns) n
    (length vs == length ns) refl) ∙ untyped_only d

-- names of a written type

one_found : (t : Option PlainType) (before : Locals) (n : Option ℕ) (ns : List (Option ℕ)) (ts : List (Option PlainType)) → ((ls : Locals) →
    DeclareAll t ls ns (with_locals ls ns ts)) → DeclareAll t before (n ∷ ns) (with_locals before (n ∷ ns) (t ∷ ts))
unfolding with_locals
one_found t before None ns ts f = not_named (f before)
one_found t before (Some p) ns ts f = also_named (f (declared before p t))

one_only : {t : Option PlainType} {before after : Locals} (n : Option ℕ) (ns : List (Option ℕ)) (ts : List (Option PlainType)) → ((ls : Locals) →
    DeclareAll t ls ns after → with_locals ls ns ts ≡ after) → DeclareAll t before (n ∷ ns) after → with_locals before (n ∷ ns) (t ∷ ts) ≡ after
unfolding with_locals
one_only {before = before} n ns ts f (not_named more) = f before more
one_only {t} {before} n ns ts f (also_named {p = p} more) = f (declared before p t) more

none_found : (t : Option PlainType) (before : Locals) → DeclareAll t before [] (with_locals before [] [])
unfolding with_locals
none_found t before = no_name_left

none_only : {t : Option PlainType} {before after : Locals} (ts : List (Option PlainType)) → DeclareAll t before [] after → with_locals before [] ts ≡ after
unfolding with_locals
none_only ts no_name_left = refl

pub written_found : (xs : List (Item IdentTree)) (t : Option PlainType) (before : Locals) → DeclareAll t before (all_named xs) (written_locals before xs t)
written_found [] t before = none_found t before
written_found (x ∷ xs) t before = one_found t before (named x.value) (all_named xs) (map (λ i. t) xs) (λ ls. written_found xs t ls)

pub written_only : (xs : List (Item IdentTree)) {t : Option PlainType} {before after : Locals} → DeclareAll t before (all_named xs) after →
    written_locals before xs t ≡ after
written_only [] d = none_only [] d
written_only (x ∷ xs) {t} d = one_only (named x.value) (all_named xs) (map (λ i. t) xs) (λ ls e. written_only xs e) d

pub single_found : (n : IdentTree) (t : Option PlainType) (before : Locals) → DeclareAll t before (named n ∷ []) (with_locals before (named n ∷ []) (t ∷ []))
single_found n t before = one_found t before (named n) [] [] (λ ls. none_found t ls)

pub single_only : (n : IdentTree) {t : Option PlainType} {before after : Locals} → DeclareAll t before (named n ∷ []) after → with_locals before (named n ∷ [])
    (t ∷ []) ≡ after
single_only n d = one_only (named n) [] [] (λ ls e. none_only [] e) d

-- written types

is_written : (w : World) (x : TypeTree) (o : Option PlainType) → (judge_type w x).type_of ≡ o → WrittenTypeIs w x o
is_written w x (Some t) h = a_type (true_type w x t h)
is_written w x None h = no_type (λ t i. let e = ap (λ (z : TypeJudged). z.type_of) (type_true w i) in none_is_some t (sym h ∙ e))

pub type_found : (w : World) (x : TypeTree) → WrittenTypeIs w x (judge_type w x).type_of
type_found w x = is_written w x (judge_type w x).type_of refl

no_type_is : (w : World) (x : TypeTree) (o : Option PlainType) → (judge_type w x).type_of ≡ o → ((t : PlainType) → IsType w x t → ⊥) →
    (judge_type w x).type_of ≡ None
no_type_is w x None h n = h
no_type_is w x (Some t) h n = absurd (n t (true_type w x t h))

pub type_only : (w : World) {x : TypeTree} {t : Option PlainType} → WrittenTypeIs w x t → (judge_type w x).type_of ≡ t
type_only w (a_type i) = ap (λ (z : TypeJudged). z.type_of) (type_true w i)
type_only w {x} (no_type n) = no_type_is w x (judge_type w x).type_of refl n
