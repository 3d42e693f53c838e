-- The judgement of names and written types agrees with the rules.
use Rattle.std.proofs.Common.{ℕ, ◌≡◌, Option, Some, None, option_map, refl, ap, ◌∙◌, subst}
use Rattle.go_ast.specs.Tree.{TypeTree}
use Rattle.go_ast.specs.Tree as tree
use Rattle.types_expr.specs.Types.{PlainType, Pointer, Slice, Meaning, Value, TypeName, Function, BuiltinName, Package, Results, Broken}
use Rattle.types_expr.specs.World.{World, Locals, Bound, Local, Means, BrokenVariable, BrokenFunction, BrokenType, variable, meaning_of_bound, name_meaning}
use Rattle.types_expr.specs.Judge.{judge_type, named_type, named_meaning, imported_type, imported_meaning, good_type, under}
use Rattle.law_typing.specs.Names.{IsNotBroken, NameMeans, a_local, a_bound, IsType, named, imported, pointer, slice}
use Rattle.law_typing.proofs.Judgements.{value_whole}

pub name_true : (w : World) (locals : Locals) {p : ℕ} {m : Meaning} → NameMeans w locals p m → name_meaning w locals p ≡ m
name_true w locals (a_local e f) = ap (meaning_of_bound locals) e ∙ ap variable f
name_true w locals (a_bound e n) = ap (meaning_of_bound locals) e

pub name_whole : (w : World) (locals : Locals) {p : ℕ} {m : Meaning} → NameMeans w locals p m → IsNotBroken m
name_whole w locals (a_local e f) = value_whole
name_whole w locals (a_bound e n) = n

local_name : (w : World) (locals : Locals) (p d : ℕ) → w.bound p ≡ Local d → (o : Option PlainType) → locals d ≡ o → IsNotBroken (variable o) →
    NameMeans w locals p (variable o)
local_name w locals p d e None f n = absurd (n refl)
local_name w locals p d e (Some t) f n = a_local e f

bound_name : (w : World) (locals : Locals) (p : ℕ) (b : Bound) → w.bound p ≡ b → IsNotBroken (meaning_of_bound locals b) →
    NameMeans w locals p (meaning_of_bound locals b)
bound_name w locals p (Local d) e n = local_name w locals p d e (locals d) refl n
bound_name w locals p (Means m) e n = a_bound e n
bound_name w locals p BrokenVariable e n = absurd (n refl)
bound_name w locals p BrokenFunction e n = absurd (n refl)
bound_name w locals p BrokenType e n = absurd (n refl)

pub true_name : (w : World) (locals : Locals) (p : ℕ) → IsNotBroken (name_meaning w locals p) → NameMeans w locals p (name_meaning w locals p)
true_name w locals p n = bound_name w locals p (w.bound p) refl n

pub type_true : (w : World) {x : TypeTree} {t : PlainType} → IsType w x t → judge_type w x ≡ good_type t
unfolding judge_type named_type imported_type
type_true w (named {n} e) = ap (λ b. named_type b n) e
type_true w (imported {p} {d} {n} e f) = ap (λ b. imported_type w b p n) e ∙ ap (λ b. named_type b n) f
type_true w (pointer h) = ap (under Pointer) (type_true w h)
type_true w (slice h) = ap (under Slice) (type_true w h)

mapped : (f : PlainType → PlainType) (o : Option PlainType) (t : PlainType) → option_map f o ≡ Some t → (u : PlainType) × (o ≡ Some u) × (f u ≡ t)
mapped f None t h = cc
mapped f (Some u) t h = (u, refl, cc)

type_named : (w : World) (n : ℕ) (m : Meaning) (t : PlainType) → w.bound n ≡ Means m → (named_meaning m n).type_of ≡ Some t → w.bound n ≡ Means (TypeName t)
type_named w n (TypeName u) t e h = let same : u ≡ t = cc in e ∙ ap (λ x. Means (TypeName x)) same
type_named w n (Value k a) t e h = cc
type_named w n (Function s) t e h = cc
type_named w n (BuiltinName b) t e h = cc
type_named w n Package t e h = cc
type_named w n (Results ts) t e h = cc
type_named w n Broken t e h = cc

bound_type : (w : World) (n : ℕ) (b : Bound) (t : PlainType) → w.bound n ≡ b → (named_type b n).type_of ≡ Some t → w.bound n ≡ Means (TypeName t)
unfolding named_type
bound_type w n (Means m) t e h = type_named w n m t e h
bound_type w n (Local d) t e h = cc
bound_type w n BrokenVariable t e h = cc
bound_type w n BrokenFunction t e h = cc
bound_type w n BrokenType t e h = cc

of_package : (w : World) (p d n : ℕ) (m : Meaning) (t : PlainType) → w.bound p ≡ Means m → (imported_meaning w m p n).type_of ≡ Some t →
    IsType w (tree.Imported p d n) t
of_package w p d n Package t e h = imported e (bound_type w n (w.bound n) t refl h)
of_package w p d n (Value k a) t e h = cc
of_package w p d n (TypeName u) t e h = cc
of_package w p d n (Function s) t e h = cc
of_package w p d n (BuiltinName b) t e h = cc
of_package w p d n (Results ts) t e h = cc
of_package w p d n Broken t e h = cc

bound_import : (w : World) (p d n : ℕ) (b : Bound) (t : PlainType) → w.bound p ≡ b → (imported_type w b p n).type_of ≡ Some t → IsType w (tree.Imported p d n) t
unfolding imported_type
bound_import w p d n (Means m) t e h = of_package w p d n m t e h
bound_import w p d n (Local x) t e h = cc
bound_import w p d n BrokenVariable t e h = cc
bound_import w p d n BrokenFunction t e h = cc
bound_import w p d n BrokenType t e h = cc

pub true_type : (w : World) (x : TypeTree) (t : PlainType) → (judge_type w x).type_of ≡ Some t → IsType w x t
unfolding judge_type
true_type w (tree.Local n) t h = named (bound_type w n (w.bound n) t refl h)
true_type w (tree.Imported p d n) t h = bound_import w p d n (w.bound p) t refl h
true_type w (tree.Pointer s x) t h = let u = mapped Pointer (judge_type w x).type_of t h in
    subst (λ z. IsType w (tree.Pointer s x) z) u.2 (pointer (true_type w x u.0 u.1))
true_type w (tree.Slice o c x) t h = let u = mapped Slice (judge_type w x).type_of t h in
    subst (λ z. IsType w (tree.Slice o c x) z) u.2 (slice (true_type w x u.0 u.1))
