-- Types, arguments and keys that are faults have these at the tokens where they break their rules.
use Rattle.std.proofs.Common.{ℕ, ◌≡◌, Bool, true, false, List, [], ◌∷◌, length, Option, Some, None, refl, sym, ap, ◌∙◌, subst, true≢false, if◌then◌else◌, arith}
use Rattle.go_ast.specs.Tree.{TypeTree, ArgumentTrees}
use Rattle.go_ast.specs.Tree as tree
use Rattle.types_expr.specs.Places.{place_of}
use Rattle.types_expr.specs.Types.{PlainType, Underlying, Plain, PointerTo, SliceOf, Struct, Interface}
use Rattle.types_expr.specs.Types.{ValueKind, Meaning, Value, TypeName, Function, BuiltinName, Package}
use Rattle.types_expr.specs.Types.{Results, Broken, element_of}
use Rattle.types_expr.specs.World.{World, Locals, Bound, Local, Means, BrokenVariable, BrokenFunction, BrokenType}
use Rattle.types_expr.specs.Operations.{fits}
use Rattle.types_expr.specs.Judge.{KeyMeaning, FieldKey, WrongKey, BrokenKey, as_value}
use Rattle.types_expr.specs.Judge.{value_kind, judge, judge_arguments, judge_type, named_type, imported_type}
use Rattle.types_expr.specs.Judge.{misfit, misfits, all_misfits, misfit_if, key_faults}
use Rattle.law_typing.specs.Fits.{FitsType}
use Rattle.law_typing.specs.Faults.{NamesNoType, NamesValue, a_local, a_value, a_broken_variable, IsNoType, by_name, behind_package, behind_value, no_package}
use Rattle.law_typing.specs.Faults.{in_pointer, in_slice, IsMisfit, this_argument, other_argument, IsMisfitOf, this_value, other_value, AreAsMany, no_more}
use Rattle.law_typing.specs.Faults.{one_more}
use Rattle.law_typing.proofs.Fitting.{fits_true}
use Rattle.law_typing.proofs.Completeness.{complete, has_value}
use Rattle.law_typing.proofs.RuleFaults.{Each, each_append}

-- Types

name_each : (P : ℕ → Type 0) (w : World) (n : ℕ) (b : Bound) → w.bound n ≡ b → (NamesNoType w n → P n) → Each P (named_type b n).faults
unfolding named_type
name_each P w n (Means (TypeName t)) e f = tt
name_each P w n BrokenType e f = tt
name_each P w n (Means (Value k a)) e f = (
  f (record {
    no_type = λ t h. let c : Means (Value k a) ≡ Means (TypeName t) = sym e ∙ h in
        cc;
    unbroken = λ h. let c : Means (Value k a) ≡ BrokenType = sym e ∙ h in cc;
  }),
  tt,
)
name_each P w n (Means (Function s)) e f = (
  f (record {
    no_type = λ t h. let c : Means (Function s) ≡ Means (TypeName t) = sym e ∙ h in
        cc;
    unbroken = λ h. let c : Means (Function s) ≡ BrokenType = sym e ∙ h in cc;
  }),
  tt,
)
name_each P w n (Means (BuiltinName x)) e f = (
  f (record {
    no_type = λ t h. let c : Means (BuiltinName x) ≡ Means (TypeName t) = sym e ∙ h in
        cc;
    unbroken = λ h. let c : Means (BuiltinName x) ≡ BrokenType = sym e ∙ h in cc;
  }),
  tt,
)
name_each P w n (Means Package) e f = (
  f (record {
    no_type = λ t h. let c : Means Package ≡ Means (TypeName t) = sym e ∙ h in
        cc;
    unbroken = λ h. let c : Means Package ≡ BrokenType = sym e ∙ h in cc;
  }),
  tt,
)
name_each P w n (Means (Results ts)) e f = (
  f (record {
    no_type = λ t h. let c : Means (Results ts) ≡ Means (TypeName t) = sym e ∙ h in
        cc;
    unbroken = λ h. let c : Means (Results ts) ≡ BrokenType = sym e ∙ h in cc;
  }),
  tt,
)
name_each P w n (Means Broken) e f = (
  f (record {
    no_type = λ t h. let c : Means Broken ≡ Means (TypeName t) = sym e ∙ h in
        cc;
    unbroken = λ h. let c : Means Broken ≡ BrokenType = sym e ∙ h in cc;
  }),
  tt,
)
name_each P w n (Local d) e f = (
  f (record {
    no_type = λ t h. let c : Local d ≡ Means (TypeName t) = sym e ∙ h in
        cc;
    unbroken = λ h. let c : Local d ≡ BrokenType = sym e ∙ h in cc;
  }),
  tt,
)
name_each P w n BrokenVariable e f = (
  f (record {
    no_type = λ t h. let c : BrokenVariable ≡ Means (TypeName t) = sym e ∙ h in
        cc;
    unbroken = λ h. let c : BrokenVariable ≡ BrokenType = sym e ∙ h in cc;
  }),
  tt,
)
name_each P w n BrokenFunction e f = (
  f (record {
    no_type = λ t h. let c : BrokenFunction ≡ Means (TypeName t) = sym e ∙ h in
        cc;
    unbroken = λ h. let c : BrokenFunction ≡ BrokenType = sym e ∙ h in cc;
  }),
  tt,
)

abbrev IsOfValue : Bound → Type 0
IsOfValue (Local d) = Unit {0}
IsOfValue BrokenVariable = Unit {0}
IsOfValue BrokenFunction = ⊥
IsOfValue BrokenType = ⊥
IsOfValue (Means (Value k a)) = Unit {0}
IsOfValue (Means (TypeName t)) = ⊥
IsOfValue (Means (Function s)) = ⊥
IsOfValue (Means (BuiltinName b)) = ⊥
IsOfValue (Means Package) = ⊥
IsOfValue (Means (Results ts)) = ⊥
IsOfValue (Means Broken) = ⊥

of_value : (w : World) (n : ℕ) (b : Bound) → w.bound n ≡ b → NamesValue w n → IsOfValue b
of_value w n b e (a_local h) = subst IsOfValue (sym h ∙ e) tt
of_value w n b e (a_value h) = subst IsOfValue (sym h ∙ e) tt
of_value w n b e (a_broken_variable h) = subst IsOfValue (sym h ∙ e) tt

abbrev IsPackage : Bound → Type 0
IsPackage (Means Package) = Unit {0}
IsPackage b = ⊥

import_each : (P : ℕ → Type 0) (w : World) (p d n : ℕ) (b : Bound) → w.bound p ≡ b → ((q : ℕ) → IsNoType w (tree.Imported p d n) q → P q) →
    Each P (imported_type w b p n).faults
unfolding imported_type
import_each P w p d n (Means Package) e f = name_each P w n (w.bound n) refl (λ h. f n (behind_package e h))
import_each P w p d n (Means (Value k a)) e f = (f n (behind_value (a_value e)), tt)
import_each P w p d n (Local x) e f = (f n (behind_value (a_local e)), tt)
import_each P w p d n BrokenVariable e f = (f n (behind_value (a_broken_variable e)), tt)
import_each P w p d n (Means (TypeName t)) e f = (f p (no_package (λ h. subst IsPackage (sym h ∙ e) tt) (λ h. of_value w p (Means (TypeName t)) e h)), tt)
import_each P w p d n (Means (Function s)) e f = (f p (no_package (λ h. subst IsPackage (sym h ∙ e) tt) (λ h. of_value w p (Means (Function s)) e h)), tt)
import_each P w p d n (Means (BuiltinName x)) e f = (f p (no_package (λ h. subst IsPackage (sym h ∙ e) tt) (λ h. of_value w p (Means (BuiltinName x)) e h)), tt)
import_each P w p d n (Means (Results ts)) e f = (f p (no_package (λ h. subst IsPackage (sym h ∙ e) tt) (λ h. of_value w p (Means (Results ts)) e h)), tt)
import_each P w p d n (Means Broken) e f = (f p (no_package (λ h. subst IsPackage (sym h ∙ e) tt) (λ h. of_value w p (Means Broken) e h)), tt)
import_each P w p d n BrokenFunction e f = (f p (no_package (λ h. subst IsPackage (sym h ∙ e) tt) (λ h. of_value w p BrokenFunction e h)), tt)
import_each P w p d n BrokenType e f = (f p (no_package (λ h. subst IsPackage (sym h ∙ e) tt) (λ h. of_value w p BrokenType e h)), tt)

pub type_each : (P : ℕ → Type 0) (w : World) (x : TypeTree) → ((p : ℕ) → IsNoType w x p → P p) → Each P (judge_type w x).faults
unfolding judge_type
type_each P w (tree.Local n) f = name_each P w n (w.bound n) refl (λ h. f n (by_name h))
type_each P w (tree.Imported p d n) f = import_each P w p d n (w.bound p) refl f
type_each P w (tree.Pointer s x) f = type_each P w x (λ p h. f p (in_pointer h))
type_each P w (tree.Slice o c x) f = type_each P w x (λ p h. f p (in_slice h))

-- values that do not fit

test_misfit : (P : ℕ → Type 0) (w : World) (place : ℕ) (k : ValueKind) (t : PlainType) (b : Bool) → fits w k t ≡ b → ((FitsType w k t → ⊥) → P place) →
    Each P (if b then [] else (place ∷ []))
test_misfit P w place k t true e f = tt
test_misfit P w place k t false e f = (f (λ h. true≢false (sym (fits_true w h) ∙ e)), tt)

pub misfit_each : (P : ℕ → Type 0) (w : World) (here place : ℕ) (m : Meaning) (t : PlainType) →
    ((k : ValueKind) (a : Bool) → m ≡ Value k a → (FitsType w k t → ⊥) → P place) → Each P (misfit w place (value_kind (as_value here m).meaning) t)
unfolding misfit value_kind as_value
misfit_each P w here place (Value k a) t f = test_misfit P w place k t (fits w k t) refl (f k a refl)
misfit_each P w here place (TypeName u) t f = tt
misfit_each P w here place (Function s) t f = tt
misfit_each P w here place (BuiltinName b) t f = tt
misfit_each P w here place Package t f = tt
misfit_each P w here place (Results ts) t f = tt
misfit_each P w here place Broken t f = tt

pub wanted_each : (P : ℕ → Type 0) (w : World) (here place : ℕ) (m : Meaning) (wanted : Option PlainType) →
    ((t : PlainType) → wanted ≡ Some t → (k : ValueKind) (a : Bool) → m ≡ Value k a → (FitsType w k t → ⊥) → P place) →
    Each P (misfit_if w place (value_kind (as_value here m).meaning) wanted)
wanted_each P w here place m None f = tt
wanted_each P w here place m (Some t) f = misfit_each P w here place m t (f t refl)

pub misfits_each : (P : ℕ → Type 0) (w : World) (locals : Locals) (xs : ArgumentTrees) (ts : List PlainType) → ((p : ℕ) → IsMisfit w locals xs ts p → P p) →
    Each P (misfits w (judge_arguments w locals xs).values ts)
unfolding judge misfits
misfits_each P w locals tree.no_argument ts f = tt
misfits_each P w locals (tree.argument e c rest) [] f = tt
misfits_each P w locals (tree.argument e c rest) (t ∷ ts) f =
    each_append P (misfit w (place_of e) (value_kind (as_value (place_of e) (judge w locals e).meaning).meaning) t)
    (misfits w (judge_arguments w locals rest).values ts)
    (misfit_each P w (place_of e) (place_of e) (judge w locals e).meaning t
    (λ k a h n. f (place_of e) (this_argument (has_value (λ q. complete w locals e q) h) n)))
    (misfits_each P w locals rest ts (λ p h. f p (other_argument h)))

pub all_misfits_each : (P : ℕ → Type 0) (w : World) (locals : Locals) (xs : ArgumentTrees) (t : PlainType) → ((p : ℕ) → IsMisfitOf w locals t xs p → P p) →
    Each P (all_misfits w (judge_arguments w locals xs).values t)
unfolding judge all_misfits
all_misfits_each P w locals tree.no_argument t f = tt
all_misfits_each P w locals (tree.argument e c rest) t f =
    each_append P (misfit w (place_of e) (value_kind (as_value (place_of e) (judge w locals e).meaning).meaning) t)
    (all_misfits w (judge_arguments w locals rest).values t)
    (misfit_each P w (place_of e) (place_of e) (judge w locals e).meaning t
    (λ k a h n. f (place_of e) (this_value (has_value (λ q. complete w locals e q) h) n)))
    (all_misfits_each P w locals rest t (λ p h. f p (other_value h)))

pub as_many_arguments : (w : World) (locals : Locals) (xs : ArgumentTrees) (ts : List PlainType) → length (judge_arguments w locals xs).values ≡ length ts →
    AreAsMany xs ts
unfolding judge
as_many_arguments w locals tree.no_argument [] h = no_more
as_many_arguments w locals tree.no_argument (t ∷ ts) h = absurd (omega arith)
as_many_arguments w locals (tree.argument e c rest) [] h = absurd (omega arith)
as_many_arguments w locals (tree.argument e c rest) (t ∷ ts) h = let m : length (judge_arguments w locals rest).values ≡ length ts = omega arith in
    one_more (as_many_arguments w locals rest ts m)

-- keys

pub key_each : (P : ℕ → Type 0) (k : KeyMeaning) (place : ℕ) → (k ≡ WrongKey → P place) → Each P (key_faults k place)
key_each P WrongKey place f = (f refl, tt)
key_each P BrokenKey place f = tt
key_each P (FieldKey rank t) place f = tt

pub element_slice : (u : Underlying) (t : PlainType) → element_of u ≡ Some t → u ≡ SliceOf t
element_slice (SliceOf x) t h = let e : x ≡ t = cc in ap SliceOf e
element_slice (Plain b) t h = cc
element_slice (PointerTo x) t h = cc
element_slice (Struct s) t h = cc
element_slice (Interface s) t h = cc
