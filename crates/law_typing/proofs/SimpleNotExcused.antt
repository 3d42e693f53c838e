-- A typed simple statement is not excused.
use Rattle.std.proofs.Common.{ℕ, ◌≡◌, Bool, true, false, List, Option, sym, subst, true≢false}
use Rattle.go_ast.specs.Tree.{Item, ExprTree, SimpleTree}
use Rattle.go_ast.specs.Tree as tree
use Rattle.types_expr.specs.Types.{PlainType, ValueKind, Typed, Meaning, Value}
use Rattle.types_expr.specs.World.{World, Locals}
use Rattle.law_typing.specs.Operators.{IsUntyped}
use Rattle.law_typing.specs.Meanings.{HasMeaning}
use Rattle.law_typing.proofs.ExpressionLaws.{has_one_meaning}
use Rattle.law_typing.specs.Assignments.{Taker, AreEachValues, also_value, GiveKinds, values, results}
use Rattle.law_typing.specs.Simple.{AreAssigned, a_blank, an_operand, AreDefined, an_underscore, a_new_name, an_old_name, SimpleIsTyped, a_call}
use Rattle.law_typing.specs.Simple.{a_step, an_update, an_assignment, a_definition}
use Rattle.law_typing.specs.Excused.{IsNoVariable, without_type, constant, AnyUsesBroken, this_one, a_later_one, IsBlank, underscored, IsDeclaredName}
use Rattle.law_typing.specs.Excused.{bound_to_itself, AssignedIsExcused, assigned_uses, assigned_without_type, later_assigned, DefinedIsExcused}
use Rattle.law_typing.specs.Excused.{defined_uses, defined_no_variable, later_defined, SimpleIsExcused, in_call, in_step, in_updated, in_update}
use Rattle.law_typing.specs.Excused.{updated_without_type, in_assigned, in_assignment, in_defined, in_definition}
use Rattle.law_typing.proofs.Unbroken.{no_use}

each_means : (w : World) (locals : Locals) {is : List (Item ExprTree)} {ks : List ValueKind} → AnyUsesBroken w locals is → AreEachValues w locals is ks → ⊥
each_means w locals (this_one u) (also_value h more) = no_use w locals u h
each_means w locals (a_later_one u) (also_value h more) = each_means w locals u more

pub gives_unbroken : (w : World) (locals : Locals) {is : List (Item ExprTree)} {ks : List ValueKind} → AnyUsesBroken w locals is → GiveKinds w locals is ks → ⊥
gives_unbroken w locals u (values v) = each_means w locals u v
gives_unbroken w locals (this_one u) (results h) = no_use w locals u h
gives_unbroken w locals (a_later_one u) (results h) = elim u [ ]

typed_kind : {k : ValueKind} {t : PlainType} {a b : Bool} → IsUntyped k → Value k a ≡ Value (Typed t) b → ⊥
typed_kind {k} {t} u e = let q : k ≡ Typed t = cc in elim (subst (λ z. IsUntyped z) q u) [ ]

variable_kind : {k : ValueKind} {t : PlainType} {a : Bool} → IsNoVariable k a → Value k a ≡ Value (Typed t) true → ⊥
variable_kind (without_type u) e = typed_kind u e
variable_kind constant e = let q : false ≡ true = cc in true≢false (sym q)

no_blank : (w : World) (locals : Locals) {e : ExprTree} {m : Meaning} {p : ℕ} → e ≡ tree.Blank p → HasMeaning w locals e m → ⊥
no_blank w locals {m = m} e h = elim (subst (λ z. HasMeaning w locals z m) e h) [ ]

assigned_not : (w : World) (locals : Locals) {is : List (Item ExprTree)} {ts : List Taker} → AssignedIsExcused w locals is → AreAssigned w locals is ts → ⊥
assigned_not w locals (assigned_uses n u) (a_blank e more) = n (subst (λ z. IsBlank z) (sym e) underscored)
assigned_not w locals (assigned_uses n u) (an_operand h more) = no_use w locals u h
assigned_not w locals (assigned_without_type v i) (a_blank e more) = no_blank w locals e v
assigned_not w locals (assigned_without_type {i = x} {k = k} v i) (an_operand {t = t} h more) = typed_kind i (has_one_meaning w locals x.value (Value k true)
    (Value (Typed t) true) v h)
assigned_not w locals (later_assigned x) (a_blank e more) = assigned_not w locals x more
assigned_not w locals (later_assigned x) (an_operand h more) = assigned_not w locals x more

defined_not : (w : World) (locals : Locals) {is : List (Item ExprTree)} {ts : List Taker} {ns : List (Option ℕ)} → DefinedIsExcused w locals is →
    AreDefined w locals is ts ns → ⊥
defined_not w locals (defined_uses n m u) (an_underscore e more) = n (subst (λ z. IsBlank z) (sym e) underscored)
defined_not w locals (defined_uses n m u) (a_new_name e b more) = m (subst (λ z. IsDeclaredName w z) (sym e) (bound_to_itself b))
defined_not w locals (defined_uses n m u) (an_old_name {t = t} e b h more) = no_use w locals u (subst (λ z. HasMeaning w locals z (Value (Typed t) true))
    (sym e) h)
defined_not w locals (defined_no_variable m v x) (an_underscore e more) = no_blank w locals e v
defined_not w locals (defined_no_variable m v x) (a_new_name e b more) = m (subst (λ z. IsDeclaredName w z) (sym e) (bound_to_itself b))
defined_not w locals (defined_no_variable {i = i} {k = k} {a = a} m v x) (an_old_name {t = t} e b h more) =
    variable_kind x (has_one_meaning w locals i.value (Value k a) (Value (Typed t) true) v (subst (λ z. HasMeaning w locals z (Value (Typed t) true)) (sym
    e) h))
defined_not w locals (later_defined x) (an_underscore e more) = defined_not w locals x more
defined_not w locals (later_defined x) (a_new_name e b more) = defined_not w locals x more
defined_not w locals (later_defined x) (an_old_name e b h more) = defined_not w locals x more

pub simple_not : (w : World) {before after : Locals} {a : SimpleTree} → SimpleIsTyped w before a after → SimpleIsExcused w before a → ⊥
simple_not w {before} (a_call h c f m) (in_call u) = no_use w before u h
simple_not w {before} (a_step h i) (in_step u) = no_use w before u h
simple_not w {before} (an_update o h g q f) (in_updated u) = no_use w before u h
simple_not w {before} (an_update o h g q f) (in_update u) = no_use w before u g
simple_not w {before} (an_update {x = x} {t = t} o h g q f) (updated_without_type {k = k} v i) = typed_kind i (has_one_meaning w before x (Value k true)
    (Value (Typed t) true) v h)
simple_not w {before} (an_assignment l g t) (in_assigned x) = assigned_not w before x l
simple_not w {before} (an_assignment l g t) (in_assignment u) = gives_unbroken w before u g
simple_not w {before} (a_definition l g t d) (in_defined x) = defined_not w before x l
simple_not w {before} (a_definition l g t d) (in_definition u) = gives_unbroken w before u g
