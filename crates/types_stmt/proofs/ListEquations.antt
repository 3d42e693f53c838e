-- The definitions on lists, by the first item and the others.
use Rattle.std.proofs.Common.{ℕ, ◌≡◌, Bool, List, [], ◌∷◌, ◌++◌, ap, sym, refl, append_assoc, map, Option}
use Rattle.go_ast.specs.View.{expr_view, exprs_view, list_view, type_view}
use Rattle.go_ast.specs.FileView.{field_view, param_view, method_view, results_view, decl_view}
use Rattle.go_ast.specs.declared.tree.FieldDecl.{FieldDecl}
use Rattle.go_ast.specs.declared.tree.MethodSpec.{MethodSpec}
use Rattle.go_ast.specs.declared.tree.Param.{Param}
use Rattle.go_ast.specs.declared.tree.Item.{Item}
use Rattle.go_ast.specs.declared.tree.Decl.{Decl}
use Rattle.go_ast.specs.declared.tree.TypeExpr.{TypeExpr}
use Rattle.go_ast.specs.declared.tree.ExprItem.{ExprItem}
use Rattle.types_expr.specs.Lists.{arguments_in}
use Rattle.types_expr.specs.Places.{place_of}
use Rattle.types_expr.specs.Types.{PlainType}
use Rattle.types_expr.specs.World.{World, Locals}
use Rattle.types_expr.specs.Judge.{judge_type, judge_value, judge_arguments, value_before, ListValue}
use Rattle.types_stmt.specs.Checked.{FoundSoFar, check_items}
use Rattle.types_stmt.specs.Headers.{judge_types, judge_results, with_result}
use Rattle.types_stmt.specs.Declarations.{field_faults, param_faults, asked_faults, check_decl, check_decls}
use Rattle.types_stmt.specs.Sides.{judge_each, assigned, assigned_one, defined, defined_one, join_lefts, Target, refused_at, all_refused, with_locals}
use Rattle.types_stmt.specs.Sides.{entered_at, all_entered, declared_if, head_or_none, tail_of}
use Rattle.types_stmt.proofs.LoopProgress.{GivenNotes, join_notes}

-- the values of expressions in turn are those of the arguments of a call
pub arguments_each : (w : World) (ls : Locals) (xs : List ExprItem) → judge_arguments w ls (arguments_in xs) ≡ judge_each w ls (exprs_view xs)
unfolding judge_arguments arguments_in judge_each
arguments_each w ls [] = refl
arguments_each w ls (x ∷ xs) = ap (value_before (place_of (expr_view x.value)) (judge_value w ls (expr_view x.value))) (arguments_each w ls xs)

pub assigned_step : (w : World) (ls : Locals) (x : ExprItem) (xs : List ExprItem) →
    assigned w ls (exprs_view (x ∷ xs)) ≡ join_lefts (assigned_one w ls (expr_view x.value)) (assigned w ls (exprs_view xs))
unfolding assigned
assigned_step w ls x xs = refl

pub assigned_end : (w : World) (ls : Locals) → assigned w ls (exprs_view []) ≡ record { targets = []; faults = []; uses = [] }
unfolding assigned
assigned_end w ls = refl

pub defined_step : (w : World) (ls : Locals) (x : ExprItem) (xs : List ExprItem) →
    defined w ls (exprs_view (x ∷ xs)) ≡ join_lefts (defined_one w ls (expr_view x.value)) (defined w ls (exprs_view xs))
unfolding defined
defined_step w ls x xs = refl

pub defined_end : (w : World) (ls : Locals) → defined w ls (exprs_view []) ≡ record { targets = []; faults = []; uses = [] }
unfolding defined
defined_end w ls = refl

-- what targets refuse of values, and the entries into the targets' types
abbrev pub refused_notes : World → List ListValue → List Target → GivenNotes
refused_notes w vs ts = record { faults = all_refused w vs ts; entries = all_entered w vs ts }

-- the same for one value
abbrev pub refused_note : World → ListValue → Target → GivenNotes
refused_note w v t = record { faults = refused_at w v.place v.kind t; entries = entered_at w v.place v.kind t }

pub all_refused_step : (w : World) (v : ListValue) (vs : List ListValue) (t : Target) (ts : List Target) →
    refused_notes w (v ∷ vs) (t ∷ ts) ≡ join_notes (refused_note w v t) (refused_notes w vs ts)
unfolding all_refused all_entered
all_refused_step w v vs t ts = refl

pub all_refused_no_values : (w : World) (ts : List Target) → refused_notes w [] ts ≡ record { faults = []; entries = [] }
unfolding all_refused all_entered
all_refused_no_values w ts = refl

pub all_refused_no_targets : (w : World) (vs : List ListValue) → refused_notes w vs [] ≡ record { faults = []; entries = [] }
unfolding all_refused all_entered
all_refused_no_targets w [] = refl
all_refused_no_targets w (v ∷ vs) = refl

pub with_locals_step : (ls : Locals) (n : Option ℕ) (ns : List (Option ℕ)) (ts : List (Option PlainType)) →
    with_locals ls (n ∷ ns) ts ≡ with_locals (declared_if ls n (head_or_none ts)) ns (tail_of ts)
unfolding with_locals
with_locals_step ls n ns ts = refl

pub with_locals_end : (ls : Locals) (ts : List (Option PlainType)) → with_locals ls [] ts ≡ ls
unfolding with_locals
with_locals_end ls ts = refl

pub judge_types_step : (w : World) (x : Item TypeExpr) (xs : List (Item TypeExpr)) →
    judge_types w (list_view type_view (x ∷ xs)) ≡ with_result (judge_type w (type_view x.value)) (judge_types w (list_view type_view xs))
unfolding judge_types
judge_types_step w x xs = refl

pub judge_types_end : (w : World) → judge_types w (list_view type_view []) ≡ record { wanted = []; faults = [] }
unfolding judge_types
judge_types_end w = refl

pub items_step : {X Y : Type 0} (check : FoundSoFar → Y → FoundSoFar) (view : X → Y) (s : FoundSoFar) (x : Item X) (xs : List (Item X)) →
    check_items check s (list_view view (x ∷ xs)) ≡ check_items check (check s (view x.value)) (list_view view xs)
unfolding check_items
items_step check view s x xs = refl

pub items_end : {X Y : Type 0} (check : FoundSoFar → Y → FoundSoFar) (view : X → Y) (s : FoundSoFar) → check_items check s (list_view view []) ≡ s
unfolding check_items
items_end check view s = refl

pub decls_step : (w : World) (is_init : ℕ → Bool) (s : FoundSoFar) (x : Decl) (xs : List Decl) →
    check_decls w is_init s (map decl_view (x ∷ xs)) ≡ check_decls w is_init (check_decl w is_init s (decl_view x)) (map decl_view xs)
unfolding check_decls
decls_step w is_init s x xs = refl

pub decls_end : (w : World) (is_init : ℕ → Bool) (s : FoundSoFar) → check_decls w is_init s (map decl_view []) ≡ s
unfolding check_decls
decls_end w is_init s = refl

pub field_faults_step : (w : World) (x : Item FieldDecl) (xs : List (Item FieldDecl)) →
    field_faults w (list_view field_view (x ∷ xs)) ≡ (judge_type w (type_view x.value.field_type)).faults ++ field_faults w (list_view field_view xs)
unfolding field_faults field_view
field_faults_step w x xs = refl

pub field_faults_end : (w : World) → field_faults w (list_view field_view []) ≡ []
unfolding field_faults
field_faults_end w = refl

pub param_faults_step : (w : World) (x : Item Param) (xs : List (Item Param)) →
    param_faults w (list_view param_view (x ∷ xs)) ≡ (judge_type w (type_view x.value.param_type)).faults ++ param_faults w (list_view param_view xs)
unfolding param_faults param_view
param_faults_step w x xs = refl

pub param_faults_end : (w : World) → param_faults w (list_view param_view []) ≡ []
unfolding param_faults
param_faults_end w = refl

pub asked_faults_step : (w : World) (x : Item MethodSpec) (xs : List (Item MethodSpec)) → asked_faults w (list_view method_view (x ∷ xs)) ≡
    (param_faults w (list_view param_view x.value.params.items) ++ (judge_results w (results_view x.value.results)).faults)
    ++ asked_faults w (list_view method_view xs)
unfolding asked_faults method_view
asked_faults_step w x xs = sym (append_assoc (param_faults w (list_view param_view x.value.params.items))
    (judge_results w (results_view x.value.results)).faults (asked_faults w (list_view method_view xs)))

pub asked_faults_end : (w : World) → asked_faults w (list_view method_view []) ≡ []
unfolding asked_faults
asked_faults_end w = refl
