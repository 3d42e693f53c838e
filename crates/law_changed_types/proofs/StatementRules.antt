-- The rules of statements, headers and declarations ask for no member: they are the same in worlds that differ in their members alone.
use Rattle.std.proofs.Common.{ℕ, ◌≡◌, List, Option, refl}
use Rattle.go_ast.specs.declared.syntax.BinaryOp.{BinaryOp}
use Rattle.go_ast.specs.Tree.{Item, ResultTree, ReceiverTree, GlobalTree, TypeSpecTree, ParamTree, ExprTree}
use Rattle.types_expr.specs.Types.{ValueKind}
use Rattle.types_expr.specs.World.{World, Locals}
use Rattle.types_expr.specs.Operations.{fits, class_of, operate, joined}
use Rattle.types_expr.specs.Judge.{JudgedList, misfit, entering, judge_type, imported_type}
use Rattle.types_stmt.specs.Checked.{FoundSoFar}
use Rattle.types_stmt.specs.Sides.{Target, Lefts, refused_at, all_refused, given_faults, entered_at, all_entered, given_enterings}
use Rattle.types_stmt.specs.Sides.{defined_name, defined_names}
use Rattle.types_stmt.specs.Simple.{condition_faults, step_faults, update_faults, with_given}
use Rattle.types_stmt.specs.Statements.{returned, returning}
use Rattle.types_stmt.specs.Headers.{may_receive, receiver_or_fault, receiver_base, judge_receiver, check_receiver, check_optional_receiver, check_param}
use Rattle.types_stmt.specs.Headers.{judge_types, judge_results}
use Rattle.types_stmt.specs.Declarations.{literal_faults, value_faults, global_faults, literal_enterings, value_enterings, field_faults, param_faults}
use Rattle.types_stmt.specs.Declarations.{asked_faults, body_faults, check_global, check_type}
use Rattle.law_changed_types.proofs.Agreement.{Members, with_members}

pub same_condition : (v : World) (m : Members) (place : ℕ) (k : Option ValueKind) →
    condition_faults (with_members v m) place k ≡ condition_faults v place k
unfolding condition_faults class_of
same_condition v m place k = refl

pub same_step : (v : World) (m : Members) (place : ℕ) (k : Option ValueKind) → step_faults (with_members v m) place k ≡ step_faults v place k
unfolding step_faults class_of
same_step v m place k = refl

pub same_update : (v : World) (m : Members) (start : ℕ) (o : BinaryOp) (a b : Option ValueKind) →
    update_faults (with_members v m) start o a b ≡ update_faults v start o a b
unfolding update_faults operate joined class_of fits
same_update v m start o a b = refl

pub same_given : (v : World) (m : Members) (s : FoundSoFar) (place : ℕ) (locals : Locals) (l : Lefts) (r : JudgedList) →
    with_given (with_members v m) s place locals l r ≡ with_given v s place locals l r
unfolding given_faults all_refused refused_at misfit fits given_enterings all_entered entered_at entering
same_given v m s place locals l r = refl

pub same_names : (v : World) (m : Members) (is : List (Item ExprTree)) → defined_names (with_members v m) is ≡ defined_names v is
unfolding defined_name
same_names v m is = refl

pub same_returning : (v : World) (m : Members) (s : FoundSoFar) (place : ℕ) (results : List Target) (r : JudgedList) →
    returning (with_members v m) s place results r ≡ returning v s place results r
unfolding returned all_refused refused_at misfit fits given_enterings all_entered entered_at entering
same_returning v m s place results r = refl

pub same_results : (v : World) (m : Members) (r : ResultTree) → judge_results (with_members v m) r ≡ judge_results v r
unfolding judge_results judge_types judge_type imported_type
same_results v m r = refl

pub same_receiver : (v : World) (m : Members) (s : FoundSoFar) (r : Option ReceiverTree) →
    check_optional_receiver (with_members v m) s r ≡ check_optional_receiver v s r
unfolding check_receiver judge_receiver receiver_base receiver_or_fault may_receive
same_receiver v m s r = refl

pub same_param : (v : World) (m : Members) (s : FoundSoFar) (p : ParamTree) → check_param (with_members v m) s p ≡ check_param v s p
unfolding check_param judge_type imported_type
same_param v m s p = refl

pub same_global : (v : World) (m : Members) (s : FoundSoFar) (g : GlobalTree) → check_global (with_members v m) s g ≡ check_global v s g
unfolding global_faults value_faults literal_faults all_refused refused_at misfit fits value_enterings literal_enterings all_entered entered_at entering
    judge_type imported_type
same_global v m s g = refl

pub same_type_spec : (v : World) (m : Members) (s : FoundSoFar) (t : TypeSpecTree) → check_type (with_members v m) s t ≡ check_type v s t
unfolding body_faults field_faults asked_faults param_faults judge_results judge_types judge_type imported_type
same_type_spec v m s t = refl
