-- The rules of the operations ask for no member: they are the same in worlds that differ in their members alone.
use Rattle.std.proofs.Common.{ℕ, ◌≡◌, List, refl}
use Rattle.go_ast.specs.declared.syntax.BinaryOp.{BinaryOp}
use Rattle.go_ast.specs.declared.syntax.PrefixOp.{PrefixOp}
use Rattle.go_ast.specs.Tree.{TypeTree}
use Rattle.types_expr.specs.Types.{Meaning}
use Rattle.types_expr.specs.World.{World}
use Rattle.types_expr.specs.Operations.{fits, joined, class_of, operate, prefixed}
use Rattle.types_expr.specs.Judge.{Judged, JudgedKey, JudgedElements, TypeJudged, ListValue, misfit, misfits, all_misfits, call_function, convert}
use Rattle.types_expr.specs.Judge.{append, all_printed, call_builtin, call_of, bad_index, indexed, index_of, operation, prefix_of, imported_type, judge_type}
use Rattle.types_expr.specs.Judge.{literal_of, with_element, entering, enterings, all_enterings}
use Rattle.law_changed_types.proofs.Agreement.{Members, with_members}

pub same_prefix : (v : World) (m : Members) (o : PrefixOp) (place : ℕ) (x : Meaning) → prefix_of (with_members v m) o place x ≡ prefix_of v o place x
unfolding prefix_of prefixed class_of
same_prefix v m o place x = refl

pub same_operation : (v : World) (m : Members) (o : BinaryOp) (start : ℕ) (x y : Meaning) →
    operation (with_members v m) o start x y ≡ operation v o start x y
unfolding operation operate joined class_of fits
same_operation v m o start x y = refl

pub same_index : (v : World) (m : Members) (start place : ℕ) (x y : Meaning) → index_of (with_members v m) start place x y ≡ index_of v start place x y
unfolding index_of indexed bad_index class_of
same_index v m start place x y = refl

pub same_call : (v : World) (m : Members) (start place : ℕ) (vs : List ListValue) (x : Meaning) →
    call_of (with_members v m) start place vs x ≡ call_of v start place vs x
unfolding call_of call_function misfits misfit fits convert append all_misfits entering enterings all_enterings call_builtin all_printed class_of
same_call v m start place vs x = refl

pub same_type : (v : World) (m : Members) (t : TypeTree) → judge_type (with_members v m) t ≡ judge_type v t
unfolding judge_type imported_type
same_type v m t = refl

pub same_literal_rule : (v : World) (m : Members) (start : ℕ) (t : TypeJudged) (es : JudgedElements) →
    literal_of (with_members v m) start t es ≡ literal_of v start t es
same_literal_rule v m start t es = refl

pub same_element : (v : World) (m : Members) (k : JudgedKey) (place : ℕ) (j : Judged) (rest : JudgedElements) →
    with_element (with_members v m) k place j rest ≡ with_element v k place j rest
unfolding misfit fits entering
same_element v m k place j rest = refl
