-- The answers to the goals of `declarations::note_body_faults`.
use Rattle.std.proofs.Common.{ap, sym, ◌∙◌}
use Rattle.std.proofs.lemmas.Result.{on_ok_weaker}
use Rattle.go_ast.specs.View.{list_view}
use Rattle.go_ast.specs.FileView.{field_view, method_view, body_view}
use Rattle.types_expr.specs.WorldView.{world_of}
use Rattle.types_stmt.specs.Declarations.{field_faults, asked_faults, body_faults}
use Rattle.types_stmt.proofs.CheckedSums.{type_notes, notes_as}
use Rattle.types_stmt.proofs.declarations.note_body_faults.Goals as goal

pub returns-in_ok-judge_type-in-Type : goal.returns-in_ok-judge_type-in-Type
unfolding body_faults body_view
returns-in_ok-judge_type-in-Type c = notes_as (type_notes c.in_ok-judge_type-in-Type.ensures)
    (ap (λ v. body_faults (world_of c.args.world.now) (body_view v)) (sym c.in-Type.is))

pub returns-in-Struct : goal.returns-in-Struct
unfolding body_faults body_view
returns-in-Struct c =
    on_ok_weaker c.note_field_faults.result (λ n. notes_as n
    (ap (λ xs. field_faults (world_of c.args.world.now) (list_view field_view xs)) c.deref.ensures.value ∙
    ap (λ v. body_faults (world_of c.args.world.now) (body_view v)) (sym c.in-Struct.is))) c.note_field_faults.ensures

pub returns-in-Interface : goal.returns-in-Interface
unfolding body_faults body_view
returns-in-Interface c =
    on_ok_weaker c.note_asked_faults.result (λ n. notes_as n
    (ap (λ xs. asked_faults (world_of c.args.world.now) (list_view method_view xs)) c.deref-in-Interface.ensures.value ∙
    ap (λ v. body_faults (world_of c.args.world.now) (body_view v)) (sym c.in-Interface.is))) c.note_asked_faults.ensures
