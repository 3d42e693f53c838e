-- The answers to the goals of `declarations::note_global_faults`.
use Rattle.std.proofs.Common.{ap, sym, ◌∙◌, option_map}
use Rattle.std.proofs.lemmas.Result.{on_ok_weaker}
use Rattle.go_ast.specs.View.{list_view, option_view, type_view}
use Rattle.go_ast.specs.FileView.{same_index, basic_view, var_values_view, global_view}
use Rattle.types_expr.specs.Judge.{judge_type}
use Rattle.types_expr.specs.View.{type_of}
use Rattle.types_expr.specs.WorldView.{world_of}
use Rattle.types_stmt.specs.Declarations.{value_faults, value_enterings, global_faults}
use Rattle.types_stmt.proofs.CheckedSums.{literal_notes, value_notes, given_as, type_then_given, nothing_given}
use Rattle.types_stmt.proofs.declarations.note_global_faults.Goals as goal

pub returns-in-None : goal.returns-in-None
unfolding global_faults value_faults value_enterings global_view
returns-in-None c = given_as (ap (λ v. value_notes (world_of c.args.world.now) (list_view same_index c.args.spec.now.names.items)
    (judge_type (world_of c.args.world.now) (type_view c.args.spec.now.var_type)) (option_view var_values_view v)) (sym c.in-None.is))
    (type_then_given c.in_ok-own.ensures (nothing_given _))

pub returns : goal.returns
unfolding global_faults value_faults value_enterings global_view
returns c =
    let w = world_of c.args.world.now in
    let j = judge_type w (type_view c.args.spec.now.var_type) in
    let names = list_view same_index c.args.spec.now.names.items in
    on_ok_weaker c.note_value_faults.result (λ n. given_as
    (ap (λ ns. literal_notes w (list_view same_index ns) j (option_map type_of c.in_ok-own.own) (list_view basic_view c.deref-in-Some.result.now))
    c.deref.ensures.value
    ∙ (ap (λ t. literal_notes w names j t (list_view basic_view c.deref-in-Some.result.now)) c.in_ok-own.ensures.found
    ∙ (ap (λ xs. literal_notes w names j j.type_of (list_view basic_view xs)) c.deref-in-Some.ensures.value
    ∙ ap (λ v. value_notes w names j (option_view var_values_view v)) (sym c.in-Some.is))))
    (type_then_given c.in_ok-own.ensures n)) c.note_value_faults.ensures
