-- The answers to the goals of `following::read_move`.
use Rattle.std.proofs.Common.{Option, sym, subst, ◌∙◌}
use Rattle.types_expr.proofs.Equations.{ok_map}
use Rattle.refs_binding.specs.Workspaces.{known_in}
use Rattle.refactor_conflict.specs.declared.conflict.Conflict.{Conflict}
use Rattle.refactor_follow.specs.MoveConflicts.{TellsMoveConflict}
use Rattle.refactor_follow.proofs.Readings.{marks_of_move, unmarked_move}
use Rattle.refactor_follow.proofs.Whole.{told_of_none, told_of_some}
use Rattle.refactor_follow.proofs.following.read_move.Goals as goal

pub returns-in-None-clause-conflict : goal.returns-in-None-clause-conflict
returns-in-None-clause-conflict c =
    let w = c.args.workspace.now.graph in
    let known = known_in c.args.workspace.now.findings in
    subst (λ (o : Option Conflict). TellsMoveConflict w known c.args.from.now c.args.called.now o) (sym c.nothing_read.ensures.conflict)
    (told_of_none w known c.args.from.now c.args.called.now c.in_ok-named.named c.in-None.is c.in_ok-named.ensures)

pub returns-in-None-clause-uses : goal.returns-in-None-clause-uses
returns-in-None-clause-uses c =
    unmarked_move c.args.workspace.now.graph (known_in c.args.workspace.now.findings) c.args.from.now c.args.called.now c.in_ok-named.named c.in-None.is
    c.in_ok-named.ensures c.nothing_read.result.uses.items c.nothing_read.ensures.uses

pub returns-in-Some-clause-conflict : goal.returns-in-Some-clause-conflict
returns-in-Some-clause-conflict c =
    ok_map c.read_name.result
    (λ r. told_of_some c.args.workspace.now.graph (known_in c.args.workspace.now.findings) c.args.from.now c.args.called.now c.in_ok-named.named
    c.in-Some.name c.in-Some.is c.in_ok-named.ensures c.as_bytes.result.now c.bytes.result.now (c.as_bytes.ensures.value ∙ c.as_str.ensures.text)
    c.bytes.ensures r.conflict) c.read_name.ensures.conflict

pub returns-in-Some-clause-uses : goal.returns-in-Some-clause-uses
returns-in-Some-clause-uses c =
    ok_map c.read_name.result
    (λ r. marks_of_move c.args.workspace.now.graph (known_in c.args.workspace.now.findings) c.args.from.now c.args.called.now c.as_bytes.result.now
    (c.as_bytes.ensures.value ∙ c.as_str.ensures.text) r.uses.items) c.read_name.ensures.uses
