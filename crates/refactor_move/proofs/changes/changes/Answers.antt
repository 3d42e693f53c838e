-- The answers to the goals of `changes::changes`.
use Rattle.std.proofs.Common.{ℕ, List, subst, ◌∙◌}
use Rattle.std.specs.Prelude.{Ok, Err}
use Rattle.std.specs.FinMap as map
use Rattle.std.specs.Map.Iter.{deref_pair}
use Rattle.std.proofs.lemmas.Map.Iter.{rest_all, rest_more}
use Rattle.base_edits.specs.declared.edit.Edit.{Edit}
use Rattle.refactor_move.specs.Steps.{FindsChange}
use Rattle.refactor_move.proofs.Changing.{none_so_far, next_changes, refused_next, all_changes}
use Rattle.refactor_move.proofs.changes.changes.Goals as goal

pub loop-path-init : goal.loop-path-init
loop-path-init c =
    none_so_far c.args.moved.now c.args.edits.now (map.entries c.args.files.now) c.into_iter-path-iterator.result c.new-changed.result.items
    (c.into_iter-path-iterator.ensures.into_iter_gives ∙ c.iter-path-items.ensures.files) c.new-changed.ensures.items

pub loop-path-preserved : goal.loop-path-preserved
loop-path-preserved c =
    let m = c.args.moved.now in
    let edits = c.args.edits.now in
    let all = map.entries c.args.files.now in
    let e : List ℕ × List ℕ = (c.in-Some.path.now, c.in-Some.field-0-1.now) in
    let left = rest_more deref_pair _ _ _ (c.in-Some.path, c.in-Some.field-0-1) c.in-Some.is c.next.ensures.steps in
    let told = subst (λ (es : List Edit). FindsChange m e.0 es (Ok c.in-Ok.change)) c.edits_at.ensures c.in-Ok.ensures in
    next_changes m edits all c.loop-path.path-iterator c.next.new.self c.loop-path.changed.items c.push_some.new.changed.items e c.in-Ok.change left
    c.in_ok-push_some-in-Ok.ensures told c.loop-path.invariant

pub returns-in-Err : goal.returns-in-Err
returns-in-Err c =
    let m = c.args.moved.now in
    let edits = c.args.edits.now in
    let all = map.entries c.args.files.now in
    let e : List ℕ × List ℕ = (c.in-Some.path.now, c.in-Some.field-0-1.now) in
    let left = rest_more deref_pair _ _ _ (c.in-Some.path, c.in-Some.field-0-1) c.in-Some.is c.next.ensures.steps in
    let told = subst (λ (es : List Edit). FindsChange m e.0 es (Err c.in-Err.refusal)) c.edits_at.ensures c.in-Err.ensures in
    refused_next m edits all c.loop-path.path-iterator c.next.new.self c.loop-path.changed.items e c.in-Err.refusal left c.loop-path.invariant told

pub returns : goal.returns
returns c =
    let none = rest_all deref_pair _ _ _ c.in-None.is c.next.ensures.steps in
    all_changes c.args.moved.now c.args.edits.now (map.entries c.args.files.now) c.loop-path.path-iterator c.loop-path.changed.items none c.loop-path.invariant
