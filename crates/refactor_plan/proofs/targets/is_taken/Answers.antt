-- The answers to the goals of `targets::is_taken`.
use Rattle.std.proofs.Common.{ℕ, List, sym, ◌∙◌}
use Rattle.std.specs.FinMap as map
use Rattle.std.specs.Map.Iter.{deref_pair}
use Rattle.std.proofs.lemmas.Bool.{false≢true}
use Rattle.std.proofs.lemmas.Map.Iter.{rest_all, rest_more}
use Rattle.refactor_plan.proofs.Taken.{all_left, next_left, one_taken, none_taken}
use Rattle.refactor_plan.proofs.targets.is_taken.Goals as goal

pub loop-path-init : goal.loop-path-init
loop-path-init c = all_left c.args.folder.now (map.entries c.args.files.now) c.into_iter-path-iterator.result
    (c.into_iter-path-iterator.ensures.into_iter_gives ∙ c.iter-path-items.ensures.files)

pub loop-path-preserved : goal.loop-path-preserved
loop-path-preserved c =
    let e : List ℕ × List ℕ = (c.in-Some.path.now, c.in-Some.field-0-1.now) in
    let left = rest_more deref_pair _ _ _ (c.in-Some.path, c.in-Some.field-0-1) c.in-Some.is c.next.ensures.steps in
    next_left c.args.folder.now (map.entries c.args.files.now) c.loop-path.path-iterator c.next.new.self e left
    (λ u. false≢true (sym c.if-is_under.false ∙ c.is_under.ensures.1 u)) c.loop-path.invariant

pub returns-then-is_under : goal.returns-then-is_under
returns-then-is_under c =
    let e : List ℕ × List ℕ = (c.in-Some.path.now, c.in-Some.field-0-1.now) in
    let left = rest_more deref_pair _ _ _ (c.in-Some.path, c.in-Some.field-0-1) c.in-Some.is c.next.ensures.steps in
    one_taken c.args.folder.now c.args.files.now c.loop-path.path-iterator c.next.new.self e left (c.is_under.ensures.0 c.if-is_under.true)
    c.loop-path.invariant

pub returns : goal.returns
returns c =
    let none = rest_all deref_pair _ _ _ c.in-None.is c.next.ensures.steps in
    none_taken c.args.folder.now c.args.files.now c.loop-path.path-iterator none c.loop-path.invariant
