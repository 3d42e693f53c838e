-- One path more.
use Rattle.std.proofs.Common.{ℕ, List, subst, sym, ◌∙◌}
use Rattle.std.specs.Map.Iter.{deref_pair}
use Rattle.std.proofs.lemmas.Map.Iter.{rest_all, rest_more}
use Rattle.workspace_parsing.proofs.AllPaths.{ArePassed, all_passed, none_passed, one_passed}
use Rattle.workspace_parsing.proofs.task.all_paths.Goals as goal

pub loop-path-init : goal.loop-path-init
loop-path-init c = none_passed c.args.files.now c.into_iter-path-iterator.result c.new-paths.result.items
    (c.into_iter-path-iterator.ensures.into_iter_gives ∙ c.iter-path-items.ensures.files)

pub loop-path-preserved : goal.loop-path-preserved
loop-path-preserved c =
    let left = rest_more deref_pair _ _ _ (c.in-Some.path, c.in-Some.field-0-1) c.in-Some.is c.next.ensures.steps in
    subst (ArePassed c.args.files.now c.next.new.self) (sym c.in_ok-push.ensures.items)
    (one_passed c.args.files.now c.loop-path.path-iterator c.next.new.self c.loop-path.paths.items c.in-Some.path c.in-Some.field-0-1.now left
    c.loop-path.invariant)

pub returns : goal.returns
returns c =
    let none = rest_all deref_pair _ _ _ c.in-None.is c.next.ensures.steps in
    all_passed c.args.files.now c.loop-path.path-iterator c.loop-path.paths.items none c.loop-path.invariant
