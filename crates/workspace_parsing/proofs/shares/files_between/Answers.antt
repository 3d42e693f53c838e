-- One file more.
use Rattle.std.proofs.Common.{ℕ, List, ap, ◌∙◌}
use Rattle.std.specs.Map.Iter.{deref_pair}
use Rattle.std.proofs.lemmas.Map.Iter.{rest_all, rest_more}
use Rattle.workspace_parsing.proofs.Parts.{all_set, nothing_set, one_set}
use Rattle.workspace_parsing.proofs.shares.files_between.Goals as goal

pub loop-path-init : goal.loop-path-init
loop-path-init c = nothing_set c.args.files.now c.args.low c.args.high c.into_iter-path-iterator.result c.new-part.result
    (c.into_iter-path-iterator.ensures.into_iter_gives ∙ c.iter-path-items.ensures.files) c.new-part.ensures

pub loop-path-preserved : goal.loop-path-preserved
loop-path-preserved c =
    let d : List ℕ × List ℕ = (c.in-Some.path.now, c.in-Some.text.now) in
    let left = rest_more deref_pair _ _ _ (c.in-Some.path, c.in-Some.text) c.in-Some.is c.next.ensures.steps in
    one_set c.args.files.now c.args.low c.args.high c.loop-path.path-iterator c.next.new.self c.loop-path.part c.add_if.new.part d left
    (rw c.is_between.ensures at c.in_ok-add_if.ensures) c.loop-path.invariant

pub returns : goal.returns
returns c =
    let none = rest_all deref_pair _ _ _ c.in-None.is c.next.ensures.steps in
    all_set c.args.files.now c.args.low c.args.high c.loop-path.path-iterator c.loop-path.part none c.loop-path.invariant
