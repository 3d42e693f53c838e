-- One more path, and all of them at the end.
use Rattle.std.proofs.Common.{◌≡◌, ◌∙◌, List, ℕ, Some, slice_get, Global, sym, subst}
use Rattle.std.specs.Prelude.{Vec}
use Rattle.std.specs.Map.Iter.{deref}
use Rattle.std.proofs.lemmas.Map.Iter.{rest_more, rest_all}
use Rattle.workspace_graph.specs.Graphs.{paths_of}
use Rattle.workspace_graph.specs.ImportPaths.{bytes_of_paths}
use Rattle.workspace_graph.specs.Rows.{AddsNumbers}
use Rattle.workspace_graph.proofs.Collected.{AreLeft, left_all, left_more, left_none}
use Rattle.workspace_graph.proofs.rows.fill_numbers.Goals as goal

pub loop-path-init : goal.loop-path-init
loop-path-init c =
    let paths = paths_of c.args.packages.now in
    let some = bytes_of_paths c.args.paths.now.keys in
    let begun : c.args.paths.now.keys ≡ c.into_iter-path-iterator.result =
    sym (c.into_iter-path-iterator.ensures.into_iter_gives ∙ c.iter-path-items.ensures.rest) in
    subst (λ (ks : List (Vec ℕ Global)). AreLeft paths some (bytes_of_paths ks) c.clear.new.self.items) begun
    (left_all paths some c.clear.new.self.items c.clear.ensures.items)

pub loop-path-preserved : goal.loop-path-preserved
loop-path-preserved c =
    let paths = paths_of c.args.packages.now in
    let some = bytes_of_paths c.args.paths.now.keys in
    let left = rest_more deref _ _ _ c.in-Some.path c.in-Some.is c.next.ensures.steps in
    let path = c.in-Some.path.now.items in
    let adds = subst (λ p. AddsNumbers (λ j. slice_get paths j ≡ Some p) c.loop-path.row.items c.add_path.new.row.items) c.deref.ensures.value
    c.in_ok-add_path.ensures in
    left_more paths some path (bytes_of_paths c.next.new.self) c.loop-path.row.items c.add_path.new.row.items
    (subst (λ (ks : List (Vec ℕ Global)). AreLeft paths some (bytes_of_paths ks) c.loop-path.row.items) left c.loop-path.invariant) adds

pub returns : goal.returns
returns c =
    let paths = paths_of c.args.packages.now in
    let some = bytes_of_paths c.args.paths.now.keys in
    let none = rest_all deref _ _ _ c.in-None.is c.next.ensures.steps in
    left_none paths some c.loop-path.row.items (subst (λ (ks : List (Vec ℕ Global)). AreLeft paths some (bytes_of_paths ks) c.loop-path.row.items) none
    c.loop-path.invariant)
