-- One more path is passed, and all of them at the end.
use Rattle.std.proofs.Common.{Global, List, ℕ, sym, subst, ◌∙◌}
use Rattle.std.specs.Prelude.{Vec}
use Rattle.std.specs.Map.Iter.{deref}
use Rattle.std.proofs.lemmas.Bool.{true≢false}
use Rattle.std.proofs.lemmas.Map.Iter.{rest_all, rest_more}
use Rattle.workspace_graph.specs.ImportPaths.{bytes_of_paths}
use Rattle.refactor_affected.specs.Starts.{ConcernsMove}
use Rattle.refactor_affected.proofs.Starting.{LeavesEach, leaves_rest, none_holds}
use Rattle.refactor_affected.proofs.starts.any_concerns.Goals as goal

pub loop-path-preserved : goal.loop-path-preserved
loop-path-preserved c =
    let P = ConcernsMove c.args.graph.now c.args.moved.from.now c.args.moved.to.now in
    let all = bytes_of_paths c.args.paths.now.keys in
    let left = rest_more deref _ _ _ c.in-Some.path c.in-Some.is c.next.ensures.steps in
    let path = c.in-Some.path.now.items in
    let not : P path → ⊥ = λ h. true≢false (sym (c.in_ok-concerns.ensures.1 (subst P (sym c.deref.ensures.value) h)) ∙ c.if-branch.false) in
    leaves_rest P all path (bytes_of_paths c.next.new.self) not
    (subst (λ (ks : List (Vec ℕ Global)). LeavesEach P all (bytes_of_paths ks)) left c.loop-path.invariant)

pub returns : goal.returns
returns c =
    let P = ConcernsMove c.args.graph.now c.args.moved.from.now c.args.moved.to.now in
    let all = bytes_of_paths c.args.paths.now.keys in
    let none = rest_all deref _ _ _ c.in-None.is c.next.ensures.steps in
    none_holds P all (subst (λ (ks : List (Vec ℕ Global)). LeavesEach P all (bytes_of_paths ks)) none c.loop-path.invariant)
