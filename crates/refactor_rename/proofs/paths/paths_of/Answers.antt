-- The answers to the goals of `paths::paths_of`.
use Rattle.std.proofs.Common.{subst}
use Rattle.refs_binding.specs.Bindings.{AddsAll}
use Rattle.refactor_rename.specs.Changes.{IsPathOfPlace}
use Rattle.refactor_rename.proofs.RenamedPaths.{all_paths}
use Rattle.refactor_rename.proofs.paths.paths_of.Goals as goal

pub returns-clause-each : goal.returns-clause-each
returns-clause-each c =
    let a = c.new-paths.result.items in
    let b = c.add_places.new.paths.items in
    let places = subst (λ ps. AddsAll a b (IsPathOfPlace ps)) c.as_slice.ensures c.in_ok-add_places.ensures in
    all_paths c.args.renamed.now a b c.add_literal.new.paths.items c.sort.new.paths.items c.new-paths.ensures.items places c.in_ok-add_literal.ensures
    c.sort.ensures.same
