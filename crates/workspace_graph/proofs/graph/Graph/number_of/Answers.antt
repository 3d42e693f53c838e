-- The paths of the graph's packages are those of the workspace.
use Rattle.std.proofs.Common.{◌≡◌, Some, slice_get, ap, subst, ◌∙◌, MatchOption}
use Rattle.std.specs.List.{Contains}
use Rattle.workspace_graph.specs.Graphs.{paths_of}
use Rattle.base_files.specs.Packages.{package_paths}
use Rattle.workspace_graph.proofs.PackagePaths.{paths_sorted}
use Rattle.workspace_graph.proofs.graph.Graph.number_of.Goals as goal

pub number_of-requires : goal.number_of-requires
number_of-requires c =
    let paths : paths_of c.deref-2.result.now ≡ package_paths c.args.self.now = ap paths_of c.deref-2.ensures.value ∙
    ap (λ parts. paths_of parts.packages.items) c.deref.ensures ∙ c.self.invariant.paths ∙ ap package_paths c.self.view_is in
    rw paths (paths_sorted c.args.self.now)

pub returns : goal.returns
returns c =
    let paths : paths_of c.deref-2.result.now ≡ package_paths c.args.self.now = ap paths_of c.deref-2.ensures.value ∙
    ap (λ parts. paths_of parts.packages.items) c.deref.ensures ∙ c.self.invariant.paths ∙ ap package_paths c.self.view_is in
    subst (λ names. MatchOption c.number_of.result (Contains names c.args.path.now → ⊥) (λ number. slice_get names number ≡ Some c.args.path.now)) paths
    c.number_of.ensures
