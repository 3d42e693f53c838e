-- The answer to the goal of `following::importers`.
use Rattle.std.proofs.Common.{ap, subst}
use Rattle.base_files.specs.Workspace.{Workspace}
use Rattle.workspace_graph.specs.Graphs.{ListsPackages, OfPackage}
use Rattle.workspace_graph.specs.Packages.{PackageImports}
use Rattle.refs_binding.specs.WorkspaceFindings.{WorkspaceFindings}
use Rattle.refactor_follow.proofs.following.importers.Goals as goal

pub returns : goal.returns
returns c =
    subst (λ (w : Workspace). OfPackage w c.args.number (λ p. ListsPackages w (λ q. PackageImports w q p) c.importers.result.now))
    (ap (λ (x : WorkspaceFindings). x.graph) c.workspace.view_is) c.importers.ensures.importers
