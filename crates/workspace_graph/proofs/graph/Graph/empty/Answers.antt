-- No file is there, so no package is.
use Rattle.std.proofs.Common.{ap, sym, ◌∙◌}
use Rattle.base_files.specs.Packages.{package_paths}
use Rattle.workspace_graph.specs.Graphs.{paths_of}
use Rattle.workspace_graph.proofs.UpdatedPackages.{no_paths}
use Rattle.workspace_graph.proofs.graph.Graph.empty.Goals as goal

pub made-requires-clause-paths : goal.made-requires-clause-paths
made-requires-clause-paths c = ap paths_of c.new.ensures.items ∙ sym no_paths ∙ sym (ap package_paths c.new-files.ensures)
