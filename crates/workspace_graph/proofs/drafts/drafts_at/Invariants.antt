-- The folders that were passed have packages.
use Rattle.std.proofs.Common.{◌≡◌, ◌++◌}
use Rattle.std.specs.List.{All}
use Rattle.base_files.specs.Workspace.{Workspace}
use Rattle.workspace_graph.specs.Drafts.{HasFolderFiles, IsDraft, draft_paths}
use Rattle.workspace_graph.specs.Borrows.{names}
use Rattle.workspace_graph.specs.ChangedFiles.{ArePackages}
use Rattle.workspace_graph.proofs.drafts.drafts_at.Given as goal

abbrev pub invariant-loop-folder : goal.invariant-loop-folder
invariant-loop-folder l = record {
  paths : draft_paths l.drafts.items ++ names l.folder-iterator ≡ names l.folders.keys;
  drafts : All IsDraft l.drafts.items;
  files : (v : Workspace) → ArePackages v l.before → All (HasFolderFiles v) l.drafts.items;
}
