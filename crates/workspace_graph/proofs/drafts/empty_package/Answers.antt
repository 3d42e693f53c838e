-- The draft has no file and no import paths.
use Rattle.workspace_graph.proofs.SetFiles.{empty_draft}
use Rattle.workspace_graph.proofs.drafts.empty_package.Goals as goal

pub returns : goal.returns
returns c = empty_draft c.args.folder.now _ c.in_ok-from_slice.ensures.items c.new.ensures.items c.new-2.ensures.items tt
