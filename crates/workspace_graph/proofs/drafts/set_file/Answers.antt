-- What is at the path is taken out where the workspace has nothing there.
use Rattle.std.proofs.Common.{sym, ap, ◌∙◌}
use Rattle.std.specs.Option.{option_copied}
use Rattle.std.proofs.lemmas.Result.{on_ok_weaker}
use Rattle.workspace_graph.proofs.SetFiles.{none_set}
use Rattle.workspace_graph.proofs.drafts.set_file.Goals as goal

pub returns-in-None : goal.returns-in-None
returns-in-None c = on_ok_weaker c.take_out.result
    (λ takes. none_set c.args.files.now c.args.path.now c.args.draft.now c.take_out.new.draft takes (sym c.get.ensures ∙ ap option_copied c.in-None.is))
    c.take_out.ensures
