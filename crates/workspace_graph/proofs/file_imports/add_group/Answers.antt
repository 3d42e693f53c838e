-- The literals of one import, or of those in parentheses.
use Rattle.std.proofs.Common.{◌++◌, map, ap, ◌∙◌}
use Rattle.std.proofs.lemmas.Result.{on_ok_weaker}
use Rattle.workspace_graph.proofs.ImportViews.{several_paths, single_paths}
use Rattle.workspace_graph.proofs.file_imports.add_group.Goals as goal

pub returns-in_ok-push-in-Single : goal.returns-in_ok-push-in-Single
returns-in_ok-push-in-Single c =
    c.in_ok-push-in-Single.ensures.items ∙ ap (λ paths. c.args.literals.now.items ++ paths) (single_paths c.in-Single.spec c.args.group.now c.in-Single.is)

pub returns-in-Several : goal.returns-in-Several
returns-in-Several c =
    on_ok_weaker c.add_items.result (λ added. added ∙ ap (λ paths. c.args.literals.now.items ++ paths)
    (ap (λ items. map (λ item. item.value.path) items) c.deref.ensures.value ∙ several_paths c.in-Several.«open» c.in-Several.items
    c.in-Several.close c.args.group.now c.in-Several.is)) c.add_items.ensures
