-- The invariants of the loops of `text_tasks::push_all_missing`.
use Rattle.std.proofs.Common.{◌≡◌, ◌++◌}
use Rattle.std.specs.List.{flat_map}
use Rattle.lsp_told.specs.TextTasks.{missing_del, missing_dels}
use Rattle.lsp_told.proofs.text_tasks.push_all_missing.Given as goal

-- the tasks so far, and those of the files that are left
abbrev pub invariant-loop-path : goal.invariant-loop-path
invariant-loop-path l =
    l.tasks.items ++ flat_map (λ e. missing_del l.documents l.disk e.0) l.path-iterator
    ≡ l.initial.tasks.items ++ missing_dels l.files l.documents l.disk
