-- The invariants of the loops of `text_tasks::push_all_found`.
use Rattle.std.proofs.Common.{◌≡◌, ◌++◌}
use Rattle.std.specs.List.{flat_map}
use Rattle.lsp_told.specs.TextTasks.{found_put, found_puts}
use Rattle.lsp_told.proofs.text_tasks.push_all_found.Given as goal

-- the tasks so far, and those of the files that are left
abbrev pub invariant-loop-path : goal.invariant-loop-path
invariant-loop-path l =
    l.tasks.items ++ flat_map (λ e. found_put l.files l.documents e.0 e.1) l.path-iterator
    ≡ l.initial.tasks.items ++ found_puts l.files l.documents l.disk
