-- The paths of the files so far are noted.
use Rattle.std.proofs.Common.{◌∙◌, ◌++◌, ◌≤◌, ap, arith, length}
use Rattle.std.proofs.lemmas.List.{take_all}
use Rattle.tool_text.specs.Journal.{lines_text}
use Rattle.tool_disk.proofs.Notes.{placed_all, placed_some}
use Rattle.tool_disk.proofs.writing.put_all_in_place.Goals as goal

pub returns-in_err-put_and_note : goal.returns-in_err-put_and_note
returns-in_err-put_and_note g c =
    placed_some c.args.run.now.paths.items c.args.done.now.items c.loop-path.path-index c.loop-path.done.items
    c.put_and_note.new.done.items c.in_err-put_and_note.field-0.0 c.from_residual.result c.from_residual.ensures.1 c.loop-path.invariant
    c.in_err-put_and_note.ensures

pub returns : goal.returns
returns g c =
    let paths = c.args.run.now.paths.items in
    let all : length paths ≤ c.loop-path.path-index =
    omega (arith, c.loop-path-test.false, ap length c.deref-path-items.ensures.value) in
    placed_all paths c.args.done.now.items c.loop-path.done.items c.sync_folders.result
    (c.loop-path.invariant ∙ ap (λ l. c.args.done.now.items ++ lines_text l) (take_all c.loop-path.path-index paths all))
