-- All new texts are in place before the folder moves.
use Rattle.tool_disk.proofs.Notes.{placed_all}
use Rattle.tool_disk.proofs.writing.put_and_move.Goals as goal

pub returns : goal.returns
returns g c =
    placed_all c.args.run.now.paths.items c.args.done.now.items c.put_all_in_place.new.done.items c.move_folder.result
    c.in_ok-put_all_in_place.ensures
