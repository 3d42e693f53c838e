-- Nothing is noted before all new texts are written.
use Rattle.std.proofs.Common.{refl}
use Rattle.tool_disk.specs.Writes.{paths_of}
use Rattle.tool_disk.proofs.Notes.{placed_none}
use Rattle.tool_disk.proofs.writing.write_marked.Goals as goal

pub returns-in_err-prepare_whole : goal.returns-in_err-prepare_whole
returns-in_err-prepare_whole g c =
    placed_none (paths_of c.args.writing.new.now) c.args.done.now.items c.args.done.now.items c.from_residual-in_err-prepare_whole.result
    c.in_err-prepare_whole.field-0.0 c.from_residual-in_err-prepare_whole.ensures.1 refl
