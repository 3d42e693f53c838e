-- The paths of the files that a run that was cut off has put in place are told.
use Rattle.tool_commands.proofs.WrittenTexts.{tells_cut_off}
use Rattle.tool_commands.proofs.opened.Opened.written.Goals as goal

pub returns-in_ok-cut_off_outcome-in-Err-Told : goal.returns-in_ok-cut_off_outcome-in-Err-Told
returns-in_ok-cut_off_outcome-in-Err-Told g c =
    let noted = rw c.in-Err-Told.field-0-is at (rw c.in-Err-Told.is at c.write_all.ensures) in
    tells_cut_off c.args.writing.new.now c.args.rewrites.now noted.0 c.args.self.now.notes.items _ _ _ _
    c.in_ok-cut_off_outcome-in-Err-Told.field-0 c.requires
    c.as_slice-notes.ensures.value c.new-done.ensures.items noted.1 c.in_ok-cut_off_outcome-in-Err-Told.ensures
