-- The answers to the goals of `heeding::open_taken`.
use Rattle.std.proofs.Common.{rules, SFits, w64}
use Rattle.std.proofs.lemmas.Int.{to_z-of_z}
use Rattle.lsp_editor.proofs.heeding.open_taken.Goals as goal

pub returns : goal.returns
returns c =
    let fits : SFits w64 c.args.opened.version = search rules in
    (c.«open».new.self, rw (to_z-of_z w64 c.args.opened.version fits) at c.in_ok-open.ensures.opened, c.note_opened.ensures)
