-- The limits are those on the new text, on the bytes of all files and on their number.
use Rattle.std.proofs.Common.{arith, refl, sym, ◌∙◌}
use Rattle.std.proofs.lemmas.Bool.{false≢true}
use Rattle.tool_disk.proofs.FolderSizes.{bytes_then, count_then, fits_then, short_then}
use Rattle.tool_disk.proofs.folder.FolderFiles.keep_limits.Goals as goal

pub returns-then-length-self : goal.returns-then-length-self
returns-then-length-self c =
    let was = c.args.self.now in (
      λ t. absurd (false≢true t),
      λ fit. absurd (omega (arith, short_then was.files c.args.path.now c.args.text.now was.limits fit, c.len-length.ensures, c.if-length-self.true)),
    )

pub returns-then-length-room : goal.returns-then-length-room
returns-then-length-room c =
    let was = c.args.self.now in (
      λ t. absurd (false≢true t),
      λ fit. absurd (omega (
        arith,
        bytes_then was.files c.args.path.now c.args.text.now,
        fit.total,
        c.room_at-room.ensures.room,
        c.len-length.ensures,
        c.if-length-room.true,
      )),
    )

pub returns-then-count-self : goal.returns-then-count-self
returns-then-count-self c =
    let was = c.args.self.now in (
      λ t. absurd (false≢true t),
      λ fit. absurd (omega (arith, fit.count, count_then was.files c.args.path.now c.args.text.now, c.count_with-count.ensures, c.if-count-self.true)),
    )

pub returns : goal.returns
returns c =
    let was = c.args.self.now in
    let path = c.args.path.now in
    let text = c.args.text.now in (
      λ t. fits_then was.files path text was.limits was.fitting
          (omega (arith, c.len-length.ensures, c.if-length-self.false))
          (omega (arith, count_then was.files path text, c.count_with-count.ensures, c.if-count-self.false))
          (omega (arith, bytes_then was.files path text, c.room_at-room.ensures.room, c.len-length.ensures, c.if-length-room.false)),
      λ fit. refl,
    )
