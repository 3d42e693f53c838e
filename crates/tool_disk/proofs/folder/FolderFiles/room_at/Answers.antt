-- No file has more bytes than all files, which keep the limit.
use Rattle.std.proofs.Common.{arith}
use Rattle.tool_disk.proofs.FolderSizes.{bytes_within}
use Rattle.tool_disk.proofs.folder.FolderFiles.room_at.Goals as goal

pub overflow_add-result : goal.overflow_add-result
overflow_add-result c =
    let was = c.args.self.now in
    omega (arith, bytes_within was.files c.args.path.now, c.bytes_at.ensures, was.summed, was.fitting.total, was.limits.total_bytes_capped)

pub returns-clause-within : goal.returns-clause-within
returns-clause-within c =
    let was = c.args.self.now in
    omega (arith, bytes_within was.files c.args.path.now, c.bytes_at.ensures, was.summed, was.fitting.total)
