-- So many seats were taken, and so many fewer are left.
use Rattle.std.proofs.Common.{◌≡◌, ◌+◌, length}
use Rattle.server_socket.proofs.serving.worker_seats.Given as goal

abbrev pub invariant-loop-number : goal.invariant-loop-number
invariant-loop-number g l = (length l.seats.items ≡ l._number) × (l.free.left + l._number ≡ l.fn.free.left)
