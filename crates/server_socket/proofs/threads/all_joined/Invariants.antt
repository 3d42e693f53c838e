-- What was returned so far, and the room for it.
use Rattle.std.proofs.Common.{◌≡◌, ◌+◌, ◌≤◌, length, vec_capacity, vec_len}
use Rattle.server_socket.proofs.threads.all_joined.Given as goal

abbrev pub invariant-loop-child : goal.invariant-loop-child
invariant-loop-child g l = record {
  len : vec_len l.back ≡ vec_len l.fn.back + length l.yielded;
  room : vec_capacity l.fn.back ≤ vec_capacity l.back;
}
