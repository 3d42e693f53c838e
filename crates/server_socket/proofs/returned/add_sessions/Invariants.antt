-- The seats added so far, and room for the others.
use Rattle.std.proofs.Common.{◌≡◌, ◌+◌, List, All, length, vec_capacity, vec_len}
use Rattle.server_shared.specs.declared.receipt.Receipt.{Receipt}
use Rattle.server_socket.specs.Returned.{Adds, HasServed}
use Rattle.server_socket.proofs.returned.add_sessions.Given as goal

abbrev pub invariant-loop-held : goal.invariant-loop-held
invariant-loop-held g l = record {
  added : Adds (HasServed g.L.Opening.most) (length l.yielded) l.fn.all.items l.all.items;
  known : All (λ (seat : List Receipt). ∥ g.L.Opening.accounts seat ∥₁) l.all.items;
  len : vec_len l.all ≡ vec_len l.fn.all + length l.yielded;
  room : vec_capacity l.all ≡ vec_capacity l.fn.all;
}
