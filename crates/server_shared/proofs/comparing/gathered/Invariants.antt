-- What was gathered so far, and the seats that are left.
use Rattle.std.proofs.Common.{◌≡◌, ◌+◌, ◌≤◌, List, [], All, length, vec_len}
use Rattle.server_shared.specs.Past.{IsHandedIn}
use Rattle.server_shared.specs.Settled.{receipt_count}
use Rattle.server_shared.specs.declared.receipt.Receipt.{Receipt}
use Rattle.server_shared.proofs.comparing.gathered.Given as goal

abbrev pub invariant-loop-seat : goal.invariant-loop-seat
invariant-loop-seat g l = record {
  known : All (λ (seat : List Receipt). ∥ g.L.Opening.accounts seat ∥₁) l.seats.items;
  handed : ∥ IsHandedIn g.L.Opening.accounts l.handed.items ∥₁;
  parts : l.all.parts + vec_len l.seats ≡ l.fn.rest.parts + vec_len l.initial.seats;
  amount : l.all.amount + receipt_count l.seats.items ≡ l.fn.rest.amount + receipt_count l.initial.seats.items;
  apart : l.all.parts ≤ g.L.Ledger.parts;
  bound : length l.handed.items + receipt_count l.seats.items ≤ length l.fn.handed.items + receipt_count l.initial.seats.items;
  whole : All (λ (seat : List Receipt). seat ≡ []) l.initial.seats.items →
      All (λ (seat : List Receipt). seat ≡ []) l.seats.items × (l.handed.items ≡ l.fn.handed.items);
}

abbrev pub decreases-loop-seat : goal.decreases-loop-seat
decreases-loop-seat g l = vec_len l.seats
