-- The history of the book has exactly the changes of the records so far.
use Rattle.std.proofs.Common.{◌≡◌, map, take}
use Rattle.server_journal.specs.Recovered.{IsRecovered}
use Rattle.server_journal.proofs.recovery.go_on.Given as goal

abbrev pub invariant-loop-record : goal.invariant-loop-record
invariant-loop-record l = record {
  recovered : IsRecovered l.initial.book.limits (map (λ h. h.now) (take l.record-index l.held)) l.book;
  limits : l.book.limits ≡ l.initial.book.limits;
}
