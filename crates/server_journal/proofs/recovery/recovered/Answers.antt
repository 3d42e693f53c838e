-- A new book has no changes, and goes on with those of the records.
use Rattle.std.proofs.Common.{ℕ, List, map, sym, ap, subst, ◌∙◌}
use Rattle.std.specs.Borrow.{Bor}
use Rattle.base_files.specs.declared.limits.Limits.{Limits}
use Rattle.history_machine.specs.Machine.{Machine, opening}
use Rattle.server_journal.specs.Recovered.{FailsToRecover, IsRecovered}
use Rattle.server_journal.proofs.recovery.recovered.Goals as goal

pub go_on-requires : goal.go_on-requires
go_on-requires c = c.in_ok-book.ensures ∙ ap opening (sym (ap (λ (m : Machine). m.limits) c.in_ok-book.ensures))

pub returns-in-Ok-clause-ok : goal.returns-in-Ok-clause-ok
returns-in-Ok-clause-ok c =
    subst (λ (l : Limits). IsRecovered l (map (λ (h : Bor (List ℕ)). h.now) c.args.held.now) c.go_on.new.book)
    (ap (λ (m : Machine). m.limits) c.in_ok-book.ensures) c.in-Ok.ensures.ok

pub returns-in-Err-clause-err : goal.returns-in-Err-clause-err
returns-in-Err-clause-err c =
    subst (λ (l : Limits). FailsToRecover l (map (λ (h : Bor (List ℕ)). h.now) c.args.held.now) c.in-Err.fault)
    (ap (λ (m : Machine). m.limits) c.in_ok-book.ensures) c.in-Err.ensures.err
