-- The records are those with which the bytes begin.
use Rattle.std.proofs.Common.{◌-◌, ℕ, List, length, map, subst, arith}
use Rattle.std.specs.Borrow.{Bor}
use Rattle.std.proofs.lemmas.Result.{err_from_is_err_and}
use Rattle.history_records.proofs.ReadRecords.{torn_within}
use Rattle.server_journal.specs.Opened.{FailsFrom, IsRecoveredFrom}
use Rattle.server_journal.specs.declared.opened.TheConstants.{HEADING}
use Rattle.server_journal.proofs.Opening.{book_is, fails_behind, fails_by_records}
use Rattle.server_journal.proofs.opened.book_in.Goals as goal

abbrev held_of : List (Bor (List ℕ)) → List (List ℕ)
held_of xs = map (λ (h : Bor (List ℕ)). h.now) xs

pub overflow_sub-whole : goal.overflow_sub-whole
overflow_sub-whole c =
    let r = c.in_ok-found.ensures.ok in
    omega (arith, r.2, torn_within c.args.bytes.now (held_of c.in_ok-found.found.held.items) r.0 r.1)

pub returns-in_err-found-clause-err : goal.returns-in_err-found-clause-err
returns-in_err-found-clause-err c =
    let p = err_from_is_err_and c.from_residual.result c.from_residual.ensures.1 in
    rw (p.1, p.2) (fails_by_records c.args.limits HEADING.now c.args.bytes.now c.in_err-found.field-0.0 c.in_err-found.ensures.err)

pub returns-in_err-book-clause-err : goal.returns-in_err-book-clause-err
returns-in_err-book-clause-err c =
    let r = c.in_ok-found.ensures.ok in
    let p = err_from_is_err_and c.from_residual-in_err-book.result c.from_residual-in_err-book.ensures.1 in
    rw (p.1, p.2) (fails_behind c.args.limits HEADING.now c.args.bytes.now (held_of c.in_ok-found.found.held.items) r.0 c.in_err-book.field-0.0 r.1
    (subst (λ (xs : List (Bor (List ℕ))). FailsFrom c.args.limits HEADING.now (held_of xs) c.in_err-book.field-0.0) c.as_slice.ensures.value
    c.in_err-book.ensures.err))

pub returns-clause-ok : goal.returns-clause-ok
returns-clause-ok c =
    let r = c.in_ok-found.ensures.ok in
    let held = held_of c.in_ok-found.found.held.items in
    let bytes = c.args.bytes.now in
    book_is c.args.limits HEADING.now bytes held r.0 c.in_ok-book.book (length bytes - c.in_ok-found.found.torn) c.in_ok-found.found.torn r.1 r.3 r.2
    (omega (arith, r.2, torn_within bytes held r.0 r.1))
    (subst (λ (xs : List (Bor (List ℕ))). IsRecoveredFrom c.args.limits HEADING.now (held_of xs) c.in_ok-book.book) c.as_slice.ensures.value
    c.in_ok-book.ensures.ok)
