-- One record further, and why the records go on no longer.
use Rattle.std.proofs.Common.{◌+◌, ℕ, List, [], Err, arith, ap, drop, get_or, map, refl, sym, subst, take, ◌∙◌}
use Rattle.std.specs.Borrow.{Bor}
use Rattle.std.proofs.lemmas.List.{take_all}
use Rattle.std.proofs.lemmas.Result.{err_from_is_err_and}
use Rattle.server_journal.specs.Recovered.{IsRecovered}
use Rattle.server_journal.proofs.Recovering.{around_this_one, closed_limits, fails_at_record, fails_for_now, recovered_more, recovered_none, to_this_one}
use Rattle.server_journal.proofs.recovery.go_on.Goals as goal

abbrev held_by : Bor (List ℕ) → List ℕ
held_by h = h.now

-- what is read behind the last record
abbrev past_end : Bor (List ℕ)
past_end = record { ref_ptr = (0, 0); now = [] }

pub loop-record-init : goal.loop-record-init
loop-record-init c = record { recovered = recovered_none c.args.book.now.limits c.args.book.now c.requires; limits = refl }

pub loop-record-preserved : goal.loop-record-preserved
loop-record-preserved c =
    let limits = c.args.book.now.limits in
    let i = c.loop-record.record-index in
    let this : Bor (List ℕ) = get_or c.args.held.now i past_end in
    let mid = c.repeat_record.new.book in
    let new = c.make_room.new.book in
    let closes = c.in_ok-make_room.ensures.ok in
    record {
      recovered = subst (λ (rs : List (List ℕ)). IsRecovered limits rs new)
          (sym (to_this_one held_by c.args.held.now i past_end c.loop-record-test.true))
          (recovered_more limits (map held_by (take i c.args.held.now)) c.loop-record.book mid new this.now c.loop-record.invariant.recovered
          c.in_ok-repeat_record.ensures.ok closes);
      limits = closed_limits mid new closes ∙ c.in_ok-repeat_record.ensures.limits ∙ c.loop-record.invariant.limits;
    }

pub returns-in_err-repeat_record-clause-err : goal.returns-in_err-repeat_record-clause-err
returns-in_err-repeat_record-clause-err c =
    let limits = c.args.book.now.limits in
    let i = c.loop-record.record-index in
    let held = c.args.held.now in
    let this : Bor (List ℕ) = get_or c.args.held.now i past_end in
    let p = err_from_is_err_and c.from_residual.result c.from_residual.ensures.1 in
    rw (p.1, p.2) (fails_at_record limits (map held_by (take i held)) c.loop-record.book this.now (map held_by (drop (i + 1) held)) (map held_by held)
    c.in_err-repeat_record.field-0.0 c.loop-record.invariant.recovered c.in_err-repeat_record.ensures.err
    (around_this_one held_by held i past_end c.loop-record-test.true))

pub returns-in_err-make_room-clause-err : goal.returns-in_err-make_room-clause-err
returns-in_err-make_room-clause-err c =
    let p = err_from_is_err_and c.from_residual-in_err-make_room.result c.from_residual-in_err-make_room.ensures.1 in
    rw (p.1, p.2) (fails_for_now c.args.book.now.limits (map held_by c.args.held.now) c.in_err-make_room.field-0.0
    (λ e. c.in_err-make_room.ensures.err (ap Err e)))

pub returns-clause-ok : goal.returns-clause-ok
returns-clause-ok c =
    subst (λ (hs : List (Bor (List ℕ))). IsRecovered c.args.book.now.limits (map held_by hs) c.loop-record.book)
    (take_all c.loop-record.record-index c.args.held.now (omega (arith, c.loop-record-test.false))) c.loop-record.invariant.recovered
