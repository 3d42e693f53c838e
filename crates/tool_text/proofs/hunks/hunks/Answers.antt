-- The answers to the goals of `hunks::hunks`.
use Rattle.std.proofs.Common.{◌≤◌, arith}
use Rattle.base_files.specs.declared.place.Span.{Span}
use Rattle.tool_text.proofs.Covering.{all_covered, before_more, covered_more, ordered_more, within_more}
use Rattle.tool_text.proofs.hunks.hunks.Goals as goal

pub loop-first-preserved : goal.loop-first-preserved
loop-first-preserved c =
    let hunk : Span = record { start = c.max-start.result; end = c.hunk_end-end.result } in
    let low = c.loop-first.invariant.behind in
    let high = c.hunk_end-end.ensures.behind in
    let start : c.max-start.result ≤ c.loop-first.first = omega (arith, low, c.max-start.ensures, c.saturating_sub.ensures) in
    let from : c.loop-first.from ≤ c.max-start.result = omega (arith, c.max-start.ensures) in
    record {
      behind = c.next_uneven-first-in-loop-first.ensures.behind;
      within = c.next_uneven-first-in-loop-first.ensures.within;
      hunks = rw c.in_ok-push.ensures.items
          (within_more _ _ hunk c.loop-first.invariant.hunks (omega (arith, start, high)) c.hunk_end-end.ensures.within);
      ordered = rw c.in_ok-push.ensures.items (ordered_more _ hunk _ c.loop-first.invariant.ordered c.loop-first.invariant.all_before from);
      all_before = rw c.in_ok-push.ensures.items (before_more _ hunk _ c.loop-first.invariant.all_before (omega (arith, low, high)));
      others = rw c.in_ok-push.ensures.items (covered_more _ _ hunk _ _ start c.loop-first.invariant.others c.loop-first.invariant.even);
      even = c.next_uneven-first-in-loop-first.ensures.even;
    }

pub returns : goal.returns
returns c = record {
  within = c.loop-first.invariant.hunks;
  ordered = c.loop-first.invariant.ordered;
  others = λ number h. let end = c.loop-first-test.false in
      all_covered _ _ (record { start = 0; end = 0 }) _ _ (omega arith) c.loop-first.invariant.others c.loop-first.invariant.even number (omega (
        arith,
        h,
        end,
      ));
}
