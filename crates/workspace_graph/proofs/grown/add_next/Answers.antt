-- A run and the row behind it.
use Rattle.std.proofs.Common.{◌≡◌, ◌+◌, length, sym, ap, subst, ◌∙◌, arith}
use Rattle.std.specs.List.{Contains}
use Rattle.workspace_graph.specs.Growth.{IsStop}
use Rattle.workspace_graph.specs.Shifts.{Splits}
use Rattle.workspace_graph.proofs.grown.add_next.Goals as goal

pub next_stop-stop-requires-clause-passed : goal.next_stop-stop-requires-clause-passed
next_stop-stop-requires-clause-passed c = subst (Splits c.args.growing.linked.now c.args.index) (sym c.len.ensures) c.requires.passed

pub add_run-requires-clause-stop : goal.add_run-requires-clause-stop
add_run-requires-clause-stop c = (
  c.args.index,
  c.requires.passed,
  subst (λ n. IsStop c.args.growing.place (length c.args.growing.before.now + 1) c.args.growing.linked.now c.args.index n c.next_stop-stop.result) c.len.ensures
      c.next_stop-stop.ensures,
)

pub returns-then-stop-len : goal.returns-then-stop-len
returns-then-stop-len c =
    let at : length c.add_run.new.rows ≡ c.next_stop-stop.result = c.in_ok-add_run.ensures.count in
    record {
      grown = c.in_ok-add_run.ensures.grown;
      passed = subst (Splits c.args.growing.linked.now c.args.index) (sym at) c.next_stop-stop.ensures.passed;
      more = omega (arith, at, c.requires.below, c.if-stop-len.true, c.len-2.ensures);
    }

pub add_stop-requires-clause-told : goal.add_stop-requires-clause-told
add_stop-requires-clause-told c = λ apart.
    let at : length c.add_run.new.rows ≡ c.next_stop-stop.result = c.in_ok-add_run.ensures.count in
    subst (Contains c.args.growing.linked.now) (sym at)
    (c.next_stop-stop.ensures.told (omega arith) (λ e. apart (at ∙ e)))

pub past-requires : goal.past-requires
past-requires c = record {
  rising = c.requires.growing.rising;
  passed = c.next_stop-stop.ensures.passed;
}

pub returns : goal.returns
returns c =
    let at : length c.add_run.new.rows ≡ c.next_stop-stop.result = c.in_ok-add_run.ensures.count in
    let next : length c.add_stop.new.rows ≡ c.next_stop-stop.result + 1 = c.in_ok-add_stop.ensures.count ∙ ap (λ n. n + 1) at in
    record {
      grown = c.in_ok-add_stop.ensures.grown;
      passed = subst (Splits c.args.growing.linked.now c.past.result) (sym next) c.past.ensures.passed;
      more = omega (arith, next, c.next_stop-stop.ensures.from, c.len.ensures);
    }
