-- A thread more was begun.
use Rattle.std.proofs.Common.{◌≡◌, ◌+◌, ℕ, ap, arith, length, subst, sym}
use Rattle.std.proofs.lemmas.List.{length_push}
use Rattle.workspace_parsing.specs.Promises.{PromiseShares}
use Rattle.workspace_parsing.specs.Shares.{IsPartBetween}
use Rattle.workspace_parsing.proofs.Kept.{none_begun, one_begun}
use Rattle.workspace_parsing.proofs.together.begin_each.Goals as goal

pub loop-number-init : goal.loop-number-init
loop-number-init g c = record {
  size = sym (ap length c.new-threads.ensures.items);
  shares = none_begun c.args.files.now c.new-threads.result.items c.new-threads.ensures.items;
}

pub loop-number-preserved : goal.loop-number-preserved
loop-number-preserved g c =
    let w = c.args.files.now in
    let n = c.loop-number.number in
    let one = c.in-Some.thread in
    let is : IsPartBetween w n (n + 1) one.promise.files.value = rw c.in-Some.is at c.in_ok-thread.ensures in
    let pushed = c.in_ok-push.ensures.items in
    record {
      size = omega (arith, length_push c.loop-number.threads.items one, c.loop-number.invariant.size, ap length pushed);
      shares = subst (PromiseShares w) (sym pushed)
          (one_begun w c.loop-number.threads.items one n c.loop-number.invariant.size c.loop-number.invariant.shares is);
    }

pub returns-clause-size : goal.returns-clause-size
returns-clause-size g c = omega (arith, c.loop-number-test.false, c.loop-number.auto.number-end, c.loop-number.invariant.size)

pub returns-clause-shares : goal.returns-clause-shares
returns-clause-shares g c = c.loop-number.invariant.shares
