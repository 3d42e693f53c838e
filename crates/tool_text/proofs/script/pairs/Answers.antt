-- The answers to the goals of `script::pairs`.
use Rattle.std.proofs.Common.{◌+◌, ◌<◌, length}
use Rattle.tool_text.specs.declared.script.LinePair.{LinePair}
use Rattle.tool_text.proofs.Lines.{pairs_step, some_new, some_old}
use Rattle.tool_text.proofs.Pairing.{one_more_line}
use Rattle.tool_text.proofs.script.pairs.Goals as goal
use Rattle.tool_text.proofs.script.pairs.Goals.{then-not-is_empty, else-not-is_empty+then-not-is_empty-2}

pub lines-preserved : goal.lines-preserved
lines-preserved c =
    let pair : LinePair = record { old = c.take_line.result.0; new = c.take_line-in-lines.result.0 } in
    let some : 0 < length c.lines.olds.now + length c.lines.news.now = elim c.if-not-is_empty.branch [
      | then-not-is_empty w ↦ some_old c.lines.olds.now c.lines.news.now c.is_empty.result c.is_empty.ensures w.if-not-is_empty.true
      | else-not-is_empty+then-not-is_empty-2 w ↦ some_new c.lines.olds.now c.lines.news.now w.is_empty-else-not-is_empty.result
          w.is_empty-else-not-is_empty.ensures w.if-not-is_empty-2.true
    ] in
    record {
      sides = rw c.in_ok-push.ensures.items (pairs_step c.lines.pairs.items pair c.lines.olds.now c.lines.news.now c.take_line.result.1.now
          c.take_line-in-lines.result.1.now _ c.take_line.ensures c.take_line-in-lines.ensures some c.lines.invariant.sides);
      olds = rw c.in_ok-push.ensures.items (one_more_line (λ (one : LinePair). one.old.now) c.lines.pairs.items pair c.lines.olds.now
          c.take_line.result.1.now c.args.old.now c.take_line.ensures c.lines.invariant.olds);
      news = rw c.in_ok-push.ensures.items (one_more_line (λ (one : LinePair). one.new.now) c.lines.pairs.items pair c.lines.news.now
          c.take_line-in-lines.result.1.now c.args.new.now c.take_line-in-lines.ensures c.lines.invariant.news);
    }
