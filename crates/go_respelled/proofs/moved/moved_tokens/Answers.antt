-- The answers to the goals of `moved::moved_tokens`.
use Rattle.std.proofs.Common.{arith}
use Rattle.go_respelled.proofs.Walked.{moved_all, moved_more, next_token, none_moved}
use Rattle.go_respelled.proofs.moved.moved_tokens.Goals as goal

pub loop-cursor-init : goal.loop-cursor-init
loop-cursor-init c = record {
  so_far = none_moved c.args.edits.now c.args.tokens.now c.in_ok-moved.moved.items c.requires.order c.requires.tokens c.in_ok-moved.ensures.items;
  room = omega (arith, c.in_ok-moved.ensures.capacity);
}
