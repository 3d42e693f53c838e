-- The answers to the goals of `code::Code::put_pops`.
use Rattle.build_object.proofs.Putting.{no_pops, one_pop_more}
use Rattle.build_object.specs.LineView.{line_of}
use Rattle.build_object.proofs.code.Code.put_pops.Goals as goal

pub loop-turn-init : goal.loop-turn-init
loop-turn-init c = no_pops c.args.self.now

pub loop-turn-preserved : goal.loop-turn-preserved
unfolding line_of
loop-turn-preserved c = one_pop_more c.loop-turn._turn c.loop-turn.invariant c.in_ok-put.ensures
