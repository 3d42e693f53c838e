-- The invariants of the loops of `code::Code::put_pops`.
use Rattle.build_object.specs.LineView.{Puts}
use Rattle.build_object.specs.Lines.{pops}
use Rattle.build_object.proofs.code.Code.put_pops.Given as goal

abbrev pub invariant-loop-turn : goal.invariant-loop-turn
invariant-loop-turn l = Puts (pops l._turn) l.initial.self l.self
