-- The answers to the goals of `cycles::cycles`.
use Rattle.std.proofs.Common.{length, ap, subst, arith}
use Rattle.workspace_check.specs.Cycles.{ComeAfterImports}
use Rattle.workspace_check.proofs.CycleNumbers.{tell_all}
use Rattle.workspace_check.proofs.cycles.cycles.Goals as goal

pub returns-then-are_behind_imports : goal.returns-then-are_behind_imports
returns-then-are_behind_imports c =
    let w = c.args.graph.now in
    let numbers = c.in_ok-numbers.numbers.items in
    let places = c.deref-2.result.now in
    tell_all w places numbers
    (subst (ComeAfterImports w places) c.deref-3.ensures.value (c.are_behind_imports.ensures c.if-are_behind_imports.true)) c.in_ok-numbers.ensures

pub returns : goal.returns
returns c = λ i j p q none at_i at_j imports. absurd (omega (arith, none, ap length c.new.ensures.items))
