-- The answers to the goals of `declare::add_universe`.
use Rattle.std.proofs.Common.{refl}
use Rattle.go_scope.proofs.Adding.{adds_then, then_adds}
use Rattle.go_scope.proofs.declare.add_universe.Goals as goal

pub returns : goal.returns
returns c =
    then_adds _ _ c.add_predeclared-11.result
    (adds_then (adds_then (adds_then (adds_then (adds_then (adds_then (adds_then (adds_then (adds_then c.in_ok-add_predeclared.ensures
    c.in_ok-add_predeclared-2.ensures) c.in_ok-add_predeclared-3.ensures) c.in_ok-add_predeclared-4.ensures) c.in_ok-add_predeclared-5.ensures)
    c.in_ok-add_predeclared-6.ensures) c.in_ok-add_predeclared-7.ensures) c.in_ok-add_predeclared-8.ensures) c.in_ok-add_predeclared-9.ensures)
    c.in_ok-add_predeclared-10.ensures)
    c.add_predeclared-11.ensures refl
