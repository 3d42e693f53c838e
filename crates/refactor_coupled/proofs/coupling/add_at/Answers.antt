-- The answers to the goals of `coupling::add_at`.
use Rattle.std.proofs.Common.{◌≡◌, rules}
use Rattle.std.specs.Prelude.{Some, slice_get}
use Rattle.std.proofs.lemmas.Result.{on_ok_weaker}
use Rattle.refactor_coupled.proofs.Listed.{method_as}
use Rattle.refactor_coupled.proofs.coupling.add_at.Goals as goal

pub returns-in-Some : goal.returns-in-Some
returns-in-Some c =
    let r = c.args.reached.now in
    let at : slice_get r.called.items c.args.index ≡ Some c.in-Some.named.now = search rules in
    on_ok_weaker c.add_method.result (λ h. method_as c.args.types.now r c.args.index c.in-Some.named.now at
    (c.is_reached.ensures.0 c.if-not-is_reached.false) c.args.set.now.items c.add_method.new.set.items h) c.add_method.ensures
