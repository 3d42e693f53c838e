-- The answers to the goals of `coupling::Reached::reach_from_place`.
use Rattle.std.proofs.Common.{◌≡◌, rules}
use Rattle.std.specs.Prelude.{Some, None, slice_get}
use Rattle.std.proofs.lemmas.Result.{on_ok_weaker}
use Rattle.refactor_coupled.proofs.ReachedMore.{from_no_place, from_place}
use Rattle.refactor_coupled.proofs.coupling.Reached.reach_from_place.Goals as goal

pub returns-in-None : goal.returns-in-None
returns-in-None c =
    let none : slice_get c.args.self.now.order.items c.args.place ≡ None = search rules in
    from_no_place c.args.types.now c.args.place c.args.self.now none

pub returns-in-Some : goal.returns-in-Some
returns-in-Some c =
    let at : slice_get c.args.self.now.order.items c.args.place ≡ Some c.in-Some.index = search rules in
    on_ok_weaker c.reach_from.result (λ h. from_place c.args.types.now c.args.place c.in-Some.index c.args.self.now c.reach_from.new.self at h)
    c.reach_from.ensures
