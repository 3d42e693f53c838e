-- The answers to the goals of `bindings::find`.
use Rattle.std.proofs.Common.{rules}
use Rattle.std.proofs.lemmas.Fn.{always_returns_same}
use Rattle.refs_binding.proofs.BindingOrder.{compared, found_is, none_is}
use Rattle.refs_binding.proofs.bindings.find.Goals as goal

pub returns-in-Ok : goal.returns-in-Ok
returns-in-Ok c =
    found_is c.args.bound.now c.args.place.now c.in-Ok.number c.index-bound-number.result c.in-Ok.ensures.bound c.index-bound-number.is
    (c.in-Ok.ensures.position (compared c.args.place.now) (always_returns_same _ _ _ (λ a r f k. (search rules, search rules))))

pub returns-in-Err : goal.returns-in-Err
returns-in-Err c =
    none_is c.args.bound.now c.args.place.now c.in-Err.field-0 c.requires
    (c.in-Err.ensures.position (compared c.args.place.now) (always_returns_same _ _ _ (λ a r f k. (search rules, search rules))))
