-- The answers to the goals of `sources::entered`.
use Rattle.std.proofs.Common.{◌∷◌, ◌++◌, [], ap, sym, ◌∙◌, map, take_all}
use Rattle.types_expr.specs.declared.found.Entering.{Entering}
use Rattle.types_expr.proofs.Equations.{ok_map}
use Rattle.build_object.proofs.Tables.{map_next}
use Rattle.build_object.proofs.sources.entered.Goals as goal

pub loop-next-preserved : goal.loop-next-preserved
loop-next-preserved c = c.in_ok-push.ensures.items ∙ (ap (λ z. z ++ (c.next-item.result.place ∷ [])) c.loop-next.invariant
    ∙ sym (map_next (λ (e : Entering). e.place) c.args.enterings.now c.loop-next.next-index c.next-item.result c.loop-next-test.true c.next-item.is))

pub returns : goal.returns
returns c = ok_map c.of.result (λ n e. e ∙ (c.loop-next.invariant ∙
    ap (map (λ (e : Entering). e.place)) (take_all c.loop-next.next-index c.args.enterings.now c.loop-next-test.false))) c.of.ensures
