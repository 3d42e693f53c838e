-- The answers to the goals of `sources::asked_at`.
use Rattle.std.proofs.Common.{ap, ◌∙◌, map, take_all}
use Rattle.build_object.specs.declared.source.NamedMethod.{NamedMethod}
use Rattle.types_expr.proofs.Equations.{ok_map}
use Rattle.build_object.proofs.Tables.{map_pushed}
use Rattle.build_object.proofs.sources.asked_at.Goals as goal

pub loop-next-preserved : goal.loop-next-preserved
loop-next-preserved c = map_pushed (λ (a : NamedMethod). a.place) c.args.asked.now c.loop-next.next-index _ c.loop-next.places.items c.push.new.self.items
    c.in_ok-push.ensures.items c.loop-next.invariant c.loop-next-test.true

pub returns : goal.returns
returns c = ok_map c.of.result (λ n e. e ∙ (c.loop-next.invariant ∙
    ap (map (λ (a : NamedMethod). a.place)) (take_all c.loop-next.next-index c.args.asked.now c.loop-next-test.false))) c.of.ensures
