-- The answers to the goals of `known::pad`.
use Rattle.std.proofs.Common.{◌+◌, [], ◌∷◌, length, ap, refl, ◌∙◌, length-append, arith}
use Rattle.std.specs.Prelude.{None}
use Rattle.workspace_check.proofs.Copying.{same_verdicts, same_padded}
use Rattle.workspace_check.proofs.known.pad.Goals as goal

pub loop-place-init : goal.loop-place-init
loop-place-init c = record { size = omega (arith, c.args.verdicts.now.ok.0); same = same_verdicts c.args.verdicts.now.items; room = refl }

pub push_reserved-requires : goal.push_reserved-requires
push_reserved-requires c =
    omega (arith, c.loop-place.verdicts.ok.0, c.loop-place.invariant.size, c.loop-place.invariant.room, c.requires, c.loop-place-test.true)

pub loop-place-preserved : goal.loop-place-preserved
loop-place-preserved c = record {
  size = ap length c.push_reserved.ensures.items ∙ length-append c.loop-place.verdicts.items (None ∷ []) ∙ ap (λ k. k + 1) c.loop-place.invariant.size;
  same = same_padded c.args.verdicts.now.items c.loop-place.verdicts.items c.push_reserved.new.self.items c.push_reserved.ensures.items
      c.loop-place.invariant.same;
  room = c.push_reserved.ensures.capacity ∙ c.loop-place.invariant.room;
}

pub returns : goal.returns
returns c = record {
  size = omega (arith, c.loop-place.invariant.size);
  same = c.loop-place.invariant.same;
  room = c.loop-place.invariant.room;
}
