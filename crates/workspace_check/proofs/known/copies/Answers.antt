-- The answers to the goals of `known::copies`.
use Rattle.std.proofs.Common.{length, ap, take, ◌++◌, ◌∷◌, [], List, sym, ◌∙◌, arith}
use Rattle.std.specs.Prelude.{Option}
use Rattle.std.proofs.Math.Nat.{le-max_right}
use Rattle.std.proofs.lemmas.List.{length-take-le, take_more}
use Rattle.workspace_check.specs.declared.known.KnownVerdict.{KnownVerdict}
use Rattle.workspace_check.proofs.known.copies.Goals as goal

pub push_reserved-requires : goal.push_reserved-requires
push_reserved-requires c =
    let list = c.args.verdicts.now in
    let n = c.loop-verdict.verdict-index in
    let long = ap length c.loop-verdict.invariant.items ∙ length-take-le n list (omega (arith, c.loop-verdict.auto.verdict-index-end)) in
    let big = le-max_right c.args.room (length list) in
    omega (arith, c.loop-verdict-test.true, c.loop-verdict.invariant.room, big, long, c.loop-verdict.copies.ok.0)

pub loop-verdict-preserved : goal.loop-verdict-preserved
loop-verdict-preserved c =
    let list = c.args.verdicts.now in
    let n = c.loop-verdict.verdict-index in
    let one = c.verdict-item.result in
    record {
      items = c.push_reserved.ensures.items ∙ ap (λ (l : List (Option KnownVerdict)). l ++ c.in_ok-copy_of.field-0 ∷ []) c.loop-verdict.invariant.items
          ∙ ap (λ (x : Option KnownVerdict). take n list ++ x ∷ []) (c.in_ok-copy_of.ensures ∙ c.verdict-item.is)
          ∙ sym (take_more list n one c.loop-verdict-test.true);
      room = c.push_reserved.ensures.capacity ∙ c.loop-verdict.invariant.room;
    }
