-- The first fault, or none after all packages.
use Rattle.std.proofs.Common.{◌≡◌, ◌<◌, length, refl, sym, ap, subst, ◌∙◌, arith}
use Rattle.std.specs.Prelude.{Some, slice_get}
use Rattle.std.proofs.lemmas.Bool.{false≢true}
use Rattle.std.proofs.lemmas.Option.{slice_get_read}
use Rattle.workspace_check.specs.declared.finding.Finding.{Finding}
use Rattle.refactor_part.proofs.FaultOrder.{all_sound, found_first, next_sound, next_unmarked}
use Rattle.refactor_part.proofs.marked.first_fault.Goals.{then-is_marked+in_default, else-is_marked}
use Rattle.refactor_part.proofs.marked.first_fault.Goals as goal

pub returns-in-Some : goal.returns-in-Some
returns-in-Some c =
    let w = c.args.graph.now in
    let found = c.args.found.now in
    let n = c.loop-number.number in
    let f : Finding = c.index.result.now in
    let at : slice_get found.packages.items n ≡ Some f = slice_get_read found.packages.items (length found.packages.items) n f refl
    (omega (arith, c.loop-number-test.true, c.len-number-end.ensures)) c.index.ensures in
    found_first w found c.requires c.args.marks.now n f c.in-Some.fault.now c.loop-number.invariant (c.is_marked.ensures.0 c.if-is_marked.true) at
    (sym (ap (λ (x : Finding). slice_get x.faults.items 0) c.get.ensures) ∙ c.in-Some.ensures)

pub loop-number-preserved : goal.loop-number-preserved
loop-number-preserved c =
    let w = c.args.graph.now in
    let found = c.args.found.now in
    let n = c.loop-number.number in
    elim c.if-is_marked.branch [
      | then-is_marked+in_default b ↦ (
          let f : Finding = b.index.result.now in
          let at : slice_get found.packages.items n ≡ Some f = slice_get_read found.packages.items (length found.packages.items) n f refl
          (omega (arith, c.loop-number-test.true, c.len-number-end.ensures)) b.index.ensures in
          next_sound w found c.requires c.args.marks.now n f c.loop-number.invariant at
          (sym (ap (λ (x : Finding). x.faults.items) b.get.ensures) ∙ b.in_default.ensures))
      | else-is_marked b ↦ next_unmarked w found c.requires c.args.marks.now n c.loop-number.invariant
          (λ marked. false≢true (sym b.if-is_marked.false ∙ c.is_marked.ensures.1 marked))
    ]

pub returns : goal.returns
returns c =
    let end : c.loop-number.number ≡ length c.args.found.now.packages.items = omega (arith, c.loop-number-test.false, c.len-number-end.ensures) in
    all_sound c.args.graph.now c.args.found.now c.requires c.args.marks.now
    (λ n p lt. c.loop-number.invariant n p (omega (arith, lt, end)))
