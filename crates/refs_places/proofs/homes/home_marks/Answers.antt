-- The answers to the goals of `homes::home_marks`.
use Rattle.std.proofs.Common.{◌+◌, rules, Bool, Global, Vec, take, sym, subst}
use Rattle.refs_places.specs.Homes.{MarksHomes}
use Rattle.refs_places.proofs.HomeMarks.{no_homes, none_more, one_more}
use Rattle.refs_places.proofs.homes.home_marks.Goals.{in-Some, in_default}
use Rattle.refs_places.proofs.homes.home_marks.Goals as goal

pub loop-declaration-init : goal.loop-declaration-init
loop-declaration-init c =
    no_homes c.args.graph.now c.in_ok-marks.marks.items c.len.result (c.in_ok-marks.ensures.items_if_clones_equal (search rules)) c.len.ensures

pub loop-declaration-preserved : goal.loop-declaration-preserved
loop-declaration-preserved c =
    let w = c.args.graph.now in
    let set = c.args.set.now in
    let i = c.loop-declaration.declaration-index in
    let d = c.declaration-item.result in
    let old = c.loop-declaration.marks.items in
    elim c.match-home_number.branch [
      | in-Some b ↦ subst (λ (ms : Vec Bool Global). MarksHomes w (take (i + 1) set) ms.items) (sym b.marks-is)
          (one_more w set i d old c.loop-declaration-test.true c.declaration-item.is c.loop-declaration.invariant b.in-Some.number b.in-Some.ensures)
      | in_default b ↦ subst (λ (ms : Vec Bool Global). MarksHomes w (take (i + 1) set) ms.items) (sym b.marks-is)
          (none_more w set i d old c.loop-declaration-test.true c.declaration-item.is c.loop-declaration.invariant b.in_default.ensures)
    ]
