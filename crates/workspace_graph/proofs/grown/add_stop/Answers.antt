-- Its own row, or one that the place is put into.
use Rattle.std.proofs.Common.{ℕ, ◌≡◌, ◌<◌, List, length, sym, ap, subst, ◌∙◌, arith}
use Rattle.std.specs.List.{Contains, insert}
use Rattle.std.proofs.lemmas.List.{length_push}
use Rattle.std.proofs.lemmas.List.Elements.{All-contains}
use Rattle.std.proofs.lemmas.Result.{on_ok_weaker}
use Rattle.workspace_graph.specs.Growth.{AreGrown}
use Rattle.workspace_graph.specs.Imports.{row_of}
use Rattle.workspace_graph.specs.Shifts.{ShiftsRow, row_shifted, shifted}
use Rattle.workspace_graph.proofs.GrownLinks.{small_row}
use Rattle.workspace_graph.proofs.GrownSteps.{grown_one, grown_own}
use Rattle.workspace_graph.proofs.Shifted.{shifted_apart, shifted_within, shifts_with}
use Rattle.workspace_graph.proofs.grown.add_stop.Goals as goal

pub returns-in_default : goal.returns-in_default
returns-in_default c =
    let before = c.args.growing.before.now in
    let place = c.args.growing.place in
    let own = c.args.growing.own.now in
    let linked = c.args.growing.linked.now in
    let rows = c.args.rows.now in
    let here : length rows ≡ place = sym c.len.ensures ∙ c.in_default.ensures in
    record {
      grown = on_ok_weaker c.add_row.result
          (λ put. subst (AreGrown place own linked before) (sym put) (grown_own place own linked before rows c.requires.grown here c.requires.below))
          c.add_row.ensures;
      count = on_ok_weaker c.add_row.result (λ put. ap length put ∙ length_push rows own) c.add_row.ensures;
    }

pub row-row-requires : goal.row-row-requires
row-row-requires c =
    let place = c.args.growing.place in
    let is : shifted place c.in-Some.before ≡ length c.args.rows.now = c.in-Some.ensures ∙ c.len.ensures in
    shifted_within place c.in-Some.before (length c.args.growing.before.now) c.requires.growing.within (omega (arith, is, c.requires.below))

pub add_shifted_around-requires-clause-small : goal.add_shifted_around-requires-clause-small
add_shifted_around-requires-clause-small c =
    let before = c.args.growing.before.now in
    let place = c.args.growing.place in
    let is : shifted place c.in-Some.before ≡ length c.args.rows.now = c.in-Some.ensures ∙ c.len.ensures in
    let inside : c.in-Some.before < length before =
    shifted_within place c.in-Some.before (length before) c.requires.growing.within (omega (arith, is, c.requires.below)) in
    small_row c.row-row.result.now (length before)
    (λ q has. All-contains (λ q. q < length before) (row_of before c.in-Some.before) q (c.requires.growing.numbers c.in-Some.before _ inside)
    (subst (λ (l : List ℕ). Contains l q) c.row-row.ensures has))
    (omega (arith, c.requires.small))

pub returns : goal.returns
returns c =
    let before = c.args.growing.before.now in
    let place = c.args.growing.place in
    let own = c.args.growing.own.now in
    let linked = c.args.growing.linked.now in
    let rows = c.args.rows.now in
    let q = c.in-Some.before in
    let row = c.row-row.result.now in
    let below = c.count_below-below.result in
    let is : shifted place q ≡ length rows = c.in-Some.ensures ∙ c.len.ensures in
    let holds : Contains linked (length rows) = c.requires.told (λ at. shifted_apart place q (is ∙ at)) in
    let shifts : ShiftsRow place (Contains linked (length rows)) row (insert (row_shifted place row) below place) =
    shifts_with place (Contains linked (length rows)) row below holds c.count_below-below.ensures.within c.count_below-below.ensures.below
    c.count_below-below.ensures.above in
    let new = insert (row_shifted place row) below place in
    let of_before = subst (λ (l : List ℕ). ShiftsRow place (Contains linked (length rows)) l new) c.row-row.ensures shifts in
    record {
      grown = on_ok_weaker c.add_shifted_around.result
          (λ put. subst (AreGrown place own linked before) (sym put)
          (grown_one place own linked before rows (insert (row_shifted place row) below place) q c.requires.grown is c.requires.below of_before))
          c.add_shifted_around.ensures;
      count = on_ok_weaker c.add_shifted_around.result (λ put. ap length put ∙ length_push rows (insert (row_shifted place row) below place))
          c.add_shifted_around.ensures;
    }
