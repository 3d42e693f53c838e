-- The run of rows before that are just shifted.
use Rattle.std.proofs.Common.{◌≡◌, ◌+◌, ◌<◌, ◌≤◌, length, sym, ap, subst, ◌∙◌, arith}
use Rattle.std.proofs.lemmas.Result.{on_ok_weaker}
use Rattle.workspace_graph.specs.Growth.{AreGrown}
use Rattle.workspace_graph.proofs.GrownSteps.{grown_run, run_count, run_inside, run_up}
use Rattle.workspace_graph.proofs.grown.add_run.Goals as goal

pub add_shifted_rows-requires : goal.add_shifted_rows-requires
add_shifted_rows-requires c =
    let before = c.args.growing.before.now in
    let place = c.args.growing.place in
    let own = c.args.growing.own.now in
    let linked = c.args.growing.linked.now in
    let rows = c.args.rows.now in
    let stop = c.args.stop in
    let from = c.rows_before.result in
    let to = c.rows_before-2.result in
    let from_upto : length rows ≤ place → from ≡ length rows = λ h. c.rows_before.ensures.upto (omega (arith, h, c.len.ensures)) ∙ c.len.ensures in
    let from_above : place < length rows → from + 1 ≡ length rows = λ h. c.rows_before.ensures.above (omega (arith, h, c.len.ensures)) ∙ c.len.ensures in
    record {
      from = run_up place own linked before rows c.requires.stop.0 from to stop c.requires.grown c.requires.growing.within c.requires.stop.1 c.requires.stop.2
          from_upto from_above c.rows_before-2.ensures.upto c.rows_before-2.ensures.above;
      to = run_inside place own linked before rows c.requires.stop.0 from to stop c.requires.grown c.requires.growing.within c.requires.stop.1 c.requires.stop.2
          from_upto from_above c.rows_before-2.ensures.upto c.rows_before-2.ensures.above;
      small = λ i d lt k e inside. (let h = c.requires.growing.numbers i d lt k e inside in omega (arith, h, c.requires.small));
    }

pub returns : goal.returns
returns c =
    let before = c.args.growing.before.now in
    let place = c.args.growing.place in
    let own = c.args.growing.own.now in
    let linked = c.args.growing.linked.now in
    let rows = c.args.rows.now in
    let stop = c.args.stop in
    let from = c.rows_before.result in
    let to = c.rows_before-2.result in
    let from_upto : length rows ≤ place → from ≡ length rows = λ h. c.rows_before.ensures.upto (omega (arith, h, c.len.ensures)) ∙ c.len.ensures in
    let from_above : place < length rows → from + 1 ≡ length rows = λ h. c.rows_before.ensures.above (omega (arith, h, c.len.ensures)) ∙ c.len.ensures in
    record {
      grown = on_ok_weaker c.add_shifted_rows.result
          (λ put. subst (AreGrown place own linked before) (sym put)
          (grown_run place own linked before rows c.requires.stop.0 from to stop c.requires.grown c.requires.growing.within c.requires.stop.1 c.requires.stop.2
          from_upto from_above c.rows_before-2.ensures.upto c.rows_before-2.ensures.above))
          c.add_shifted_rows.ensures;
      count = on_ok_weaker c.add_shifted_rows.result
          (λ put. ap length put
          ∙ run_count place own linked before rows c.requires.stop.0 from to stop c.requires.grown c.requires.growing.within c.requires.stop.1 c.requires.stop.2
          from_upto from_above c.rows_before-2.ensures.upto c.rows_before-2.ensures.above)
          c.add_shifted_rows.ensures;
    }
