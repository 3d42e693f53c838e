-- The answers to the goals of `here::places_in`.
use Rattle.std.proofs.Common.{refl}
use Rattle.refactor_rename.proofs.PlacesHere.{IsRun, parted, are_in, offsets_rise}
use Rattle.refactor_rename.proofs.here.places_in.Goals as goal

pub first_near-first-requires : goal.first_near-first-requires
first_near-first-requires c = parted c.args.places.now c.args.path.now c.requires

pub returns-clause-places : goal.returns-clause-places
returns-clause-places c =
    let run : IsRun c.args.places.now c.args.path.now c.first_near-first.result c.end_from-end.result = record {
      point = c.first_near-first.ensures.point;
      rising = c.end_from-end.ensures.rises;
      within = c.end_from-end.ensures.within;
      same = c.end_from-end.ensures.same;
      stops = c.end_from-end.ensures.stops;
    } in
    are_in c.args.places.now c.requires c.args.path.now c.first_near-first.result c.end_from-end.result run _ refl

pub returns-clause-order : goal.returns-clause-order
returns-clause-order c =
    let run : IsRun c.args.places.now c.args.path.now c.first_near-first.result c.end_from-end.result = record {
      point = c.first_near-first.ensures.point;
      rising = c.end_from-end.ensures.rises;
      within = c.end_from-end.ensures.within;
      same = c.end_from-end.ensures.same;
      stops = c.end_from-end.ensures.stops;
    } in
    offsets_rise c.args.places.now c.requires c.args.path.now c.first_near-first.result c.end_from-end.result run _ refl
