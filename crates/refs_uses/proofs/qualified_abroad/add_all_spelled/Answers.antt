-- The answers to the goals of `qualified_abroad::add_all_spelled`.
use Rattle.std.proofs.Common.{◌≡◌, map, length, arith}
use Rattle.std.proofs.lemmas.Option.{slice_get-get_or}
use Rattle.go_ast.specs.SourceFile.{source_of}
use Rattle.refs_binding.proofs.Adding.{below_none, below_next}
use Rattle.refs_uses.proofs.UsedAbroad.{IsSpelledRank, one_place, all_places}
use Rattle.refs_uses.proofs.qualified_abroad.add_all_spelled.Goals as goal

pub loop-k-init : goal.loop-k-init
loop-k-init c = below_none (IsSpelledRank (map source_of c.args.files.now) c.args.name.now c.args.places.now) c.args.spots.now.items

pub loop-k-preserved : goal.loop-k-preserved
loop-k-preserved c =
    let files = map source_of c.args.files.now in
    let name = c.args.name.now in
    let places = c.args.places.now in
    let k = c.loop-k.k in
    below_next (IsSpelledRank files name places) c.args.spots.now.items c.loop-k.spots.items c.add_spelled.new.spots.items k c.loop-k.invariant
    (one_place files name places k _ c.loop-k.spots.items c.add_spelled.new.spots.items (slice_get-get_or places k _ (omega arith))
    c.in_ok-add_spelled.ensures)

pub returns : goal.returns
returns c =
    let e : c.loop-k.k ≡ length c.args.places.now = omega arith in
    all_places (map source_of c.args.files.now) c.args.name.now c.args.places.now c.loop-k.k c.args.spots.now.items c.loop-k.spots.items e c.loop-k.invariant
