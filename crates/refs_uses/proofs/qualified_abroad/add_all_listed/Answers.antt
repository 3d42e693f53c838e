-- The answers to the goals of `qualified_abroad::add_all_listed`.
use Rattle.std.proofs.Common.{◌≡◌, map, length, refl, arith}
use Rattle.std.proofs.lemmas.Option.{slice_get_read}
use Rattle.go_ast.specs.SourceFile.{source_of}
use Rattle.refs_binding.proofs.Adding.{below_none, below_next}
use Rattle.refs_uses.proofs.UsedAbroad.{IsUnderRank, one_list, all_lists}
use Rattle.refs_uses.proofs.qualified_abroad.add_all_listed.Goals as goal

pub loop-k-init : goal.loop-k-init
loop-k-init c = below_none (IsUnderRank (map source_of c.args.files.now) c.args.name.now c.args.path.now c.args.lists.now) c.args.spots.now.items

pub loop-k-preserved : goal.loop-k-preserved
loop-k-preserved c =
    let files = map source_of c.args.files.now in
    let name = c.args.name.now in
    let path = c.args.path.now in
    let lists = c.args.lists.now in
    let k = c.loop-k.k in
    let x = c.index-lists-k.result in
    below_next (IsUnderRank files name path lists) c.args.spots.now.items c.loop-k.spots.items c.add_listed.new.spots.items k c.loop-k.invariant
    (one_list files name path lists k x c.loop-k.spots.items c.add_listed.new.spots.items
    (slice_get_read lists (length lists) k x refl (omega arith) c.index-lists-k.is) c.in_ok-add_listed.ensures)

pub returns : goal.returns
returns c =
    let e : c.loop-k.k ≡ length c.args.lists.now = omega arith in
    all_lists (map source_of c.args.files.now) c.args.name.now c.args.path.now c.args.lists.now c.loop-k.k c.args.spots.now.items c.loop-k.spots.items e
    c.loop-k.invariant
