-- The answers to the goals of `member_uses::add_all_members`.
use Rattle.std.proofs.Common.{◌≡◌, length, refl, sym, subst, arith}
use Rattle.std.specs.Prelude.{map}
use Rattle.std.specs.Global.{Vec}
use Rattle.types_expr.specs.declared.found.MemberUse.{MemberUse as FoundUse}
use Rattle.std.proofs.lemmas.Option.{slice_get_read}
use Rattle.types_expr.specs.Found.{use_of}
use Rattle.types_declared.specs.PackageView.{package_of}
use Rattle.refs_binding.specs.Members.{definitions_seen, IsMemberUseAmong}
use Rattle.refs_binding.specs.Steps.{AddsPlaces}
use Rattle.refs_binding.proofs.Adding.{below_none, below_next}
use Rattle.refs_binding.proofs.MemberParts.{seen_definitions}
use Rattle.refs_binding.proofs.MemberPlaces.{IsFileUse, one_file, all_members}
use Rattle.refs_uses.proofs.member_uses.add_all_members.Goals as goal

pub loop-file-init : goal.loop-file-init
loop-file-init c = below_none (IsFileUse (definitions_seen c.args.of.now.unit c.args.of.now.own.now) (package_of c.args.of.now.unit) c.args.declaration.now
    c.args.of.now.members.now)
    c.args.found.now.items

pub loop-file-preserved : goal.loop-file-preserved
loop-file-preserved c =
    let ds = definitions_seen c.args.of.now.unit c.args.of.now.own.now in
    let p = package_of c.args.of.now.unit in
    let members = c.args.of.now.members.now in
    let d = c.args.declaration.now in
    let file = c.loop-file.file in
    let v = c.index-of-file.result in
    let a = c.loop-file.found.items in
    let b = c.add_file_members.new.found.items in
    below_next (IsFileUse ds p d members) c.args.found.now.items a b file c.loop-file.invariant
    (one_file ds p d members file v a b (slice_get_read members (length members) file v refl (omega arith) c.index-of-file.is)
    (subst (λ (x : Vec FoundUse). AddsPlaces a b (IsMemberUseAmong ds p file d (map use_of x.items))) (sym c.index-of-file.is)
    (subst (λ l. AddsPlaces a b (IsMemberUseAmong ds p file d (map use_of l))) c.deref.ensures.value c.in_ok-add_file_members.ensures)))

pub returns : goal.returns
returns c =
    let own = c.args.of.now.own.now in
    let e : c.loop-file.file ≡ length c.args.of.now.members.now = omega arith in
    all_members (package_of c.args.of.now.unit) c.is_well_formed.ensures c.has_one_world.ensures (definitions_seen c.args.of.now.unit own)
    (seen_definitions c.args.of.now.unit own c.requires.own) c.args.of.now.members.now c.requires.members
    c.args.declaration.now c.loop-file.file c.args.found.now.items c.loop-file.found.items e c.loop-file.invariant
