-- The answers to the goals of `members_abroad::add_known_members`.
use Rattle.std.proofs.Common.{◌≡◌, length, refl, sym, subst, arith}
use Rattle.std.specs.Prelude.{map}
use Rattle.std.specs.Global.{Vec}
use Rattle.std.proofs.lemmas.Option.{slice_get_read}
use Rattle.types_expr.specs.declared.found.MemberUse.{MemberUse as FoundUse}
use Rattle.types_expr.specs.Found.{use_of}
use Rattle.types_info.proofs.OneWorld.{has_one_world}
use Rattle.workspace_check.proofs.OnePackage.{layout_formed, files_in_order}
use Rattle.refs_binding.specs.Members.{definitions_known, IsMemberUseAmong}
use Rattle.refs_binding.specs.Steps.{AddsPlaces}
use Rattle.refs_binding.proofs.Adding.{below_none, below_next}
use Rattle.refs_uses.specs.SoughtMembers.{IsPlaceOfSome}
use Rattle.refs_uses.proofs.SomeMembers.{IsFileUseOfSome, file_some, members_some}
use Rattle.refs_uses.proofs.members_abroad.add_known_members.Goals as goal

pub loop-file-init : goal.loop-file-init
loop-file-init c = λ w known p is named.
    below_none (IsFileUseOfSome (definitions_known c.args.of.now.types) p c.args.sought.now.set.now c.args.of.now.members.now) c.args.spots.now.items

pub loop-file-preserved : goal.loop-file-preserved
loop-file-preserved c = λ w known p is named.
    let ds = definitions_known c.args.of.now.types in
    let members = c.args.of.now.members.now in
    let set = c.args.sought.now.set.now in
    let file = c.loop-file.file in
    let v = c.index-of-file.result in
    let a = c.loop-file.spots.items in
    let b = c.add_file_uses.new.spots.items in
    below_next (IsFileUseOfSome ds p set members) c.args.spots.now.items a b file (c.loop-file.invariant w known p is named)
    (file_some ds p set members file v a b (slice_get_read members (length members) file v refl (omega arith) c.index-of-file.is)
    (subst (λ (x : Vec FoundUse). AddsPlaces a b (IsPlaceOfSome set (λ d. IsMemberUseAmong ds p file d (map use_of x.items)))) (sym c.index-of-file.is)
    (subst (λ l. AddsPlaces a b (IsPlaceOfSome set (λ d. IsMemberUseAmong ds p file d (map use_of l)))) c.deref.ensures.value
    (c.in_ok-add_file_uses.ensures w known p is named))))

pub returns : goal.returns
returns c = λ w known p is named.
    let e : c.loop-file.file ≡ length c.args.of.now.members.now = omega arith in
    let formed = layout_formed w known p.path p is.is_package.is_checked in
    members_some p formed (has_one_world p formed (files_in_order w known p.path p is.is_package.is_checked)) (definitions_known c.args.of.now.types)
    is.definitions
    c.args.of.now.members.now is.members c.args.sought.now.set.now c.loop-file.file c.args.spots.now.items c.loop-file.spots.items e
    (c.loop-file.invariant w known p is named)
