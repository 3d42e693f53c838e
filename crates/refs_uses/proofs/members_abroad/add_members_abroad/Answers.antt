-- The answers to the goals of `members_abroad::add_members_abroad`.
use Rattle.std.proofs.Common.{◌≡◌, List, sym, subst}
use Rattle.std.specs.Prelude.{Contains}
use Rattle.std.proofs.lemmas.Result.{on_ok_weaker}
use Rattle.refs_binding.specs.declared.declaration.Declaration.{Declaration}
use Rattle.refs_binding.specs.Binding.{BindsByMember}
use Rattle.refs_binding.specs.Steps.{AddsPlaces, UsesIn}
use Rattle.refs_binding.specs.Workspaces.{known_in}
use Rattle.refs_binding.proofs.Units.{package_there}
use Rattle.refs_uses.specs.MemberNames.{IsOnlyName}
use Rattle.refs_uses.specs.SoughtMembers.{IsPlaceOfSome}
use Rattle.refs_uses.proofs.MembersUsed.{members_used}
use Rattle.refs_uses.proofs.SomeMembers.{of_one}
use Rattle.refs_uses.proofs.UsesOfSome.{only_one}
use Rattle.refs_uses.proofs.members_abroad.add_members_abroad.Goals as goal

pub add_used_members-requires-clause-named : goal.add_used_members-requires-clause-named
add_used_members-requires-clause-named c = λ d among name found p is.
    let same : d ≡ c.args.sought.now.declaration.now =
    only_one c.args.sought.now.declaration.now d (subst (λ (l : List Declaration). Contains l d) c.from_ref.ensures.value among) in
    subst (λ e. IsOnlyName p e name) (sym same) (c.requires.named name found p is)

pub returns : goal.returns
returns c = on_ok_weaker c.add_used_members.result (λ adds name.
    let w = c.args.at.workspace.now.graph in
    let found = c.args.at.workspace.now.findings in
    let n = c.args.at.number in
    let d = c.args.sought.now.declaration.now in
    let there = package_there w found c.has_no_faults.ensures n c.requires.numbered.in_range in
    let a = c.args.spots.now.items in
    let b = c.add_used_members.new.spots.items in
    let P = λ (e : Declaration). UsesIn there.0 (λ u. BindsByMember there.0 u e) in
    members_used w (known_in found) n there.0 there.1 d c.requires.abroad name a b
    (of_one d P a b (subst (λ (l : List Declaration). AddsPlaces a b (IsPlaceOfSome l P)) c.from_ref.ensures.value (adds there.0 there.1))))
    c.add_used_members.ensures
