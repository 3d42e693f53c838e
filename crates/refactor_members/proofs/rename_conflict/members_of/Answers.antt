-- The answers to the goals of `rename_conflict::members_of`.
use Rattle.std.proofs.Common.{◌≡◌, List, [], arith, refl, rules, subst, sym}
use Rattle.std.specs.Prelude.{Option, Contains}
use Rattle.std.proofs.lemmas.List.{take_all}
use Rattle.std.proofs.lemmas.List.Elements.{Contains-get_or}
use Rattle.refs_binding.specs.declared.declaration.Declaration.{Declaration}
use Rattle.refs_binding.specs.Uses.{IsCheckedPackage}
use Rattle.refs_binding.specs.Workspaces.{known_in}
use Rattle.refactor_members.specs.Owning.{KnowsHomeOf}
use Rattle.refactor_members.specs.Renames.{AreMembersOf}
use Rattle.refactor_members.specs.declared.definition.MemberOwners.{MemberOwners}
use Rattle.refactor_members.proofs.MemberLists.{member_next, no_members}
use Rattle.refactor_members.proofs.rename_conflict.members_of.Goals as goal

pub loop-declaration-init : goal.loop-declaration-init
loop-declaration-init c =
    let empty : c.in_ok-members.members.items ≡ [] = search rules in
    no_members (IsCheckedPackage c.args.workspace.now.graph (known_in c.args.workspace.now.findings)) c.in_ok-members.members.items empty

pub definition_of-definition-requires : goal.definition_of-definition-requires
definition_of-definition-requires c =
    let d = c.declaration-item.result in
    let among = subst (Contains c.args.set.now) (sym c.declaration-item.is)
    (Contains-get_or c.args.set.now c.loop-declaration.declaration-index d c.loop-declaration-test.true) in
    subst (λ (all : List (Option MemberOwners)). KnowsHomeOf c.args.workspace.now.graph (known_in c.args.workspace.now.findings) all d)
    (sym c.deref.ensures.value) (c.in_ok-owners.ensures d among)

pub loop-declaration-preserved : goal.loop-declaration-preserved
loop-declaration-preserved c =
    member_next (IsCheckedPackage c.args.workspace.now.graph (known_in c.args.workspace.now.findings)) c.args.set.now c.loop-declaration.declaration-index
    c.declaration-item.result _ c.loop-declaration.members.items c.push.new.self.items c.loop-declaration-test.true c.declaration-item.is
    c.loop-declaration.invariant c.in_ok-push.ensures.items refl c.definition_of-definition.ensures

pub returns : goal.returns
returns c =
    subst (λ (l : List Declaration). AreMembersOf (IsCheckedPackage c.args.workspace.now.graph (known_in c.args.workspace.now.findings)) l
    c.loop-declaration.members.items)
    (take_all c.loop-declaration.declaration-index c.args.set.now (omega (arith, c.loop-declaration-test.false))) c.loop-declaration.invariant
