-- The answers to the goals of `member_name::have_only_name`.
use Rattle.std.proofs.Common.{arith, subst}
use Rattle.std.specs.Prelude.{Contains, List}
use Rattle.std.proofs.lemmas.List.{take_all}
use Rattle.types_declared.specs.Package.{Package}
use Rattle.refs_binding.specs.declared.declaration.Declaration.{Declaration}
use Rattle.refs_binding.specs.Uses.{IsCheckedPackage}
use Rattle.refs_binding.specs.Workspaces.{known_in}
use Rattle.refs_uses.specs.MemberNames.{IsOnlyName}
use Rattle.refs_uses.proofs.NamesOfAll.{all_passed_have, none_has_yet}
use Rattle.refs_uses.proofs.member_name.have_only_name.Goals as goal

pub loop-member-init : goal.loop-member-init
loop-member-init c = none_has_yet c.args.workspace.now.graph (known_in c.args.workspace.now.findings) c.args.name.now

pub loop-member-preserved : goal.loop-member-preserved
loop-member-preserved c =
    all_passed_have c.args.workspace.now.graph (known_in c.args.workspace.now.findings) c.args.name.now c.args.set.now c.loop-member.member-index
    c.member-item.result c.loop-member-test.true c.member-item.is c.loop-member.invariant (c.has_only_name.ensures c.if-not-has_only_name.false)

pub returns : goal.returns
returns c =
    let all = take_all c.loop-member.member-index c.args.set.now (omega (arith, c.loop-member-test.false)) in
    λ told. subst (λ (l : List Declaration). (d : Declaration) → Contains l d → (p : Package) →
    IsCheckedPackage c.args.workspace.now.graph (known_in c.args.workspace.now.findings) p → IsOnlyName p d c.args.name.now) all c.loop-member.invariant
