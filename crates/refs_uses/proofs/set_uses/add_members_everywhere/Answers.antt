-- The answers to the goals of `set_uses::add_members_everywhere`.
use Rattle.std.proofs.Common.{◌≡◌, ℕ, length, arith}
use Rattle.std.specs.Prelude.{None}
use Rattle.base_files.specs.Packages.{package_paths}
use Rattle.refs_binding.specs.Workspaces.{known_in, IsUseAt}
use Rattle.refs_binding.proofs.Adding.{below_none, below_next}
use Rattle.refs_uses.specs.SoughtMembers.{IsPlaceOfSome}
use Rattle.refs_uses.proofs.SomeMembers.{all_of_some}
use Rattle.refs_uses.proofs.set_uses.add_members_everywhere.Goals as goal

pub loop-number-init : goal.loop-number-init
loop-number-init c =
    below_none (λ (n : ℕ). IsPlaceOfSome c.args.sought.now.set.now (λ d. IsUseAt c.args.workspace.now.graph (known_in c.args.workspace.now.findings) d None n))
    c.args.spots.now.items

pub add_members_at-requires-clause-numbered : goal.add_members_at-requires-clause-numbered
add_members_at-requires-clause-numbered c = record { in_range = omega arith }

pub loop-number-preserved : goal.loop-number-preserved
loop-number-preserved c =
    below_next (λ (n : ℕ). IsPlaceOfSome c.args.sought.now.set.now (λ d. IsUseAt c.args.workspace.now.graph (known_in c.args.workspace.now.findings) d None n))
    c.args.spots.now.items c.loop-number.spots.items c.add_members_at.new.spots.items c.loop-number.number c.loop-number.invariant
    c.in_ok-add_members_at.ensures

pub returns : goal.returns
returns c =
    let w = c.args.workspace.now.graph in
    let e : c.loop-number.number ≡ length (package_paths w) = omega arith in
    all_of_some w (known_in c.args.workspace.now.findings) c.args.sought.now.set.now c.requires.members c.loop-number.number c.args.spots.now.items
    c.loop-number.spots.items e c.loop-number.invariant
