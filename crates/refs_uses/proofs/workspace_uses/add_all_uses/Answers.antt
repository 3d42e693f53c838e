-- The answers to the goals of `workspace_uses::add_all_uses`.
use Rattle.std.proofs.Common.{◌≡◌, length, arith}
use Rattle.go_scope.specs.Named.{name_value}
use Rattle.base_files.specs.Packages.{package_paths}
use Rattle.refs_binding.specs.Workspaces.{known_in, IsUseAt}
use Rattle.refs_binding.proofs.Adding.{below_none, below_next}
use Rattle.refs_binding.proofs.Exporting.{all_uses}
use Rattle.refs_uses.proofs.workspace_uses.add_all_uses.Goals as goal

pub loop-number-init : goal.loop-number-init
loop-number-init c =
    below_none (IsUseAt c.args.workspace.now.graph (known_in c.args.workspace.now.findings) c.args.sought.now.declaration.now
    (name_value c.args.sought.now.name))
    c.args.spots.now.items

pub add_if_used-requires-clause-numbered : goal.add_if_used-requires-clause-numbered
add_if_used-requires-clause-numbered c = record { in_range = omega arith }

pub loop-number-preserved : goal.loop-number-preserved
loop-number-preserved c =
    below_next (IsUseAt c.args.workspace.now.graph (known_in c.args.workspace.now.findings) c.args.sought.now.declaration.now
    (name_value c.args.sought.now.name))
    c.args.spots.now.items
    c.loop-number.spots.items c.add_if_used.new.spots.items c.loop-number.number c.loop-number.invariant c.in_ok-add_if_used.ensures

pub returns : goal.returns
returns c =
    let w = c.args.workspace.now.graph in
    let e : c.loop-number.number ≡ length (package_paths w) = omega arith in
    all_uses w (known_in c.args.workspace.now.findings) c.args.sought.now.declaration.now (name_value c.args.sought.now.name) c.requires.name
    c.loop-number.number
    c.args.spots.now.items c.loop-number.spots.items e c.loop-number.invariant
