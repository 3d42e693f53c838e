-- The answers to the goals of `workspace_uses::add_uses_beyond`.
use Rattle.std.proofs.Common.{◌≡◌, length, arith}
use Rattle.go_scope.specs.Named.{name_value}
use Rattle.base_files.specs.Packages.{package_paths}
use Rattle.refs_binding.specs.Workspaces.{known_in, IsUseAt}
use Rattle.refs_binding.proofs.Adding.{below_none, below_next}
use Rattle.refs_binding.proofs.Exporting.{all_uses}
use Rattle.refs_uses.proofs.workspace_uses.add_uses_beyond.Goals as goal

pub loop-number-init : goal.loop-number-init
loop-number-init c =
    below_none (IsUseAt c.args.read.workspace.now.graph (known_in c.args.read.workspace.now.findings) c.args.sought.now.declaration.now
    (name_value c.args.sought.now.name))
    c.args.spots.now.items

pub loop-number-preserved : goal.loop-number-preserved
loop-number-preserved c =
    below_next (IsUseAt c.args.read.workspace.now.graph (known_in c.args.read.workspace.now.findings) c.args.sought.now.declaration.now
    (name_value c.args.sought.now.name))
    c.args.spots.now.items
    c.loop-number.spots.items c.add_uses_at.new.spots.items c.loop-number.number c.loop-number.invariant c.in_ok-add_uses_at.ensures

pub returns : goal.returns
returns c =
    let w = c.args.read.workspace.now.graph in
    let e : c.loop-number.number ≡ length (package_paths w) = omega arith in
    all_uses w (known_in c.args.read.workspace.now.findings) c.args.sought.now.declaration.now (name_value c.args.sought.now.name) c.requires.sought.name
    c.loop-number.number
    c.args.spots.now.items c.loop-number.spots.items e c.loop-number.invariant
