-- The answers to the goals of `declared_places::declared_places`.
use Rattle.std.proofs.Common.{◌≡◌, length, subst, arith}
use Rattle.base_files.specs.Packages.{package_paths}
use Rattle.refs_binding.specs.Workspaces.{known_in}
use Rattle.refs_places.specs.DeclaredPlaces.{AreDeclaredBelow}
use Rattle.refs_places.proofs.Declared.{no_packages, more_packages}
use Rattle.refs_places.proofs.declared_places.declared_places.Goals as goal

pub loop-number-init : goal.loop-number-init
loop-number-init c = no_packages c.args.packages.now.workspace.now.graph (known_in c.args.packages.now.workspace.now.findings) c.new-all.result.items
    c.new-all.ensures.items

pub loop-number-preserved : goal.loop-number-preserved
loop-number-preserved c =
    more_packages c.args.packages.now.workspace.now.graph (known_in c.args.packages.now.workspace.now.findings) c.loop-number.number
    c.loop-number.all.items c.push.new.self.items
    c.in_ok-places_at.field-0
    c.in_ok-places_at.ensures c.in_ok-push.ensures.items c.loop-number.invariant

pub returns : goal.returns
returns c =
    let w = c.args.packages.now.workspace.now.graph in
    let end : c.loop-number.number ≡ length (package_paths w) = omega arith in
    subst (λ n. AreDeclaredBelow w (known_in c.args.packages.now.workspace.now.findings) n c.loop-number.all.items) end c.loop-number.invariant
