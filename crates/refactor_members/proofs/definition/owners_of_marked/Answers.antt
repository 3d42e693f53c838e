-- The answers to the goals of `definition::owners_of_marked`.
use Rattle.std.proofs.Common.{◌≡◌, length, subst, arith}
use Rattle.base_files.specs.Packages.{package_paths}
use Rattle.refs_binding.specs.Packages.{HoldsOfEach}
use Rattle.refs_binding.specs.Workspaces.{known_in}
use Rattle.refs_binding.proofs.Each.{none_yet, one_more}
use Rattle.refactor_members.specs.Owning.{AreOwnersIfMarked}
use Rattle.refactor_members.proofs.definition.owners_of_marked.Goals as goal

pub loop-number-init : goal.loop-number-init
loop-number-init c =
    none_yet (AreOwnersIfMarked c.args.workspace.now.graph (known_in c.args.workspace.now.findings) c.args.marks.now) c.new-all.result.items
    c.new-all.ensures.items

pub owners_if_marked-requires : goal.owners_if_marked-requires
owners_if_marked-requires c = record { in_range = omega arith }

pub loop-number-preserved : goal.loop-number-preserved
loop-number-preserved c =
    one_more (AreOwnersIfMarked c.args.workspace.now.graph (known_in c.args.workspace.now.findings) c.args.marks.now) c.loop-number.number
    c.loop-number.all.items c.push.new.self.items _ c.in_ok-push.ensures.items c.in_ok-owners_if_marked.ensures c.loop-number.invariant

pub returns : goal.returns
returns c =
    let w = c.args.workspace.now.graph in
    let end : c.loop-number.number ≡ length (package_paths w) = omega arith in
    subst (λ n. HoldsOfEach (AreOwnersIfMarked w (known_in c.args.workspace.now.findings) c.args.marks.now) n c.loop-number.all.items) end
    c.loop-number.invariant
