-- One package further.
use Rattle.std.proofs.Common.{◌≡◌, length, subst, arith}
use Rattle.base_files.specs.Packages.{package_paths}
use Rattle.refs_binding.specs.Packages.{HoldsOfEach, IsSeenBy}
use Rattle.refs_binding.specs.Workspaces.{known_in}
use Rattle.refs_binding.proofs.Each.{none_yet, one_more}
use Rattle.refs_binding.proofs.packages.all_seen.Goals as goal

pub loop-number-init : goal.loop-number-init
loop-number-init c = none_yet (IsSeenBy c.args.workspace.now.graph (known_in c.args.workspace.now.findings)) c.new-all.result.items c.new-all.ensures.items

pub loop-number-preserved : goal.loop-number-preserved
loop-number-preserved c =
    one_more (IsSeenBy c.args.workspace.now.graph (known_in c.args.workspace.now.findings)) c.loop-number.number c.loop-number.all.items c.push.new.self.items _
    c.in_ok-push.ensures.items c.in_ok-seen_by.ensures c.loop-number.invariant

pub returns : goal.returns
returns c =
    let w = c.args.workspace.now.graph in
    let end : c.loop-number.number ≡ length (package_paths w) = omega arith in
    subst (λ n. HoldsOfEach (IsSeenBy w (known_in c.args.workspace.now.findings)) n c.loop-number.all.items) end c.loop-number.invariant
