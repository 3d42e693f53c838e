-- One package further.
use Rattle.std.proofs.Common.{◌≡◌, length, subst, arith}
use Rattle.base_files.specs.Packages.{package_paths}
use Rattle.refs_binding.specs.Packages.{HoldsOfEach, IsTableOf}
use Rattle.refs_binding.specs.Workspaces.{known_in}
use Rattle.refs_binding.proofs.Each.{none_yet, one_more}
use Rattle.refs_binding.proofs.packages.all_tables.Goals as goal

pub loop-number-init : goal.loop-number-init
loop-number-init c =
    none_yet (IsTableOf c.args.workspace.now.graph (known_in c.args.workspace.now.findings) c.args.all.now) c.new-tables.result.items c.new-tables.ensures.items

pub loop-number-preserved : goal.loop-number-preserved
loop-number-preserved c =
    one_more (IsTableOf c.args.workspace.now.graph (known_in c.args.workspace.now.findings) c.args.all.now) c.loop-number.number c.loop-number.tables.items
    c.push.new.self.items _ c.in_ok-push.ensures.items c.in_ok-table_of.ensures c.loop-number.invariant

pub returns : goal.returns
returns c =
    let w = c.args.workspace.now.graph in
    let end : c.loop-number.number ≡ length (package_paths w) = omega arith in
    subst (λ n. HoldsOfEach (IsTableOf w (known_in c.args.workspace.now.findings) c.args.all.now) n c.loop-number.tables.items) end c.loop-number.invariant
