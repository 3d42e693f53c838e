-- The answers to the goals of `packages::read_among`.
use Rattle.std.proofs.Common.{◌≡◌, ◌<◌, ◌+◌, length, sym, subst, ◌∙◌, arith}
use Rattle.std.specs.Prelude.{slice_index_or}
use Rattle.refs_binding.specs.Workspaces.{known_in}
use Rattle.workspace_check.proofs.PackageFiles.{at_rank}
use Rattle.refactor_follow.specs.FirstConflicts.{IsFirstAmong}
use Rattle.refactor_follow.specs.MoveReadings.{MarksAmong}
use Rattle.refactor_follow.proofs.Readings.{next_marked, none_marked}
use Rattle.refactor_follow.proofs.Steps.{next_among, none_among}
use Rattle.refactor_follow.proofs.Whole.{read_at}
use Rattle.refactor_follow.proofs.packages.read_among.Goals as goal

pub loop-i-init : goal.loop-i-init
loop-i-init c =
    let w = c.args.workspace.now.graph in
    let known = known_in c.args.workspace.now.findings in
    let path = c.args.new.path.now in
    let h = c.in_ok-uses.ensures in (
      none_among w known path c.args.new.name.now c.args.numbers.now,
      none_marked w known path c.args.numbers.now c.len.result c.in_ok-uses.uses.items h,
      h.size ∙ c.len.ensures,
    )

pub read_package-requires : goal.read_package-requires
read_package-requires c =
    let xs = c.args.numbers.now in
    let i = c.loop-i.i in
    c.requires (slice_index_or xs i 0) (at_rank xs i (slice_index_or xs i 0) (read_at xs i c.loop-i-test.true))

pub set-requires : goal.set-requires
set-requires c =
    let xs = c.args.numbers.now in
    let i = c.loop-i.i in
    let lt = c.requires (slice_index_or xs i 0) (at_rank xs i (slice_index_or xs i 0) (read_at xs i c.loop-i-test.true)) in
    subst (λ n. slice_index_or xs i 0 < n) (sym c.loop-i.invariant.2) lt

pub loop-i-preserved : goal.loop-i-preserved
loop-i-preserved c =
    let w = c.args.workspace.now.graph in
    let known = known_in c.args.workspace.now.findings in
    let xs = c.args.numbers.now in
    let i = c.loop-i.i in
    let path = c.args.new.path.now in
    let name = c.args.new.name.now in
    let number = slice_index_or xs i 0 in
    let at = read_at xs i c.loop-i-test.true in (
      subst (IsFirstAmong w known path name xs (i + 1)) (sym c.earlier-conflict.ensures)
          (next_among w known path name xs i number at c.loop-i.conflict c.in_ok-found.found.conflict c.loop-i.invariant.0 c.in_ok-found.ensures.conflict),
      next_marked w known path xs i number at c.loop-i.uses.items c.set.new.uses.items c.in_ok-found.found.rows.items c.loop-i.invariant.1 c.set.ensures
          c.in_ok-found.ensures.uses,
      c.set.ensures.size ∙ c.loop-i.invariant.2,
    )

pub returns-clause-conflict : goal.returns-clause-conflict
returns-clause-conflict c =
    let xs = c.args.numbers.now in
    let end : c.loop-i.i ≡ length xs = omega (arith, c.loop-i-test.false, c.loop-i.auto.i-end) in
    subst (λ n. IsFirstAmong c.args.workspace.now.graph (known_in c.args.workspace.now.findings) c.args.new.path.now c.args.new.name.now xs n c.loop-i.conflict)
    end c.loop-i.invariant.0

pub returns-clause-uses : goal.returns-clause-uses
returns-clause-uses c =
    let xs = c.args.numbers.now in
    let end : c.loop-i.i ≡ length xs = omega (arith, c.loop-i-test.false, c.loop-i.auto.i-end) in
    subst (λ n. MarksAmong c.args.workspace.now.graph (known_in c.args.workspace.now.findings) c.args.new.path.now xs n c.loop-i.uses.items)
    end c.loop-i.invariant.1
