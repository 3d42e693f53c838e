-- None, where none is finished; else one more unit, and the table at the end.
use Rattle.std.proofs.Common.{◌≡◌, ℕ, length, arith, sym, subst}
use Rattle.std.proofs.lemmas.Result.{IfOk-weaker}
use Rattle.base_files.specs.Packages.{package_paths}
use Rattle.base_files.specs.Workspace.{Workspace}
use Rattle.workspace_graph.proofs.Filled.{ok_both}
use Rattle.build_carry.specs.Carried.{IsCarried}
use Rattle.build_carry.proofs.Carrying.{AreKept, kept_more, kept_all}
use Rattle.build_carry.proofs.carried.carried_units.Goals as goal

pub none_carried-requires : goal.none_carried-requires
none_carried-requires c = c.is_empty.ensures.0 c.if-is_empty.true

pub returns-then-is_empty : goal.returns-then-is_empty
returns-then-is_empty c =
    let v = c.args.before.now in
    let old = c.args.finished.now in
    let w = c.args.after.now in
    IfOk-weaker c.none_carried.result (λ table. (x : Workspace) → IsCarried x old w table) (IsCarried v old w) (λ table right. right v) c.none_carried.ensures

pub loop-number-preserved : goal.loop-number-preserved
loop-number-preserved c =
    rw c.in_ok-push.ensures.ok (kept_more c.args.before.now c.args.finished.now c.args.after.now c.loop-number.number c.loop-number.units
    c.in_ok-unit.unit c.in_ok-unit.ensures c.loop-number.invariant)

pub returns : goal.returns
returns c =
    let v = c.args.before.now in
    let old = c.args.finished.now in
    let w = c.args.after.now in
    let all : c.loop-number.number ≡ length (package_paths w) =
    omega (arith, c.loop-number-test.false, c.loop-number.auto.number-end, c.len-number-end.ensures) in
    let kept = subst (λ (k : ℕ). AreKept v old w k c.loop-number.units) all c.loop-number.invariant in
    ok_both c.of.result (λ t is also. subst (IsCarried v old w) (sym is) (kept_all v old w c.loop-number.units kept)) c.of.ensures c.of.ensures
