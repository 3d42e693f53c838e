-- One package more.
use Rattle.std.proofs.Common.{◌≡◌, ℕ, [], ◌∷◌, List, Some, slice_get, sym, subst, arith}
use Rattle.std.proofs.Common.{length-append}
use Rattle.base_files.specs.Packages.{package_paths}
use Rattle.history_objects.specs.ComparedObjects.{IsComparedObject}
use Rattle.history_objects.proofs.OneObject.{compared_more}
use Rattle.history_objects.proofs.comparing.compared.Goals as goal

pub loop-number-preserved : goal.loop-number-preserved
loop-number-preserved c =
    let before = c.args.before.now in
    let view = c.args.view.now in
    let list = c.loop-number.items.items in
    let one = c.in_ok-compared_at.field-0 in
    let was = c.loop-number.invariant in
    let here = subst (λ (n : ℕ). (p : List ℕ) → slice_get (package_paths view.snapshot.files) n ≡ Some p → IsComparedObject before view p one) (sym was.0)
    c.in_ok-compared_at.ensures in
    rw c.in_ok-push.ensures.items (omega (arith, length-append list (one ∷ []), was.0), compared_more before view list one was.1 here)
