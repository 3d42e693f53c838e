-- No package was passed at first, and all at the end.
use Rattle.std.proofs.Common.{◌≡◌, List, ℕ, Bor, length, subst, sym, arith}
use Rattle.base_files.specs.Packages.{package_paths}
use Rattle.workspace_graph.specs.Borrows.{names}
use Rattle.build_carry.specs.Changes.{ListsDiffering}
use Rattle.build_carry.proofs.ComparedPackages.{differing_begin}
use Rattle.build_carry.proofs.differing.differing.Goals as goal

pub loop-number-init : goal.loop-number-init
loop-number-init c =
    subst (λ (l : List (Bor (List ℕ))). ListsDiffering c.args.before.now c.args.after.now 0 (names l)) (sym c.new-folders.ensures.items)
    (differing_begin c.args.before.now c.args.after.now)

pub returns : goal.returns
returns c =
    let end : c.loop-number.number ≡ length (package_paths c.args.before.now) = omega arith in
    subst (λ n. ListsDiffering c.args.before.now c.args.after.now n (names c.loop-number.folders.items)) end c.loop-number.invariant
