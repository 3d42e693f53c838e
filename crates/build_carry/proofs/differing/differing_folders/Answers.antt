-- No package was passed at first, and all at the end.
use Rattle.std.proofs.Common.{◌≡◌, length, subst, arith}
use Rattle.base_files.specs.Packages.{package_paths}
use Rattle.workspace_graph.specs.Borrows.{names}
use Rattle.build_carry.specs.Changes.{ListsComing}
use Rattle.build_carry.proofs.ComparedPackages.{listed_begin, all_listed}
use Rattle.build_carry.proofs.differing.differing_folders.Goals as goal

pub loop-number-init : goal.loop-number-init
loop-number-init c = listed_begin c.args.before.now c.args.after.now (names c.in_ok-folders.folders.items) c.in_ok-folders.ensures

pub returns : goal.returns
returns c =
    let end : c.loop-number.number ≡ length (package_paths c.args.after.now) = omega arith in
    all_listed c.args.before.now c.args.after.now (names c.loop-number.folders.items)
    (subst (λ n. ListsComing c.args.before.now c.args.after.now n (names c.loop-number.folders.items)) end c.loop-number.invariant)
