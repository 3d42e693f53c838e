-- One path more is the same, and at the end all are.
use Rattle.std.proofs.Common.{◌≡◌, ℕ, ◌≤◌, List, length, get_or, sym, subst, ◌∙◌}
use Rattle.std.proofs.lemmas.List.{take_all, take_more_same}
use Rattle.std.proofs.lemmas.Option.{get_or_from_slice_get, slice_get_within}
use Rattle.base_files.specs.Packages.{package_paths}
use Rattle.history_machine.proofs.path_list.are_all_paths.Goals as goal

pub loop-number-preserved : goal.loop-number-preserved
loop-number-preserved c =
    let xs = c.args.paths.now in
    let ys : List (List ℕ) = package_paths c.args.files.now in
    let n = c.loop-number.number in
    let path : List ℕ = c.index-paths-number.result in
    let at = c.is_path_of.ensures c.if-not-is_path_of.false in
    let same : get_or xs n path ≡ get_or ys n path = sym c.index-paths-number.is ∙ sym (get_or_from_slice_get ys n path path at) in
    take_more_same xs ys n path c.loop-number-test.true (slice_get_within ys n path at) c.loop-number.invariant same

pub returns : goal.returns
returns c = λ t.
    let xs = c.args.paths.now in
    let ys : List (List ℕ) = package_paths c.args.files.now in
    let n = c.loop-number.number in
    let whole : length ys ≤ n = subst (λ (m : ℕ). m ≤ n) (c.if-paths-len.false ∙ c.len.ensures) c.loop-number-test.false in
    sym (take_all n xs c.loop-number-test.false) ∙ c.loop-number.invariant ∙ take_all n ys whole
