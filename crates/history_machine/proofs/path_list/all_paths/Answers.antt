-- One path more.
use Rattle.std.proofs.Common.{ℕ, ◌≤◌, List, [], ◌∷◌, ◌++◌, take, sym, ap, subst, ◌∙◌}
use Rattle.std.proofs.lemmas.List.{take_all, take_more}
use Rattle.std.proofs.lemmas.Option.{get_or_from_slice_get, slice_get_within}
use Rattle.base_files.specs.Packages.{package_paths}
use Rattle.history_machine.proofs.path_list.all_paths.Goals as goal

pub loop-number-preserved : goal.loop-number-preserved
loop-number-preserved c =
    let ys : List (List ℕ) = package_paths c.args.files.now in
    let n = c.loop-number.number in
    let path : List ℕ = c.in_ok-path.path in
    let at = c.in_ok-path.ensures in
    c.in_ok-push.ensures.items ∙ ap (λ (xs : List (List ℕ)). xs ++ path ∷ []) c.loop-number.invariant
    ∙ ap (λ (x : List ℕ). take n ys ++ x ∷ []) (sym (get_or_from_slice_get ys n path path at)) ∙ sym (take_more ys n path (slice_get_within ys n path at))

pub returns : goal.returns
returns c =
    let n = c.loop-number.number in
    c.loop-number.invariant ∙ take_all n (package_paths c.args.files.now) (subst (λ (m : ℕ). m ≤ n) c.len-number-end.ensures c.loop-number-test.false)
