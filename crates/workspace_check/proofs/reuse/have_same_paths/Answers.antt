-- The answers to the goals of `reuse::have_same_paths`.
use Rattle.std.proofs.Common.{◌≡◌, length, sym, ◌∙◌, arith}
use Rattle.std.proofs.lemmas.List.{same_lists}
use Rattle.std.proofs.lemmas.Option.{same_Some, slice_get-get_or}
use Rattle.base_files.specs.Packages.{package_paths}
use Rattle.workspace_check.proofs.reuse.have_same_paths.Goals as goal

pub returns : goal.returns
returns c = λ t.
    let before = package_paths c.args.before.now in
    let after = package_paths c.args.after.now in
    let size : length before ≡ length after = sym c.len.ensures ∙ c.if-len.false ∙ c.len-2.ensures in
    same_lists before after size (λ k d within.
    same_Some _ _ (sym (slice_get-get_or before k d within) ∙ c.loop-number.invariant k (omega (arith, c.loop-number-test.false, size)) ∙
    slice_get-get_or after k d (omega (arith, size))))
