-- The answers to the goals of `reuse::have_same_links`.
use Rattle.std.proofs.Common.{◌≡◌, [], length, sym, ◌∙◌, arith}
use Rattle.std.proofs.lemmas.List.{same_lists, get_or_default}
use Rattle.workspace_check.proofs.reuse.have_same_links.Goals as goal

pub returns : goal.returns
returns c = λ t.
    let before = c.args.before.now in
    let after = c.args.after.now in
    let size : length before ≡ length after = sym c.len.ensures ∙ c.if-len.false ∙ c.len-2.ensures in
    same_lists before after size (λ k d within.
    get_or_default before k d [] within ∙ c.loop-number.invariant k (omega (arith, c.loop-number-test.false, size)) ∙
    get_or_default after k [] d (omega (arith, size)))
