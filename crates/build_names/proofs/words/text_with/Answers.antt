-- The answers to the goals of `words::text_with`.
use Rattle.std.proofs.Common.{◌≡◌, ◌≤◌, ◌++◌, [], length, refl, subst, arith}
use Rattle.std.specs.List.{between}
use Rattle.build_names.specs.Words.{word_with, words_with}
use Rattle.build_names.proofs.Steps.{at_end}
use Rattle.build_names.proofs.words.text_with.Goals as goal

-- behind the last byte the last word is added
pub returns : goal.returns
returns c =
    let t = c.args.text.now in
    let old = c.args.symbols.now.old.items in
    let new = c.args.symbols.now.new.items in
    let was = c.loop-at.renamed.items in
    let now = c.push_word.new.text.items in
    let word = between c.loop-at.start (length t) t in
    let past : length t ≤ c.loop-at.at = omega (arith, c.loop-at-test.false) in
    let within : c.loop-at.at ≤ length t = omega (arith, c.loop-at.auto.at-end) in
    let added : now ≡ was ++ word_with old new word =
    subst (λ o. now ≡ was ++ word_with o new word) c.deref.ensures.value
    (subst (λ n. now ≡ was ++ word_with c.deref.result.now n word) c.deref-2.ensures.value c.in_ok-push_word.ensures) in
    at_end old new t c.loop-at.start c.loop-at.at was now word (words_with old new [] t) past refl added c.loop-at.invariant.0 within c.loop-at.invariant.1
