-- The entry at the key's place is left out if it is that of the key.
use Rattle.std.proofs.Common.{◌≡◌, ◌+◌, ◌-◌, ◌++◌, length, take, drop, ap, sym, ◌∙◌, add-one}
use Rattle.std.proofs.lemmas.List.{take_rest}
use Rattle.std.proofs.lemmas.Result.{IfOk-weaker}
use Rattle.base_chunks.specs.Entries.{without}
use Rattle.base_chunks.proofs.Standing.{without_there, without_gap}
use Rattle.base_chunks.proofs.entries.without_key.Goals as goal

pub returns-then-is_at : goal.returns-then-is_at
returns-then-is_at g c =
    let es = c.args.entries.now in
    let m = c.place-at.result in
    IfOk-weaker c.copies_of_both.result
    (λ new. new.items ≡ take m es ++ take (length es - (m + 1)) (drop (m + 1) es))
    (λ new. new.items ≡ without g.K.Ord.cmp c.args.key.now es)
    (λ new made.
    made ∙ ap (λ fs. take m es ++ fs) (take_rest es (m + 1) ∙ ap (λ j. drop j es) (add-one m))
    ∙ sym (without_there g.K.Ord.cmp g.met.K.Ord.total c.args.key.now es m c.requires c.place-at.ensures.front (sym c.if-is_at.ensures.there)))
    c.copies_of_both.ensures

pub returns-else-is_at : goal.returns-else-is_at
returns-else-is_at g c =
    let es = c.args.entries.now in
    let m = c.place-at.result in
    IfOk-weaker c.copies_of_both-else-is_at.result
    (λ new. new.items ≡ take m es ++ take (length es - m) (drop m es))
    (λ new. new.items ≡ without g.K.Ord.cmp c.args.key.now es)
    (λ new made.
    made ∙ ap (λ fs. take m es ++ fs) (take_rest es m)
    ∙ sym (without_gap g.K.Ord.cmp g.met.K.Ord.total c.args.key.now es m c.requires c.place-at.ensures.front c.place-at.ensures.back
    (sym c.if-is_at.ensures.there)))
    c.copies_of_both-else-is_at.ensures
