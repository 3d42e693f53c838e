-- The entry stands at the key's place, under the key that was there if there was one.
use Rattle.std.proofs.Common.{◌≡◌, ◌+◌, ◌-◌, ◌∷◌, ◌++◌, length, get_or, take, drop, ap, sym, ◌∙◌, add-one}
use Rattle.std.proofs.lemmas.List.{take_rest}
use Rattle.std.proofs.lemmas.Result.{IfOk-weaker}
use Rattle.std.specs.FinMap.{put}
use Rattle.base_chunks.proofs.Standing.{put_there, put_gap}
use Rattle.base_chunks.proofs.entries.with_entry.Goals as goal

pub returns-in_ok-same : goal.returns-in_ok-same
returns-in_ok-same g c =
    let es = c.args.entries.now in
    let m = c.place-at.result in
    let d = c.index-entries-at.result in
    let key : c.in_ok-same.same ≡ (get_or es m d).0 = c.in_ok-same.ensures in
    let rest : take (length es - (m + 1)) (drop (m + 1) es) ≡ drop (m + 1) es = take_rest es (m + 1) in
    IfOk-weaker c.copies_around.result
    (λ new. new.items ≡ take m es ++ (c.in_ok-same.same, c.args.value) ∷ take (length es - (m + 1)) (drop (m + 1) es))
    (λ new. new.items ≡ put g.K.Ord.cmp c.args.key c.args.value es)
    (λ new made.
    made ∙ (λ i. take m es ++ (key i, c.args.value) ∷ (rest ∙ ap (λ j. drop j es) (add-one m)) i)
    ∙ sym (put_there g.K.Ord.cmp c.args.key c.args.value es m d c.place-at.ensures.front (sym c.if-is_at.ensures.there)))
    c.copies_around.ensures

pub returns-else-is_at : goal.returns-else-is_at
returns-else-is_at g c =
    let es = c.args.entries.now in
    let m = c.place-at.result in
    IfOk-weaker c.copies_around-else-is_at.result
    (λ new. new.items ≡ take m es ++ (c.args.key, c.args.value) ∷ take (length es - m) (drop m es))
    (λ new. new.items ≡ put g.K.Ord.cmp c.args.key c.args.value es)
    (λ new made.
    made ∙ ap (λ fs. take m es ++ (c.args.key, c.args.value) ∷ fs) (take_rest es m)
    ∙ sym (put_gap g.K.Ord.cmp c.args.key c.args.value es m c.place-at.ensures.front c.place-at.ensures.back (sym c.if-is_at.ensures.there)))
    c.copies_around-else-is_at.ensures
