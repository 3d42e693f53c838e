-- The items before, the other item, and those behind.
use Rattle.std.proofs.Common.{◌≡◌, ◌+◌, ◌∷◌, ◌++◌, take, drop, set, ap, sym, ◌∙◌, add-one}
use Rattle.std.proofs.lemmas.List.{take_rest, set_split}
use Rattle.std.proofs.lemmas.Result.{IfOk-weaker}
use Rattle.base_chunks.proofs.list.chunk_with.Goals as goal

pub returns : goal.returns
returns g c =
    let xs = c.args.items.now in
    let i = c.args.i in
    IfOk-weaker c.new.result (λ chunk. chunk ≡ c.in_ok-items.items.items) (λ chunk. chunk ≡ set xs i c.args.item)
    (λ chunk is.
    is ∙ c.in_ok-items.ensures ∙ ap (λ ys. take i xs ++ c.args.item ∷ ys) (take_rest xs (i + 1) ∙ ap (λ j. drop j xs) (add-one i))
    ∙ sym (set_split xs i c.args.item c.requires))
    c.new.ensures
