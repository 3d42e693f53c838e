-- The value is set at the key's place, under the key that is there.
use Rattle.std.proofs.Common.{get_or, refl, sym, ◌∙◌}
use Rattle.std.proofs.lemmas.List.{set_split}
use Rattle.base_chunks.proofs.Standing.{put_there}
use Rattle.base_chunks.proofs.entries.index_of_key.Goals as goal

pub returns-then-is_at-clause-put : goal.returns-then-is_at-clause-put
returns-then-is_at-clause-put g c = λ value d.
    let es = c.args.entries.now in
    let m = c.place-at.result in
    put_there g.K.Ord.cmp c.args.key.now value es m d c.place-at.ensures.front (sym c.if-is_at.ensures.there)
    ∙ sym (set_split es m ((get_or es m d).0, value) (c.if-is_at.ensures.within refl))
