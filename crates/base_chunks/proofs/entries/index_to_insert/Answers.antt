-- An entry at its key's place, where the key is not there.
use Rattle.std.proofs.Common.{sym}
use Rattle.base_chunks.proofs.Standing.{put_gap}
use Rattle.base_chunks.proofs.entries.index_to_insert.Goals as goal

pub returns-then-not-is_at-clause-put : goal.returns-then-not-is_at-clause-put
returns-then-not-is_at-clause-put g c =
    λ value. put_gap g.K.Ord.cmp c.args.key.now value c.args.entries.now c.place-at.result c.place-at.ensures.front c.place-at.ensures.back
    (sym c.if-not-is_at.ensures.there)
