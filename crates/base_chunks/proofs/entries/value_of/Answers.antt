-- The value is found at the key's place or nowhere.
use Rattle.std.proofs.Common.{sym}
use Rattle.base_chunks.proofs.Standing.{find_there, find_absent}
use Rattle.base_chunks.proofs.entries.value_of.Goals as goal

pub returns-then-is_at : goal.returns-then-is_at
returns-then-is_at g c =
    sym (find_there g.K.Ord.cmp c.args.key.now c.args.entries.now c.place-at.result c.index-entries-at.result c.place-at.ensures.front
    (sym c.if-is_at.ensures.there))

pub returns-else-is_at : goal.returns-else-is_at
returns-else-is_at g c =
    sym (find_absent g.K.Ord.cmp g.met.K.Ord.total c.args.key.now c.args.entries.now c.place-at.result c.requires c.place-at.ensures.front
    c.place-at.ensures.back (sym c.if-is_at.ensures.there))
