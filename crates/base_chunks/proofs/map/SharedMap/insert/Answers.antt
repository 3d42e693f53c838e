-- The chunk of the key is another.
use Rattle.std.proofs.Common.{◌≡◌, ◌+◌, [], get_or, take, drop, refl, ap, ◌∙◌, subst}
use Rattle.std.specs.FinMap.{put}
use Rattle.base_chunks.specs.Chunks.{joined}
use Rattle.base_chunks.specs.Entries.{IsAfterAll, IsBeforeAll}
use Rattle.base_chunks.proofs.Mapping.{part_rises, put_in_chunk, map_put}
use Rattle.base_chunks.proofs.map.SharedMap.insert.Goals as goal

pub set_entry-requires-clause-rises : goal.set_entry-requires-clause-rises
set_entry-requires-clause-rises g c = part_rises g.K.Ord.cmp c.self.inside.chunks.items c.chunk_of-at.result c.self.invariant.1

pub invariant_of-self-2 : goal.invariant_of-self-2
invariant_of-self-2 g c =
    let cs = c.self.inside.chunks.items in
    let new = c.set_entry.new.chunks.items in
    let i = c.chunk_of-at.result in
    let k = c.args.key in
    let ws = put g.K.Ord.cmp k c.args.value (get_or cs i []) in
    let front = subst (λ bs. IsAfterAll g.K.Ord.cmp k (joined (take i bs))) c.deref.ensures.value c.chunk_of-at.ensures.front in
    let back = subst (λ bs. IsBeforeAll g.K.Ord.cmp k (joined (drop (i + 1) bs))) c.deref.ensures.value c.chunk_of-at.ensures.back in
    let whole = put_in_chunk g.K.Ord.cmp k c.args.value cs new i ws c.in_ok-self-inside.ensures.ok refl front back in (
      c.in_ok-self-inside.ensures.count,
      map_put g.K.Ord.cmp g.met.K.Ord.total k c.args.value cs new i ws c.self.invariant.1 c.in_ok-self-inside.ensures.ok
          whole,
    )

pub returns-clause-ok : goal.returns-clause-ok
returns-clause-ok g c =
    let cs = c.self.inside.chunks.items in
    let new = c.set_entry.new.chunks.items in
    let i = c.chunk_of-at.result in
    let k = c.args.key in
    let ws = put g.K.Ord.cmp k c.args.value (get_or cs i []) in
    let front = subst (λ bs. IsAfterAll g.K.Ord.cmp k (joined (take i bs))) c.deref.ensures.value c.chunk_of-at.ensures.front in
    let back = subst (λ bs. IsBeforeAll g.K.Ord.cmp k (joined (drop (i + 1) bs))) c.deref.ensures.value c.chunk_of-at.ensures.back in
    let seen : joined cs ≡ c.args.self.now = c.self.view_is in
    put_in_chunk g.K.Ord.cmp k c.args.value cs new i ws c.in_ok-self-inside.ensures.ok refl front back ∙ ap (put g.K.Ord.cmp k c.args.value) seen
