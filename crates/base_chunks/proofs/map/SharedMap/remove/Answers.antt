-- The chunk of the key is another.
use Rattle.std.proofs.Common.{◌≡◌, ◌+◌, [], get_or, take, drop, ap, sym, ◌∙◌, subst}
use Rattle.base_chunks.specs.Chunks.{joined}
use Rattle.base_chunks.specs.Entries.{without, Rises, IsAfterAll, IsBeforeAll}
use Rattle.base_chunks.proofs.Mapping.{part_rises, without_in_chunk, map_without}
use Rattle.base_chunks.proofs.map.SharedMap.remove.Goals as goal

pub without_key-requires : goal.without_key-requires
without_key-requires g c =
    let cs = c.self.inside.chunks.items in
    let i = c.chunk_of-at.result in
    let part : c.items_at.result.now ≡ get_or cs i [] = c.items_at.ensures ∙ ap (λ bs. get_or bs i []) c.deref-2.ensures.value in
    subst (Rises g.K.Ord.cmp) (sym part) (part_rises g.K.Ord.cmp cs i c.self.invariant.1)

pub invariant_of-self-2 : goal.invariant_of-self-2
invariant_of-self-2 g c =
    let cs = c.self.inside.chunks.items in
    let new = c.put_items.new.chunks.items in
    let i = c.chunk_of-at.result in
    let k = c.args.key.now in
    let ws = c.in_ok-entries.entries.items in
    let part : c.items_at.result.now ≡ get_or cs i [] = c.items_at.ensures ∙ ap (λ bs. get_or bs i []) c.deref-2.ensures.value in
    let front = subst (λ bs. IsAfterAll g.K.Ord.cmp k (joined (take i bs))) c.deref.ensures.value c.chunk_of-at.ensures.front in
    let back = subst (λ bs. IsBeforeAll g.K.Ord.cmp k (joined (drop (i + 1) bs))) c.deref.ensures.value c.chunk_of-at.ensures.back in
    let made : ws ≡ without g.K.Ord.cmp k (get_or cs i []) = c.in_ok-entries.ensures ∙ ap (without g.K.Ord.cmp k) part in
    let whole = without_in_chunk g.K.Ord.cmp k cs new i ws c.in_ok-self-inside.ensures.ok made front back in
    (c.in_ok-self-inside.ensures.count, map_without g.K.Ord.cmp k cs new i ws c.self.invariant.1 c.in_ok-self-inside.ensures.ok whole)

pub returns-clause-ok : goal.returns-clause-ok
returns-clause-ok g c =
    let cs = c.self.inside.chunks.items in
    let new = c.put_items.new.chunks.items in
    let i = c.chunk_of-at.result in
    let k = c.args.key.now in
    let ws = c.in_ok-entries.entries.items in
    let part : c.items_at.result.now ≡ get_or cs i [] = c.items_at.ensures ∙ ap (λ bs. get_or bs i []) c.deref-2.ensures.value in
    let front = subst (λ bs. IsAfterAll g.K.Ord.cmp k (joined (take i bs))) c.deref.ensures.value c.chunk_of-at.ensures.front in
    let back = subst (λ bs. IsBeforeAll g.K.Ord.cmp k (joined (drop (i + 1) bs))) c.deref.ensures.value c.chunk_of-at.ensures.back in
    let made : ws ≡ without g.K.Ord.cmp k (get_or cs i []) = c.in_ok-entries.ensures ∙ ap (without g.K.Ord.cmp k) part in
    let seen : joined cs ≡ c.args.self.now = c.self.view_is in
    without_in_chunk g.K.Ord.cmp k cs new i ws c.in_ok-self-inside.ensures.ok made front back ∙ ap (without g.K.Ord.cmp k) seen
