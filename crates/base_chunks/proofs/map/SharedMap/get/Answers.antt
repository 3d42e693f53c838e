-- What is found is found in the chunk of the key.
use Rattle.std.proofs.Common.{◌≡◌, ◌+◌, [], get_or, take, drop, ap, sym, ◌∙◌, subst}
use Rattle.std.specs.FinMap.{find}
use Rattle.base_chunks.specs.Chunks.{joined}
use Rattle.base_chunks.specs.Entries.{Rises, IsAfterAll, IsBeforeAll}
use Rattle.base_chunks.proofs.Mapping.{part_rises, find_in_chunk}
use Rattle.base_chunks.proofs.map.SharedMap.get.Goals as goal

pub value_of-requires : goal.value_of-requires
value_of-requires g c =
    let cs = c.self.inside.chunks.items in
    let i = c.chunk_of-at.result in
    let part : c.items_at.result.now ≡ get_or cs i [] = c.items_at.ensures ∙ ap (λ bs. get_or bs i []) c.deref-2.ensures.value in
    subst (Rises g.K.Ord.cmp) (sym part) (part_rises g.K.Ord.cmp cs i c.self.invariant.1)

pub returns-clause-value : goal.returns-clause-value
returns-clause-value g c =
    let cs = c.self.inside.chunks.items in
    let i = c.chunk_of-at.result in
    let k = c.args.key.now in
    let part : c.items_at.result.now ≡ get_or cs i [] = c.items_at.ensures ∙ ap (λ bs. get_or bs i []) c.deref-2.ensures.value in
    let front = subst (λ bs. IsAfterAll g.K.Ord.cmp k (joined (take i bs))) c.deref.ensures.value c.chunk_of-at.ensures.front in
    let back = subst (λ bs. IsBeforeAll g.K.Ord.cmp k (joined (drop (i + 1) bs))) c.deref.ensures.value c.chunk_of-at.ensures.back in
    let seen : joined cs ≡ c.args.self.now = c.self.view_is in
    c.value_of.ensures ∙ ap (find g.K.Ord.cmp k) part ∙ find_in_chunk g.K.Ord.cmp k cs i front back ∙ ap (find g.K.Ord.cmp k) seen
