-- The item stands in a full chunk or behind all.
use Rattle.std.proofs.Common.{◌≡◌, ◌-◌, ◌*◌, ◌/◌, ◌%◌, ◌<◌, ◌≤◌, [], ◌++◌, length, get_or, ap, ◌∙◌, length-append, arith}
use Rattle.std.proofs.lemmas.List.{get_or_default}
use Rattle.base_chunks.specs.Chunks.{joined}
use Rattle.base_chunks.proofs.Joining.{full_length}
use Rattle.base_chunks.proofs.Listing.{get_in_full, get_behind}
use Rattle.base_chunks.proofs.list.SharedList.item.Goals as goal

pub index-requires-else-at-len : goal.index-requires-else-at-len
index-requires-else-at-len g c =
    let full = c.self.inside.full.items in
    let last = c.self.inside.last.items in
    let seen : joined full ++ last ≡ c.args.self.now = c.self.view_is in
    omega (arith, ap length seen, length-append (joined full) last, full_length full c.self.invariant.even, c.self.inside.full.ok.0, c.self.inside.last.ok.0)

pub returns-then-at-len : goal.returns-then-at-len
returns-then-at-len g c =
    let full = c.self.inside.full.items in
    let last = c.self.inside.last.items in
    let i = c.args.i in
    let d = c.index-items-i.result in
    let within : i / 64 < length full = omega (arith, c.self.inside.full.ok.0) in
    let seen : joined full ++ last ≡ c.args.self.now = c.self.view_is in
    c.index-items-i.is
    ∙ ap (λ xs. get_or xs (i % 64) d) (c.items.ensures ∙ c.index.ensures ∙ get_or_default full (i / 64) c.index.result.now [] within)
    ∙ get_in_full full last c.self.invariant.even i d within
    ∙ ap (λ xs. get_or xs i d) seen

pub returns-else-at-len : goal.returns-else-at-len
returns-else-at-len g c =
    let full = c.self.inside.full.items in
    let last = c.self.inside.last.items in
    let i = c.args.i in
    let d = c.index-else-at-len.result.now in
    let count : c.len-else-at-len.result ≡ length full = omega (arith, c.self.inside.full.ok.0) in
    let past : length full ≤ i / 64 = omega (arith, c.self.inside.full.ok.0) in
    let seen : joined full ++ last ≡ c.args.self.now = c.self.view_is in
    c.index-else-at-len.ensures
    ∙ ap (λ n. get_or last (i - 64 * n) d) count
    ∙ get_behind full last c.self.invariant.even i d past
    ∙ ap (λ xs. get_or xs i d) seen
