-- The item stands in a full chunk or behind all.
use Rattle.std.proofs.Common.{◌≡◌, ◌-◌, ◌*◌, ◌/◌, ◌%◌, ◌<◌, ◌≤◌, [], ◌++◌, length, get_or, set, ap, sym, ◌∙◌, length-append, length-set, arith}
use Rattle.std.proofs.lemmas.List.{get_or_default}
use Rattle.base_chunks.specs.Chunks.{joined}
use Rattle.base_chunks.proofs.Joining.{full_length, all_at, all_set}
use Rattle.base_chunks.proofs.Listing.{set_in_full, set_behind}
use Rattle.base_chunks.proofs.list.SharedList.set.Goals as goal

pub invariant_of-self : goal.invariant_of-self
invariant_of-self g c =
    let full = c.self.inside.full.items in
    let last = c.self.inside.last.items in
    let i = c.args.i in
    let x = c.args.item in
    let even = c.self.invariant.even in
    let within : i / 64 < length full = omega (arith, c.self.inside.full.ok.0) in
    let chunk : c.in_ok-chunk.chunk ≡ set (get_or full (i / 64) []) (i % 64) x =
    c.in_ok-chunk.ensures
    ∙ ap (λ xs. set xs (i % 64) x) (c.items.ensures ∙ c.index.ensures ∙ get_or_default full (i / 64) c.index.result.now [] within) in
    let whole = ap (λ d. joined (set full (i / 64) d) ++ last) chunk ∙ set_in_full full last even i x within in
    let size = ap length chunk ∙ length-set (get_or full (i / 64) []) (i % 64) x ∙ all_at (λ d. length d ≡ 64) full (i / 64) within even in
    record {
      even = all_set (λ d. length d ≡ 64) full (i / 64) c.in_ok-chunk.chunk size even;
      short = c.self.invariant.short;
      count = c.self.invariant.count ∙ sym (length-set (joined full ++ last) i x) ∙ sym (ap length whole);
    }

pub index_mut-requires-else-at-len : goal.index_mut-requires-else-at-len
index_mut-requires-else-at-len g c =
    let full = c.self.inside.full.items in
    let last = c.self.inside.last.items in
    let seen : joined full ++ last ≡ c.args.self.now = c.self.view_is in
    omega (arith, ap length seen, length-append (joined full) last, full_length full c.self.invariant.even, c.self.inside.full.ok.0, c.self.inside.last.ok.0)

pub returns-in_ok-chunk-clause-ok : goal.returns-in_ok-chunk-clause-ok
returns-in_ok-chunk-clause-ok g c =
    let full = c.self.inside.full.items in
    let last = c.self.inside.last.items in
    let i = c.args.i in
    let x = c.args.item in
    let within : i / 64 < length full = omega (arith, c.self.inside.full.ok.0) in
    let chunk : c.in_ok-chunk.chunk ≡ set (get_or full (i / 64) []) (i % 64) x =
    c.in_ok-chunk.ensures
    ∙ ap (λ xs. set xs (i % 64) x) (c.items.ensures ∙ c.index.ensures ∙ get_or_default full (i / 64) c.index.result.now [] within) in
    let seen : joined full ++ last ≡ c.args.self.now = c.self.view_is in
    ap (λ d. joined (set full (i / 64) d) ++ last) chunk ∙ set_in_full full last c.self.invariant.even i x within ∙ ap (λ xs. set xs i x) seen

pub returns-else-at-len-clause-ok : goal.returns-else-at-len-clause-ok
returns-else-at-len-clause-ok g c =
    let full = c.self.inside.full.items in
    let last = c.self.inside.last.items in
    let i = c.args.i in
    let x = c.args.item in
    let count : c.len-else-at-len.result ≡ length full = omega (arith, c.self.inside.full.ok.0) in
    let past : length full ≤ i / 64 = omega (arith, c.self.inside.full.ok.0) in
    let seen : joined full ++ last ≡ c.args.self.now = c.self.view_is in
    ap (λ n. joined full ++ set last (i - 64 * n) x) count ∙ set_behind full last c.self.invariant.even i x past ∙ ap (λ xs. set xs i x) seen
