-- The entry has its key, and the other value.
use Rattle.std.proofs.Common.{◌≡◌, ◌<◌, length, get_or, set, ap, sym, subst, ◌∙◌}
use Rattle.std.proofs.lemmas.List.{get_or_default}
use Rattle.base_chunks.proofs.chunk.replace_value.Goals as goal

pub returns-clause-ok : goal.returns-clause-ok
returns-clause-ok g c = λ d.
    let at = c.args.at in
    let es = c.args.chunk.now in
    let now = c.in-Some.entries.now.items in
    let x = c.index_mut.result.now in
    let same : now ≡ es = ap (λ v. v.items) c.in-Some.ensures.value ∙ c.chunk.view_is in
    let within : at < length now = subst (λ l. at < length l) (sym same) c.requires in
    let key : x.0 ≡ (get_or es at d).0 =
    ap (λ e. e.0) (c.index_mut.ensures.value ∙ get_or_default now at x d within ∙ ap (λ l. get_or l at d) same) in
    λ i. set (same i) at (key i, c.args.entry.1)
