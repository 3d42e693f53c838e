-- Both parts have items, and together they have all.
use Rattle.std.proofs.Common.{◌≡◌, ◌+◌, ◌<◌, ◌∷◌, ◌++◌, length, take, drop, ◌∙◌, arith}
use Rattle.std.proofs.lemmas.Result.{IfOk-weaker}
use Rattle.base_chunks.specs.Chunks.{ReplacesChunk}
use Rattle.base_chunks.proofs.Joining.{replaces_two}
use Rattle.base_chunks.proofs.chunks.put_parts.Goals as goal
use Rattle.base_chunks.proofs.chunks.put_parts.Goals.{then-at-len, else-at-len}

pub returns-clause-ok : goal.returns-clause-ok
returns-clause-ok g c =
    let old = c.args.chunks.now.items in
    let new = c.put_two.new.chunks.items in
    let i = c.args.at in
    let ws = c.args.items.items in
    let m = c.if-at-len.middle in
    let low : 0 < m =
    elim c.if-at-len.branch [ then-at-len w ↦ omega (arith, c.args.items.ok.0) | else-at-len w ↦ omega (arith, c.args.items.ok.0) ] in
    let high : m < length ws =
    elim c.if-at-len.branch [ then-at-len w ↦ omega (arith, c.args.items.ok.0) | else-at-len w ↦ omega (arith, c.args.items.ok.0) ] in
    let front : c.in_ok-front.front ≡ take m ws = c.in_ok-front.ensures ∙ c.in_ok-back.ensures.front in
    let back : c.in_ok-back.back ≡ drop m ws = c.in_ok-back.ensures.back in
    IfOk-weaker c.put_two.result
    (λ _. new ≡ take i old ++ c.in_ok-front.front ∷ c.in_ok-back.back ∷ drop (i + 1) old)
    (λ _. ReplacesChunk old new i ws)
    (λ _ is. replaces_two old new i ws m low high (is ∙ (λ j. take i old ++ front j ∷ back j ∷ drop (i + 1) old)))
    c.put_two.ensures.ok
