-- The answers to the goals of `output::write_whole`.
use Rattle.std.proofs.Common.{◌≡◌, ◌++◌, ℕ, List, take, drop, ◌∙◌, sym, ap, arith, append_assoc, take-append-drop}
use Rattle.std.proofs.lemmas.Grind.{common_steps}
use Rattle.std.proofs.KnownBytes.{Appends-trans}
use Rattle.server_session.proofs.output.write_whole.Goals as goal

-- the part that a write took goes over to what is written
whole_after : (bytes written rest part : List ℕ) (n : ℕ) → bytes ≡ written ++ rest → part ≡ drop n rest → bytes ≡ (written ++ take n rest) ++ part
whole_after bytes written rest part n e p =
    e ∙ ap (λ l. written ++ l) (sym (take-append-drop n rest)) ∙ sym (append_assoc written (take n rest) (drop n rest)) ∙
    ap (λ l. (written ++ take n rest) ++ l) (sym p)

pub loop-rest-preserved : goal.loop-rest-preserved
loop-rest-preserved g c =
    let before = c.loop-rest.invariant in
    let n = c.in_ok-count.count in (
      before.0 ++ take n c.loop-rest.rest.now,
      whole_after c.args.bytes.now before.0 c.loop-rest.rest.now _ n before.1 (grind (arith, common_steps)),
      Appends-trans (g.T.Sink.contents c.args.sink.now) (g.T.Sink.contents c.loop-rest.sink) (g.T.Sink.contents c.write.new.self) before.0 _ before.2
          c.in_ok-count.ensures.bytes,
      c.in_ok-count.ensures.counted ∙ before.3,
    )
