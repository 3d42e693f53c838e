-- The answers to the goals of `asked_byte::byte_in`.
use Rattle.std.proofs.Common.{refl, subst, sym}
use Rattle.lsp_told.specs.Asking.{IsAskedOffset}
use Rattle.lsp_told.proofs.asked_byte.byte_in.Goals as goal

pub returns-in-Some : goal.returns-in-Some
returns-in-Some c = (
  refl,
  (
    c.in-Some.text.now,
    sym c.in-Some.ensures,
    subst (λ text. IsAskedOffset c.args.telling.abilities.encoding text c.args.position c.asked_offset-offset.result) c.bytes.ensures
        c.asked_offset-offset.ensures,
  ),
)
