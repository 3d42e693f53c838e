-- The answers to the goals of `identifiers::is_name`.
use Rattle.std.proofs.Common.{◌↔◌, ap, subst, ◌∙◌}
use Rattle.std.specs.Prelude.{IsTrue, slice_get}
use Rattle.go_scanner.specs.CutText.{tokens_in}
use Rattle.refs_binding.specs.Identifiers.{IsNameToken}
use Rattle.refs_binding.proofs.identifiers.is_name.Goals as goal

pub returns : goal.returns
returns c = subst (λ ts. IsTrue c.is_name_at.result ↔ IsNameToken (slice_get ts c.args.token)) (c.tokens.ensures.tokens ∙ ap tokens_in c.pieces.ensures)
    c.is_name_at.ensures
