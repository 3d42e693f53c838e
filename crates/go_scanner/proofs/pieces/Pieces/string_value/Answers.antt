-- The answers to the goals of `pieces::Pieces::string_value`.
use Rattle.std.proofs.Common.{◌<◌, length, sym, ap, ◌∙◌, subst}
use Rattle.go_scanner.specs.declared.piece.Piece.{Piece}
use Rattle.go_scanner.specs.CutText.{CutText, tokens_in, token_at}
use Rattle.go_scanner.specs.TokenValues.{IsStringClass}
use Rattle.go_scanner.proofs.ReadLemmas.{token_read}
use Rattle.go_scanner.proofs.pieces.Pieces.string_value.Goals as goal

pub returns-in_ok-value-in-InterpretedString : goal.returns-in_ok-value-in-InterpretedString
returns-in_ok-value-in-InterpretedString c =
    let fits = subst (λ (v : CutText). c.args.token < length (tokens_in v)) (sym c.self.view_is) c.requires in
    let v : CutText = record { text = c.self.inside.file; pieces = c.self.inside.pieces.items } in
    let found = token_read v c.self.inside.tokens.items c.args.token c.index.result.now c.self.invariant fits c.index.ensures in
    let at = found.at ∙ ap (λ (w : CutText). token_at w c.args.token) c.self.view_is in (
      subst (λ (t : Piece). IsStringClass t.class) at (subst IsStringClass c.class.ensures c.in-InterpretedString.is),
      rw (← c.text.ensures.bytes) c.in_ok-value-in-InterpretedString.ensures,
    )
