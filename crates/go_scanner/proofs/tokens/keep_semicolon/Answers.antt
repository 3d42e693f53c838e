-- A semicolon ends where it begins.
use Rattle.std.proofs.Common.{◌∷◌, ◌++◌, [], ◌∙◌, zero-add}
use Rattle.std.proofs.lemmas.Result.{on_ok_weaker}
use Rattle.go_scanner.specs.declared.operators.Operator.TheVariants.{Semicolon}
use Rattle.go_scanner.specs.declared.piece.Class.TheVariants.{Operator}
use Rattle.go_scanner.proofs.tokens.keep_semicolon.Goals as goal

pub returns : goal.returns
returns c =
    let at = c.args.at in
    on_ok_weaker c.keep_token.result
    (λ kept. kept ∙ (λ i. c.args.found.now.items ++ (record { class = Operator Semicolon; span = record { start = at; end = zero-add at i } }) ∷ []))
    c.keep_token.ensures
