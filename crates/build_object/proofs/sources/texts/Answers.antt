-- The answers to the goals of `sources::texts`.
use Rattle.std.proofs.Common.{ap, length, arith}
use Rattle.std.specs.Prelude.{None, option_map}
use Rattle.go_scanner.specs.CutText.{tokens_in}
use Rattle.go_ast.specs.SourceFile.{source_of}
use Rattle.build_object.specs.Sources.{IsTextAt}
use Rattle.build_object.proofs.Bindings.{as_text, no_text}
use Rattle.build_object.proofs.Tables.{no_row, next_row, all_rows}
use Rattle.build_object.proofs.sources.texts.Goals as goal

pub loop-token-init : goal.loop-token-init
loop-token-init c = no_row (λ token value. IsTextAt (source_of c.args.file.now) token (option_map (λ v. v.items) value)) None _ c.new-texts.ensures.items

pub loop-token-preserved : goal.loop-token-preserved
loop-token-preserved c =
    next_row (λ token value. IsTextAt (source_of c.args.file.now) token (option_map (λ v. v.items) value)) None c.loop-token.token c.loop-token.texts.items
    c.push.new.self.items _ c.in_ok-push.ensures.items
    (as_text (source_of c.args.file.now) c.loop-token.token _ c.in_ok-literal.ensures) c.loop-token.invariant

pub returns : goal.returns
returns c =
    let cut = ap (λ z. length (tokens_in z)) c.pieces.ensures in
    let all = ap length c.tokens-token-end.ensures.tokens in
    all_rows (λ token value. IsTextAt (source_of c.args.file.now) token (option_map (λ v. v.items) value)) None c.loop-token.token c.loop-token.texts.items
    (λ token past. no_text (source_of c.args.file.now) token (omega (arith, cut, all, c.loop-token-test.false, past))) c.loop-token.invariant
