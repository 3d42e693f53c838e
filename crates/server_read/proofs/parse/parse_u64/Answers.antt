-- The answers to the goals of `parse::parse_u64`.
use Rattle.std.proofs.Common.{◌≡◌, ◌∙◌, ap, sym, true, false, decimal}
use Rattle.std.specs.Result.{result_ok}
use Rattle.std.proofs.lemmas.Fmt.{parse-decimal}
use Rattle.std.proofs.lemmas.Slice.Eq.{bytes_eq-Decides}
use Rattle.server_read.proofs.parse.parse_u64.Goals as goal

pub returns-in_err-number : goal.returns-in_err-number
returns-in_err-number c = rw c.from_residual.ensures (λ n small e.
    let r = parse-decimal 64 n c.args.text.now c.parse.result small small e c.parse.ensures.value.0 in
    let bad = c.in_err-number.ensures.value ∙ ap result_ok r in cc)

pub returns-else-eq : goal.returns-else-eq
returns-else-eq c = λ n small e.
    let r = parse-decimal 64 n c.args.text.now c.parse.result small small e c.parse.ensures.value.0 in
    let same = c.in_ok-number.ensures.value ∙ ap result_ok r in
    let is_n : c.in_ok-number.number ≡ n = cc in
    let text : c.format.result.now ≡ c.args.text.now = c.format.ensures.text ∙ ap decimal is_n ∙ sym e in
    let equal = (bytes_eq-Decides c.format.result.now c.args.text.now).1 text in
    let bad : true ≡ false = sym equal ∙ sym c.eq.ensures ∙ c.if-eq.false in
    cc
