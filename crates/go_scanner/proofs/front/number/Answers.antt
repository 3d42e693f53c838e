-- The answers to the goals of `front::number`.
use Rattle.std.proofs.Common.{ℕ, ◌<◌, ◌^◌, subst, sym, ap, ◌∙◌, inl, inr}
use Rattle.std.proofs.lemmas.List.{take_rest}
use Rattle.bstr.specs.Utf8.{decoded}
use Rattle.go_scanner.specs.Pieces.{spoils_number}
use Rattle.go_scanner.proofs.FrontLemmas.{integer_stands, integer_breaks}
use Rattle.go_scanner.proofs.front.number.Goals as goal

pub returns-then-spoils_number : goal.returns-then-spoils_number
returns-then-spoils_number c =
    let at = ap (λ l. spoils_number (decoded l).char) (take_rest c.args.bytes.now c.integer_len-size.result) in
    rw c.fault.ensures (integer_breaks c.args.bytes.now c.integer_len-size.result c.requires.some c.requires.first c.integer_len-size.ensures.value
    c.integer_len-size.ensures.fits (inl (sym at ∙ sym c.spoils_number.ensures ∙ c.if-spoils_number.true)))

pub returns-in-Some : goal.returns-in-Some
returns-in-Some c =
    let at = ap (λ l. spoils_number (decoded l).char) (take_rest c.args.bytes.now c.integer_len-size.result) in
    integer_stands c.args.bytes.now c.integer_len-size.result c.requires.some c.requires.first c.integer_len-size.ensures.value
    c.integer_len-size.ensures.fits (sym at ∙ sym c.spoils_number.ensures ∙ c.if-spoils_number.false)
    (subst (λ (v : ℕ). v < 2 ^ 63) c.in-Some.ensures.0 c.in-Some.ensures.1)

pub returns-in-None : goal.returns-in-None
returns-in-None c =
    rw c.fault-in-None.ensures (integer_breaks c.args.bytes.now c.integer_len-size.result c.requires.some c.requires.first c.integer_len-size.ensures.value
    c.integer_len-size.ensures.fits (inr c.in-None.ensures))
