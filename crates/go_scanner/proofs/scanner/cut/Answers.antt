-- The answers to the goals of `scanner::cut`.
use Rattle.std.proofs.Common.{length, arith, ap, length-drop, refl, sym, ◌∙◌, subst, inr, ◌≡◌, ◌+◌, ◌≤◌}
use Rattle.std.proofs.lemmas.List.{take_rest}
use Rattle.go_scanner.specs.Pieces.{Breaks}
use Rattle.go_scanner.proofs.ScanLemmas.{Scanned, scanned_mark, scanned_blank, scanned_more, whole_due, whole_plain}
use Rattle.go_scanner.proofs.scanner.cut.Goals as goal

pub loop-at-init : goal.loop-at-init
loop-at-init c = rw c.new-tokens.ensures.items (scanned_mark c.args.text.now c.mark-pieces.result.0.items c.mark-pieces.result.1
    c.mark-pieces.ensures.pieces c.mark-pieces.ensures.size c.mark-pieces.ensures.fits)

-- a blank goes behind the pieces before, and the tokens stay
pub loop-at-preserved-then-is_blank : goal.loop-at-preserved-then-is_blank
loop-at-preserved-then-is_blank c =
    let text = c.args.text.now in
    rw c.and-pieces.ensures (scanned_blank text c.loop-at.pieces.items c.loop-at.tokens.items c.loop-at.due c.loop-at.at c.loop-at.invariant
    c.loop-at-test.true (sym c.is_blank.ensures ∙ c.if-is_blank.true))

-- the piece at the front of what is left goes behind those before
pub loop-at-preserved : goal.loop-at-preserved
loop-at-preserved c =
    let text = c.args.text.now in
    let rest = take_rest text c.loop-at.at in
    let stands = c.in-Ok.ensures in
    let fits : c.loop-at.at + c.in-Ok.size ≤ length text = omega (arith, stands.fits, ap length rest, length-drop c.loop-at.at text) in
    rw c.and-pieces-in-Ok.ensures (scanned_more text c.loop-at.pieces.items c.loop-at.tokens.items c.add_piece.new.found.items c.loop-at.due
    c.in_ok-due-in-Ok.due
    c.loop-at.at c.in-Ok.size c.in-Ok.class _ c.loop-at.invariant rest stands fits c.in_ok-due-in-Ok.ensures)

-- the pieces so far lead up to the place of the fault
pub returns-in-Err-clause-refused : goal.returns-in-Err-clause-refused
returns-in-Err-clause-refused c =
    let text = c.args.text.now in
    let fault = c.in-Err.field-0 in
    inr (record {
      encoded = c.in_default.ensures;
      pieces = c.loop-at.pieces.items;
      to = c.loop-at.at;
      place = fault.offset;
      cut = c.loop-at.invariant.cut;
      breaks = subst (Breaks fault.kind fault.offset) (take_rest text c.loop-at.at) c.in-Err.ensures;
      offset_is = refl;
    })

pub returns-in_ok-keep_semicolon-in-Some-due-clause-cut : goal.returns-in_ok-keep_semicolon-in-Some-due-clause-cut
returns-in_ok-keep_semicolon-in-Some-due-clause-cut c =
    let text = c.args.text.now in
    let all : c.loop-at.at ≡ length text = omega (arith, c.loop-at-test.false, c.loop-at.invariant.fits) in
    let due : Scanned text c.loop-at.pieces.items c.loop-at.tokens.items _ c.loop-at.at =
    subst (λ d. Scanned text c.loop-at.pieces.items c.loop-at.tokens.items d c.loop-at.at) c.in-Some-due.is c.loop-at.invariant in
    rw c.in_ok-keep_semicolon-in-Some-due.ensures
    (whole_due text c.loop-at.pieces.items c.loop-at.tokens.items c.in-Some-due.end c.loop-at.at c.in_default.ensures due all)

pub returns-in-None-clause-cut : goal.returns-in-None-clause-cut
returns-in-None-clause-cut c =
    let text = c.args.text.now in
    let all : c.loop-at.at ≡ length text = omega (arith, c.loop-at-test.false, c.loop-at.invariant.fits) in
    let due : Scanned text c.loop-at.pieces.items c.loop-at.tokens.items _ c.loop-at.at =
    subst (λ d. Scanned text c.loop-at.pieces.items c.loop-at.tokens.items d c.loop-at.at) c.in-None.is c.loop-at.invariant in
    whole_plain text c.loop-at.pieces.items c.loop-at.tokens.items c.loop-at.at c.in_default.ensures due all
