-- The cursor moves the start, and the length stays.
use Rattle.std.proofs.Common.{◌≡◌, ◌+◌, ◌-◌, arith}
use Rattle.go_respelled.proofs.moved.moved_by.Goals as goal

pub returns : goal.returns
returns c =
    let t = c.args.token.now in
    let cursor = c.args.cursor in
    let moved = c.in_ok-token.token in
    let made = c.in_ok-token.ensures in
    let start : moved.span.start ≡ cursor.new + (t.span.start - cursor.old) = omega (arith, made.start, c.moved-start.ensures, c.start.ensures) in
    let end : moved.span.end ≡ cursor.new + (t.span.end - cursor.old) =
    omega (arith, made.end, c.moved-start.ensures, c.start.ensures, c.requires.behind, c.requires.order) in
    λ i. record { class = made.class i; span = record { start = start i; end = end i } }
