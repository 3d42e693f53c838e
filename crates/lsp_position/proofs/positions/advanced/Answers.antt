-- The answers to the goals of `positions::advanced`.
use Rattle.std.proofs.Common.{◌≡◌, ◌∙◌, true, false, sym, ap, arith}
use Rattle.lsp_position.specs.Positions.{editor_position, is_line_end}
use Rattle.lsp_position.proofs.Stepping.{character_le, ends_before_le, step_ends, step_goes_on}
use Rattle.lsp_position.proofs.positions.advanced.Goals as goal

pub overflow_add-result : goal.overflow_add-result
overflow_add-result c =
    let low = ends_before_le c.args.text.now c.args.number in
    let line : c.args.at.line ≡ (editor_position c.args.encoding c.args.text.now c.args.number).line = ap (λ p. p.line) c.requires.at in
    omega (arith, low, line)

pub overflow_add-result-else-is_line_end : goal.overflow_add-result-else-is_line_end
overflow_add-result-else-is_line_end c =
    let low = character_le c.args.encoding c.args.text.now c.args.number (omega arith) in
    let column : c.args.at.character ≡ (editor_position c.args.encoding c.args.text.now c.args.number).character = ap (λ p. p.character) c.requires.at in
    omega (arith, low, column)

pub returns-then-is_line_end : goal.returns-then-is_line_end
returns-then-is_line_end c =
    let test : is_line_end c.args.text.now c.args.number ≡ true = sym c.is_line_end.ensures ∙ c.if-is_line_end.true in
    let line : c.args.at.line ≡ (editor_position c.args.encoding c.args.text.now c.args.number).line = ap (λ p. p.line) c.requires.at in
    rw line (sym (step_ends c.args.encoding c.args.text.now c.args.number test))

pub returns-else-is_line_end : goal.returns-else-is_line_end
returns-else-is_line_end c =
    let test : is_line_end c.args.text.now c.args.number ≡ false = sym c.is_line_end.ensures ∙ c.if-is_line_end.false in
    let line : c.args.at.line ≡ (editor_position c.args.encoding c.args.text.now c.args.number).line = ap (λ p. p.line) c.requires.at in
    let column : c.args.at.character ≡ (editor_position c.args.encoding c.args.text.now c.args.number).character = ap (λ p. p.character) c.requires.at in
    rw (line, column, c.unit_count.ensures.count) (sym (step_goes_on c.args.encoding c.args.text.now c.args.number c.requires.inside test))
