-- The answers to the goals of `tokens::add_piece`.
use Rattle.std.proofs.Common.{sym, ◌∙◌}
use Rattle.go_scanner.proofs.TokenLemmas.{token_ends, token_stays, trivia_stays, line_end_due, line_end_plain}
use Rattle.go_scanner.proofs.tokens.add_piece.Goals as goal

pub returns-then-ends_statement : goal.returns-then-ends_statement
returns-then-ends_statement c = rw c.in_ok-keep_piece.ensures
    (token_ends c.args.text.now c.args.found.now.items c.args.due c.args.piece.now (sym c.is_trivia.ensures ∙ c.if-not-is_trivia.true)
    (sym c.ends_statement.ensures ∙ c.if-ends_statement.true))

pub returns-then-not-is_trivia : goal.returns-then-not-is_trivia
returns-then-not-is_trivia c = rw c.in_ok-keep_piece.ensures
    (token_stays c.args.text.now c.args.found.now.items c.args.due c.args.piece.now (sym c.is_trivia.ensures ∙ c.if-not-is_trivia.true)
    (sym c.ends_statement.ensures ∙ c.if-ends_statement.false))

pub returns-then-not-ends_line : goal.returns-then-not-ends_line
returns-then-not-ends_line c = trivia_stays c.args.text.now c.args.found.now.items c.args.due c.args.piece.now
    (sym c.is_trivia.ensures ∙ c.if-not-is_trivia.false) (sym c.ends_line.ensures ∙ c.if-not-ends_line.true)

pub returns-in_ok-keep_semicolon-in-Some : goal.returns-in_ok-keep_semicolon-in-Some
returns-in_ok-keep_semicolon-in-Some c = rw (c.in_ok-keep_semicolon-in-Some.ensures, c.in-Some.is)
    (line_end_due c.args.text.now c.args.found.now.items c.in-Some.at c.args.piece.now (sym c.is_trivia.ensures ∙ c.if-not-is_trivia.false)
    (sym c.ends_line.ensures ∙ c.if-not-ends_line.false))

pub returns-in-None : goal.returns-in-None
returns-in-None c = rw c.in-None.is (line_end_plain c.args.text.now c.args.found.now.items c.args.piece.now
    (sym c.is_trivia.ensures ∙ c.if-not-is_trivia.false))
