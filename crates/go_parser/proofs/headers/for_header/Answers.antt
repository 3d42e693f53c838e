-- The answers to the goals of `headers::for_header`.
use Rattle.std.proofs.Common.{◌∷◌, [], ap, sym, ◌∙◌}
use Rattle.go_ast.specs.Grammar.{A, ForAfter, ForRest}
use Rattle.go_parser.specs.Machine.{first, last, later}
use Rattle.go_parser.specs.Spelling.{expr_spelled, for_spelled}
use Rattle.go_parser.proofs.MachineSteps.{exits, fails_first, fails_later, fails_leads, fails_rule, leads_as, leads_here, leads_on, leads_rule, leads_then}
use Rattle.go_parser.proofs.StatementSteps.{leads_continued, leads_next, leads_read}
use Rattle.go_parser.proofs.FormedStatements.{clauses_formed, forever_formed, while_formed}
use Rattle.go_parser.proofs.SpelledStatements.{clauses_spelled, forever_spelled, while_spelled}
use Rattle.std.proofs.Common.{append-nil}
use Rattle.go_parser.proofs.headers.for_header.Goals as goal

pub returns-then-at-clause-exact : goal.returns-then-at-clause-exact
returns-then-at-clause-exact c = leads_as (leads_rule (first (sym c.at.ensures ∙ c.if-at.true)) leads_here) (sym forever_spelled)

pub returns-then-at-2-clause-exact : goal.returns-then-at-2-clause-exact
returns-then-at-2-clause-exact c = c.bare_clauses.ensures.exact

pub bare_clauses-requires : goal.bare_clauses-requires
bare_clauses-requires c = record { brace = sym c.at.ensures ∙ c.if-at.false; semicolon = sym c.at-2.ensures ∙ c.if-at-2.true }

pub returns-in_err-first-clause-exact : goal.returns-in_err-first-clause-exact
returns-in_err-first-clause-exact c = exits _ _ _ _ c.in_err-first.field-0.0 c.from_residual.result c.from_residual.ensures.1
    (fails_rule (later (sym c.at.ensures ∙ c.if-at.false) (later (sym c.at-2.ensures ∙ c.if-at-2.false) last)) (fails_first c.in_err-first.ensures.exact))

pub returns-then-at-3-clause-exact : goal.returns-then-at-3-clause-exact
returns-then-at-3-clause-exact c = leads_as (leads_rule (later (sym c.at.ensures ∙ c.if-at.false) (later (sym c.at-2.ensures ∙ c.if-at-2.false) last))
    (leads_then c.in_ok-first.ensures.exact (leads_rule (first (sym c.at-3.ensures ∙ c.if-at-3.true)) leads_here)))
    (append-nil (expr_spelled c.in_ok-first.first) ∙ sym (while_spelled _))

pub returns-in_err-init-clause-exact : goal.returns-in_err-init-clause-exact
returns-in_err-init-clause-exact c = exits _ _ _ _ c.in_err-init.field-0.0 c.from_residual-in_err-init.result c.from_residual-in_err-init.ensures.1
    (fails_rule (later (sym c.at.ensures ∙ c.if-at.false) (later (sym c.at-2.ensures ∙ c.if-at-2.false) last))
    (fails_later c.in_ok-first.ensures.exact (fails_rule (later (sym c.at-3.ensures ∙ c.if-at-3.false) last) (fails_first c.in_err-init.ensures.exact))))

pub returns-in-Err-clause-exact : goal.returns-in-Err-clause-exact
returns-in-Err-clause-exact c = fails_rule (later (sym c.at.ensures ∙ c.if-at.false) (later (sym c.at-2.ensures ∙ c.if-at-2.false) last))
    (fails_leads (leads_continued (A ForRest ∷ [])
    (leads_next (leads_read (A ForAfter ∷ []) c.in_ok-first.ensures.exact) (later (sym c.at-3.ensures ∙ c.if-at-3.false) last)) c.in_ok-init.ensures.exact)
    c.in-Err.ensures.exact)

pub returns-in-Ok-clause-exact : goal.returns-in-Ok-clause-exact
returns-in-Ok-clause-exact c = leads_as (leads_rule (later (sym c.at.ensures ∙ c.if-at.false) (later (sym c.at-2.ensures ∙ c.if-at-2.false) last))
    (leads_on (leads_continued (A ForRest ∷ [])
    (leads_next (leads_read (A ForAfter ∷ []) c.in_ok-first.ensures.exact) (later (sym c.at-3.ensures ∙ c.if-at-3.false) last)) c.in_ok-init.ensures.exact)
    c.in-Ok.ensures.exact)) (sym (ap for_spelled c.header-whole.ensures ∙ clauses_spelled _ _ _ _ _))

pub returns-then-at-clause-formed : goal.returns-then-at-clause-formed
returns-then-at-clause-formed c = forever_formed

pub returns-then-at-2-clause-formed : goal.returns-then-at-2-clause-formed
returns-then-at-2-clause-formed c = c.bare_clauses.ensures.formed

pub returns-then-at-3-clause-formed : goal.returns-then-at-3-clause-formed
returns-then-at-3-clause-formed c = while_formed _ c.in_ok-first.ensures.formed

pub simple_rest-requires : goal.simple_rest-requires
simple_rest-requires c = c.in_ok-first.ensures.formed

pub returns-in-Ok-clause-formed : goal.returns-in-Ok-clause-formed
returns-in-Ok-clause-formed c = clauses_formed _ _ _ _ _ _ c.header-whole.ensures c.in_ok-init.ensures.formed c.in-Ok.ensures.formed.0 c.in-Ok.ensures.formed.1
