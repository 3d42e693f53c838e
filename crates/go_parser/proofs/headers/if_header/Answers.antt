-- The answers to the goals of `headers::if_header`.
use Rattle.std.proofs.Common.{◌∷◌, ◌++◌, [], ap, sym, ◌∙◌, true, append-nil}
use Rattle.go_ast.specs.Grammar.{A, Expression, IfAfter, IfBody}
use Rattle.go_parser.specs.Machine.{first, last, later}
use Rattle.go_parser.specs.Spelling.{expr_spelled, init_spelled}
use Rattle.go_parser.proofs.MachineSteps.{exits, fails_first, fails_later, fails_leads, fails_rule, leads_as, leads_here, leads_on, leads_rule, leads_then}
use Rattle.go_parser.proofs.StatementSteps.{leads_continued, leads_next, leads_read}
use Rattle.go_parser.proofs.MachineSteps.{fails_more}
use Rattle.go_parser.proofs.headers.if_header.Goals as goal

pub returns-then-at-clause-exact : goal.returns-then-at-clause-exact
returns-then-at-clause-exact c = c.bare_header.ensures.exact

pub bare_header-requires : goal.bare_header-requires
bare_header-requires c = sym c.at.ensures ∙ c.if-at.true

pub returns-in_err-first-clause-exact : goal.returns-in_err-first-clause-exact
returns-in_err-first-clause-exact c = exits _ _ _ _ c.in_err-first.field-0.0 c.from_residual.result c.from_residual.ensures.1
    (fails_rule (later (sym c.at.ensures ∙ c.if-at.false) last) (fails_first c.in_err-first.ensures.exact))

pub returns-then-at-2-clause-exact : goal.returns-then-at-2-clause-exact
returns-then-at-2-clause-exact c = leads_as (leads_rule (later (sym c.at.ensures ∙ c.if-at.false) last)
    (leads_then c.in_ok-first.ensures.exact (leads_rule (first (sym c.at-2.ensures ∙ c.if-at-2.true)) leads_here)))
    (append-nil (expr_spelled c.in_ok-first.first))

pub init-requires : goal.init-requires
init-requires c = c.in_ok-first.ensures.formed

pub returns-in_err-init-clause-exact : goal.returns-in_err-init-clause-exact
returns-in_err-init-clause-exact c = exits _ _ _ _ c.in_err-init.field-0.0 c.from_residual-in_err-init.result c.from_residual-in_err-init.ensures.1
    (fails_rule (later (sym c.at.ensures ∙ c.if-at.false) last)
    (fails_later c.in_ok-first.ensures.exact
    (fails_rule (later (sym c.at-2.ensures ∙ c.if-at-2.false) last) (fails_more (A (Expression true) ∷ A IfBody ∷ []) c.in_err-init.ensures.exact))))

pub returns-in-Err-clause-exact : goal.returns-in-Err-clause-exact
returns-in-Err-clause-exact c = fails_rule (later (sym c.at.ensures ∙ c.if-at.false) last)
    (fails_leads (leads_continued (A (Expression true) ∷ A IfBody ∷ [])
    (leads_next (leads_read (A IfAfter ∷ []) c.in_ok-first.ensures.exact) (later (sym c.at-2.ensures ∙ c.if-at-2.false) last)) c.in_ok-init.ensures.exact)
    (fails_first c.in-Err.ensures.exact))

pub returns-in-Ok-clause-exact : goal.returns-in-Ok-clause-exact
returns-in-Ok-clause-exact c = leads_as (leads_rule (later (sym c.at.ensures ∙ c.if-at.false) last)
    (leads_on (leads_continued (A (Expression true) ∷ A IfBody ∷ [])
    (leads_next (leads_read (A IfAfter ∷ []) c.in_ok-first.ensures.exact) (later (sym c.at-2.ensures ∙ c.if-at-2.false) last)) c.in_ok-init.ensures.exact)
    (leads_then c.in-Ok.ensures.exact leads_here)))
    (ap (λ x. init_spelled c.in_ok-init.init ++ x) (append-nil (expr_spelled c.in-Ok.condition)))

pub returns-then-at-clause-formed : goal.returns-then-at-clause-formed
returns-then-at-clause-formed c = c.bare_header.ensures.formed

pub returns-then-at-2-clause-formed : goal.returns-then-at-2-clause-formed
returns-then-at-2-clause-formed c = (tt, c.in_ok-first.ensures.formed)

pub returns-in-Ok-clause-formed : goal.returns-in-Ok-clause-formed
returns-in-Ok-clause-formed c = (c.in_ok-init.ensures.formed, c.in-Ok.ensures.formed)
