-- The answers to the goals of `functions::params`.
use Rattle.std.proofs.Common.{◌∷◌, []}
use Rattle.go_ast.specs.declared.syntax.Kind.TheVariants as kind
use Rattle.go_ast.specs.Grammar.{A, One, is_ident, MoreIdents, TypeUse, Params, MoreParams}
use Rattle.go_parser.specs.Spelling.{param_spelled}
use Rattle.go_parser.specs.Machine.{first, later, last}
use Rattle.go_parser.specs.Parsing.{list_rest}
use Rattle.go_parser.specs.ListSpelling.{item_spelled}
use Rattle.go_parser.proofs.MachineSteps.{exits, fails_rule, fails_leads, fails_more, read_led}
use Rattle.go_parser.proofs.ListedSteps.{listed_none, listed_push, listed_open}
use Rattle.go_parser.proofs.StatementSteps.{leads_none, leads_push, leads_more, leads_enclosed, leads_closed}
use Rattle.go_parser.proofs.functions.params.Goals as goal

pub params-init : goal.params-init
params-init c = record {
  leads = leads_none (item_spelled kind.Comma param_spelled) _ c.new-params.ensures.items;
  formed =
      listed_none _ _ _ c.new-params.ensures.items;
}

pub params-preserved : goal.params-preserved
params-preserved c = record {
  leads = leads_push (item_spelled kind.Comma param_spelled) _ _ _
      (leads_more (list_rest Params kind.RightParen) _ c.params.invariant.leads (c.goes_on.ensures.separated c.params-test.true))
      (leads_enclosed kind.Comma _ (One is_ident ∷ A MoreIdents ∷ A TypeUse ∷ []) Params MoreParams kind.RightParen _ c.is_some-more.ensures
      (later (c.goes_on.ensures.open c.params-test.true) last) (λ us e. first e) (λ us e. later e last) c.in_ok-value.ensures.exact
      c.separator-separator.ensures) c.in_ok-push.ensures.items;
  formed = listed_push _ _ _ _ _ _ _ c.params.invariant.formed (c.goes_on.ensures.separated c.params-test.true) c.in_ok-value.ensures.formed
      c.is_some-more.ensures c.in_ok-push.ensures.items;
}

pub returns-in_err-value-clause-exact : goal.returns-in_err-value-clause-exact
returns-in_err-value-clause-exact c = exits _ _ _ _ c.in_err-value.field-0.0 c.from_residual.result c.from_residual.ensures.1
    (fails_leads (leads_more (list_rest Params kind.RightParen) _ c.params.invariant.leads (c.goes_on.ensures.separated c.params-test.true))
    (fails_rule (later (c.goes_on.ensures.open c.params-test.true) last) (fails_more (A MoreParams ∷ []) c.in_err-value.ensures.exact)))

pub returns-in_err-close-clause-exact : goal.returns-in_err-close-clause-exact
returns-in_err-close-clause-exact c = exits _ _ _ _ c.in_err-close.field-0.0 c.from_residual-in_err-close.result c.from_residual-in_err-close.ensures.1
    (fails_leads (leads_closed Params kind.RightParen _ c.params.invariant.leads (c.goes_on.ensures.ends c.params-test.false) (λ e. first e))
    c.in_err-close.ensures)

pub returns-clause-exact : goal.returns-clause-exact
returns-clause-exact c = read_led (leads_closed Params kind.RightParen _ c.params.invariant.leads (c.goes_on.ensures.ends c.params-test.false)
    (λ e. first e)) c.in_ok-close.ensures

pub returns-clause-formed : goal.returns-clause-formed
returns-clause-formed c = listed_open _ _ _ _ c.params.invariant.formed
