-- The answers to the goals of `interfaces::methods`.
use Rattle.std.proofs.Common.{◌∷◌, []}
use Rattle.go_ast.specs.declared.syntax.Kind.TheVariants as kind
use Rattle.go_ast.specs.Grammar.{A, One, Opening, Close, is, Params, Result, Methods, MoreMethods}
use Rattle.go_parser.specs.Spelling.{method_spelled}
use Rattle.go_parser.specs.Machine.{first, later, last}
use Rattle.go_parser.specs.Parsing.{list_rest}
use Rattle.go_parser.specs.ListSpelling.{item_spelled}
use Rattle.go_parser.proofs.MachineSteps.{exits, fails_rule, fails_leads, fails_more, read_led}
use Rattle.go_parser.proofs.ListedSteps.{listed_none, listed_push, listed_open}
use Rattle.go_parser.proofs.StatementSteps.{leads_none, leads_push, leads_more, leads_enclosed, leads_closed}
use Rattle.go_parser.proofs.interfaces.methods.Goals as goal

pub methods-init : goal.methods-init
methods-init c = record {
  leads = leads_none (item_spelled kind.Semicolon method_spelled) _ c.new-methods.ensures.items;
  formed =
      listed_none _ _ _ c.new-methods.ensures.items;
}

pub methods-preserved : goal.methods-preserved
methods-preserved c = record {
  leads = leads_push (item_spelled kind.Semicolon method_spelled) _ _ _
      (leads_more (list_rest Methods kind.RightBrace) _ c.methods.invariant.leads (c.goes_on.ensures.separated c.methods-test.true))
      (leads_enclosed kind.Semicolon _ (One (is kind.Name) ∷ Opening (is kind.LeftParen) ∷ A Params ∷ Close ∷ A Result ∷ []) Methods MoreMethods
      kind.RightBrace _ c.is_some-more.ensures
      (later (c.goes_on.ensures.open c.methods-test.true) last) (λ us e. first e) (λ us e. later e last) c.in_ok-value.ensures.exact
      c.separator-separator.ensures) c.in_ok-push.ensures.items;
  formed = listed_push _ _ _ _ _ _ _ c.methods.invariant.formed (c.goes_on.ensures.separated c.methods-test.true) c.in_ok-value.ensures.formed
      c.is_some-more.ensures c.in_ok-push.ensures.items;
}

pub returns-in_err-value-clause-exact : goal.returns-in_err-value-clause-exact
returns-in_err-value-clause-exact c = exits _ _ _ _ c.in_err-value.field-0.0 c.from_residual.result c.from_residual.ensures.1
    (fails_leads (leads_more (list_rest Methods kind.RightBrace) _ c.methods.invariant.leads (c.goes_on.ensures.separated c.methods-test.true))
    (fails_rule (later (c.goes_on.ensures.open c.methods-test.true) last) (fails_more (A MoreMethods ∷ []) c.in_err-value.ensures.exact)))

pub returns-in_err-close-clause-exact : goal.returns-in_err-close-clause-exact
returns-in_err-close-clause-exact c = exits _ _ _ _ c.in_err-close.field-0.0 c.from_residual-in_err-close.result c.from_residual-in_err-close.ensures.1
    (fails_leads (leads_closed Methods kind.RightBrace _ c.methods.invariant.leads (c.goes_on.ensures.ends c.methods-test.false) (λ e. first e))
    c.in_err-close.ensures)

pub returns-clause-exact : goal.returns-clause-exact
returns-clause-exact c = read_led (leads_closed Methods kind.RightBrace _ c.methods.invariant.leads (c.goes_on.ensures.ends c.methods-test.false)
    (λ e. first e)) c.in_ok-close.ensures

pub returns-clause-formed : goal.returns-clause-formed
returns-clause-formed c = listed_open _ _ _ _ c.methods.invariant.formed
