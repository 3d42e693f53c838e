-- The answers to the goals of `groups::specs`.
use Rattle.std.proofs.Common.{◌∷◌, []}
use Rattle.go_ast.specs.declared.syntax.Kind.TheVariants as kind
use Rattle.go_ast.specs.Grammar.{A, Single, Items, MoreItems}
use Rattle.go_parser.specs.Machine.{first, later, last}
use Rattle.go_parser.specs.Parsing.{list_rest}
use Rattle.go_parser.specs.ListSpelling.{item_spelled}
use Rattle.go_parser.proofs.MachineSteps.{exits, fails_rule, fails_leads, fails_more, read_led}
use Rattle.go_parser.proofs.ListedSteps.{listed_none, listed_push, listed_open}
use Rattle.go_parser.proofs.StatementSteps.{leads_none, leads_push, leads_more, leads_enclosed, leads_closed}
use Rattle.go_parser.proofs.groups.specs.Goals as goal

pub items-init : goal.items-init
items-init g c = record {
  leads = leads_none (item_spelled kind.Semicolon g.S.Spec.spelled) _ c.new-items.ensures.items;
  formed =
      listed_none _ _ _ c.new-items.ensures.items;
}

pub items-preserved : goal.items-preserved
items-preserved g c = record {
  leads = leads_push (item_spelled kind.Semicolon g.S.Spec.spelled) _ _ _
      (leads_more (list_rest (Items g.S.Spec.item) kind.RightParen) _ c.items.invariant.leads (c.goes_on.ensures.separated c.items-test.true))
      (leads_enclosed kind.Semicolon _ (A (Single g.S.Spec.item) ∷ []) (Items g.S.Spec.item) (MoreItems g.S.Spec.item) kind.RightParen _
      c.is_some-more.ensures (later (c.goes_on.ensures.open c.items-test.true) last) (λ us e. first e) (λ us e. later e last)
      c.in_ok-value.ensures.exact c.separator-separator.ensures) c.in_ok-push.ensures.items;
  formed = listed_push _ _ _ _ _ _ _ c.items.invariant.formed (c.goes_on.ensures.separated c.items-test.true) c.in_ok-value.ensures.formed
      c.is_some-more.ensures c.in_ok-push.ensures.items;
}

pub returns-in_err-value-clause-exact : goal.returns-in_err-value-clause-exact
returns-in_err-value-clause-exact g c = exits _ _ _ _ c.in_err-value.field-0.0 c.from_residual.result c.from_residual.ensures.1
    (fails_leads (leads_more (list_rest (Items g.S.Spec.item) kind.RightParen) _ c.items.invariant.leads (c.goes_on.ensures.separated c.items-test.true))
    (fails_rule (later (c.goes_on.ensures.open c.items-test.true) last) (fails_more (A (MoreItems g.S.Spec.item) ∷ []) c.in_err-value.ensures.exact)))

pub returns-in_err-close-clause-exact : goal.returns-in_err-close-clause-exact
returns-in_err-close-clause-exact g c = exits _ _ _ _ c.in_err-close.field-0.0 c.from_residual-in_err-close.result c.from_residual-in_err-close.ensures.1
    (fails_leads (leads_closed (Items g.S.Spec.item) kind.RightParen _ c.items.invariant.leads (c.goes_on.ensures.ends c.items-test.false) (λ e. first e))
    c.in_err-close.ensures)

pub returns-clause-exact : goal.returns-clause-exact
returns-clause-exact g c = read_led (leads_closed (Items g.S.Spec.item) kind.RightParen _ c.items.invariant.leads
    (c.goes_on.ensures.ends c.items-test.false) (λ e. first e)) c.in_ok-close.ensures

pub returns-clause-formed : goal.returns-clause-formed
returns-clause-formed g c = listed_open _ _ _ _ c.items.invariant.formed
