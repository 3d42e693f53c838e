-- The answers to the goals of `simple::more_exprs`.
use Rattle.std.proofs.Common.{◌∷◌, [], refl}
use Rattle.go_ast.specs.declared.syntax.Kind.TheVariants as kind
use Rattle.go_ast.specs.Grammar.{A, Expression, MoreExpressions, in_head}
use Rattle.go_parser.specs.Machine.{first, last, later}
use Rattle.go_parser.specs.TokenClasses.{setting_of}
use Rattle.go_parser.proofs.MachineSteps.{exits, fails_first, fails_leads, fails_rule}
use Rattle.go_parser.proofs.StatementSteps.{continued_items, continued_rule, from_begun, from_more, from_push, leads_item}
use Rattle.go_parser.proofs.ListedSteps.{listed_list, listed_push}
use Rattle.go_parser.proofs.SpelledSimple.{exprs_push}
use Rattle.go_parser.proofs.Lists.{items_rest}
use Rattle.go_parser.proofs.simple.more_exprs.Goals as goal

pub exprs-init : goal.exprs-init
exprs-init c = record { leads = from_begun _; formed = c.requires }

pub exprs-preserved : goal.exprs-preserved
exprs-preserved c = record {
  formed = listed_push _ _ _ _ _ _ _ c.exprs.invariant.formed c.exprs-test.true c.in_ok-value.ensures.formed c.is_some-more.ensures c.in_ok-push.ensures.items;
  leads = from_push (from_more (items_rest (A (Expression (in_head (setting_of c.args.setting))) ∷ A (MoreExpressions (in_head (setting_of c.args.setting)))
      ∷ [])) _ c.exprs.invariant.leads c.exprs-test.true)
      (leads_item kind.Comma _ (A (Expression (in_head (setting_of c.args.setting))) ∷ []) (MoreExpressions (in_head (setting_of c.args.setting))) _
      c.is_some-more.ensures (λ us e. first e) (λ us e. later e last) c.in_ok-value.ensures.exact c.separator-comma.ensures)
      (exprs_push _ _ _ c.in_ok-push.ensures.items);
}

pub returns-in_err-value-clause-exact : goal.returns-in_err-value-clause-exact
returns-in_err-value-clause-exact c = exits _ _ _ _ c.in_err-value.field-0.0 c.from_residual.result c.from_residual.ensures.1
    (fails_rule last (fails_leads (from_more (items_rest
    (A (Expression (in_head (setting_of c.args.setting))) ∷ A (MoreExpressions (in_head (setting_of c.args.setting))) ∷ [])) _ c.exprs.invariant.leads
    c.exprs-test.true).leads (fails_first c.in_err-value.ensures.exact)))

pub returns-clause-exact : goal.returns-clause-exact
returns-clause-exact c = continued_rule last (continued_items
    (items_rest (A (Expression (in_head (setting_of c.args.setting))) ∷ A (MoreExpressions (in_head (setting_of c.args.setting))) ∷ [])) _ refl
    c.exprs.invariant.leads c.exprs-test.false)

pub returns-clause-formed : goal.returns-clause-formed
returns-clause-formed c = listed_list _ _ _ _ c.exprs.invariant.formed c.exprs-test.false
