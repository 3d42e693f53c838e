-- The answers to the goals of `names::names`.
use Rattle.std.proofs.Common.{◌∷◌, [], refl}
use Rattle.go_ast.specs.declared.syntax.Kind.TheVariants as kind
use Rattle.go_ast.specs.Grammar.{A, One, is, MoreNames}
use Rattle.go_ast.specs.Flatten.{name_tokens, item_tokens}
use Rattle.go_ast.specs.FileView.{same_index}
use Rattle.go_parser.specs.Machine.{first, later, last}
use Rattle.go_parser.specs.ListSpelling.{item_spelled}
use Rattle.go_ast.specs.View.{item_view}
use Rattle.go_parser.proofs.MachineSteps.{read_as}
use Rattle.go_parser.proofs.ListedSteps.{listed_none, listed_push, listed_list}
use Rattle.go_parser.proofs.StatementSteps.{leads_none, leads_push, leads_more, leads_item, read_items, all_tokens_map}
use Rattle.go_parser.proofs.Lists.{items_rest}
use Rattle.go_parser.proofs.names.names.Goals as goal

pub names-init : goal.names-init
names-init c = record {
  leads = leads_none (item_spelled kind.Comma name_tokens) _ c.new-names.ensures.items;
  formed =
      listed_none _ _ _ c.new-names.ensures.items;
}

pub names-preserved : goal.names-preserved
names-preserved c = record {
  leads = leads_push (item_spelled kind.Comma name_tokens) _ _ _
      (leads_more (items_rest (One (is kind.Name) ∷ A MoreNames ∷ [])) _ c.names.invariant.leads c.names-test.true)
      (leads_item kind.Comma _ (One (is kind.Name) ∷ []) MoreNames _ c.is_some-more.ensures (λ us e. first e) (λ us e. later e last) c.in_ok-value.ensures
      c.separator-separator.ensures) c.in_ok-push.ensures.items;
  formed = listed_push _ _ _ _ _ _ _ c.names.invariant.formed c.names-test.true tt c.is_some-more.ensures c.in_ok-push.ensures.items;
}

pub returns-clause-exact : goal.returns-clause-exact
returns-clause-exact c = read_as (read_items (items_rest (One (is kind.Name) ∷ A MoreNames ∷ [])) _ refl c.names.invariant.leads c.names-test.false)
    (all_tokens_map (item_tokens kind.Comma name_tokens) (item_view same_index) _)

pub returns-clause-formed : goal.returns-clause-formed
returns-clause-formed c = listed_list _ _ _ _ c.names.invariant.formed c.names-test.false
