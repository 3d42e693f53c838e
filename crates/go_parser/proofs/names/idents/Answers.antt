-- The answers to the goals of `names::idents`.
use Rattle.std.proofs.Common.{◌∷◌, [], refl}
use Rattle.go_ast.specs.declared.syntax.Kind.TheVariants as kind
use Rattle.go_ast.specs.Grammar.{A, One, is_ident, MoreIdents}
use Rattle.go_ast.specs.Flatten.{ident_tokens, item_tokens}
use Rattle.go_ast.specs.View.{ident_view}
use Rattle.go_parser.specs.Spelling.{ident_spelled}
use Rattle.go_parser.specs.Machine.{first, later, last}
use Rattle.go_parser.specs.ListSpelling.{item_spelled}
use Rattle.go_ast.specs.View.{item_view}
use Rattle.go_parser.proofs.MachineSteps.{read_as}
use Rattle.go_parser.proofs.ListedSteps.{listed_none, listed_push, listed_list}
use Rattle.go_parser.proofs.StatementSteps.{leads_none, leads_push, leads_more, leads_item, read_items, all_tokens_map}
use Rattle.go_parser.proofs.Lists.{items_rest}
use Rattle.go_parser.proofs.names.idents.Goals as goal

pub idents-init : goal.idents-init
idents-init c = record {
  leads = leads_none (item_spelled kind.Comma ident_spelled) _ c.new-idents.ensures.items;
  formed =
      listed_none _ _ _ c.new-idents.ensures.items;
}

pub idents-preserved : goal.idents-preserved
idents-preserved c = record {
  leads = leads_push (item_spelled kind.Comma ident_spelled) _ _ _
      (leads_more (items_rest (One is_ident ∷ A MoreIdents ∷ [])) _ c.idents.invariant.leads c.idents-test.true)
      (leads_item kind.Comma _ (One is_ident ∷ []) MoreIdents _ c.is_some-more.ensures (λ us e. first e) (λ us e. later e last) c.in_ok-value.ensures
      c.separator-separator.ensures) c.in_ok-push.ensures.items;
  formed = listed_push _ _ _ _ _ _ _ c.idents.invariant.formed c.idents-test.true tt c.is_some-more.ensures c.in_ok-push.ensures.items;
}

pub returns-clause-exact : goal.returns-clause-exact
returns-clause-exact c = read_as (read_items (items_rest (One is_ident ∷ A MoreIdents ∷ [])) _ refl c.idents.invariant.leads c.idents-test.false)
    (all_tokens_map (item_tokens kind.Comma ident_tokens) (item_view ident_view) _)

pub returns-clause-formed : goal.returns-clause-formed
returns-clause-formed c = listed_list _ _ _ _ c.idents.invariant.formed c.idents-test.false
