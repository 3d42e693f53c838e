-- The invariants of the loops of `groups::specs`.
use Rattle.std.proofs.Common.{◌∷◌, [], length, ◌+◌}
use Rattle.go_ast.specs.declared.syntax.Kind.TheVariants as kind
use Rattle.go_ast.specs.Grammar.{A, Items}
use Rattle.go_parser.specs.ListSpelling.{item_spelled}
use Rattle.go_ast.specs.Flatten.{all_tokens}
use Rattle.go_parser.specs.Parsing.{Leads, list_rest}
use Rattle.go_parser.specs.Listed.{IsListed}
use Rattle.go_ast.specs.View.{item_view}
use Rattle.go_parser.proofs.StatementSteps.{flag}
use Rattle.go_parser.proofs.groups.specs.Given as goal

abbrev pub invariant-items : goal.invariant-items
invariant-items g l = record {
  leads : Leads (A (Items g.S.Spec.item) ∷ []) (list_rest (Items g.S.Spec.item) kind.RightParen l.more)
      (all_tokens (item_spelled kind.Semicolon g.S.Spec.spelled) l.items.items) l.depth l.fn.tokens l.depth l.rest;
  formed : IsListed g.S.Spec.is_formed (item_view (λ x. x)) l.more l.items.items;
}

abbrev pub decreases-items : goal.decreases-items
decreases-items g l = length l.rest + flag l.more
