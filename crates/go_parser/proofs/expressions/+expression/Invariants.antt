-- The invariants of the loops of `expressions::expression`.
use Rattle.std.proofs.Common.{◌≡◌, ◌≢◌, ◌∷◌, ◌≤◌, ◌<◌, ◌+◌, ◌*◌, ◌-◌, [], length}
use Rattle.go_ast.specs.Grammar.{A, Binaries, Links, Arguments, ElementList}
use Rattle.go_ast.specs.declared.syntax.Kind.TheVariants as kind
use Rattle.go_parser.specs.Parsing.{Leads, list_rest}
use Rattle.go_ast.specs.Flatten.{all_tokens}
use Rattle.go_parser.specs.Spelling.{link_spelled, expr_item_spelled, element_spelled}
use Rattle.go_ast.specs.View.{type_view, expr_view}
use Rattle.go_ast.specs.WellFormed.{IsExpr}
use Rattle.go_parser.specs.Grouping.{Each, IsLink}
use Rattle.go_parser.proofs.Grouping.{IsSeparatedSoFar}
use Rattle.go_ast.specs.declared.tree.Element.{Element}
use Rattle.go_ast.specs.declared.tree.ExprItem.{ExprItem}
use Rattle.go_parser.specs.Strength.{strength_at}
use Rattle.go_parser.specs.Grouping.{IsOperandOf}
use Rattle.go_parser.specs.Spelling.{operand_spelled}
use Rattle.go_parser.proofs.expressions.+expression.Given as goal

abbrev pub decreases-literal : goal.decreases-literal
decreases-literal l = 16 * length l.tokens.now + 1

abbrev pub decreases-link : goal.decreases-link
decreases-link l = 16 * length l.tokens.now + 1

abbrev pub decreases-chain : goal.decreases-chain
decreases-chain l = 16 * length l.tokens.now + 2

abbrev pub decreases-addressed : goal.decreases-addressed
decreases-addressed l = 16 * length l.tokens.now + 2

abbrev pub decreases-named : goal.decreases-named
decreases-named l = 16 * length l.tokens.now + 3

abbrev pub decreases-operand : goal.decreases-operand
decreases-operand l = 16 * length l.tokens.now + 3

abbrev pub decreases-unary : goal.decreases-unary
decreases-unary l = 16 * length l.tokens.now + 4

abbrev pub decreases-binary_level : goal.decreases-binary_level
decreases-binary_level l = 16 * length l.tokens.now + 1

abbrev pub decreases-binary_rest : goal.decreases-binary_rest
decreases-binary_rest l = 16 * length l.tokens.now + 2

abbrev pub decreases-binary : goal.decreases-binary
decreases-binary l = 16 * length l.tokens.now + 10

abbrev pub decreases-expression : goal.decreases-expression
decreases-expression l = 16 * length l.tokens.now + 11

abbrev pub decreases-element : goal.decreases-element
decreases-element l = 16 * length l.tokens.now + 12

abbrev pub decreases-arguments : goal.decreases-arguments
decreases-arguments l = 16 * length l.tokens.now + 12

abbrev pub invariant-binary_level-operators : goal.invariant-binary_level-operators
invariant-binary_level-operators l = record {
  leads : Leads (A (Binaries l.header) ∷ []) (A (Binaries l.header) ∷ []) (all_tokens operand_spelled l.operands.items) l.depth l.fn.tokens l.depth l.rest;
  kept : expr_view l.first ≡ expr_view l.fn.first;
  grouped : Each (IsOperandOf l.header l.strength) l.operands.items;
  weaker : strength_at l.rest < l.strength + 1;
  begun : l.operands.items ≡ [] → l.rest ≡ l.fn.tokens;
  further : l.operands.items ≢ [] → length l.rest < length l.fn.tokens;
  shorter : length l.rest ≤ length l.fn.tokens;
}

abbrev pub decreases-binary_level-operators : goal.decreases-binary_level-operators
decreases-binary_level-operators l = length l.rest

abbrev pub invariant-chain-links : goal.invariant-chain-links
invariant-chain-links l = record {
  leads : Leads (A (Links l.header) ∷ []) (A (Links l.header) ∷ []) (all_tokens link_spelled l.links.items) l.depth l.fn.tokens l.depth l.rest;
  kept : expr_view l.first ≡ expr_view l.fn.first;
  grouped : Each IsLink l.links.items;
  shorter : length l.rest ≤ length l.fn.tokens;
}

abbrev pub decreases-chain-links : goal.decreases-chain-links
decreases-chain-links l = length l.rest

abbrev pub invariant-literal-elements : goal.invariant-literal-elements
invariant-literal-elements l = record {
  leads : Leads (A ElementList ∷ []) (list_rest ElementList kind.RightBrace l.more) (all_tokens element_spelled l.elements.items) l.inside l.initial.rest
      l.inside l.rest;
  kept : type_view l.literal_type ≡ type_view l.fn.literal_type;
  grouped : Each {X = Element} (λ i. IsExpr (expr_view i.value)) l.elements.items;
  separated : IsSeparatedSoFar {X = Element} (λ i. i.comma) l.more l.elements.items;
  shorter : length l.rest ≤ length l.initial.rest;
}

abbrev pub decreases-literal-elements : goal.decreases-literal-elements
decreases-literal-elements l = length l.rest

abbrev pub invariant-arguments-arguments : goal.invariant-arguments-arguments
invariant-arguments-arguments l = record {
  leads : Leads (A Arguments ∷ []) (list_rest Arguments kind.RightParen l.more) (all_tokens expr_item_spelled l.arguments.items) l.depth l.fn.tokens l.depth
      l.rest;
  grouped : Each {X = ExprItem} (λ i. IsExpr (expr_view i.value)) l.arguments.items;
  separated : IsSeparatedSoFar {X = ExprItem} (λ i. i.comma) l.more l.arguments.items;
  shorter : length l.rest ≤ length l.fn.tokens;
}

abbrev pub decreases-arguments-arguments : goal.decreases-arguments-arguments
decreases-arguments-arguments l = length l.rest
