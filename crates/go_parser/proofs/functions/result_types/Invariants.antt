-- The invariants of the loops of `functions::result_types`.
use Rattle.std.proofs.Common.{◌∷◌, [], length, ◌+◌}
use Rattle.go_ast.specs.declared.syntax.Kind.TheVariants as kind
use Rattle.go_ast.specs.Grammar.{A, Types}
use Rattle.go_parser.specs.ListSpelling.{item_spelled}
use Rattle.go_parser.specs.Spelling.{type_spelled}
use Rattle.go_ast.specs.Flatten.{all_tokens}
use Rattle.go_parser.specs.Parsing.{Leads, list_rest}
use Rattle.go_parser.specs.Listed.{IsListed}
use Rattle.go_ast.specs.View.{item_view, type_view}
use Rattle.go_ast.specs.WellFormed.{Any}
use Rattle.go_parser.proofs.StatementSteps.{flag}
use Rattle.go_parser.proofs.functions.result_types.Given as goal

abbrev pub invariant-types : goal.invariant-types
invariant-types l = record {
  leads : Leads (A Types ∷ []) (list_rest Types kind.RightParen l.more) (all_tokens (item_spelled kind.Comma type_spelled) l.types.items) l.depth
      l.fn.tokens l.depth l.rest;
  formed : IsListed (λ x. Any x) (item_view type_view) l.more l.types.items;
}

abbrev pub decreases-types : goal.decreases-types
decreases-types l = length l.rest + flag l.more
