-- The invariants of the loops of `names::literals`.
use Rattle.std.proofs.Common.{◌∷◌, [], length, ◌+◌}
use Rattle.go_ast.specs.declared.syntax.Kind.TheVariants as kind
use Rattle.go_ast.specs.Grammar.{A, One, is_literal, MoreLiterals}
use Rattle.go_parser.specs.ListSpelling.{item_spelled}
use Rattle.go_parser.specs.Spelling.{basic_spelled}
use Rattle.go_ast.specs.Flatten.{all_tokens}
use Rattle.go_parser.specs.Parsing.{Leads}
use Rattle.go_parser.specs.Listed.{IsListed}
use Rattle.go_ast.specs.View.{item_view}
use Rattle.go_ast.specs.FileView.{basic_view}
use Rattle.go_ast.specs.WellFormed.{Any}
use Rattle.go_parser.proofs.StatementSteps.{flag}
use Rattle.go_parser.proofs.Lists.{items_rest}
use Rattle.go_parser.proofs.names.literals.Given as goal

abbrev pub invariant-literals : goal.invariant-literals
invariant-literals l = record {
  leads : Leads (One is_literal ∷ A MoreLiterals ∷ []) (items_rest (One is_literal ∷ A MoreLiterals ∷ []) l.more)
      (all_tokens (item_spelled kind.Comma basic_spelled) l.literals.items) l.depth l.fn.tokens l.depth l.rest;
  formed : IsListed (λ x. Any x) (item_view basic_view) l.more l.literals.items;
}

abbrev pub decreases-literals : goal.decreases-literals
decreases-literals l = length l.rest + flag l.more
