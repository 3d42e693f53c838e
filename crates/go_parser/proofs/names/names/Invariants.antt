-- The invariants of the loops of `names::names`.
use Rattle.std.proofs.Common.{◌∷◌, [], length, ◌+◌}
use Rattle.go_ast.specs.declared.syntax.Kind.TheVariants as kind
use Rattle.go_ast.specs.Grammar.{A, One, is, MoreNames}
use Rattle.go_parser.specs.ListSpelling.{item_spelled}
use Rattle.go_ast.specs.Flatten.{name_tokens}
use Rattle.go_ast.specs.Flatten.{all_tokens}
use Rattle.go_parser.specs.Parsing.{Leads}
use Rattle.go_parser.specs.Listed.{IsListed}
use Rattle.go_ast.specs.View.{item_view}
use Rattle.go_ast.specs.FileView.{same_index}
use Rattle.go_ast.specs.WellFormed.{Any}
use Rattle.go_parser.proofs.StatementSteps.{flag}
use Rattle.go_parser.proofs.Lists.{items_rest}
use Rattle.go_parser.proofs.names.names.Given as goal

abbrev pub invariant-names : goal.invariant-names
invariant-names l = record {
  leads : Leads (One (is kind.Name) ∷ A MoreNames ∷ []) (items_rest (One (is kind.Name) ∷ A MoreNames ∷ []) l.more)
      (all_tokens (item_spelled kind.Comma name_tokens) l.names.items) l.depth l.fn.tokens l.depth l.rest;
  formed : IsListed (λ x. Any x) (item_view same_index) l.more l.names.items;
}

abbrev pub decreases-names : goal.decreases-names
decreases-names l = length l.rest + flag l.more
