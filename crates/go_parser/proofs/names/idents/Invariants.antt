-- The invariants of the loops of `names::idents`.
use Rattle.std.proofs.Common.{◌∷◌, [], length, ◌+◌}
use Rattle.go_ast.specs.declared.syntax.Kind.TheVariants as kind
use Rattle.go_ast.specs.Grammar.{A, One, is_ident, MoreIdents}
use Rattle.go_parser.specs.ListSpelling.{item_spelled}
use Rattle.go_parser.specs.Spelling.{ident_spelled}
use Rattle.go_ast.specs.Flatten.{all_tokens}
use Rattle.go_parser.specs.Parsing.{Leads}
use Rattle.go_parser.specs.Listed.{IsListed}
use Rattle.go_ast.specs.View.{item_view, ident_view}
use Rattle.go_ast.specs.WellFormed.{Any}
use Rattle.go_parser.proofs.StatementSteps.{flag}
use Rattle.go_parser.proofs.Lists.{items_rest}
use Rattle.go_parser.proofs.names.idents.Given as goal

abbrev pub invariant-idents : goal.invariant-idents
invariant-idents l = record {
  leads : Leads (One is_ident ∷ A MoreIdents ∷ []) (items_rest (One is_ident ∷ A MoreIdents ∷ []) l.more)
      (all_tokens (item_spelled kind.Comma ident_spelled) l.idents.items) l.depth l.fn.tokens l.depth l.rest;
  formed : IsListed (λ x. Any x) (item_view ident_view) l.more l.idents.items;
}

abbrev pub decreases-idents : goal.decreases-idents
decreases-idents l = length l.rest + flag l.more
