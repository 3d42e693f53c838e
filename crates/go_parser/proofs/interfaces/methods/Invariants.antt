-- The invariants of the loops of `interfaces::methods`.
use Rattle.std.proofs.Common.{◌∷◌, [], length, ◌+◌}
use Rattle.go_ast.specs.declared.syntax.Kind.TheVariants as kind
use Rattle.go_ast.specs.Grammar.{A, Methods}
use Rattle.go_parser.specs.ListSpelling.{item_spelled}
use Rattle.go_parser.specs.Spelling.{method_spelled}
use Rattle.go_ast.specs.Flatten.{all_tokens}
use Rattle.go_parser.specs.Parsing.{Leads, list_rest}
use Rattle.go_parser.specs.Listed.{IsListed}
use Rattle.go_ast.specs.View.{item_view}
use Rattle.go_ast.specs.FileView.{method_view}
use Rattle.go_ast.specs.WellFormed.{IsMethodSpec}
use Rattle.go_parser.proofs.StatementSteps.{flag}
use Rattle.go_parser.proofs.interfaces.methods.Given as goal

abbrev pub invariant-methods : goal.invariant-methods
invariant-methods l = record {
  leads : Leads (A Methods ∷ []) (list_rest Methods kind.RightBrace l.more) (all_tokens (item_spelled kind.Semicolon method_spelled) l.methods.items) l.depth
      l.fn.tokens l.depth l.rest;
  formed : IsListed IsMethodSpec (item_view method_view) l.more l.methods.items;
}

abbrev pub decreases-methods : goal.decreases-methods
decreases-methods l = length l.rest + flag l.more
