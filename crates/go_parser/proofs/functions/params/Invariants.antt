-- The invariants of the loops of `functions::params`.
use Rattle.std.proofs.Common.{◌∷◌, [], length, ◌+◌}
use Rattle.go_ast.specs.declared.syntax.Kind.TheVariants as kind
use Rattle.go_ast.specs.Grammar.{A, Params}
use Rattle.go_parser.specs.ListSpelling.{item_spelled}
use Rattle.go_parser.specs.Spelling.{param_spelled}
use Rattle.go_ast.specs.Flatten.{all_tokens}
use Rattle.go_parser.specs.Parsing.{Leads, list_rest}
use Rattle.go_parser.specs.Listed.{IsListed}
use Rattle.go_ast.specs.View.{item_view}
use Rattle.go_ast.specs.FileView.{param_view}
use Rattle.go_ast.specs.WellFormed.{IsParam}
use Rattle.go_parser.proofs.StatementSteps.{flag}
use Rattle.go_parser.proofs.functions.params.Given as goal

abbrev pub invariant-params : goal.invariant-params
invariant-params l = record {
  leads : Leads (A Params ∷ []) (list_rest Params kind.RightParen l.more) (all_tokens (item_spelled kind.Comma param_spelled) l.params.items) l.depth
      l.fn.tokens l.depth l.rest;
  formed : IsListed IsParam (item_view param_view) l.more l.params.items;
}

abbrev pub decreases-params : goal.decreases-params
decreases-params l = length l.rest + flag l.more
