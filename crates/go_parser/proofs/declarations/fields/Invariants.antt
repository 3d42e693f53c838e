-- The invariants of the loops of `declarations::fields`.
use Rattle.std.proofs.Common.{◌∷◌, [], length, ◌+◌}
use Rattle.go_ast.specs.declared.syntax.Kind.TheVariants as kind
use Rattle.go_ast.specs.Grammar.{A, Fields}
use Rattle.go_parser.specs.ListSpelling.{item_spelled}
use Rattle.go_parser.specs.Spelling.{field_spelled}
use Rattle.go_ast.specs.Flatten.{all_tokens}
use Rattle.go_parser.specs.Parsing.{Leads, list_rest}
use Rattle.go_parser.specs.Listed.{IsListed}
use Rattle.go_ast.specs.View.{item_view}
use Rattle.go_ast.specs.FileView.{field_view}
use Rattle.go_ast.specs.WellFormed.{IsField}
use Rattle.go_parser.proofs.StatementSteps.{flag}
use Rattle.go_parser.proofs.declarations.fields.Given as goal

abbrev pub invariant-fields : goal.invariant-fields
invariant-fields l = record {
  leads : Leads (A Fields ∷ []) (list_rest Fields kind.RightBrace l.more) (all_tokens (item_spelled kind.Semicolon field_spelled) l.fields.items) l.depth
      l.fn.tokens l.depth l.rest;
  formed : IsListed IsField (item_view field_view) l.more l.fields.items;
}

abbrev pub decreases-fields : goal.decreases-fields
decreases-fields l = length l.rest + flag l.more
