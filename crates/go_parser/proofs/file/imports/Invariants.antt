-- The invariants of the loops of `file::imports`.
use Rattle.std.proofs.Common.{◌∷◌, [], length}
use Rattle.go_ast.specs.Grammar.{A, Imports}
use Rattle.go_parser.specs.Parsing.{Leads}
use Rattle.go_ast.specs.Flatten.{all_tokens}
use Rattle.go_parser.specs.Spelling.{imports_spelled}
use Rattle.std.specs.List.{All}
use Rattle.go_ast.specs.WellFormed.{IsImports}
use Rattle.go_ast.specs.FileView.{imports_view}
use Rattle.go_parser.proofs.file.imports.Given as goal

abbrev pub invariant-imports : goal.invariant-imports
invariant-imports l = record {
  leads : Leads (A Imports ∷ []) (A Imports ∷ []) (all_tokens imports_spelled l.imports.items) l.depth l.fn.tokens l.depth l.rest;
  formed : All (λ i. IsImports (imports_view i)) l.imports.items;
}

abbrev pub decreases-imports : goal.decreases-imports
decreases-imports l = length l.rest
