-- The invariants of the loops of `file::decls`.
use Rattle.std.proofs.Common.{◌∷◌, [], length}
use Rattle.go_ast.specs.Grammar.{A, Tops}
use Rattle.go_parser.specs.Parsing.{Leads}
use Rattle.go_ast.specs.Flatten.{all_tokens}
use Rattle.go_parser.specs.Spelling.{decl_spelled}
use Rattle.std.specs.List.{All}
use Rattle.go_ast.specs.WellFormed.{IsDecl}
use Rattle.go_ast.specs.FileView.{decl_view}
use Rattle.go_parser.proofs.file.decls.Given as goal

abbrev pub invariant-decls : goal.invariant-decls
invariant-decls l = record {
  leads : Leads (A Tops ∷ []) (A Tops ∷ []) (all_tokens decl_spelled l.decls.items) l.depth l.fn.tokens l.depth l.rest;
  formed : All (λ d. IsDecl (decl_view d)) l.decls.items;
}

abbrev pub decreases-decls : goal.decreases-decls
decreases-decls l = length l.rest
