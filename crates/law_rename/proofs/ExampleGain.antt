-- Worked example: in `package a`, `import "b/c"`, `func f() { c.G() }`, each on its line, the import gains the name `d`.
use Rattle.std.proofs.Common.{ℕ, ◌≡◌, ◌+◌, List, [], ◌∷◌, Option, Some, None, false, length, refl}
use Rattle.std.specs.Prelude.{codes}
use Rattle.std.specs.List.{flat_map}
use Rattle.go_scanner.specs.declared.keywords.Keyword.TheVariants as word
use Rattle.go_scanner.specs.declared.operators.Operator.TheVariants as operators
use Rattle.go_scanner.specs.declared.piece.Class.{Class}
use Rattle.go_scanner.specs.declared.piece.Class.TheVariants as class
use Rattle.go_scanner.specs.declared.piece.Piece.{Piece}
use Rattle.go_scanner.specs.Tokens.{line_ends, tokens_of}
use Rattle.go_respelled.specs.Literals.{piece_at}
use Rattle.go_scope.specs.declared.model.Block.TheVariants as blocks
use Rattle.go_scope.specs.declared.model.Role.{Role}
use Rattle.go_scope.specs.declared.model.Role.TheVariants.{Use, Declaring, NotLexical}
use Rattle.go_scope.specs.declared.model.Purpose.TheVariants as purpose
use Rattle.go_scope.specs.ExpressionSites.{argument_sites, expr_sites, link_sites}
use Rattle.go_scope.specs.FileSites.{decl_sites, file_sites, func_sites, import_sites, imports_sites, result_sites}
use Rattle.go_scope.specs.Named.{named_sites}
use Rattle.go_scope.specs.Site.{Site}
use Rattle.go_scope.specs.StatementSites.{block_sites, group_sites, simple_sites, statement_sites, statements_sites}
use Rattle.go_ast.specs.Flatten.{all_tokens, argument_tokens, block_tokens, decl_tokens, expr_tokens, flatten, func_tokens, group_tokens, import_tokens}
use Rattle.go_ast.specs.Flatten.{imports_tokens, link_tokens, result_tokens, simple_tokens, statement_tokens, statements_tokens}
use Rattle.go_ast.specs.Kinds.{kinds_from, kinds_of}
use Rattle.go_ast.specs.Tree.{Alone, Chain, FuncDecl, Name, Simple, block, call, no_argument, no_link, no_result, no_statement, selector, statement}
use Rattle.law_rename.specs.Renumbered.{arguments_by, block_by, expr_by, links_by, statement_by, statements_by}
use Rattle.law_rename.specs.Around.{AroundImport, alone, around_by, bare_import, file_with, from_on, import_with_name}
use Rattle.law_rename.specs.Named.{NamePut, after_put, before_put}
use Rattle.law_rename.specs.Gained.{HasGained, named_file, bare_file, gain_of, import_site, sites_in, unnamed_site}

-- pieces, each by its class and its bytes, from a place on

abbrev place_in : ℕ → List (Class × List ℕ) → List Piece
place_in place [] = []
place_in place (x ∷ xs) = piece_at x.0 place x.1 ∷ place_in (place + length x.1) xs

abbrev bytes_in : List (Class × List ℕ) → List ℕ
bytes_in xs = flat_map (λ x. x.1) xs

abbrev sign : Class → List ℕ → Class × List ℕ
sign c bytes = (c, bytes)

abbrev blank : Class × List ℕ
blank = sign class.Blank (32 ∷ [])

abbrev line : Class × List ℕ
line = sign class.Newline (10 ∷ [])

abbrev called : List ℕ → Class × List ℕ
called name = sign class.Name name

abbrev front : List (Class × List ℕ)
front = sign (class.Keyword word.Package) (codes "package") ∷ blank ∷ called (codes "a") ∷ line ∷
    sign (class.Keyword word.Import) (codes "import") ∷ blank ∷ []

abbrev rest : List (Class × List ℕ)
rest = line ∷ sign (class.Keyword word.Func) (codes "func") ∷ blank ∷ called (codes "f") ∷ sign (class.Operator operators.LeftParen) (codes "(") ∷
    sign (class.Operator operators.RightParen) (codes ")") ∷ blank ∷ sign (class.Operator operators.LeftBrace) (codes "{") ∷ blank ∷ called (codes "c") ∷
    sign (class.Operator operators.Period) (codes ".") ∷ called (codes "G") ∷ sign (class.Operator operators.LeftParen) (codes "(") ∷
    sign (class.Operator operators.RightParen) (codes ")") ∷ blank ∷ sign (class.Operator operators.RightBrace) (codes "}") ∷ line ∷ []

abbrev put : NamePut
put = record {
  front = bytes_in front;
  literal = codes "\"b/c\"";
  rest = bytes_in rest;
  before = place_in 0 front;
  class = class.InterpretedString;
  after = place_in 22 rest;
  blank_first = false;
  name = codes "d";
}

-- the literal is token 4; behind it, and at the end, a semicolon is inserted
abbrev around : AroundImport
around = record {
  keyword = 0;
  name = 1;
  semicolon = 2;
  before = [];
  import_keyword = 3;
  item = alone;
  import_semicolon = 5;
  after = [];
  decls = FuncDecl 6 (record {
    receiver = None;
    name = 7;
    lparen = 8;
    params = [];
    rparen = 9;
    result = no_result;
    body = block 10 (statement (Simple (Alone (Chain (Name 11) (selector 12 13 (call 14 no_argument 15 no_link))))) None no_statement) 16;
  }) 17 ∷ [];
}

-- the trees are those of the texts

tree_is_old : flatten (file_with (bare_import 4) around) ≡ kinds_of (before_put put)
unfolding flatten all_tokens imports_tokens group_tokens import_tokens decl_tokens func_tokens result_tokens block_tokens statements_tokens statement_tokens
    simple_tokens expr_tokens link_tokens argument_tokens tokens_of line_ends kinds_from
tree_is_old = refl

tree_is_new : flatten (file_with (import_with_name 4) (around_by (from_on 4) around)) ≡ kinds_of (after_put put)
unfolding flatten all_tokens imports_tokens group_tokens import_tokens decl_tokens func_tokens result_tokens block_tokens statements_tokens statement_tokens
    simple_tokens expr_tokens link_tokens argument_tokens tokens_of line_ends kinds_from block_by statements_by statement_by expr_by links_by arguments_by
tree_is_new = refl

-- the identifiers

abbrev stands : ℕ → List ℕ → Role → Site
stands n name role = record { place = record { file = 0; index = n }; name = name; role = role }

abbrev old : List Site
old = stands 1 (codes "a") (NotLexical purpose.PackageClause) ∷ stands 4 (codes "\"b/c\"") (NotLexical purpose.UnnamedImport) ∷
    stands 7 (codes "f") (Declaring blocks.Package 0) ∷ stands 11 (codes "c") Use ∷ stands 13 (codes "G") (NotLexical purpose.Selected) ∷ []

abbrev new : List Site
new = stands 1 (codes "a") (NotLexical purpose.PackageClause) ∷ stands 4 (codes "d") (Declaring (blocks.File 0) 0) ∷
    stands 5 (codes "\"b/c\"") (NotLexical purpose.ImportPath) ∷ stands 8 (codes "f") (Declaring blocks.Package 0) ∷ stands 12 (codes "c") Use ∷
    stands 14 (codes "G") (NotLexical purpose.Selected) ∷ []

sites_are_old : sites_in 0 (bare_file 4 around put) ≡ old
unfolding file_sites imports_sites import_sites group_sites decl_sites func_sites result_sites block_sites statements_sites statement_sites simple_sites
    expr_sites link_sites argument_sites tokens_of line_ends
sites_are_old = refl

sites_are_new : sites_in 0 (named_file 4 around put) ≡ new
unfolding file_sites imports_sites import_sites group_sites decl_sites func_sites result_sites block_sites statements_sites statement_sites simple_sites
    expr_sites link_sites argument_sites tokens_of line_ends block_by statements_by statement_by expr_by links_by arguments_by
sites_are_new = refl

pub gained_example : HasGained (gain_of 0 4 put) (unnamed_site (gain_of 0 4 put)) 1 old new
gained_example = record {
  before = stands 1 (codes "a") (NotLexical purpose.PackageClause) ∷ [];
  behind = stands 7 (codes "f") (Declaring blocks.Package 0) ∷ stands 11 (codes "c") Use ∷ stands 13 (codes "G") (NotLexical purpose.Selected) ∷ [];
  placed = refl;
  old_is = refl;
  new_is = refl;
}

-- the package that `"b/c"` names is called `c`: its literal declared that name

abbrev called_c : ℕ → Option (List ℕ)
called_c u = Some (codes "c")

pub laid_example : HasGained (gain_of 0 4 put) (import_site (gain_of 0 4 put) (codes "c")) 1 (named_sites called_c old) (named_sites called_c new)
unfolding named_sites
laid_example = record {
  before = stands 1 (codes "a") (NotLexical purpose.PackageClause) ∷ [];
  behind = stands 7 (codes "f") (Declaring blocks.Package 0) ∷ stands 11 (codes "c") Use ∷ stands 13 (codes "G") (NotLexical purpose.Selected) ∷ [];
  placed = refl;
  old_is = refl;
  new_is = refl;
}
