-- Worked examples: the identifiers of a small file whose tokens get other numbers.
use Rattle.std.proofs.Common.{ℕ, ◌≡◌, ◌+◌, List, [], ◌∷◌, Some, None, map, refl}
use Rattle.std.specs.Prelude.{codes}
use Rattle.go_scope.specs.declared.model.Block.TheVariants as blocks
use Rattle.go_scope.specs.declared.model.Role.{Role}
use Rattle.go_scope.specs.declared.model.Role.TheVariants.{Use, Declaring, LeftName, NotLexical}
use Rattle.go_scope.specs.declared.model.Purpose.TheVariants as purpose
use Rattle.go_scope.specs.Site.{Site, TokenSpellings}
use Rattle.go_scope.specs.ExpressionSites.{type_sites, expr_sites}
use Rattle.go_scope.specs.StatementSites.{simple_sites, group_sites, statement_sites, block_sites, statements_sites}
use Rattle.go_scope.specs.FileSites.{func_sites, param_sites, result_sites, import_sites, imports_sites, decl_sites, file_sites}
use Rattle.go_ast.specs.Tree.{Item, FileTree, single, Named, Local, Number, Name, Alone, Define, Simple, block, no_statement, statement, no_result, FuncDecl}
use Rattle.law_rename.specs.Renumbered.{renumbered, type_by, expr_by, block_by, statements_by, statement_by}
use Rattle.law_rename.specs.MovedSites.{moved_site}

abbrev only : {X : Type 0} → X → List (Item X)
only x = record { value = x; separator = None } ∷ []

-- `package a; import "b"; func f(x int) { y := 1; y }`, each token numbered
abbrev file : FileTree
file = record {
  keyword = 0;
  name = 1;
  semicolon = 2;
  imports = record { keyword = 3; imports = single (record { name = None; path = 4 }); semicolon = 5 } ∷ [];
  decls = FuncDecl 6 (record {
    receiver = None;
    name = 7;
    lparen = 8;
    params = only (record { names = only (Named 9); type_use = Local 10 });
    rparen = 11;
    result = no_result;
    body = block 12 (statement (Simple (Define (only (Name 13)) 14 (only (Number 15)))) (Some 16)
        (statement (Simple (Alone (Name 17))) None no_statement)) 18;
  }) 19 ∷ [];
}

-- the second file of its package, in which all tokens are called `f`
abbrev source : TokenSpellings
source = record { rank = 1; spell = λ n. codes "f" }

-- all numbers of that file's tokens are greater by one hundred
abbrev far : ℕ → ℕ → ℕ
far f n = n + 100

abbrev stands : ℕ → Role → Site
stands n role = record { place = record { file = 1; index = n }; name = codes "f"; role = role }

abbrev found : List Site
found = stands 101 (NotLexical purpose.PackageClause) ∷ stands 104 (NotLexical purpose.UnnamedImport) ∷ stands 107 (Declaring blocks.Package 0) ∷
    stands 109 (Declaring (blocks.Inner 1 112 118) 112) ∷ stands 110 Use ∷ stands 113 (LeftName (blocks.Inner 1 112 118) 116) ∷ stands 117 Use ∷ []

pub moved_example : map (moved_site far) (file_sites source file) ≡ found
unfolding file_sites imports_sites import_sites decl_sites func_sites param_sites result_sites group_sites block_sites statements_sites statement_sites
    simple_sites expr_sites type_sites
moved_example = refl

pub renumbered_example : file_sites source (renumbered (far 1) file) ≡ found
unfolding file_sites imports_sites import_sites decl_sites func_sites param_sites result_sites group_sites block_sites statements_sites statement_sites
    simple_sites expr_sites type_sites type_by expr_by block_by statements_by statement_by
renumbered_example = refl
