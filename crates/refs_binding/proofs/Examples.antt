-- Small examples of the definitions.
use Rattle.std.proofs.Common.{◌≡◌, [], ◌∷◌, true, false, refl}
use Rattle.std.specs.Prelude.{Some, None, codes}
use Rattle.std.specs.declared.cmp.Ordering.TheVariants.{Less}
use Rattle.go_scanner.specs.declared.piece.Class.TheVariants.{Name, InterpretedString}
use Rattle.go_scope.specs.Bindings.{Layout}
use Rattle.go_scope.specs.Site.{sites_layout}
use Rattle.go_scope.specs.declared.model.Block.TheVariants.{File}
use Rattle.go_scope.specs.declared.model.Role.TheVariants.{Declaring, NotLexical}
use Rattle.go_scope.specs.declared.model.Purpose.TheVariants.{ImportPath, UnnamedImport}
use Rattle.base_files.specs.Packages.{is_of_package}
use Rattle.types_expr.specs.declared.symbol.Symbol.{Symbol}
use Rattle.types_expr.specs.declared.types.Basic.TheVariants as basic
use Rattle.types_expr.specs.Types.{BasicType, AFieldOf}
use Rattle.types_expr.specs.World.{AField, ABrokenMethod}
use Rattle.refs_binding.specs.declared.declaration.Declaration.TheVariants.{Field, Method}
use Rattle.refs_binding.specs.Binding.{declaration_of}
use Rattle.refs_binding.specs.Identifiers.{IsNameToken, named_by}
use Rattle.refs_binding.specs.Places.{place_cmp}

-- the package a has the .go files of its folder, and not those of folders in it
in_its_folder : is_of_package (codes "a") (codes "a/b.go") ≡ true
in_its_folder = refl

in_a_folder_below : is_of_package (codes "a") (codes "a/b/c.go") ≡ false
in_a_folder_below = refl

not_go : is_of_package (codes "a") (codes "a/b.txt") ≡ false
not_go = refl

-- by paths, although the folder a comes before a-b; and then by numbers
by_path : place_cmp (record { path = codes "a-b/x.go"; offset = 9 }) (record { path = codes "a/b.go"; offset = 0 }) ≡ Less
by_path = refl

by_offset : place_cmp (record { path = codes "a/b.go"; offset = 2 }) (record { path = codes "a/b.go"; offset = 10 }) ≡ Less
by_offset = refl

-- import q "b", and then import "c"
abbrev imports : Layout
imports = sites_layout (
    record { place = record { file = 0; index = 4 }; name = codes "q"; role = Declaring (File 0) 0 }
    ∷ record { place = record { file = 0; index = 5 }; name = codes "\"b\""; role = NotLexical ImportPath }
    ∷ record { place = record { file = 0; index = 8 }; name = codes "\"c\""; role = NotLexical UnnamedImport } ∷ [])

name_for_itself : named_by imports 0 ≡ 0
name_for_itself = refl

literal_for_the_name : named_by imports 1 ≡ 0
literal_for_the_name = refl

unnamed_for_itself : named_by imports 2 ≡ 2
unnamed_for_itself = refl

-- Of these tokens the name is listed, and the literal is not, and neither is a missing token.
name_is_listed : IsNameToken (Some (record { class = Name; span = record { start = 18; end = 19 } }))
name_is_listed = refl

literal_is_not : IsNameToken (Some (record { class = InterpretedString; span = record { start = 20; end = 23 } })) → ⊥
literal_is_not e = let z : ⊥ = cc in z

no_token_is_not : IsNameToken None → ⊥
no_token_is_not h = h

-- the fourth field of the package a, and its fourth function
abbrev fourth : Symbol
fourth = record { «package» = codes "a"; rank = 3 }

field_by_its_rank : declaration_of (AField fourth (AFieldOf (BasicType basic.Int))) ≡ Field fourth
field_by_its_rank = refl

method_without_signature : declaration_of (ABrokenMethod fourth) ≡ Method fourth
method_without_signature = refl
