-- The steps in which the text of an object is made.
use Rattle.std.specs.Prelude.{ℕ, ◌≡◌, ◌≤◌, List, [], ◌∷◌, ◌++◌, map, length, drop, take, Option, Some, None, slice_get}
use Rattle.std.specs.List.{flat_map}
use Rattle.std.specs.Global.{Vec}
use Rattle.go_ast.specs.Tree.{FileTree}
use Rattle.go_ast.specs.SourceFile.{SourceFile}
use Rattle.types_declared.specs.Files.{package_name}
use Rattle.types_expr.specs.declared.found.Entering.{Entering}
use Rattle.types_expr.specs.declared.found.MemberUse.{MemberUse}
use Rattle.types_declared.specs.Package.{Package}
use Rattle.types_info.specs.MemberUses.{AreEnterings, AreMemberUses, enterings_in, uses_in}
use Rattle.build_object.specs.declared.instructions.FunctionName as program
use Rattle.build_object.specs.declared.object_names.ObjectNames.{ObjectNames}
use Rattle.build_object.specs.Lines.{FunctionName}
use Rattle.build_object.specs.LineView.{function_of}
use Rattle.build_object.specs.Source.{Source}
use Rattle.build_object.specs.Sources.{AreImports, IsSourceOf}
use Rattle.build_object.specs.PackagesView.{type_in}
use Rattle.build_object.specs.Objects.{Object, declared_from, names_behind_all}
use Rattle.build_object.specs.ObjectText.{declaration_text, first_line, import_line}
use Rattle.build_object.specs.ObjectView.{HaveNames}

-- The list of a file, and none where it is unknown.
abbrev pub list_of_file : {X : Type 0} → Option (Vec X) → List X
list_of_file None = []
list_of_file (Some list) = list.items

-- The first lines of the object of the package are added: its own line, and those of its imports.
pub record PrintsHead (p : Package) (old new : List ℕ) : Type 0 where
  pub imports : List (List ℕ)
  pub are_imports : AreImports p.files imports
  pub text : (o : Object) → o.path ≡ p.path → o.name ≡ package_name p.files → o.imports ≡ imports →
      new ≡ old ++ (first_line o ++ flat_map import_line o.imports)

-- The names of functions that are left behind these files.
unfoldable pub names_behind_files : List FunctionName → List FileTree → List FunctionName
names_behind_files names [] = names
names_behind_files names (t ∷ ts) = names_behind_files (names_behind_all names t.decls) ts

-- The text of the declarations of the files below n is added. `others` names of functions are used up by these files.
pub record PrintsFiles (p : Package) (n : ℕ) (members : List (Vec MemberUse)) (enterings : List (Vec Entering)) (packages : ObjectNames)
    (names : List program.FunctionName) (others : ℕ) (old new : List ℕ) : Type 0 where
  pub sources : List Source
  pub all : length sources ≡ n
  pub made_of : (files_of : List ℕ → List SourceFile) → HaveNames packages files_of → AreMemberUses p (map uses_in members) →
      AreEnterings p (map enterings_in enterings) →
      (file : ℕ) (f : SourceFile) (s : Source) → slice_get p.files file ≡ Some f → slice_get sources file ≡ Some s → IsSourceOf p files_of file f s
  pub text : new ≡ old ++ flat_map (declaration_text (type_in packages)) (declared_from sources (map function_of names) (map (λ f. f.tree) p.files))
  pub others_are : map function_of (drop others names) ≡ names_behind_files (map function_of names) (take n (map (λ f. f.tree) p.files))
  pub within : others ≤ length names
