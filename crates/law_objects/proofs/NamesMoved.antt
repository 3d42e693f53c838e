-- The names that objects print, after a rename.
use Rattle.std.proofs.Common.{ℕ, ◌≡◌, false, List}
use Rattle.go_scope.specs.Bindings.{IsPackageLevel}
use Rattle.types_info.proofs.DeclKinds.{Holds}
use Rattle.types_declared.specs.Package.{Package, PlacedType, PlacedFunction, package_types, package_functions, spelled}
use Rattle.types_declared.specs.Written.{BindsToken}
use Rattle.go_ast.specs.SourceFile.{SourceFile}
use Rattle.go_ast.specs.Tree.{Item, Interface, MethodTree}
use Rattle.build_object.specs.Lines.{GlobalName, Plain, Method, Initializer}
use Rattle.build_object.specs.Names.{is_initializer, function_called, name_of_type, spelled_in, MethodAsked}
use Rattle.build_object.specs.Sources.{HasQualifier}
use Rattle.law_objects.specs.Replaced.{Replaced}

-- The name of a package-level declaration of the package at the path, as it is spelled at the token of a file.
abbrev pub named_at : (path : List ℕ) → Package → (file token : ℕ) → GlobalName
named_at path p file token = record { path = path; name = spelled p file token }

-- What is replaced are just names: a function has that of its declaration, and functions `init` keep theirs.
pub record AreNames (r : Replaced) : Type 0 where
  pub plain : (g : GlobalName) → r.function (Plain g) ≡ Plain (r.global g)
  pub initial : (path : List ℕ) (k : ℕ) → r.function (Initializer path k) ≡ Initializer path k

-- A method that an interface asks for, with these names.
abbrev pub asked_renamed : Replaced → MethodAsked → MethodAsked
asked_renamed r a = record { place = a.place; name = r.function a.name }

-- With these names replaced each method that the type definition asks for is one that it asks for later, where `files` become `now`.
abbrev pub AskedMoves : Replaced → (path : List ℕ) → (files now : List SourceFile) → PlacedType → Type 0
AskedMoves r path files now t = (k o c : ℕ) (ms : List (Item MethodTree)) → t.spec.body ≡ Interface k o ms c → (i : Item MethodTree) → Holds ms i →
    r.function (Method (name_of_type path files t) (spelled_in files t.file i.value.name))
    ≡ Method (name_of_type path now t) (spelled_in now t.file i.value.name)

-- `q` is the package `p` with these names replaced: where a name is bound to a package-level declaration, and where types, functions and
-- methods are declared.
pub record MovesNames (r : Replaced) (p q : Package) : Type 0 where
  pub bound : (file token d : ℕ) → BindsToken p file token d → IsPackageLevel p.layout d →
      r.global (named_at p.path p file token) ≡ named_at p.path q file token
  pub qualified : (file token : ℕ) (path : List ℕ) → HasQualifier p file token path → r.global (named_at path p file token) ≡ named_at path q file token
  pub types : (t : PlacedType) → Holds (package_types p) t → r.global (named_at p.path p t.file t.spec.name) ≡ named_at p.path q t.file t.spec.name
  pub initial : (f : PlacedFunction) → Holds (package_functions p) f → is_initializer q.files f ≡ is_initializer p.files f
  pub functions : (f : PlacedFunction) → Holds (package_functions p) f → is_initializer p.files f ≡ false →
      r.function (function_called p.path p.files f) ≡ function_called p.path q.files f
  pub asked : (t : PlacedType) → Holds (package_types p) t → AskedMoves r p.path p.files q.files t
