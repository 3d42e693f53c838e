-- The laws of objects, as statements.
use Rattle.std.specs.Prelude.{ℕ, ◌≡◌, List, Contains}
use Rattle.go_ast.specs.SourceFile.{SourceFile}
use Rattle.go_scope.specs.WellFormed.{WellFormed}
use Rattle.types_declared.specs.Package.{Package}
use Rattle.types_info.specs.Uniqueness.{TokensRise}
use Rattle.build_object.specs.Objects.{Object, ObjectFunction, FunctionOf}
use Rattle.build_object.specs.Sources.{IsObjectOf, IsObjectText}
use Rattle.build_object.specs.Fitting.{HasFittingCode}

-- A package has at most one object. Its scopes are well formed, and its tokens are numbered in order.
abbrev pub HaveOneObject : Type 0
HaveOneObject = (p : Package) → WellFormed p.layout → TokensRise p.files → (files_of : List ℕ → List SourceFile) (a b : Object) → IsObjectOf p files_of a →
    IsObjectOf p files_of b → a ≡ b

-- A package has at most one text of its object. Its scopes are well formed, and its tokens are numbered in order.
abbrev pub HaveOneText : Type 0
HaveOneText = (p : Package) → WellFormed p.layout → TokensRise p.files → (files_of : List ℕ → List SourceFile) (v w : List ℕ) → IsObjectText p files_of v →
    IsObjectText p files_of w → v ≡ w

-- In each function of an object each jump leads to one of its lines, and each parameter or local has one of its slots.
abbrev pub HaveFittingCode : Type 0
HaveFittingCode = (p : Package) (files_of : List ℕ → List SourceFile) (o : Object) → IsObjectOf p files_of o → (f : ObjectFunction) →
    Contains o.declarations (FunctionOf f) → HasFittingCode f
