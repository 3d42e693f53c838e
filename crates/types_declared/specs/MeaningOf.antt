-- The meanings of a package's declarations where they are used.
use Rattle.std.specs.Prelude.{ℕ, ◌≡◌, true, false, List, [], ◌∷◌, map, Some, slice_get, codes}
use Rattle.go_ast.specs.Tree.{Item, TypeTree, ParamTree, ResultTree}
use Rattle.go_scope.specs.declared.model.Block.TheVariants.{Inner}
use Rattle.go_scope.specs.Bindings.{block_of, IsPackageLevel}
use Rattle.std.specs.List.{flat_map}
use Rattle.types_expr.specs.declared.types.Basic.{Basic}
use Rattle.types_expr.specs.declared.types.Basic.TheVariants as basic
use Rattle.types_expr.specs.declared.types.Builtin.{Builtin}
use Rattle.types_expr.specs.declared.types.Builtin.TheVariants as builtin
use Rattle.types_expr.specs.Types.{PlainType, BasicType, Defined, Typed, Untyped, Nil, Signature, Meaning, Value, TypeName, Function, BuiltinName}
use Rattle.types_expr.specs.Types.{Package as PackageName}
use Rattle.types_expr.specs.World.{Bound, Local, BrokenVariable, BrokenFunction, BrokenType}
use Rattle.types_expr.specs.World.{Means as Stands}
use Rattle.types_declared.specs.Package.{Package, PlacedVariable, PlacedFunction, IsRanked, package_variables, package_functions, variable_place}
use Rattle.types_declared.specs.Package.{function_place, symbol_in}
pub use Rattle.types_declared.specs.Written.{result_types}
use Rattle.types_declared.specs.Written.{IsPredeclared, DeclaresType, DeclaresImport, basic_name, IsBroken, IsTypeOf}

-- Meanings of predeclared identifiers

-- the name of a predeclared function
abbrev pub builtin_name : Builtin → List ℕ
builtin_name builtin.Append = codes "append"
builtin_name builtin.Len = codes "len"
builtin_name builtin.Panic = codes "panic"
builtin_name builtin.Print = codes "print"
builtin_name builtin.Println = codes "println"

-- the predeclared identifier of this name has this meaning: a type, `true`, `false`, `nil` or a function
pub data PredeclaredMeans : List ℕ → Meaning → Type 0 where
  a_type : (b : Basic) → PredeclaredMeans (basic_name b) (TypeName (BasicType b))
  a_truth : PredeclaredMeans (codes "true") (Value (Untyped basic.Bool) false)
  an_untruth : PredeclaredMeans (codes "false") (Value (Untyped basic.Bool) false)
  a_nil : PredeclaredMeans (codes "nil") (Value Nil false)
  a_function : (b : Builtin) → PredeclaredMeans (builtin_name b) (BuiltinName b)

-- the type expressions have these types, in order
abbrev pub AreTypesOf : Package → ℕ → List TypeTree → List PlainType → Type 0
AreTypesOf p file [] [] = Unit {0}
AreTypesOf p file [] (t ∷ ts) = ⊥
AreTypesOf p file (x ∷ xs) [] = ⊥
AreTypesOf p file (x ∷ xs) (t ∷ ts) = IsTypeOf p file x t × AreTypesOf p file xs ts

-- the type expressions of parameters, once for each name
abbrev pub parameter_types : List (Item ParamTree) → List TypeTree
parameter_types ps = flat_map (λ i. map (λ n. i.value.type_use) i.value.names) ps

-- parameters and results in a file have the types of the signature; no type expression in them is broken
pub record IsSignatureOf (p : Package) (file : ℕ) (params : List (Item ParamTree)) (result : ResultTree) (s : Signature) : Type 0 where
  pub parameters : AreTypesOf p file (parameter_types params) s.parameters
  pub results : AreTypesOf p file (result_types result) s.results

-- the function has this signature
abbrev pub HasSignature : Package → PlacedFunction → Signature → Type 0
HasSignature p f s = IsSignatureOf p f.file f.function.params f.function.result s

-- d declares the package-level variable of this rank
abbrev pub DeclaresVariable : Package → (d rank : ℕ) → Type 0
DeclaresVariable p d rank = IsRanked variable_place (package_variables p) p.layout d rank

-- d declares the function of this rank
abbrev pub DeclaresFunction : Package → (d rank : ℕ) → Type 0
DeclaresFunction p d rank = IsRanked function_place (package_functions p) p.layout d rank

-- d declares the variable v, in the package block
abbrev pub IsVariable : Package → (d : ℕ) → PlacedVariable → Type 0
IsVariable p d v = IsPackageLevel p.layout d × ((rank : ℕ) × (DeclaresVariable p d rank × (slice_get (package_variables p) rank ≡ Some v)))

-- d declares the function f, in the package block
abbrev pub IsFunction : Package → (d : ℕ) → PlacedFunction → Type 0
IsFunction p d f = IsPackageLevel p.layout d × ((rank : ℕ) × (DeclaresFunction p d rank × (slice_get (package_functions p) rank ≡ Some f)))

-- The declaration d has this meaning where it is used. Methods and functions `init` are declared in no block and have no meaning.
pub data IsMeaningOf (p : Package) (d : ℕ) : Bound → Type 0 where
  predeclared : {name : List ℕ} {m : Meaning} → IsPredeclared p d name → PredeclaredMeans name m → IsMeaningOf p d (Stands m)
  import_name : {path : List ℕ} → DeclaresImport p d path → IsMeaningOf p d (Stands PackageName)
  local : {file from to : ℕ} → block_of (p.layout.role d) ≡ Inner file from to → IsMeaningOf p d (Local (p.layout.place d).index)
  variable : {v : PlacedVariable} {t : PlainType} → IsVariable p d v → IsTypeOf p v.file v.type_use t → IsMeaningOf p d (Stands (Value (Typed t) true))
  broken_variable : {v : PlacedVariable} → IsVariable p d v → ((t : PlainType) → IsTypeOf p v.file v.type_use t → ⊥) → IsMeaningOf p d BrokenVariable
  function : {f : PlacedFunction} {s : Signature} → IsFunction p d f → HasSignature p f s → IsMeaningOf p d (Stands (Function s))
  broken_function : {f : PlacedFunction} → IsFunction p d f → ((s : Signature) → HasSignature p f s → ⊥) → IsMeaningOf p d BrokenFunction
  definition : {rank : ℕ} → IsPackageLevel p.layout d → DeclaresType p d rank → (IsBroken p rank → ⊥) →
      IsMeaningOf p d (Stands (TypeName (Defined (symbol_in p rank))))
  broken_definition : {rank : ℕ} → IsPackageLevel p.layout d → DeclaresType p d rank → IsBroken p rank → IsMeaningOf p d BrokenType
