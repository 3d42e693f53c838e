-- The lines of an object, one for each definition of its package, and the types in them.
use Rattle.std.specs.Prelude.{ℕ, ◌≡◌, ⊤, List, [], ◌∷◌, map, Option, Some, None, slice_get}
use Rattle.std.specs.List.{flat_map}
use Rattle.base_files.specs.Workspace.{Workspace}
use Rattle.go_ast.specs.SourceFile.{SourceFile}
use Rattle.go_ast.specs.Tree.{Item, TypeTree, FieldTree, MethodTree, BodyTree, Other, Struct, Interface, ReceiverTree, DeclTree, VarDecl, TypeDecl}
use Rattle.go_ast.specs.Tree.{FuncDecl}
use Rattle.types_expr.specs.declared.symbol.Symbol.{Symbol}
use Rattle.types_expr.specs.Types.{PlainType, BasicType, Defined, Pointer, Slice, TypeName}
use Rattle.types_expr.specs.World.{World, Means}
use Rattle.law_typing.specs.Declarations.{IsBehindStar}
use Rattle.law_typing.specs.Names.{IsType}
use Rattle.types_declared.specs.Files.{RankedSource, ranked_files, group_items}
use Rattle.types_declared.specs.MeaningOf.{parameter_types, result_types}
use Rattle.types_declared.specs.Package.{Package, PlacedType, PlacedVariable, PlacedFunction, placed_type, variables_of, spelled}
use Rattle.types_info.specs.Worlds.{IsWorldOf}
use Rattle.workspace_check.specs.FaultLists.{ListsFaults}
use Rattle.workspace_check.specs.Verdicts.{Verdicts, AreVerdicts}
use Rattle.refs_binding.specs.Uses.{IsCheckedPackage}
use Rattle.build_object.specs.Lines.{GlobalName, FunctionName, Method}
use Rattle.build_object.specs.Names.{type_name, function_names}
use Rattle.build_object.specs.ObjectText.{object_text}
use Rattle.build_object.specs.Objects.{ObjectAsked, ObjectDefinition, SameAs, Fields, Asks, ObjectDeclaration, TypeOf, Variable, FunctionOf, ObjectFunction}
use Rattle.build_object.specs.Objects.{Initial, Object}
use Rattle.build_object.specs.Sources.{IsObjectOf, IsObjectText}
use Rattle.build_unit.specs.Units.{AreFilesBelow}
use Rattle.law_faultless.specs.QuestionAnswers.{IsKnown}

-- The definitions of a package, in the order in which they are written

-- A type definition, a package-level variable, or a function.
pub data Placed : Type 0 where
  OfType : PlacedType → Placed
  OfVariable : PlacedVariable → Placed
  OfFunction : PlacedFunction → Placed

-- The definitions of one declaration of a file with this rank.
abbrev pub placed_by : (file : ℕ) → DeclTree → List Placed
placed_by file (VarDecl p g c) = flat_map (λ x. map OfVariable (variables_of file x)) (group_items g)
placed_by file (TypeDecl p g c) = map (λ t. OfType (placed_type file t)) (group_items g)
placed_by file (FuncDecl p f c) = OfFunction (record { file = file; function = f }) ∷ []

-- The definitions of a file.
abbrev pub placed_in_file : RankedSource → List Placed
placed_in_file r = flat_map (placed_by r.0) r.1.tree.decls

-- The definitions of a package.
abbrev pub package_placed : Package → List Placed
package_placed p = flat_map placed_in_file (ranked_files p.files)

-- Types in lines. `files_of` gives the files of packages by their paths.

-- Each type definition in the type has a name in objects.
abbrev pub IsTypeNamed : (files_of : List ℕ → List SourceFile) → PlainType → Type 0
IsTypeNamed files_of (BasicType b) = ⊤
IsTypeNamed files_of (Defined s) = IsKnown (type_name files_of s)
IsTypeNamed files_of (Pointer t) = IsTypeNamed files_of t
IsTypeNamed files_of (Slice t) = IsTypeNamed files_of t

-- The world judges a file of the package: the one with this rank.
pub record JudgesFile (p : Package) (file : ℕ) (v : World) : Type 0 where
  pub source : SourceFile
  pub in_file : slice_get p.files file ≡ Some source
  pub judges : IsWorldOf p file source v

-- `t` is the type that is written in the file, by the typing rules, and it is named.
pub record IsPrinted (p : Package) (files_of : List ℕ → List SourceFile) (file : ℕ) (x : TypeTree) (t : PlainType) : Type 0 where
  pub world : World
  pub judges : JudgesFile p file world
  pub is_type : IsType world x t
  pub named : IsTypeNamed files_of t

-- The types are those that are written, one for one.
abbrev pub AreTypesPrinted : Package → (files_of : List ℕ → List SourceFile) → (file : ℕ) → List TypeTree → List PlainType → Type 0
AreTypesPrinted p files_of file [] [] = ⊤
AreTypesPrinted p files_of file [] (t ∷ ts) = ⊥
AreTypesPrinted p files_of file (x ∷ xs) [] = ⊥
AreTypesPrinted p files_of file (x ∷ xs) (t ∷ ts) = IsPrinted p files_of file x t × AreTypesPrinted p files_of file xs ts

-- The types that fields write, once for each name.
abbrev pub written_fields : List (Item FieldTree) → List TypeTree
written_fields fs = flat_map (λ i. map (λ n. i.value.type_use) i.value.names) fs

-- What the interface with the name `of` asks for by this method: its name in objects, and the written types of its parameters and results.
pub record IsAskedLine (p : Package) (files_of : List ℕ → List SourceFile) (of : GlobalName) (file : ℕ) (m : MethodTree) (d : ObjectAsked) : Type 0 where
  pub named : d.name ≡ Method of (spelled p file m.name)
  pub are_parameters : AreTypesPrinted p files_of file (parameter_types m.params) d.parameters
  pub are_results : AreTypesPrinted p files_of file (result_types m.result) d.results

-- The same for all methods of the interface, one for one.
abbrev pub AreAskedLines : Package → (files_of : List ℕ → List SourceFile) → (of : GlobalName) → (file : ℕ) → List (Item MethodTree) → List ObjectAsked → Type 0
AreAskedLines p files_of of file [] [] = ⊤
AreAskedLines p files_of of file [] (d ∷ ds) = ⊥
AreAskedLines p files_of of file (m ∷ ms) [] = ⊥
AreAskedLines p files_of of file (m ∷ ms) (d ∷ ds) = IsAskedLine p files_of of file m.value d × AreAskedLines p files_of of file ms ds

-- A type with this name and this body is defined as the written type, or as a struct with the written types of its fields. An interface has
-- the methods that it asks for.
abbrev pub IsDefinedAs : Package → (files_of : List ℕ → List SourceFile) → (of : GlobalName) → (file : ℕ) → BodyTree → ObjectDefinition → Type 0
IsDefinedAs p files_of of file (Other x) (SameAs t) = IsPrinted p files_of file x t
IsDefinedAs p files_of of file (Other x) (Fields ts) = ⊥
IsDefinedAs p files_of of file (Other x) (Asks ds) = ⊥
IsDefinedAs p files_of of file (Struct k o fs c) (SameAs t) = ⊥
IsDefinedAs p files_of of file (Struct k o fs c) (Fields ts) = AreTypesPrinted p files_of file (written_fields fs) ts
IsDefinedAs p files_of of file (Struct k o fs c) (Asks ds) = ⊥
IsDefinedAs p files_of of file (Interface k o ms c) (SameAs t) = ⊥
IsDefinedAs p files_of of file (Interface k o ms c) (Fields ts) = ⊥
IsDefinedAs p files_of of file (Interface k o ms c) (Asks ds) = AreAskedLines p files_of of file ms ds

-- `t` is the type of the receiver: the type definition that it names, or a pointer to it where it has a star.
pub record IsReceived (p : Package) (files_of : List ℕ → List SourceFile) (file : ℕ) (r : ReceiverTree) (t : PlainType) : Type 0 where
  pub world : World
  pub judges : JudgesFile p file world
  pub symbol : Symbol
  pub names : world.bound r.type_name ≡ Means (TypeName (Defined symbol))
  pub behind_star : IsBehindStar r.star (Defined symbol) t
  pub named : IsTypeNamed files_of t

-- The types begin with that of the receiver, if there is one, and end with these.
pub data BeginWithReceiver (p : Package) (files_of : List ℕ → List SourceFile) (file : ℕ) : Option ReceiverTree → List PlainType → List PlainType → Type 0 where
  without : {ts : List PlainType} → BeginWithReceiver p files_of file None ts ts
  with_one : {r : ReceiverTree} {t : PlainType} {ts : List PlainType} → IsReceived p files_of file r t →
      BeginWithReceiver p files_of file (Some r) (t ∷ ts) ts

-- The line of a function has the types of its receiver, its parameters and its results.
pub record HasTypes (p : Package) (files_of : List ℕ → List SourceFile) (f : PlacedFunction) (line : ObjectFunction) : Type 0 where
  pub parameters : List PlainType
  pub receiver : BeginWithReceiver p files_of f.file f.function.receiver line.parameters parameters
  pub are_parameters : AreTypesPrinted p files_of f.file (parameter_types f.function.params) parameters
  pub are_results : AreTypesPrinted p files_of f.file (result_types f.function.result) line.results

-- Lines

-- The name of a declaration of the package, by the token of its name.
abbrev pub name_in : Package → (file token : ℕ) → GlobalName
name_in p file token = record { path = p.path; name = spelled p file token }

-- Each definition has its line, in order, and there is no other line. `names` are the names of the functions among them, in order.
pub data HaveLines (p : Package) (files_of : List ℕ → List SourceFile) : (names : List FunctionName) → List Placed → List ObjectDeclaration → Type 0 where
  none_left : HaveLines p files_of [] [] []
  type_line : {names : List FunctionName} {t : PlacedType} {xs : List Placed} {definition : ObjectDefinition} {lines : List ObjectDeclaration} →
      IsDefinedAs p files_of (name_in p t.file t.spec.name) t.file t.spec.body definition → HaveLines p files_of names xs lines →
      HaveLines p files_of names (OfType t ∷ xs) (TypeOf (name_in p t.file t.spec.name) definition ∷ lines)
  variable_line : {names : List FunctionName} {v : PlacedVariable} {xs : List Placed} {t : PlainType} {value : Option Initial} {lines : List
      ObjectDeclaration} →
      IsPrinted p files_of v.file v.type_use t → HaveLines p files_of names xs lines →
      HaveLines p files_of names (OfVariable v ∷ xs) (Variable (name_in p v.file v.name) t value ∷ lines)
  function_line : {names : List FunctionName} {f : PlacedFunction} {xs : List Placed} {line : ObjectFunction} {lines : List ObjectDeclaration} →
      HasTypes p files_of f line → HaveLines p files_of names xs lines →
      HaveLines p files_of (line.name ∷ names) (OfFunction f ∷ xs) (FunctionOf line ∷ lines)

-- The object has a line for each definition of the package.
abbrev pub HasEachLine : Package → (files_of : List ℕ → List SourceFile) → Object → Type 0
HasEachLine p files_of o = HaveLines p files_of (function_names p.path p.files) (package_placed p) o.declarations

-- In a workspace without faults the object of each package has a line for each definition.
abbrev pub ObjectsHaveLines : Type 0
ObjectsHaveLines = (w : Workspace) → ListsFaults w [] → (known : Verdicts) → AreVerdicts w known → (p : Package) → IsCheckedPackage w known p →
    (files_of : List ℕ → List SourceFile) → AreFilesBelow w p.path files_of → (o : Object) → IsObjectOf p files_of o → HasEachLine p files_of o

-- The text is that of an object with each line.
pub record HasEachText (p : Package) (files_of : List ℕ → List SourceFile) (text : List ℕ) : Type 0 where
  pub object : Object
  pub printed : text ≡ object_text (type_name files_of) object
  pub lines : HasEachLine p files_of object

-- So the text of the object of each package has the text of each line.
abbrev pub TextsHaveLines : Type 0
TextsHaveLines = (w : Workspace) → ListsFaults w [] → (known : Verdicts) → AreVerdicts w known → (p : Package) → IsCheckedPackage w known p →
    (files_of : List ℕ → List SourceFile) → AreFilesBelow w p.path files_of → (text : List ℕ) → IsObjectText p files_of text → HasEachText p files_of text
