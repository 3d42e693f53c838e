-- The arities of the functions of a workspace, and of the methods that its interfaces ask for: how many values they take and give back.
use Rattle.std.specs.Prelude.{ℕ, suc, ◌≡◌, List, length, Option, Some, None, slice_get}
use Rattle.base_files.specs.Workspace.{Workspace}
use Rattle.go_ast.specs.Tree.{Item, ReceiverTree, ParamTree, ResultTree, FuncTree}
use Rattle.types_declared.specs.MeaningOf.{parameter_types, result_types}
use Rattle.types_declared.specs.Definitions.{PlacedField, OfSignature, package_fields}
use Rattle.types_declared.specs.Package.{Package, PlacedFunction, package_functions}
use Rattle.workspace_check.specs.Verdicts.{Verdicts}
use Rattle.build_object.specs.Lines.{FunctionName}
use Rattle.build_object.specs.Names.{function_names, all_asked_names}
use Rattle.law_faultless.specs.Stack.{Arity}
use Rattle.refs_binding.specs.Uses.{IsCheckedPackage}

-- The number of parameters, where a receiver counts as one more.
abbrev pub with_receiver : Option ReceiverTree → ℕ → ℕ
with_receiver None n = n
with_receiver (Some r) n = suc n

-- The arity with which a function is written: its parameters with its receiver, and its results.
abbrev pub written_arity : FuncTree → Arity
written_arity f = record { parameters = with_receiver f.receiver (length (parameter_types f.params)); results = length (result_types f.result) }

-- The arity with which an interface asks for a method: its parameters with the value of the interface, and its results.
abbrev pub asked_arity : List (Item ParamTree) → ResultTree → Arity
asked_arity ps r = record { parameters = suc (length (parameter_types ps)); results = length (result_types r) }

-- `arity` gives the name of each function of each package of w the arity with which the function is written. It gives the name of each method
-- that an interface asks for the arity with which the interface does.
pub record AreArities (w : Workspace) (known : Verdicts) (arity : FunctionName → Arity) : Type 0 where
  pub functions : (p : Package) → IsCheckedPackage w known p → (rank : ℕ) (name : FunctionName) (f : PlacedFunction) →
      slice_get (function_names p.path p.files) rank ≡ Some name → slice_get (package_functions p) rank ≡ Some f → arity name ≡ written_arity f.function
  pub asked : (p : Package) → IsCheckedPackage w known p → (rank : ℕ) (name : FunctionName) (f : PlacedField) (ps : List (Item ParamTree)) (r : ResultTree) →
      slice_get (all_asked_names p.path p.files) rank ≡ Some (Some name) → slice_get (package_fields p) rank ≡ Some f → f.form ≡ OfSignature ps r →
      arity name ≡ asked_arity ps r
