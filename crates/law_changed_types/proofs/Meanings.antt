-- In packages that are bound alike, declarations and names have the same meanings.
use Rattle.std.proofs.Common.{ℕ, ap, ◌∙◌, subst}
use Rattle.std.specs.Prelude.{All}
use Rattle.std.proofs.lemmas.List.Elements.{recursion_from_All}
use Rattle.go_scope.specs.Bindings.{Layout, IsPackageLevel, block_of}
use Rattle.law_tokens.proofs.Elements.{all_got}
use Rattle.types_expr.specs.declared.symbol.Symbol.{Symbol}
use Rattle.types_expr.specs.Types.{Defined, Signature, TypeName}
use Rattle.types_expr.specs.World.{Bound, Local}
use Rattle.types_expr.specs.World.{Means as Stands}
use Rattle.types_declared.specs.Package.{Package, PlacedVariable, PlacedFunction, Export, package_variables, package_functions, variable_place, function_place}
use Rattle.types_declared.specs.MeaningOf.{parameter_types, result_types, HasSignature, IsVariable, IsFunction, IsMeaningOf, predeclared, import_name, local}
use Rattle.types_declared.specs.MeaningOf.{variable, broken_variable, function, broken_function, definition, broken_definition}
use Rattle.types_info.specs.Worlds.{DenotesExport, IsBoundAt, by_scope, by_package, IsName, is_bound, is_unbound}
use Rattle.law_changed_types.specs.SameBindings.{IsDotted}
use Rattle.law_changed_types.proofs.Alike.{Alike, turned, selected, tokens, symbols, is_predeclared, exports, ranked_by, got_by}
use Rattle.law_changed_types.proofs.Types.{declares_type, broken, type_of, types_of}

-- variables and functions

package_level : (p q : Package) → Alike p q → (d : ℕ) → IsPackageLevel p.layout d → IsPackageLevel q.layout d
package_level p q a d h = ap (λ (l : Layout). block_of (l.role d)) a.layout ∙ h

is_variable : (p q : Package) → Alike p q → (d : ℕ) (v : PlacedVariable) → IsVariable p d v → IsVariable q d v
is_variable p q a d v h = (
  package_level p q a d h.0,
  (
    h.1.0,
    (
      ranked_by variable_place (package_variables p) (package_variables q) p.layout q.layout d h.1.0 a.variables a.layout h.1.1.0,
      got_by (package_variables p) (package_variables q) h.1.0 v a.variables h.1.1.1,
    ),
  ),
)

is_function : (p q : Package) → Alike p q → (d : ℕ) (f : PlacedFunction) → IsFunction p d f → IsFunction q d f
is_function p q a d f h = (
  package_level p q a d h.0,
  (
    h.1.0,
    (
      ranked_by function_place (package_functions p) (package_functions q) p.layout q.layout d h.1.0 a.functions a.layout h.1.1.0,
      got_by (package_functions p) (package_functions q) h.1.0 f a.functions h.1.1.1,
    ),
  ),
)

variable_dotted : (p q : Package) → Alike p q → (d : ℕ) (v : PlacedVariable) → IsVariable p d v → IsDotted p v.file v.type_use
variable_dotted p q a d v h =
    let P : PlacedVariable → Type 0 = λ x. IsDotted p x.file x.type_use in
    all_got P (package_variables p) h.1.0 v (recursion_from_All P (package_variables p) a.dotted.variables) h.1.1.1

signature_of : (p q : Package) → Alike p q → (d : ℕ) (f : PlacedFunction) (s : Signature) → IsFunction p d f → HasSignature p f s → HasSignature q f s
signature_of p q a d f s is h =
    let P : PlacedFunction → Type 0 = λ x. All (IsDotted p x.file) (parameter_types x.function.params) in
    let R : PlacedFunction → Type 0 = λ x. All (IsDotted p x.file) (result_types x.function.result) in
    record {
      parameters = types_of p q a f.file (parameter_types f.function.params) s.parameters h.parameters
          (all_got P (package_functions p) is.1.0 f (recursion_from_All P (package_functions p) a.dotted.parameters) is.1.1.1);
      results = types_of p q a f.file (result_types f.function.result) s.results h.results
          (all_got R (package_functions p) is.1.0 f (recursion_from_All R (package_functions p) a.dotted.results) is.1.1.1);
    }

-- declarations

pub meaning : (p q : Package) → Alike p q → (d : ℕ) (b : Bound) → IsMeaningOf p d b → IsMeaningOf q d b
meaning p q a d _ (predeclared {name = name} {m = m} is means) = predeclared {name = name} {m = m} (is_predeclared p q a d name is) means
meaning p q a d _ (import_name {path = path} is) = import_name {path = path} ((a.imports d path).0 is)
meaning p q a d _ (local {file = f} {from = i} {to = j} is) =
    subst (λ k. IsMeaningOf q d (Local k)) (ap (λ (l : Layout). (l.place d).index) a.layout)
    (local {file = f} {from = i} {to = j} (ap (λ (l : Layout). block_of (l.role d)) a.layout ∙ is))
meaning p q a d _ (variable {v = v} {t = t} is h) =
    variable {v = v} {t = t} (is_variable p q a d v is) (type_of p q a v.file v.type_use t h (variable_dotted p q a d v is))
meaning p q a d _ (broken_variable {v = v} is none) =
    let now = is_variable p q a d v is in
    broken_variable {v = v} now
    (λ t h. none t (type_of q p (turned p q a) v.file v.type_use t h (variable_dotted q p (turned p q a) d v now)))
meaning p q a d _ (function {f = f} {s = s} is h) = function {f = f} {s = s} (is_function p q a d f is) (signature_of p q a d f s is h)
meaning p q a d _ (broken_function {f = f} is none) =
    let now = is_function p q a d f is in
    broken_function {f = f} now (λ s h. none s (signature_of q p (turned p q a) d f s now h))
meaning p q a d _ (definition {rank = r} level is whole) =
    subst (λ (s : Symbol). IsMeaningOf q d (Stands (TypeName (Defined s)))) (symbols p q a r)
    (definition {rank = r} (package_level p q a d level) (declares_type p q a d r is) (λ b. whole (broken q p (turned p q a) r b)))
meaning p q a d _ (broken_definition {rank = r} level is b) =
    broken_definition {rank = r} (package_level p q a d level) (declares_type p q a d r is) (broken p q a r b)

-- names

denotes_export : (p q : Package) → Alike p q → (file token : ℕ) (e : Export) → DenotesExport p file token e → DenotesExport q file token e
denotes_export p q a file token e h =
    let now = selected p q a.size a.layout file token (record { identifier = h.identifier; found = h.found; selected = h.selected }) in
    record {
      before = h.before;
      behind_dot = h.behind_dot;
      identifier = now.identifier;
      found = now.found;
      selected = now.selected;
      exported = exports p q a file h.before token e h.behind_dot (record { identifier = h.identifier; found = h.found; selected = h.selected }) h.exported;
    }

bound_at : (p q : Package) → Alike p q → (file token : ℕ) (b : Bound) → IsBoundAt p file token b → IsBoundAt q file token b
bound_at p q a file token _ (by_scope {declaration = d} {b = b} binds means) =
    by_scope {declaration = d} {b = b} (tokens p q a file token d binds) (meaning p q a d b means)
bound_at p q a file token _ (by_package {e = e} h) = by_package {e = e} (denotes_export p q a file token e h)

pub name : (p q : Package) → Alike p q → (file token : ℕ) (b : Bound) → IsName p file token b → IsName q file token b
name p q a file token _ (is_bound {b = b} h) = is_bound {b = b} (bound_at p q a file token b h)
name p q a file token _ (is_unbound none) = is_unbound (λ b h. none b (bound_at q p (turned p q a) file token b h))
