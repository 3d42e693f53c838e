-- Meanings and signatures of a moved package's declarations.
use Rattle.std.proofs.Common.{ℕ, ◌≡◌, true, List, Some, refl, sym, ap, ◌∙◌, subst}
use Rattle.std.specs.Prelude.{All, slice_get}
use Rattle.std.proofs.lemmas.List.Elements.{recursion_from_All}
use Rattle.go_scope.specs.Bindings.{Layout, IsPackageLevel, block_of}
use Rattle.law_tokens.proofs.Elements.{all_got}
use Rattle.types_expr.specs.declared.symbol.Symbol.{Symbol}
use Rattle.types_expr.specs.Types.{PlainType, Defined, Signature, Meaning, Value, Typed, TypeName, Function}
use Rattle.types_expr.specs.World.{Bound, Local, BrokenVariable, BrokenFunction, BrokenType}
use Rattle.types_expr.specs.World.{Means as Stands}
use Rattle.types_expr.specs.Types.{Package as PackageName}
use Rattle.types_declared.specs.Package.{Package, PlacedVariable, PlacedFunction, package_variables, package_functions, variable_place, function_place}
use Rattle.types_declared.specs.Package.{symbol_in}
use Rattle.types_declared.specs.MeaningOf.{PredeclaredMeans, a_type, a_truth, an_untruth, a_nil, a_function, parameter_types, result_types, HasSignature}
use Rattle.types_declared.specs.MeaningOf.{IsVariable, IsFunction, IsMeaningOf, predeclared, import_name, local, variable, broken_variable, function}
use Rattle.types_declared.specs.MeaningOf.{broken_function, definition, broken_definition, IsSignatureOf}
use Rattle.law_changed_types.specs.SameBindings.{IsDotted}
use Rattle.law_changed_types.proofs.Alike.{ranked_by, got_by}
use Rattle.law_changed_types.specs.Moved.{PathMap, IsInjective, moved_type, moved_signature, moved_meaning, moved_bound}
use Rattle.law_changed_types.proofs.Moving.{ap2}
use Rattle.law_changed_types.specs.MovedPackage.{IsMovedPackage}
use Rattle.law_changed_types.proofs.Written.{same_place_variables, same_place_functions, dotted, symbols, declares_type, declares_type_back, is_predeclared}
use Rattle.law_changed_types.proofs.Written.{is_predeclared_back, broken, broken_back, type_of, type_of_back, types_of, types_of_back}
use Rattle.go_ast.specs.Tree.{Item, ParamTree, ResultTree}

-- a predeclared name's meaning mentions no symbol
predeclared_stays : (g : PathMap) (name : List ℕ) (m : Meaning) → PredeclaredMeans name m → moved_meaning g m ≡ m
predeclared_stays g _ _ (a_type b) = refl
predeclared_stays g _ _ a_truth = refl
predeclared_stays g _ _ an_untruth = refl
predeclared_stays g _ _ a_nil = refl
predeclared_stays g _ _ (a_function b) = refl

module _ (g : PathMap) (inj : IsInjective g) (p q : Package) (a : IsMovedPackage g p q) where
  package_level : (d : ℕ) → IsPackageLevel p.layout d → IsPackageLevel q.layout d
  package_level d h = ap (λ (l : Layout). block_of (l.role d)) a.layout ∙ h

  package_level_back : (d : ℕ) → IsPackageLevel q.layout d → IsPackageLevel p.layout d
  package_level_back d h = ap (λ (l : Layout). block_of (l.role d)) (sym a.layout) ∙ h

  is_variable : (d : ℕ) (v : PlacedVariable) → IsVariable p d v → IsVariable q d v
  is_variable d v h = (
    package_level d h.0,
    (
      h.1.0,
      (
        ranked_by variable_place (package_variables p) (package_variables q) p.layout q.layout d h.1.0 (same_place_variables g inj p q a) a.layout h.1.1.0,
        got_by (package_variables p) (package_variables q) h.1.0 v (same_place_variables g inj p q a) h.1.1.1,
      ),
    ),
  )

  is_variable_back : (d : ℕ) (v : PlacedVariable) → IsVariable q d v → IsVariable p d v
  is_variable_back d v h = (
    package_level_back d h.0,
    (
      h.1.0,
      (
        ranked_by variable_place (package_variables q) (package_variables p) q.layout p.layout d h.1.0 (sym (same_place_variables g inj p q a))
            (sym a.layout) h.1.1.0,
        got_by (package_variables q) (package_variables p) h.1.0 v (sym (same_place_variables g inj p q a)) h.1.1.1,
      ),
    ),
  )

  is_function : (d : ℕ) (f : PlacedFunction) → IsFunction p d f → IsFunction q d f
  is_function d f h = (
    package_level d h.0,
    (
      h.1.0,
      (
        ranked_by function_place (package_functions p) (package_functions q) p.layout q.layout d h.1.0 (same_place_functions g inj p q a) a.layout h.1.1.0,
        got_by (package_functions p) (package_functions q) h.1.0 f (same_place_functions g inj p q a) h.1.1.1,
      ),
    ),
  )

  is_function_back : (d : ℕ) (f : PlacedFunction) → IsFunction q d f → IsFunction p d f
  is_function_back d f h = (
    package_level_back d h.0,
    (
      h.1.0,
      (
        ranked_by function_place (package_functions q) (package_functions p) q.layout p.layout d h.1.0 (sym (same_place_functions g inj p q a))
            (sym a.layout) h.1.1.0,
        got_by (package_functions q) (package_functions p) h.1.0 f (sym (same_place_functions g inj p q a)) h.1.1.1,
      ),
    ),
  )

  variable_dotted : (d : ℕ) (v : PlacedVariable) → IsVariable p d v → IsDotted p v.file v.type_use
  variable_dotted d v h =
      let P : PlacedVariable → Type 0 = λ x. IsDotted p x.file x.type_use in
      all_got P (package_variables p) h.1.0 v (recursion_from_All P (package_variables p) (dotted g inj p q a).variables) h.1.1.1

  parameters_dotted : (rank : ℕ) (f : PlacedFunction) → slice_get (package_functions p) rank ≡ Some f →
      All (IsDotted p f.file) (parameter_types f.function.params)
  parameters_dotted rank f at =
      let P : PlacedFunction → Type 0 = λ x. All (IsDotted p x.file) (parameter_types x.function.params) in
      all_got P (package_functions p) rank f (recursion_from_All P (package_functions p) (dotted g inj p q a).parameters) at

  results_dotted : (rank : ℕ) (f : PlacedFunction) → slice_get (package_functions p) rank ≡ Some f → All (IsDotted p f.file) (result_types f.function.result)
  results_dotted rank f at =
      let R : PlacedFunction → Type 0 = λ x. All (IsDotted p x.file) (result_types x.function.result) in
      all_got R (package_functions p) rank f (recursion_from_All R (package_functions p) (dotted g inj p q a).results) at

  pub written_signature : (file : ℕ) (params : List (Item ParamTree)) (result : ResultTree) (s : Signature) → All (IsDotted p file) (parameter_types params) →
      All (IsDotted p file) (result_types result) → IsSignatureOf p file params result s → IsSignatureOf q file params result (moved_signature g s)
  written_signature file params result s own others h = record {
    parameters = types_of g inj p q a file (parameter_types params) s.parameters own h.parameters;
    results = types_of g inj p q a file (result_types result) s.results others h.results;
  }

  pub written_signature_back : (file : ℕ) (params : List (Item ParamTree)) (result : ResultTree) (s : Signature) →
      All (IsDotted p file) (parameter_types params) → All (IsDotted p file) (result_types result) → IsSignatureOf q file params result s →
      (x : Signature) × ((s ≡ moved_signature g x) × IsSignatureOf p file params result x)
  written_signature_back file params result s own others h =
      let ps = types_of_back g inj p q a file (parameter_types params) s.parameters own h.parameters in
      let rs = types_of_back g inj p q a file (result_types result) s.results others h.results in (
        record { parameters = ps.0; results = rs.0 },
        (
          ap2 (λ (x y : List PlainType). record { parameters = x; results = y }) ps.1.0 rs.1.0,
          record { parameters = ps.1.1; results = rs.1.1 },
        ),
      )

  pub signature_of : (rank : ℕ) (f : PlacedFunction) (s : Signature) → slice_get (package_functions p) rank ≡ Some f → HasSignature p f s →
      HasSignature q f (moved_signature g s)
  signature_of rank f s at h =
      written_signature f.file f.function.params f.function.result s (parameters_dotted rank f at) (results_dotted rank f at) h

  pub signature_back : (rank : ℕ) (f : PlacedFunction) (s : Signature) → slice_get (package_functions p) rank ≡ Some f → HasSignature q f s →
      (x : Signature) × ((s ≡ moved_signature g x) × HasSignature p f x)
  signature_back rank f s at h =
      written_signature_back f.file f.function.params f.function.result s (parameters_dotted rank f at) (results_dotted rank f at) h

  pub meaning : (d : ℕ) (b : Bound) → IsMeaningOf p d b → IsMeaningOf q d (moved_bound g b)
  meaning d _ (predeclared {name = name} {m = m} is means) =
      subst (λ (x : Meaning). IsMeaningOf q d (Stands x)) (sym (predeclared_stays g name m means))
      (predeclared {name = name} {m = m} (is_predeclared g inj p q a d name is) means)
  meaning d _ (import_name {path = path} is) = import_name {path = g path} ((a.imports d).forth path is)
  meaning d _ (local {file = f} {from = i} {to = j} is) =
      subst (λ k. IsMeaningOf q d (Local k)) (ap (λ (l : Layout). (l.place d).index) a.layout)
      (local {file = f} {from = i} {to = j} (ap (λ (l : Layout). block_of (l.role d)) a.layout ∙ is))
  meaning d _ (variable {v = v} {t = t} is h) =
      variable {v = v} {t = moved_type g t} (is_variable d v is) (type_of g inj p q a v.file v.type_use t (variable_dotted d v is) h)
  meaning d _ (broken_variable {v = v} is none) =
      broken_variable {v = v} (is_variable d v is)
      (λ t h. let x = type_of_back g inj p q a v.file v.type_use t (variable_dotted d v is) h in none x.0 x.1.1)
  meaning d _ (function {f = f} {s = s} is h) =
      function {f = f} {s = moved_signature g s} (is_function d f is) (signature_of is.1.0 f s is.1.1.1 h)
  meaning d _ (broken_function {f = f} is none) =
      broken_function {f = f} (is_function d f is) (λ s h. let x = signature_back is.1.0 f s is.1.1.1 h in none x.0 x.1.1)
  meaning d _ (definition {rank = r} level is whole) =
      subst (λ (s : Symbol). IsMeaningOf q d (Stands (TypeName (Defined s)))) (symbols g inj p q a r)
      (definition {rank = r} (package_level d level) (declares_type g inj p q a d r is) (λ b. whole (broken_back g inj p q a r b)))
  meaning d _ (broken_definition {rank = r} level is b) =
      broken_definition {rank = r} (package_level d level) (declares_type g inj p q a d r is) (broken g inj p q a r b)

  pub meaning_back : (d : ℕ) (b : Bound) → IsMeaningOf q d b → (x : Bound) × ((b ≡ moved_bound g x) × IsMeaningOf p d x)
  meaning_back d _ (predeclared {name = name} {m = m} is means) =
      (Stands m, (ap Stands (sym (predeclared_stays g name m means)), predeclared {name = name} {m = m} (is_predeclared_back g inj p q a d name is) means))
  meaning_back d _ (import_name {path = path} is) =
      let x = (a.imports d).back path is in
      (Stands PackageName, (refl, import_name {path = x.0} x.1.1))
  meaning_back d _ (local {file = f} {from = i} {to = j} is) = (
    Local (p.layout.place d).index,
    (
      ap (λ (l : Layout). Local (l.place d).index) a.layout,
      local {file = f} {from = i} {to = j} (ap (λ (l : Layout). block_of (l.role d)) (sym a.layout) ∙ is),
    ),
  )
  meaning_back d _ (variable {v = v} {t = t} is h) =
      let old = is_variable_back d v is in
      let x = type_of_back g inj p q a v.file v.type_use t (variable_dotted d v old) h in
      (Stands (Value (Typed x.0) true), (ap (λ (y : PlainType). Stands (Value (Typed y) true)) x.1.0, variable {v = v} {t = x.0} old x.1.1))
  meaning_back d _ (broken_variable {v = v} is none) =
      let old = is_variable_back d v is in (
        BrokenVariable,
        (
          refl,
          broken_variable {v = v} old
              (λ t h. none (moved_type g t) (type_of g inj p q a v.file v.type_use t (variable_dotted d v old) h)),
        ),
      )
  meaning_back d _ (function {f = f} {s = s} is h) =
      let old = is_function_back d f is in
      let x = signature_back old.1.0 f s old.1.1.1 h in
      (Stands (Function x.0), (ap (λ (y : Signature). Stands (Function y)) x.1.0, function {f = f} {s = x.0} old x.1.1))
  meaning_back d _ (broken_function {f = f} is none) =
      let old = is_function_back d f is in
      (BrokenFunction, (refl, broken_function {f = f} old (λ s h. none (moved_signature g s) (signature_of old.1.0 f s old.1.1.1 h))))
  meaning_back d _ (definition {rank = r} level is whole) = (
    Stands (TypeName (Defined (symbol_in p r))),
    (
      ap (λ (s : Symbol). Stands (TypeName (Defined s))) (symbols g inj p q a r),
      definition {rank = r} (package_level_back d level) (declares_type_back g inj p q a d r is) (λ b. whole (broken g inj p q a r b)),
    ),
  )
  meaning_back d _ (broken_definition {rank = r} level is b) =
      (BrokenType, (refl, broken_definition {rank = r} (package_level_back d level) (declares_type_back g inj p q a d r is) (broken_back g inj p q a r b)))
