-- Meanings and signatures of declarations of packages whose tokens correspond.
use Rattle.std.proofs.Common.{ℕ, ◌≡◌, true, List, [], ◌∷◌, sym, subst}
use Rattle.go_ast.specs.Tree.{TypeTree}
use Rattle.go_scope.specs.Bindings.{block_of}
use Rattle.go_scope.specs.declared.model.Block.TheVariants.{Inner}
use Rattle.types_expr.specs.declared.symbol.Symbol.{Symbol}
use Rattle.types_expr.specs.Types.{PlainType, Defined, Signature, Meaning, Value, Typed, TypeName, Function, WrittenAs, AFieldOf, AMethodOf}
use Rattle.types_expr.specs.World.{Bound, Local, BrokenVariable, BrokenFunction, BrokenType}
use Rattle.types_expr.specs.World.{Means as Stands}
use Rattle.types_expr.specs.Types.{Package as PackageName}
use Rattle.types_declared.specs.Package.{Package, PlacedVariable, PlacedFunction, package_variables, package_functions, variable_place, function_place}
use Rattle.types_declared.specs.Package.{symbol_in}
use Rattle.types_declared.specs.Written.{IsTypeOf}
use Rattle.types_declared.specs.MeaningOf.{parameter_types, result_types, HasSignature, AreTypesOf}
use Rattle.types_declared.specs.MeaningOf.{IsVariable, IsFunction, IsMeaningOf, predeclared, import_name, local, variable, broken_variable, function}
use Rattle.types_declared.specs.MeaningOf.{broken_function, definition, broken_definition}
use Rattle.law_changed_types.proofs.RenumberedTypesAlike.{Half, SameTree, SameTrees, SameVariable, SameFunction, Turned, TurnedIdentifiers, symbols}
use Rattle.law_changed_types.proofs.RenumberedTypesAlike.{is_predeclared, ranked, SameForm}
use Rattle.law_changed_types.proofs.RenumberedTypesWritten.{declares_type, type_of, types_of, broken, broken_back, turned_tree, turned_trees}
use Rattle.types_declared.specs.Definitions.{WrittenForm, OfType, OfSignature, HasForm}

-- a meaning in p and one in q: the same, but for a local, whose token follows
pub data SameBound (T : ℕ → ℕ → ℕ → Type 0) (file : ℕ) : Bound → Bound → Type 0 where
  same_local : {a b : ℕ} → T file a b → SameBound T file (Local a) (Local b)
  same_meaning : {m : Meaning} → SameBound T file (Stands m) (Stands m)
  same_variable : SameBound T file BrokenVariable BrokenVariable
  same_function : SameBound T file BrokenFunction BrokenFunction
  same_type : SameBound T file BrokenType BrokenType

module _ (T : ℕ → ℕ → ℕ → Type 0) (I : ℕ → ℕ → Type 0) (p q : Package) (h : Half T I p q) (k : Half (Turned T) (TurnedIdentifiers I) q p) where
  -- the variable that e declares in q, where d declares v in p
  pub is_variable : (d e : ℕ) (v : PlacedVariable) → I d e → IsVariable p d v → (w : PlacedVariable) × (IsVariable q e w × SameVariable T p q v w)
  is_variable d e v i is =
      let w = h.variables is.1.0 v is.1.1.1 in (
        w.0,
        (
          (
            h.level d e i is.0,
            (
              is.1.0,
              (
                ranked T I p q h k variable_place (SameVariable T p q) (SameVariable (Turned T) q p) (package_variables p) (package_variables q)
                    h.variables k.variables (λ x y s. s.place) (λ x y s. s.place) d e is.1.0 i is.1.1.0,
                w.1.0,
              ),
            ),
          ),
          w.1.1,
        ),
      )

  pub is_function : (d e : ℕ) (f : PlacedFunction) → I d e → IsFunction p d f → (g : PlacedFunction) × (IsFunction q e g × SameFunction T p q f g)
  is_function d e f i is =
      let g = h.functions is.1.0 f is.1.1.1 in (
        g.0,
        (
          (
            h.level d e i is.0,
            (
              is.1.0,
              (
                ranked T I p q h k function_place (SameFunction T p q) (SameFunction (Turned T) q p) (package_functions p) (package_functions q)
                    h.functions k.functions (λ x y s. s.place) (λ x y s. s.place) d e is.1.0 i is.1.1.0,
                g.1.0,
              ),
            ),
          ),
          g.1.1,
        ),
      )

  pub type_at : (file there : ℕ) (tree x : TypeTree) (t : PlainType) → there ≡ file → SameTree T p q file tree x → IsTypeOf p file tree t → IsTypeOf q there x t
  type_at file there tree x t e s is = subst (λ i. IsTypeOf q i x t) (sym e) (type_of T I p q h k file tree x t s is)

  pub types_at : (file there : ℕ) (trees xs : List TypeTree) (ts : List PlainType) → there ≡ file → SameTrees T p q file trees xs →
      AreTypesOf p file trees ts → AreTypesOf q there xs ts
  types_at file there trees xs ts e s is = subst (λ i. AreTypesOf q i xs ts) (sym e) (types_of T I p q h k file trees xs ts s is)

  pub form_at : (file there : ℕ) (form x : WrittenForm) (t : WrittenAs) → there ≡ file → SameForm T p q file form x → HasForm p file form t →
      HasForm q there x t
  form_at file there (OfType tree) (OfType x) (AFieldOf t) e s is = type_at file there tree x t e s is
  form_at file there (OfType tree) x (AMethodOf t) e s is = absurd is
  form_at file there (OfType tree) (OfSignature ps r) (AFieldOf t) e s is = absurd s
  form_at file there (OfSignature ps r) (OfSignature qs o) (AMethodOf t) e s is = record {
    parameters = types_at file there (parameter_types ps) (parameter_types qs) t.parameters e s.0 is.parameters;
    results = types_at file there (result_types r) (result_types o) t.results e s.1 is.results;
  }
  form_at file there (OfSignature ps r) x (AFieldOf t) e s is = absurd is
  form_at file there (OfSignature ps r) (OfType x) (AMethodOf t) e s is = absurd s

  pub signature_of : (f g : PlacedFunction) (s : Signature) → SameFunction T p q f g → HasSignature p f s → HasSignature q g s
  signature_of f g s same is = record {
    parameters = types_at f.file g.file (parameter_types f.function.params) (parameter_types g.function.params) s.parameters same.file same.parameters
        is.parameters;
    results = types_at f.file g.file (result_types f.function.result) (result_types g.function.result) s.results same.file same.results is.results;
  }

module _ (T : ℕ → ℕ → ℕ → Type 0) (I : ℕ → ℕ → Type 0) (p q : Package) (h : Half T I p q) (k : Half (Turned T) (TurnedIdentifiers I) q p) where
  pub type_at_back : (file there : ℕ) (tree x : TypeTree) (t : PlainType) → there ≡ file → SameTree T p q file tree x → IsTypeOf q there x t →
      IsTypeOf p file tree t
  type_at_back file there tree x t e s is =
      type_of (Turned T) (TurnedIdentifiers I) q p k h file x tree t (turned_tree T p q file tree x s) (subst (λ i. IsTypeOf q i x t) e is)

  pub types_at_back : (file there : ℕ) (trees xs : List TypeTree) (ts : List PlainType) → there ≡ file → SameTrees T p q file trees xs →
      AreTypesOf q there xs ts → AreTypesOf p file trees ts
  types_at_back file there trees xs ts e s is =
      types_of (Turned T) (TurnedIdentifiers I) q p k h file xs trees ts (turned_trees T p q file trees xs s) (subst (λ i. AreTypesOf q i xs ts) e is)

  pub signature_back : (f g : PlacedFunction) (s : Signature) → SameFunction T p q f g → HasSignature q g s → HasSignature p f s
  signature_back f g s same is = record {
    parameters = types_at_back f.file g.file (parameter_types f.function.params) (parameter_types g.function.params) s.parameters same.file same.parameters
        is.parameters;
    results = types_at_back f.file g.file (result_types f.function.result) (result_types g.function.result) s.results same.file same.results is.results;
  }

  pub meaning : (d e file : ℕ) (b : Bound) → I d e → IsMeaningOf p d b →
      ((f x y : ℕ) → block_of (p.layout.role d) ≡ Inner f x y → T file (p.layout.place d).index (q.layout.place e).index) →
      (c : Bound) × (SameBound T file b c × IsMeaningOf q e c)
  meaning d e file _ i (predeclared {name = name} {m = m} is means) follows =
      (Stands m, (same_meaning {m = m}, predeclared {name = name} {m = m} (is_predeclared T I p q h d e name i is) means))
  meaning d e file _ i (import_name {path = path} is) follows =
      (Stands PackageName, (same_meaning {m = PackageName}, import_name {path = path} (h.imports d e path i is)))
  meaning d e file _ i (local {file = f} {from = a} {to = b} is) follows =
      let now = h.inner d e f a b i is in (
        Local (q.layout.place e).index,
        (
          same_local {a = (p.layout.place d).index} {b = (q.layout.place e).index} (follows f a b is),
          local {file = f} {from = now.0} {to = now.1.0} now.1.1,
        ),
      )
  meaning d e file _ i (variable {v = v} {t = t} is type_is) follows =
      let w = is_variable T I p q h k d e v i is in
      let m = Value (Typed t) true in (
        Stands m,
        (
          same_meaning {m = m},
          variable {v = w.0} {t = t} w.1.0 (type_at T I p q h k v.file w.0.file v.type_use w.0.type_use t w.1.1.file w.1.1.type_use type_is),
        ),
      )
  meaning d e file _ i (broken_variable {v = v} is none) follows =
      let w = is_variable T I p q h k d e v i is in (
        BrokenVariable,
        (
          same_variable,
          broken_variable {v = w.0} w.1.0
              (λ t type_is. none t (type_at_back v.file w.0.file v.type_use w.0.type_use t w.1.1.file w.1.1.type_use type_is)),
        ),
      )
  meaning d e file _ i (function {f = f} {s = s} is signed) follows =
      let g = is_function T I p q h k d e f i is in (
        Stands (Function s),
        (
          same_meaning {m = Function s},
          function {f = g.0} {s = s} g.1.0 (signature_of T I p q h k f g.0 s g.1.1 signed),
        ),
      )
  meaning d e file _ i (broken_function {f = f} is none) follows =
      let g = is_function T I p q h k d e f i is in (
        BrokenFunction,
        (
          same_function,
          broken_function {f = g.0} g.1.0 (λ s signed. none s (signature_back f g.0 s g.1.1 signed)),
        ),
      )
  meaning d e file _ i (definition {rank = r} level is whole) follows = (
    Stands (TypeName (Defined (symbol_in p r))),
    (
      same_meaning {m = TypeName (Defined (symbol_in p r))},
      subst (λ (s : Symbol). IsMeaningOf q e (Stands (TypeName (Defined s)))) (symbols T I p q h r)
          (definition {rank = r} (h.level d e i level) (declares_type T I p q h k d e r i is) (λ b. whole (broken_back T I p q h k r b))),
    ),
  )
  meaning d e file _ i (broken_definition {rank = r} level is b) follows = (
    BrokenType,
    (
      same_type,
      broken_definition {rank = r} (h.level d e i level) (declares_type T I p q h k d e r i is) (broken T I p q h k r b),
    ),
  )
