-- The meaning of a declaration, by its block and its ranks.
use Rattle.std.proofs.Common.{ℕ, ◌≡◌, ◌<◌, inl, inr, List, length, get_or, ap, sym, subst, refl, ◌∙◌}
use Rattle.std.specs.Prelude.{Option, Some, None, option_map, slice_get, map, true, false, codes}
use Rattle.std.proofs.lemmas.Option.{slice_get_within, slice_get-map, slice_get_read, same_Some}
use Rattle.go_scope.specs.declared.model.Block.TheVariants.{Universe, File, Inner}
use Rattle.go_scope.specs.declared.model.Block.TheVariants.{Package as PackageBlock}
use Rattle.std.proofs.lemmas.Bool.{true≢false}
use Rattle.std.proofs.lemmas.List.{length-map}
use Rattle.go_scope.specs.Bindings.{IsPackageLevel, block_of, is_implied}
use Rattle.types_expr.specs.declared.types.Basic.{Basic}
use Rattle.types_expr.specs.declared.types.Basic.TheVariants as basic
use Rattle.types_expr.specs.declared.types.Builtin.{Builtin}
use Rattle.types_expr.specs.Types.{PlainType, BasicType, Typed, Untyped, Nil, Signature, Meaning, Value, TypeName, Function, BuiltinName}
use Rattle.types_expr.specs.Types.{Package as PackageName}
use Rattle.types_expr.specs.World.{Bound, BrokenVariable, BrokenFunction}
use Rattle.types_expr.specs.World.{Means as Stands}
use Rattle.types_declared.specs.declared.declared.Variable.{Variable}
use Rattle.types_declared.specs.declared.declared.Function.{Function as Func}
use Rattle.go_ast.specs.View.{type_view}
use Rattle.types_declared.specs.DeclaredView.{variable_of, function_of}
use Rattle.types_declared.specs.Package.{Package, PlacedVariable, PlacedFunction, package_variables, package_functions}
use Rattle.types_declared.specs.Written.{DeclaresType, DeclaresImport, basic_name}
use Rattle.types_declared.specs.MeaningOf.{builtin_name, PredeclaredMeans, a_type, a_truth, an_untruth, a_nil, a_function, DeclaresVariable, DeclaresFunction}
use Rattle.types_declared.specs.MeaningOf.{IsMeaningOf, predeclared, import_name, local, variable, broken_variable, function, broken_function, definition}
use Rattle.types_declared.specs.MeaningOf.{broken_definition}
use Rattle.types_declared.specs.WrittenView.{IsTypeFound}
use Rattle.types_declared.specs.Definitions.{IsFoundSignature}
use Rattle.types_info.specs.MeaningsView.{IsTruthName, IsPredeclaredMeaning, IsPredeclaredFound, IsValueFound, IsMeaningFound}

-- Predeclared names

pub type_named : (name : List ℕ) (b : Basic) → name ≡ basic_name b → IsPredeclaredMeaning name (Stands (TypeName (BasicType b)))
type_named name b e = record {
  meaning = TypeName (BasicType b);
  means = subst (λ n. PredeclaredMeans n (TypeName (BasicType b))) (sym e) (a_type b);
  at =
      refl;
}

pub function_named : (name : List ℕ) (b : Builtin) → name ≡ builtin_name b → IsPredeclaredMeaning name (Stands (BuiltinName b))
function_named name b e = record { meaning = BuiltinName b; means = subst (λ n. PredeclaredMeans n (BuiltinName b)) (sym e) (a_function b); at = refl }

pub true_named : (name : List ℕ) → name ≡ codes "true" → IsPredeclaredMeaning name (Stands (Value (Untyped basic.Bool) false))
true_named name e = record {
  meaning = Value (Untyped basic.Bool) false;
  means =
      subst (λ n. PredeclaredMeans n (Value (Untyped basic.Bool) false)) (sym e) a_truth;
  at = refl;
}

pub false_named : (name : List ℕ) → name ≡ codes "false" → IsPredeclaredMeaning name (Stands (Value (Untyped basic.Bool) false))
false_named name e = record {
  meaning = Value (Untyped basic.Bool) false;
  means =
      subst (λ n. PredeclaredMeans n (Value (Untyped basic.Bool) false)) (sym e) an_untruth;
  at = refl;
}

pub nil_named : (name : List ℕ) → name ≡ codes "nil" → IsPredeclaredMeaning name (Stands (Value Nil false))
nil_named name e = record { meaning = Value Nil false; means = subst (λ n. PredeclaredMeans n (Value Nil false)) (sym e) a_nil; at = refl }

pub truth_named : (name : List ℕ) → IsTruthName name → IsPredeclaredMeaning name (Stands (Value (Untyped basic.Bool) false))
truth_named name h = elim h [ inl e ↦ true_named name e | inr e ↦ false_named name e ]

not_predeclared : (name : List ℕ) → ((b : Basic) → name ≡ basic_name b → ⊥) → ((b : Builtin) → name ≡ builtin_name b → ⊥) →
    (IsTruthName name → ⊥) × (name ≡ codes "nil" → ⊥) → (n : List ℕ) (m : Meaning) → n ≡ name → PredeclaredMeans n m → ⊥
not_predeclared name types functions values n m e (a_type b) = types b (sym e)
not_predeclared name types functions values n m e a_truth = values.0 (inl (sym e))
not_predeclared name types functions values n m e an_untruth = values.0 (inr (sym e))
not_predeclared name types functions values n m e a_nil = values.1 (sym e)
not_predeclared name types functions values n m e (a_function b) = functions b (sym e)

pub value_else : (name : List ℕ) (found : Option Bound) → ((b : Basic) → name ≡ basic_name b → ⊥) → ((b : Builtin) → name ≡ builtin_name b → ⊥) →
    IsValueFound name found → IsPredeclaredFound name found
value_else name None types functions h = λ m p. not_predeclared name types functions h name m refl p
value_else name (Some b) types functions h = h

-- A declaration of the universe block

pub universal_only : (p : Package) (d : ℕ) (b : Bound) → block_of (p.layout.role d) ≡ Universe → IsMeaningOf p d b → (is_implied (p.layout.role d) ≡ true) ×
    IsPredeclaredMeaning (p.names d) b
universal_only p d _ e (predeclared {name = n} {m = m} is means) =
    (is.implied, record { meaning = m; means = subst (λ v. PredeclaredMeans v m) (sym is.named) means; at = refl })
universal_only p d _ e (import_name is) = let q : Universe ≡ File is.is_import.0 = sym e ∙ is.is_import.1 in let z : ⊥ = cc in absurd z
universal_only p d _ e (local {file = f} {from = a} {to = b} is) = let q : Universe ≡ Inner f a b = sym e ∙ is in let z : ⊥ = cc in absurd z
universal_only p d _ e (variable is t) = let q : Universe ≡ PackageBlock = sym e ∙ is.0 in let z : ⊥ = cc in absurd z
universal_only p d _ e (broken_variable is t) = let q : Universe ≡ PackageBlock = sym e ∙ is.0 in let z : ⊥ = cc in absurd z
universal_only p d _ e (function is s) = let q : Universe ≡ PackageBlock = sym e ∙ is.0 in let z : ⊥ = cc in absurd z
universal_only p d _ e (broken_function is s) = let q : Universe ≡ PackageBlock = sym e ∙ is.0 in let z : ⊥ = cc in absurd z
universal_only p d _ e (definition is r w) = let q : Universe ≡ PackageBlock = sym e ∙ is in let z : ⊥ = cc in absurd z
universal_only p d _ e (broken_definition is r w) = let q : Universe ≡ PackageBlock = sym e ∙ is in let z : ⊥ = cc in absurd z

pub universe_meaning : (p : Package) (d : ℕ) (name : List ℕ) (found : Option Bound) → block_of (p.layout.role d) ≡ Universe →
    is_implied (p.layout.role d) ≡ true → name ≡ p.names d →
    IsPredeclaredFound name found → IsMeaningFound p d found
universe_meaning p d name None e i n h = λ b m. let u = (universal_only p d b e m).1 in h u.meaning (subst (λ v. PredeclaredMeans v u.meaning) (sym n) u.means)
universe_meaning p d name (Some b) e i n h =
    subst (IsMeaningOf p d) (sym h.at) (predeclared {name = name} {m = h.meaning} (record { implied = i; universe = e; named = sym n }) h.means)

pub no_universe_meaning : (p : Package) (d : ℕ) → block_of (p.layout.role d) ≡ Universe → is_implied (p.layout.role d) ≡ false → (b : Bound) →
    IsMeaningOf p d b → ⊥
no_universe_meaning p d e i b m = true≢false (sym (universal_only p d b e m).0 ∙ i)

-- A declaration of a file's block

pub imported_only : (p : Package) (d file : ℕ) (b : Bound) → block_of (p.layout.role d) ≡ File file → IsMeaningOf p d b →
    ((path : List ℕ) × DeclaresImport p d path) × (b ≡ Stands PackageName)
imported_only p d file _ e (predeclared is means) = let q : Universe ≡ File file = sym is.universe ∙ e in let z : ⊥ = cc in absurd z
imported_only p d file _ e (import_name {path = path} is) = ((path, is), refl)
imported_only p d file _ e (local {file = f} {from = a} {to = b} is) = let q : File file ≡ Inner f a b = sym e ∙ is in let z : ⊥ = cc in absurd z
imported_only p d file _ e (variable is t) = let q : File file ≡ PackageBlock = sym e ∙ is.0 in let z : ⊥ = cc in absurd z
imported_only p d file _ e (broken_variable is t) = let q : File file ≡ PackageBlock = sym e ∙ is.0 in let z : ⊥ = cc in absurd z
imported_only p d file _ e (function is s) = let q : File file ≡ PackageBlock = sym e ∙ is.0 in let z : ⊥ = cc in absurd z
imported_only p d file _ e (broken_function is s) = let q : File file ≡ PackageBlock = sym e ∙ is.0 in let z : ⊥ = cc in absurd z
imported_only p d file _ e (definition is r w) = let q : File file ≡ PackageBlock = sym e ∙ is in let z : ⊥ = cc in absurd z
imported_only p d file _ e (broken_definition is r w) = let q : File file ≡ PackageBlock = sym e ∙ is in let z : ⊥ = cc in absurd z

pub no_import_meaning : (p : Package) (d file : ℕ) → block_of (p.layout.role d) ≡ File file → ((path : List ℕ) → DeclaresImport p d path → ⊥) → (b : Bound) →
    IsMeaningOf p d b → ⊥
no_import_meaning p d file e none b m = let found = (imported_only p d file b e m).0 in none found.0 found.1

-- A declaration of the package block

pub no_meaning : (p : Package) (d : ℕ) → IsPackageLevel p.layout d → ((r : ℕ) → DeclaresVariable p d r → ⊥) → ((r : ℕ) → DeclaresFunction p d r → ⊥) →
    ((r : ℕ) → DeclaresType p d r → ⊥) →
    (b : Bound) → IsMeaningOf p d b → ⊥
no_meaning p d e vs fs ts _ (predeclared is means) = let q : PackageBlock ≡ Universe = sym e ∙ is.universe in let z : ⊥ = cc in z
no_meaning p d e vs fs ts _ (import_name is) = let q : PackageBlock ≡ File is.is_import.0 = sym e ∙ is.is_import.1 in let z : ⊥ = cc in z
no_meaning p d e vs fs ts _ (local {file = f} {from = a} {to = b} is) = let q : PackageBlock ≡ Inner f a b = sym e ∙ is in let z : ⊥ = cc in z
no_meaning p d e vs fs ts _ (variable is t) = vs is.1.0 is.1.1.0
no_meaning p d e vs fs ts _ (broken_variable is t) = vs is.1.0 is.1.1.0
no_meaning p d e vs fs ts _ (function is s) = fs is.1.0 is.1.1.0
no_meaning p d e vs fs ts _ (broken_function is s) = fs is.1.0 is.1.1.0
no_meaning p d e vs fs ts _ (definition {rank = r} is t w) = ts r t
no_meaning p d e vs fs ts _ (broken_definition {rank = r} is t w) = ts r t

-- the variable or function that the program has at a rank

pub item_at : {X Y : Type 0} (f : X → Y) (xs : List X) (ys : List Y) (rank : ℕ) (x : X) (y : Y) → map f xs ≡ ys → rank < length xs → x ≡ get_or xs rank x →
    slice_get ys rank ≡ Some y → y ≡ f x
item_at f xs ys rank x y e lt is at =
    same_Some y (f x) (sym at ∙ ap (λ z. slice_get z rank) (sym e) ∙ slice_get-map f xs rank ∙
    ap (option_map f) (slice_get_read xs (length xs) rank x refl lt is))

pub rank_within : {X Y : Type 0} (f : X → Y) (xs : List X) (ys : List Y) (rank : ℕ) (y : Y) → map f xs ≡ ys → slice_get ys rank ≡ Some y → rank < length xs
rank_within f xs ys rank y e ey = subst (λ n. rank < n) (ap length (sym e) ∙ length-map xs f) (slice_get_within ys rank y ey)

abbrev pub variable_bound : Option PlainType → Bound
variable_bound None = BrokenVariable
variable_bound (Some t) = Stands (Value (Typed t) true)

abbrev pub function_bound : Option Signature → Bound
function_bound None = BrokenFunction
function_bound (Some s) = Stands (Function s)

pub variable_means : (p : Package) (d rank : ℕ) (v : PlacedVariable) (found : Option PlainType) → IsPackageLevel p.layout d → DeclaresVariable p d rank →
    slice_get (package_variables p) rank ≡ Some v →
    IsTypeFound p v.file v.type_use found → IsMeaningOf p d (variable_bound found)
variable_means p d rank v None level r at h = broken_variable {v = v} (level, (rank, (r, at))) h
variable_means p d rank v (Some t) level r at h = variable {v = v} (level, (rank, (r, at))) h

pub function_means : (p : Package) (d rank : ℕ) (f : PlacedFunction) (found : Option Signature) → IsPackageLevel p.layout d → DeclaresFunction p d rank →
    slice_get (package_functions p) rank ≡ Some f →
    IsFoundSignature p f found → IsMeaningOf p d (function_bound found)
function_means p d rank f None level r at h = broken_function {f = f} (level, (rank, (r, at))) h
function_means p d rank f (Some s) level r at h = function {f = f} (level, (rank, (r, at))) h

pub variable_found : (p : Package) (items : List Variable) (d rank : ℕ) (x : Variable) (found : Option PlainType) →
    map variable_of items ≡ package_variables p → IsPackageLevel p.layout d → DeclaresVariable p d rank →
    x ≡ get_or items rank x → IsTypeFound p x.file (type_view x.var_type.now) found → IsMeaningOf p d (variable_bound found)
variable_found p items d rank x found e level r is h =
    let lt : rank < length items = rank_within variable_of items (package_variables p) rank r.item e r.has_rank in
    let same : r.item ≡ variable_of x = item_at variable_of items (package_variables p) rank x r.item e lt is r.has_rank in
    variable_means p d rank r.item found level r r.has_rank (subst (λ v. IsTypeFound p v.file v.type_use found) (sym same) h)

pub function_found : (p : Package) (items : List Func) (d rank : ℕ) (x : Func) (found : Option Signature) → map function_of items ≡ package_functions p →
    IsPackageLevel p.layout d → DeclaresFunction p d rank →
    x ≡ get_or items rank x → IsFoundSignature p (function_of x) found → IsMeaningOf p d (function_bound found)
function_found p items d rank x found e level r is h =
    let lt : rank < length items = rank_within function_of items (package_functions p) rank r.item e r.has_rank in
    let same : r.item ≡ function_of x = item_at function_of items (package_functions p) rank x r.item e lt is r.has_rank in
    function_means p d rank r.item found level r r.has_rank (subst (λ v. IsFoundSignature p v found) (sym same) h)
