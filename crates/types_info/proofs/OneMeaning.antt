-- A declaration has at most one meaning, and so has the name at a token.
use Rattle.std.proofs.Common.{ℕ, ◌≡◌, inl, inr, List, [], ◌∷◌, ap, sym, subst, refl, ◌∙◌, arith, Bool, true, false, if◌then◌else◌, MatchOption}
use Rattle.std.specs.Prelude.{Option, Some, None, slice_get, codes, bytes_eq}
use Rattle.std.proofs.Math.Path.{ap₂}
use Rattle.std.proofs.lemmas.Bool.{false≢true}
use Rattle.std.proofs.lemmas.Option.{same_Some}
use Rattle.go_ast.specs.Tree.{TypeTree, Item, ParamTree, ResultTree}
use Rattle.go_ast.specs.SourceFile.{SourceFile}
use Rattle.go_scope.specs.declared.model.Position.{Position}
use Rattle.go_scope.specs.declared.model.Block.{Block}
use Rattle.go_scope.specs.declared.model.Block.TheVariants.{Universe, File, Inner}
use Rattle.go_scope.specs.declared.model.Block.TheVariants.{Package as PackageBlock}
use Rattle.go_scope.specs.declared.model.Role.TheVariants.{NotLexical}
use Rattle.go_scope.specs.declared.model.Purpose.TheVariants as purpose
use Rattle.go_scope.specs.Bindings.{Layout, Names, IsPackageLevel, IsBoundTo, use_bound, own, may_declare, is_use, is_left_name, block_of}
use Rattle.go_scope.specs.Table.{LiesAt}
use Rattle.go_scope.specs.WellFormed.{WellFormed}
use Rattle.types_expr.specs.declared.types.Basic.TheVariants as basic
use Rattle.types_expr.specs.declared.types.Builtin.TheVariants as builtin
use Rattle.types_expr.specs.Types.{PlainType, BasicType, Defined, Untyped, Nil, Signature, Meaning, Value, TypeName, BuiltinName}
use Rattle.types_expr.specs.World.{Bound, Local, BrokenType}
use Rattle.types_expr.specs.World.{Means as Stands}
use Rattle.types_declared.specs.Package.{Package, PlacedVariable, PlacedFunction, Export, package_variables, package_functions, package_types, variable_place}
use Rattle.types_declared.specs.Package.{function_place, type_place, symbol_in}
use Rattle.types_declared.specs.Written.{BindsToken, DeclaresType, IsBroken, IsTypeOf}
use Rattle.types_declared.specs.WrittenView.{IsTypeFound}
use Rattle.types_declared.specs.MeaningOf.{PredeclaredMeans, a_type, a_truth, an_untruth, a_nil, a_function, AreTypesOf, parameter_types, result_types}
use Rattle.types_declared.specs.MeaningOf.{HasSignature, IsVariable, IsFunction, IsMeaningOf, predeclared}
use Rattle.types_declared.specs.MeaningOf.{import_name, local, variable, broken_variable, function}
use Rattle.types_declared.specs.MeaningOf.{broken_function, definition, broken_definition, IsSignatureOf}
use Rattle.types_declared.specs.Definitions.{IsFoundSignature}
use Rattle.types_info.specs.MeaningsView.{IsPredeclaredMeaning}
use Rattle.types_info.specs.NamesView.{IsNameAfterDot}
use Rattle.types_info.specs.Uniqueness.{TokensRise}
use Rattle.types_info.specs.Worlds.{DenotesExport, IsBoundAt, by_scope, by_package, IsName, is_bound, is_unbound}
use Rattle.types_declared.proofs.Ranking.{one_rank}
use Rattle.types_declared.proofs.Binding.{one_first}
use Rattle.types_declared.proofs.Naming.{one_binding, one_export, one_named}
use Rattle.types_info.proofs.DeclaredMeanings.{universal_only, imported_only, variable_bound, function_bound}
use Rattle.types_info.proofs.DeclKinds.{DeclaredAt, variable_at, type_at, function_at, one_kind}
use Rattle.types_info.proofs.NameParts.{exported_before, selected_behind}

-- Predeclared names

meaning_named : List ℕ → Option Meaning
meaning_named n =
    if bytes_eq n (codes "bool") then Some (TypeName (BasicType basic.Bool)) else
    if bytes_eq n (codes "int") then Some (TypeName (BasicType basic.Int)) else
    if bytes_eq n (codes "string") then Some (TypeName (BasicType basic.String)) else
    if bytes_eq n (codes "true") then Some (Value (Untyped basic.Bool) false) else
    if bytes_eq n (codes "false") then Some (Value (Untyped basic.Bool) false) else
    if bytes_eq n (codes "nil") then Some (Value Nil false) else
    if bytes_eq n (codes "append") then Some (BuiltinName builtin.Append) else
    if bytes_eq n (codes "len") then Some (BuiltinName builtin.Len) else
    if bytes_eq n (codes "panic") then Some (BuiltinName builtin.Panic) else
    if bytes_eq n (codes "print") then Some (BuiltinName builtin.Print) else
    if bytes_eq n (codes "println") then Some (BuiltinName builtin.Println) else None

named_meaning : (n : List ℕ) (m : Meaning) → PredeclaredMeans n m → meaning_named n ≡ Some m
unfolding meaning_named
named_meaning _ _ (a_type basic.Bool) = refl
named_meaning _ _ (a_type basic.Int) = refl
named_meaning _ _ (a_type basic.String) = refl
named_meaning _ _ a_truth = refl
named_meaning _ _ an_untruth = refl
named_meaning _ _ a_nil = refl
named_meaning _ _ (a_function builtin.Append) = refl
named_meaning _ _ (a_function builtin.Len) = refl
named_meaning _ _ (a_function builtin.Panic) = refl
named_meaning _ _ (a_function builtin.Print) = refl
named_meaning _ _ (a_function builtin.Println) = refl

one_universal : (n : List ℕ) (b c : Bound) → IsPredeclaredMeaning n b → IsPredeclaredMeaning n c → b ≡ c
one_universal n b c x y = x.at ∙ ap Stands (same_Some x.meaning y.meaning (sym (named_meaning n x.meaning x.means) ∙ named_meaning n y.meaning y.means)) ∙
    sym y.at

-- Types and signatures

pub one_type : (p : Package) → WellFormed p.layout → (file : ℕ) (tree : TypeTree) (t u : PlainType) → IsTypeOf p file tree t → IsTypeOf p file tree u → t ≡ u
one_type p w file tree t u a b = one_named p w file tree t u a.names b.names

one_types : (p : Package) → WellFormed p.layout → (file : ℕ) (trees : List TypeTree) (ts us : List PlainType) → AreTypesOf p file trees ts →
    AreTypesOf p file trees us → ts ≡ us
one_types p w file [] [] [] a b = refl
one_types p w file [] [] (u ∷ us) a b = absurd b
one_types p w file [] (t ∷ ts) us a b = absurd a
one_types p w file (x ∷ xs) [] us a b = absurd a
one_types p w file (x ∷ xs) (t ∷ ts) [] a b = absurd b
one_types p w file (x ∷ xs) (t ∷ ts) (u ∷ us) a b = ap₂ (λ v vs. v ∷ vs) (one_type p w file x t u a.0 b.0) (one_types p w file xs ts us a.1 b.1)

pub one_signature_of : (p : Package) → WellFormed p.layout → (file : ℕ) (params : List (Item ParamTree)) (result : ResultTree) (s t : Signature) →
    IsSignatureOf p file params result s → IsSignatureOf p file params result t → s ≡ t
one_signature_of p w file params result s t a b =
    ap (λ ps. record { parameters = ps; results = s.results })
    (one_types p w file (parameter_types params) s.parameters t.parameters a.parameters b.parameters) ∙
    ap (λ rs. record { parameters = t.parameters; results = rs })
    (one_types p w file (result_types result) s.results t.results a.results b.results)

pub one_signature : (p : Package) → WellFormed p.layout → (f : PlacedFunction) (s t : Signature) → HasSignature p f s → HasSignature p f t → s ≡ t
one_signature p w f s t a b = one_signature_of p w f.file f.function.params f.function.result s t a b

pub one_found : {X : Type 0} (P : X → Type 0) → ((x y : X) → P x → P y → x ≡ y) → (o u : Option X) → MatchOption o ((x : X) → P x → ⊥) P →
    MatchOption u ((x : X) → P x → ⊥) P → o ≡ u
one_found P one None None a b = refl
one_found P one None (Some y) a b = absurd (a y b)
one_found P one (Some x) None a b = absurd (b x a)
one_found P one (Some x) (Some y) a b = ap Some (one x y a b)

signature_match : (p : Package) (f : PlacedFunction) (o : Option Signature) → IsFoundSignature p f o →
    MatchOption o ((s : Signature) → HasSignature p f s → ⊥) (λ s. HasSignature p f s)
signature_match p f None h = h
signature_match p f (Some s) h = h

pub one_signature_found : (p : Package) → WellFormed p.layout → (f : PlacedFunction) (o u : Option Signature) → IsFoundSignature p f o →
    IsFoundSignature p f u → o ≡ u
one_signature_found p w f o u a b = one_found (HasSignature p f) (one_signature p w f) o u (signature_match p f o a) (signature_match p f u b)

-- Declarations of the package block

abbrev IsDefinitionFound : Package → (rank : ℕ) (broken : Bool) → Type 0
IsDefinitionFound p rank true = IsBroken p rank
IsDefinitionFound p rank false = IsBroken p rank → ⊥

abbrev definition_bound : Package → (rank : ℕ) (broken : Bool) → Bound
definition_bound p rank true = BrokenType
definition_bound p rank false = Stands (TypeName (Defined (symbol_in p rank)))

data IsGlobal (p : Package) (d : ℕ) (b : Bound) : Type 0 where
  as_variable : {v : PlacedVariable} (found : Option PlainType) → IsVariable p d v → IsTypeFound p v.file v.type_use found → b ≡ variable_bound found →
      IsGlobal p d b
  as_function : {f : PlacedFunction} (found : Option Signature) → IsFunction p d f → IsFoundSignature p f found → b ≡ function_bound found → IsGlobal p d b
  as_definition : {rank : ℕ} (broken : Bool) → DeclaresType p d rank → IsDefinitionFound p rank broken → b ≡ definition_bound p rank broken → IsGlobal p d b

global_only : (p : Package) (d : ℕ) (b : Bound) → IsPackageLevel p.layout d → IsMeaningOf p d b → IsGlobal p d b
global_only p d _ e (predeclared is means) = let q : PackageBlock ≡ Universe = sym e ∙ is.universe in let z : ⊥ = cc in absurd z
global_only p d _ e (import_name is) = let q : PackageBlock ≡ File is.is_import.0 = sym e ∙ is.is_import.1 in let z : ⊥ = cc in absurd z
global_only p d _ e (local {file = f} {from = a} {to = b} is) = let q : PackageBlock ≡ Inner f a b = sym e ∙ is in let z : ⊥ = cc in absurd z
global_only p d _ e (variable {v = v} {t = t} is h) = as_variable {v = v} (Some t) is h refl
global_only p d _ e (broken_variable {v = v} is h) = as_variable {v = v} None is h refl
global_only p d _ e (function {f = f} {s = s} is h) = as_function {f = f} (Some s) is h refl
global_only p d _ e (broken_function {f = f} is h) = as_function {f = f} None is h refl
global_only p d _ e (definition {rank = r} is declares h) = as_definition {rank = r} false declares h refl
global_only p d _ e (broken_definition {rank = r} is declares h) = as_definition {rank = r} true declares h refl

-- The token at which d stands

at_place : (files : List SourceFile) (l : Layout) (sort d : ℕ) (place : Position) → LiesAt l place d → DeclaredAt files sort place.file place.index →
    DeclaredAt files sort (l.place d).file (l.place d).index
at_place files l sort d place s h = subst (λ i. DeclaredAt files sort (l.place d).file i) (sym s.2)
    (subst (λ f. DeclaredAt files sort f place.index) (sym s.1) h)

variable_stands : (p : Package) (d : ℕ) (v : PlacedVariable) → IsVariable p d v → DeclaredAt p.files 0 (p.layout.place d).file (p.layout.place d).index
variable_stands p d v is = let r = is.1.1.0 in at_place p.files p.layout 0 d (variable_place r.item) r.stands (variable_at p.files is.1.0 r.item r.has_rank)

function_stands : (p : Package) (d : ℕ) (f : PlacedFunction) → IsFunction p d f → DeclaredAt p.files 2 (p.layout.place d).file (p.layout.place d).index
function_stands p d f is = let r = is.1.1.0 in at_place p.files p.layout 2 d (function_place r.item) r.stands (function_at p.files is.1.0 r.item r.has_rank)

type_stands : (p : Package) (d rank : ℕ) → DeclaresType p d rank → DeclaredAt p.files 1 (p.layout.place d).file (p.layout.place d).index
type_stands p d rank r = at_place p.files p.layout 1 d (type_place r.item) r.stands (type_at p.files rank r.item r.has_rank)

apart : (p : Package) → TokensRise p.files → (d j k : ℕ) → (j ≡ k → ⊥) → DeclaredAt p.files j (p.layout.place d).file (p.layout.place d).index →
    DeclaredAt p.files k (p.layout.place d).file (p.layout.place d).index → ⊥
apart p rising d j k ne a b = ne (one_kind p.files rising j k (p.layout.place d).file (p.layout.place d).index a b)

one_variable : (p : Package) (d : ℕ) (v u : PlacedVariable) → IsVariable p d v → IsVariable p d u → v ≡ u
one_variable p d v u a b =
    same_Some v u (sym a.1.1.1 ∙ ap (slice_get (package_variables p))
    (one_rank variable_place (package_variables p) p.layout d a.1.0 b.1.0 a.1.1.0 b.1.1.0) ∙ b.1.1.1)

one_function : (p : Package) (d : ℕ) (f g : PlacedFunction) → IsFunction p d f → IsFunction p d g → f ≡ g
one_function p d f g a b =
    same_Some f g (sym a.1.1.1 ∙ ap (slice_get (package_functions p))
    (one_rank function_place (package_functions p) p.layout d a.1.0 b.1.0 a.1.1.0 b.1.1.0) ∙ b.1.1.1)

same_definition : (p : Package) (r : ℕ) (x y : Bool) → IsDefinitionFound p r x → IsDefinitionFound p r y → definition_bound p r x ≡ definition_bound p r y
same_definition p r true true a b = refl
same_definition p r true false a b = absurd (b a)
same_definition p r false true a b = absurd (a b)
same_definition p r false false a b = refl

one_global : (p : Package) → WellFormed p.layout → TokensRise p.files → (d : ℕ) (b c : Bound) → IsGlobal p d b → IsGlobal p d c → b ≡ c
one_global p w rising d b c (as_variable {v = v} o x h e) (as_variable {v = u} q y k g) =
    let same : u ≡ v = one_variable p d u v y x in
    e ∙ ap variable_bound (one_found (IsTypeOf p v.file v.type_use) (one_type p w v.file v.type_use) o q h
    (subst (λ z. IsTypeFound p z.file z.type_use q) same k)) ∙ sym g
one_global p w rising d b c (as_variable {v = v} o x h e) (as_function {f = f} q y k g) =
    absurd (apart p rising d 0 2 (λ n. let z : ⊥ = omega (arith, n) in z) (variable_stands p d v x) (function_stands p d f y))
one_global p w rising d b c (as_variable {v = v} o x h e) (as_definition {rank = r} q y k g) =
    absurd (apart p rising d 0 1 (λ n. let z : ⊥ = omega (arith, n) in z) (variable_stands p d v x) (type_stands p d r y))
one_global p w rising d b c (as_function {f = f} o x h e) (as_variable {v = v} q y k g) =
    absurd (apart p rising d 2 0 (λ n. let z : ⊥ = omega (arith, n) in z) (function_stands p d f x) (variable_stands p d v y))
one_global p w rising d b c (as_function {f = f} o x h e) (as_function {f = f'} q y k g) =
    let same : f' ≡ f = one_function p d f' f y x in
    e ∙ ap function_bound (one_signature_found p w f o q h (subst (λ z. IsFoundSignature p z q) same k)) ∙ sym g
one_global p w rising d b c (as_function {f = f} o x h e) (as_definition {rank = r} q y k g) =
    absurd (apart p rising d 2 1 (λ n. let z : ⊥ = omega (arith, n) in z) (function_stands p d f x) (type_stands p d r y))
one_global p w rising d b c (as_definition {rank = r} o x h e) (as_variable {v = v} q y k g) =
    absurd (apart p rising d 1 0 (λ n. let z : ⊥ = omega (arith, n) in z) (type_stands p d r x) (variable_stands p d v y))
one_global p w rising d b c (as_definition {rank = r} o x h e) (as_function {f = f} q y k g) =
    absurd (apart p rising d 1 2 (λ n. let z : ⊥ = omega (arith, n) in z) (type_stands p d r x) (function_stands p d f y))
one_global p w rising d b c (as_definition {rank = r} o x h e) (as_definition {rank = s} q y k g) =
    let same : s ≡ r = one_rank type_place (package_types p) p.layout d s r y x in
    e ∙ same_definition p r o q h (subst (λ z. IsDefinitionFound p z q) same k) ∙ ap (λ z. definition_bound p z q) (sym same) ∙ sym g

-- Any declaration

local_only : (p : Package) (d f a b : ℕ) (c : Bound) → block_of (p.layout.role d) ≡ Inner f a b → IsMeaningOf p d c → c ≡ Local (p.layout.place d).index
local_only p d f a b _ e (predeclared is means) = let q : Inner f a b ≡ Universe = sym e ∙ is.universe in let z : ⊥ = cc in absurd z
local_only p d f a b _ e (import_name is) = let q : Inner f a b ≡ File is.is_import.0 = sym e ∙ is.is_import.1 in let z : ⊥ = cc in absurd z
local_only p d f a b _ e (local is) = refl
local_only p d f a b _ e (variable is t) = let q : Inner f a b ≡ PackageBlock = sym e ∙ is.0 in let z : ⊥ = cc in absurd z
local_only p d f a b _ e (broken_variable is t) = let q : Inner f a b ≡ PackageBlock = sym e ∙ is.0 in let z : ⊥ = cc in absurd z
local_only p d f a b _ e (function is s) = let q : Inner f a b ≡ PackageBlock = sym e ∙ is.0 in let z : ⊥ = cc in absurd z
local_only p d f a b _ e (broken_function is s) = let q : Inner f a b ≡ PackageBlock = sym e ∙ is.0 in let z : ⊥ = cc in absurd z
local_only p d f a b _ e (definition is r w) = let q : Inner f a b ≡ PackageBlock = sym e ∙ is in let z : ⊥ = cc in absurd z
local_only p d f a b _ e (broken_definition is r w) = let q : Inner f a b ≡ PackageBlock = sym e ∙ is in let z : ⊥ = cc in absurd z

by_block : (p : Package) → WellFormed p.layout → TokensRise p.files → (d : ℕ) (b c : Bound) → IsMeaningOf p d b → IsMeaningOf p d c → (k : Block) →
    block_of (p.layout.role d) ≡ k → b ≡ c
by_block p w rising d b c x y Universe e = one_universal (p.names d) b c (universal_only p d b e x).1 (universal_only p d c e y).1
by_block p w rising d b c x y (File f) e = (imported_only p d f b e x).1 ∙ sym (imported_only p d f c e y).1
by_block p w rising d b c x y (Inner f i j) e = local_only p d f i j b e x ∙ sym (local_only p d f i j c e y)
by_block p w rising d b c x y PackageBlock e = one_global p w rising d b c (global_only p d b e x) (global_only p d c e y)

pub has_one_meaning : (p : Package) → WellFormed p.layout → TokensRise p.files → (d : ℕ) (b c : Bound) → IsMeaningOf p d b → IsMeaningOf p d c → b ≡ c
has_one_meaning p w rising d b c x y = by_block p w rising d b c x y (block_of (p.layout.role d)) refl

-- The name at a token

pub lexical : (l : Layout) (names : Names) (u d : ℕ) → l.role u ≡ NotLexical purpose.Selected → IsBoundTo l names u d → ⊥
lexical l names u d e (use_bound is b) = elim is [
  | inl h ↦ false≢true (sym (ap is_use e) ∙ h)
  | inr h ↦ false≢true (sym (ap is_left_name e) ∙ h.0)
]
lexical l names u d e (own same counts) = false≢true (sym (ap may_declare e) ∙ ap (λ v. may_declare (l.role v)) same ∙ counts.declares.may)

-- scopes do not bind a name after a dot
pub bound_or_after_dot : (p : Package) (file token d : ℕ) → BindsToken p file token d → IsNameAfterDot p file token → ⊥
bound_or_after_dot p file token d b s =
    let same : b.identifier ≡ s.identifier = one_first (LiesAt p.layout (record { file = file; index = token })) p.size b.identifier s.identifier b.found
    s.found in
    lexical p.layout p.names b.identifier d (ap p.layout.role same ∙ s.selected) b.bound

scope_or_package : (p : Package) (file token d : ℕ) (e : Export) → BindsToken p file token d → DenotesExport p file token e → ⊥
scope_or_package p file token d e b s = bound_or_after_dot p file token d b (selected_behind p file token e s)

one_selected : (p : Package) → WellFormed p.layout → (file token : ℕ) (e f : Export) → DenotesExport p file token e → DenotesExport p file token f → e ≡ f
one_selected p w file token e f a b = one_export p w file a.before token e f a.exported (exported_before p file token a.before f a.behind_dot b)

one_at : (p : Package) → WellFormed p.layout → TokensRise p.files → (file token : ℕ) (b c : Bound) → IsBoundAt p file token b → IsBoundAt p file token c → b ≡ c
one_at p w rising file token b c (by_scope {declaration = d} binds means) (by_scope {declaration = e} binds' means') =
    has_one_meaning p w rising d b c means (subst (λ z. IsMeaningOf p z c) (one_binding p w file token e d binds' binds) means')
one_at p w rising file token b _ (by_scope {declaration = d} binds means) (by_package {e = e} s) = absurd (scope_or_package p file token d e binds s)
one_at p w rising file token _ c (by_package {e = e} s) (by_scope {declaration = d} binds means) = absurd (scope_or_package p file token d e binds s)
one_at p w rising file token _ _ (by_package {e = e} s) (by_package {e = f} k) = ap (λ z. Stands z.meaning) (one_selected p w file token e f s k)

pub one_name : (p : Package) → WellFormed p.layout → TokensRise p.files → (file token : ℕ) (b c : Bound) → IsName p file token b → IsName p file token c → b ≡ c
one_name p w rising file token b c (is_bound x) (is_bound y) = one_at p w rising file token b c x y
one_name p w rising file token b _ (is_bound x) (is_unbound none) = absurd (none b x)
one_name p w rising file token _ c (is_unbound none) (is_bound y) = absurd (none c y)
one_name p w rising file token _ _ (is_unbound none) (is_unbound other) = refl
