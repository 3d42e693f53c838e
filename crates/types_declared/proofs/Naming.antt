-- A token is bound to at most one declaration, and a type expression names at most one type.
use Rattle.std.proofs.Common.{ℕ, ◌≡◌, List, length, ap, sym, subst, refl, ◌∙◌, arith}
use Rattle.std.proofs.lemmas.Bool.{true≢false}
use Rattle.std.proofs.lemmas.Option.{same_Some}
use Rattle.go_scanner.proofs.StringValueLemmas.{one_string_value}
use Rattle.go_scope.specs.WellFormed.{WellFormed}
use Rattle.go_scope.proofs.Nests.{nests}
use Rattle.go_scope.proofs.Uniqueness.{bound_once}
use Rattle.types_declared.proofs.PathParts.{one_path}
use Rattle.go_ast.specs.Tree.{TypeTree, Local, Imported, Pointer, Slice}
use Rattle.types_expr.specs.declared.types.Basic.{Basic}
use Rattle.types_expr.specs.declared.types.Basic.TheVariants as basic
use Rattle.types_expr.specs.Types.{PlainType, BasicType, Defined, Meaning, TypeName}
use Rattle.types_expr.specs.Types.{Pointer as PointerType, Slice as SliceType}
use Rattle.types_declared.specs.Package.{Package, Export, type_place, package_types, laid_of, symbol_in, spelled}
use Rattle.types_declared.specs.Written.{BindsToken, DeclaresImport, IsExportOf, IsExportAt, NamesExport}
use Rattle.types_declared.specs.Written.{basic_name, DenotesType, predeclared, defined, imported}
use Rattle.types_declared.specs.Written.{pointer, slice}
use Rattle.types_declared.specs.WrittenView.{DeclaresPlain}
use Rattle.types_declared.specs.WrittenView as found
use Rattle.types_declared.proofs.Ranking.{one_rank}
use Rattle.types_declared.proofs.Binding.{same_bound}

-- the identifier at a token is bound to at most one declaration
pub one_binding : (p : Package) → WellFormed p.layout → (file token d e : ℕ) → BindsToken p file token d → BindsToken p file token e → d ≡ e
one_binding p w file token d e a b = bound_once p.layout (nests p.layout w) p.names a.identifier d e a.bound (same_bound p file token a.identifier e a.found b)

-- an import has at most one path
pub one_import_path : (p : Package) (d : ℕ) (v w : List ℕ) → DeclaresImport p d v → DeclaresImport p d w → v ≡ w
one_import_path p d v w a b = one_path one_string_value p.files (laid_of p) d v w a.of_path b.of_path

-- a qualified identifier denotes at most one export
one_export_of : (p : Package) (d file name : ℕ) (e f : Export) → IsExportOf p d file name e → IsExportOf p d file name f → e ≡ f
one_export_of p d file name e f a b =
    same_Some e f (sym a.exported ∙ ap (λ v. (p.export_data_of v).exported (spelled p file name)) (one_import_path p d a.path b.path a.imports b.imports) ∙
    b.exported)

pub one_export : (p : Package) → WellFormed p.layout → (file qualifier name : ℕ) (e f : Export) → IsExportAt p file qualifier name e →
    IsExportAt p file qualifier name f → e ≡ f
one_export p w file q name e f a b =
    one_export_of p a.import file name e f a.of_import
    (subst (λ d. IsExportOf p d file name f) (one_binding p w file q b.import a.import b.binds a.binds) b.of_import)

-- two predeclared types with the same name are the same
one_basic : (b c : Basic) → basic_name b ≡ basic_name c → b ≡ c
one_basic basic.Bool basic.Bool e = refl
one_basic basic.Bool basic.Int e = let z : ◌≡◌ {A = ℕ} 4 3 = ap length e in absurd (omega arith)
one_basic basic.Bool basic.String e = let z : ◌≡◌ {A = ℕ} 4 6 = ap length e in absurd (omega arith)
one_basic basic.Int basic.Bool e = let z : ◌≡◌ {A = ℕ} 3 4 = ap length e in absurd (omega arith)
one_basic basic.Int basic.Int e = refl
one_basic basic.Int basic.String e = let z : ◌≡◌ {A = ℕ} 3 6 = ap length e in absurd (omega arith)
one_basic basic.String basic.Bool e = let z : ◌≡◌ {A = ℕ} 6 4 = ap length e in absurd (omega arith)
one_basic basic.String basic.Int e = let z : ◌≡◌ {A = ℕ} 6 3 = ap length e in absurd (omega arith)
one_basic basic.String basic.String e = refl

-- a declaration declares at most one type
pub one_declared : (p : Package) (d : ℕ) (t u : PlainType) → DeclaresPlain p d t → DeclaresPlain p d u → t ≡ u
one_declared p d _ _ (found.predeclared b x) (found.predeclared c y) = ap BasicType (one_basic b c (sym x.named ∙ y.named))
one_declared p d _ _ (found.predeclared b x) (found.defined {rank = r} y) = absurd (true≢false (sym x.implied ∙ y.stands.0))
one_declared p d _ _ (found.defined {rank = r} x) (found.predeclared c y) = absurd (true≢false (sym y.implied ∙ x.stands.0))
one_declared p d _ _ (found.defined {rank = r} x) (found.defined {rank = s} y) =
    ap (λ k. Defined (symbol_in p k)) (one_rank type_place (package_types p) p.layout d r s x y)

-- The type that each form of type expression names

by_declaration : (p : Package) (file n : ℕ) (t : PlainType) → DenotesType p file (Local n) t → (d : ℕ) × (BindsToken p file n d × DeclaresPlain p d t)
by_declaration p file n _ (predeclared {d = d} b binds is) = (d, (binds, found.predeclared b is))
by_declaration p file n _ (defined {d = d} {rank = r} binds is) = (d, (binds, found.defined {rank = r} is))

by_export : (p : Package) (file q dot n : ℕ) (t : PlainType) → DenotesType p file (Imported q dot n) t → NamesExport p file q n t
by_export p file q dot n t (imported e) = e

by_target : (p : Package) (file s : ℕ) (tree : TypeTree) (t : PlainType) → DenotesType p file (Pointer s tree) t → (v : PlainType) ×
    ((t ≡ PointerType v) × DenotesType p file tree v)
by_target p file s tree _ (pointer {t = v} names) = (v, (refl, names))

by_element : (p : Package) (file o c : ℕ) (tree : TypeTree) (t : PlainType) → DenotesType p file (Slice o c tree) t → (v : PlainType) ×
    ((t ≡ SliceType v) × DenotesType p file tree v)
by_element p file o c tree _ (slice {t = v} names) = (v, (refl, names))

abbrev type_or : PlainType → Meaning → PlainType
type_or t (TypeName u) = u
type_or t m = t

one_local : (p : Package) → WellFormed p.layout → (file n : ℕ) (t u : PlainType) → DenotesType p file (Local n) t → DenotesType p file (Local n) u → t ≡ u
one_local p w file n t u a b =
    let x = by_declaration p file n t a in
    let y = by_declaration p file n u b in
    one_declared p x.0 t u x.1.1 (subst (λ d. DeclaresPlain p d u) (one_binding p w file n y.0 x.0 y.1.0 x.1.0) y.1.1)

one_imported : (p : Package) → WellFormed p.layout → (file q n : ℕ) (t u : PlainType) → NamesExport p file q n t → NamesExport p file q n u → t ≡ u
one_imported p w file q n t u a b =
    ap (type_or t) (sym a.is_type ∙ ap (λ e. e.meaning) (one_export p w file q n a.export b.export a.exported b.exported) ∙ b.is_type)

-- a type expression names at most one type
pub one_named : (p : Package) → WellFormed p.layout → (file : ℕ) (tree : TypeTree) (t u : PlainType) → DenotesType p file tree t →
    DenotesType p file tree u → t ≡ u
one_named p w file (Local n) t u a b = one_local p w file n t u a b
one_named p w file (Imported q dot n) t u a b = one_imported p w file q n t u (by_export p file q dot n t a) (by_export p file q dot n u b)
one_named p w file (Pointer s tree) t u a b =
    let x = by_target p file s tree t a in
    let y = by_target p file s tree u b in
    x.1.0 ∙ ap PointerType (one_named p w file tree x.0 y.0 x.1.1 y.1.1) ∙ sym y.1.0
one_named p w file (Slice o c tree) t u a b =
    let x = by_element p file o c tree t a in
    let y = by_element p file o c tree u b in
    x.1.0 ∙ ap SliceType (one_named p w file tree x.0 y.0 x.1.1 y.1.1) ∙ sym y.1.0
