-- The types that type expressions name and the definitions that they mention, form by form.
use Rattle.std.proofs.Common.{ℕ, ◌≡◌, List, ap, sym, subst, ◌∙◌, MatchOption}
use Rattle.std.specs.Prelude.{Option, Some, None, option_map, unwrap_or}
use Rattle.std.specs.Borrow.{Bor}
use Rattle.std.proofs.lemmas.Option.{none-some}
use Rattle.types_expr.specs.declared.types.GoType.{GoType}
use Rattle.types_expr.specs.View.{type_of}
use Rattle.types_expr.specs.declared.exports.Export.{Export}
use Rattle.types_declared.specs.ExportTablesView.{export_of}
use Rattle.types_declared.specs.Package as plain
use Rattle.go_ast.specs.Tree.{TypeTree, Local, Imported, Pointer, Slice}
use Rattle.types_expr.specs.declared.types.Basic.{Basic}
use Rattle.types_expr.specs.Types.{PlainType, TypeName}
use Rattle.types_expr.specs.Types.{Pointer as PointerType, Slice as SliceType}
use Rattle.types_declared.specs.Package.{Package, type_place, package_types, spelled}
use Rattle.types_declared.specs.Written.{BindsToken, IsPredeclared, DeclaresType, DeclaresImport, IsExportOf, IsExportAt, NamesExport, basic_name, DenotesType}
use Rattle.types_declared.specs.Written.{predeclared, defined, imported, pointer, slice, Mentions, by_name, by_pointer, by_slice}
use Rattle.types_declared.specs.WrittenView.{DeclaresPlain, IsTypeDeclared, IsNamedBy, IsMentionedBy, IsOneExport}
use Rattle.types_declared.specs.WrittenView as found
use Rattle.types_declared.proofs.Ranking.{one_rank}

-- The type that a declaration declares

pub declares_none : (p : Package) (d : ℕ) → ((b : Basic) → IsPredeclared p d (basic_name b) → ⊥) → ((r : ℕ) → DeclaresType p d r → ⊥) → (t : PlainType) →
    DeclaresPlain p d t → ⊥
declares_none p d basic none _ (found.predeclared b is) = basic b is
declares_none p d basic none _ (found.defined {rank = r} is) = none r is

-- An unqualified name

pub names_nothing : (p : Package) (file name : ℕ) → ((d : ℕ) → BindsToken p file name d → ⊥) → (t : PlainType) → DenotesType p file (Local name) t → ⊥
names_nothing p file name none _ (predeclared {d = d} b binds is) = none d binds
names_nothing p file name none _ (defined {d = d} binds declares) = none d binds

declared_of : (p : Package) (file name d : ℕ) → ((e : ℕ) → BindsToken p file name e → e ≡ d) → (t : PlainType) → DenotesType p file (Local name) t →
    DeclaresPlain p d t
declared_of p file name d only _ (predeclared {d = e} b binds is) = found.predeclared b (subst (λ x. IsPredeclared p x (basic_name b)) (only e binds) is)
declared_of p file name d only _ (defined {d = e} {rank = r} binds declares) =
    found.defined {rank = r} (subst (λ x. DeclaresType p x r) (only e binds) declares)

named_of : (p : Package) (file name d : ℕ) → BindsToken p file name d → (t : PlainType) → DeclaresPlain p d t → DenotesType p file (Local name) t
named_of p file name d binds _ (found.predeclared b is) = predeclared {d = d} b binds is
named_of p file name d binds _ (found.defined {rank = r} is) = defined {d = d} {rank = r} binds is

pub named_by : (p : Package) (file name d : ℕ) (o : Option PlainType) → BindsToken p file name d → ((e : ℕ) → BindsToken p file name e → e ≡ d) →
    IsTypeDeclared p d o → IsNamedBy p file (Local name) o
named_by p file name d None binds only h = λ t names. h t (declared_of p file name d only t names)
named_by p file name d (Some t) binds only h = named_of p file name d binds t h

-- A qualified identifier

no_import : (p : Package) (file q dot n : ℕ) → ((t : PlainType) → NamesExport p file q n t → ⊥) → (t : PlainType) → DenotesType p file (Imported q dot n) t → ⊥
no_import p file q dot n none t (imported e) = none t e

pub named_import : (p : Package) (file q dot n : ℕ) (o : Option PlainType) →
    MatchOption o ((t : PlainType) → NamesExport p file q n t → ⊥) (λ t. NamesExport p file q n t) →
    IsNamedBy p file (Imported q dot n) o
named_import p file q dot n None h = no_import p file q dot n h
named_import p file q dot n (Some t) h = imported h

-- A pointer or slice type

no_pointer : (p : Package) (file s : ℕ) (tree : TypeTree) → ((t : PlainType) → DenotesType p file tree t → ⊥) → (t : PlainType) →
    DenotesType p file (Pointer s tree) t → ⊥
no_pointer p file s tree none _ (pointer {t = t} names) = none t names

no_slice : (p : Package) (file o c : ℕ) (tree : TypeTree) → ((t : PlainType) → DenotesType p file tree t → ⊥) → (t : PlainType) →
    DenotesType p file (Slice o c tree) t → ⊥
no_slice p file o c tree none _ (slice {t = t} names) = none t names

pub named_pointer : (p : Package) (file s : ℕ) (tree : TypeTree) (o : Option PlainType) → IsNamedBy p file tree o →
    IsNamedBy p file (Pointer s tree) (option_map PointerType o)
named_pointer p file s tree None h = no_pointer p file s tree h
named_pointer p file s tree (Some t) h = pointer h

pub named_slice : (p : Package) (file o c : ℕ) (tree : TypeTree) (found : Option PlainType) → IsNamedBy p file tree found →
    IsNamedBy p file (Slice o c tree) (option_map SliceType found)
named_slice p file o c tree None h = no_slice p file o c tree h
named_slice p file o c tree (Some t) h = slice h

-- Exports

pub export_by_path : (p : Package) (d file name : ℕ) (path : List ℕ) (o : Option (Bor Export)) → DeclaresImport p d path →
    ((other : List ℕ) → DeclaresImport p d other → other ≡ path) →
    option_map (λ e. export_of e.now) o ≡ (p.export_data_of path).exported (spelled p file name) → IsOneExport (IsExportOf p d file name) o
export_by_path p d file name path None is only e = λ x h.
    none-some x (e ∙ sym (ap (λ v. (p.export_data_of v).exported (spelled p file name)) (only h.path h.imports)) ∙ h.exported)
export_by_path p d file name path (Some x) is only e = (
  record { path = path; imports = is; exported = sym e },
  λ other h. ap (λ o. unwrap_or o (export_of x.now))
      (sym h.exported ∙ ap (λ v. (p.export_data_of v).exported (spelled p file name)) (only h.path h.imports) ∙ sym e),
)

pub export_by_import : (p : Package) (file q name d : ℕ) (o : Option (Bor Export)) → BindsToken p file q d → ((e : ℕ) → BindsToken p file q e → e ≡ d) →
    IsOneExport (IsExportOf p d file name) o → IsOneExport (IsExportAt p file q name) o
export_by_import p file q name d None binds only h = λ x at. h x (subst (λ e. IsExportOf p e file name x) (only at.import at.binds) at.of_import)
export_by_import p file q name d (Some x) binds only h = (
  record { import = d; binds = binds; of_import = h.0 },
  λ other at.
      h.1 other (subst (λ e. IsExportOf p e file name other) (only at.import at.binds) at.of_import),
)

pub type_by_export : (p : Package) (file q name : ℕ) (x : plain.Export) (o : Option (Bor GoType)) → IsExportAt p file q name x →
    ((other : plain.Export) → IsExportAt p file q name other → other ≡ x) →
    MatchOption o ((t : PlainType) → x.meaning ≡ TypeName t → ⊥) (λ t. x.meaning ≡ TypeName (type_of t.now)) →
    MatchOption o ((t : PlainType) → NamesExport p file q name t → ⊥) (λ t. NamesExport p file q name (type_of t.now))
type_by_export p file q name x None at only h = λ t n. h t (sym (ap (λ e. e.meaning) (only n.export n.exported)) ∙ n.is_type)
type_by_export p file q name x (Some t) at only h = record { export = x; exported = at; is_type = h }

-- The definition that a type expression mentions

pub mentions_nothing : (p : Package) (file name : ℕ) → ((d : ℕ) → BindsToken p file name d → ⊥) → (r : ℕ) → Mentions p file (Local name) r → ⊥
mentions_nothing p file name none _ (by_name {d = d} binds declares) = none d binds

rank_of : (p : Package) (file name d : ℕ) → ((e : ℕ) → BindsToken p file name e → e ≡ d) → (r : ℕ) → Mentions p file (Local name) r → DeclaresType p d r
rank_of p file name d only r (by_name {d = e} binds declares) = subst (λ x. DeclaresType p x r) (only e binds) declares

pub mentioned_by : (p : Package) (file name d : ℕ) (o : Option ℕ) → BindsToken p file name d → ((e : ℕ) → BindsToken p file name e → e ≡ d) →
    MatchOption o ((r : ℕ) → DeclaresType p d r → ⊥) (λ r. DeclaresType p d r) → IsMentionedBy p file (Local name) o
mentioned_by p file name d None binds only h = λ r m. h r (rank_of p file name d only r m)
mentioned_by p file name d (Some r) binds only h =
    (by_name {d = d} binds h, λ other m. one_rank type_place (package_types p) p.layout d other r (rank_of p file name d only other m) h)

pub mentions_no_import : (p : Package) (file q dot n r : ℕ) → Mentions p file (Imported q dot n) r → ⊥
mentions_no_import p file q dot n r m = elim m [ ]

behind_pointer : (p : Package) (file s : ℕ) (tree : TypeTree) (r : ℕ) → Mentions p file (Pointer s tree) r → Mentions p file tree r
behind_pointer p file s tree r (by_pointer m) = m

behind_slice : (p : Package) (file o c : ℕ) (tree : TypeTree) (r : ℕ) → Mentions p file (Slice o c tree) r → Mentions p file tree r
behind_slice p file o c tree r (by_slice m) = m

pub mentioned_pointer : (p : Package) (file s : ℕ) (tree : TypeTree) (found : Option ℕ) → IsMentionedBy p file tree found →
    IsMentionedBy p file (Pointer s tree) found
mentioned_pointer p file s tree None h = λ r m. h r (behind_pointer p file s tree r m)
mentioned_pointer p file s tree (Some r) h = (by_pointer h.0, λ other m. h.1 other (behind_pointer p file s tree other m))

pub mentioned_slice : (p : Package) (file o c : ℕ) (tree : TypeTree) (found : Option ℕ) → IsMentionedBy p file tree found →
    IsMentionedBy p file (Slice o c tree) found
mentioned_slice p file o c tree None h = λ r m. h r (behind_slice p file o c tree r m)
mentioned_slice p file o c tree (Some r) h = (by_slice h.0, λ other m. h.1 other (behind_slice p file o c tree other m))
