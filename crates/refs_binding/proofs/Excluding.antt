-- Scopes and qualified identifiers each bind an identifier to at most one declaration, and never both bind it.
use Rattle.std.proofs.Common.{ℕ, suc, ◌≡◌, List, ap, sym, subst, refl, ◌∙◌, arith}
use Rattle.std.proofs.Math.Path.{ap₂}
use Rattle.base_files.specs.Workspace.{Workspace}
use Rattle.go_scope.specs.declared.model.Purpose.TheVariants as purpose
use Rattle.go_scope.specs.Bindings.{IsBoundTo}
use Rattle.go_scope.specs.WellFormed.{WellFormed}
use Rattle.go_scope.proofs.Innermost.{one_in_block}
use Rattle.go_scope.proofs.Nests.{nests}
use Rattle.go_scope.proofs.Uniqueness.{bound_once}
use Rattle.law_tokens.proofs.Lexical.{never_bound}
use Rattle.types_declared.specs.Package.{Package}
use Rattle.types_check.specs.Exports.{DoesExport}
use Rattle.types_declared.specs.Written.{BindsToken, DeclaresImport}
use Rattle.types_declared.proofs.Naming.{one_binding, one_import_path}
use Rattle.workspace_check.specs.Verdicts.{Verdicts, IsPackageIn}
use Rattle.workspace_check.proofs.OnePackage.{one_checked, layout_formed}
use Rattle.refs_binding.specs.declared.declaration.Declaration.{Declaration}
use Rattle.refs_binding.specs.declared.declaration.Declaration.TheVariants.{Predeclared, Declared, Field, Method}
use Rattle.types_info.specs.QualifiedIdentifiers.{IsQualifiedByPath}
use Rattle.refs_binding.specs.Binding.{IsPredeclaredNumber, BindsByScope, BindsQualified, IsQualifiedUse}
use Rattle.refs_binding.specs.Uses.{IsCheckedPackage}

-- by scopes

pub number_bound : (p : Package) (u : ℕ) (d : Declaration) → BindsByScope p u d → (n : ℕ) × IsBoundTo p.layout p.names u n
number_bound p u (Predeclared n) h = (n, h.1)
number_bound p u (Declared path n) h = (n, h.2)
number_bound p u (Field s) h = absurd h
number_bound p u (Method s) h = absurd h

pub one_by_scope : (p : Package) → WellFormed p.layout → (u : ℕ) (d e : Declaration) → BindsByScope p u d → BindsByScope p u e → d ≡ e
one_by_scope p w u (Predeclared d) (Predeclared e) h k = ap Predeclared (bound_once p.layout (nests p.layout w) p.names u d e h.1 k.1)
one_by_scope p w u (Predeclared d) (Declared path e) h k = absurd (k.1 (subst IsPredeclaredNumber (bound_once p.layout (nests p.layout w) p.names u d e h.1
    k.2) h.0))
one_by_scope p w u (Declared path d) (Predeclared e) h k = absurd (h.1 (subst IsPredeclaredNumber (bound_once p.layout (nests p.layout w) p.names u e d k.1
    h.2) k.0))
one_by_scope p w u (Declared path d) (Declared other e) h k = ap₂ Declared (h.0 ∙ sym k.0) (bound_once p.layout (nests p.layout w) p.names u d e h.2 k.2)
one_by_scope p w u (Predeclared d) (Field s) h k = absurd k
one_by_scope p w u (Predeclared d) (Method s) h k = absurd k
one_by_scope p w u (Declared path d) (Field s) h k = absurd k
one_by_scope p w u (Declared path d) (Method s) h k = absurd k
one_by_scope p w u (Field s) e h k = absurd h
one_by_scope p w u (Method s) e h k = absurd h

-- in qualified identifiers

pub exported_as : (I : Package → Type 0) (p : Package) (u : ℕ) (d : Declaration) → BindsQualified I p u d → (path : List ℕ) ×
    ((n : ℕ) × ((d ≡ Declared path n) × IsQualifiedUse I p u path n))
exported_as I p u (Predeclared n) h = absurd h
exported_as I p u (Declared path n) h = (path, (n, (refl, h)))
exported_as I p u (Field s) h = absurd h
exported_as I p u (Method s) h = absurd h

pub one_behind : (p : Package) → WellFormed p.layout → (u : ℕ) (path other : List ℕ) → IsQualifiedByPath p u path → IsQualifiedByPath p u other → path ≡ other
one_behind p w u path other h k =
    let file = (p.layout.place u).file in
    let at : (p.layout.place u).index ≡ suc (suc h.before) = h.behind_dot in
    let so : (p.layout.place u).index ≡ suc (suc k.before) = k.behind_dot in
    let before : k.before ≡ h.before = omega arith in
    let binds : BindsToken p file h.before k.named.import = subst (λ t. BindsToken p file t k.named.import) before k.named.binds in
    let import : k.named.import ≡ h.named.import = one_binding p w file h.before k.named.import h.named.import binds h.named.binds in
    one_import_path p h.named.import path other h.named.imports (subst (λ i. DeclaresImport p i other) import k.named.imports)

pub one_export : (w : Workspace) (known : Verdicts) (p : Package) (u : ℕ) (path : List ℕ) (d e : ℕ) → IsQualifiedUse (IsCheckedPackage w known) p u path d →
    IsQualifiedUse (IsCheckedPackage w known) p u path e → d ≡ e
one_export w known p u path d e h k =
    let checked : IsPackageIn w known h.other.path k.other = subst (λ q. IsPackageIn w known q k.other) (k.of_path ∙ sym h.of_path) k.is_package.is_checked in
    let same : k.other ≡ h.other = one_checked w known h.other.path k.other h.other checked h.is_package.is_checked in
    let l = h.other.layout in
    let formed : WellFormed l = layout_formed w known h.other.path h.other h.is_package.is_checked in
    let seen = subst (λ (x : Package). DoesExport x e) same k.seen in
    let named : h.other.names e ≡ p.names u = subst (λ (x : Package). x.names e ≡ p.names u) same k.named in
    one_in_block l (nests l formed) h.other.names d e h.seen.counts seen.counts (h.named ∙ sym named) (h.seen.package_level ∙ sym seen.package_level)

pub one_by_package : (w : Workspace) (known : Verdicts) (p : Package) → IsCheckedPackage w known p → (u : ℕ) (d e : Declaration) →
    BindsQualified (IsCheckedPackage w known) p u d → BindsQualified (IsCheckedPackage w known) p u e → d ≡ e
one_by_package w known p is u d e h k =
    let a = exported_as (IsCheckedPackage w known) p u d h in
    let b = exported_as (IsCheckedPackage w known) p u e k in
    let formed : WellFormed p.layout = layout_formed w known p.path p is.is_checked in
    let path : b.0 ≡ a.0 = one_behind p formed u b.0 a.0 b.1.1.1.behind a.1.1.1.behind in
    let so : IsQualifiedUse (IsCheckedPackage w known) p u a.0 b.1.0 = subst (λ q. IsQualifiedUse (IsCheckedPackage w known) p u q b.1.0) path b.1.1.1 in
    a.1.1.0 ∙ ap₂ Declared (sym path) (one_export w known p u a.0 a.1.0 b.1.0 a.1.1.1 so) ∙ sym b.1.1.0

-- one way excludes the other

pub not_both : (I : Package → Type 0) (p : Package) (u : ℕ) (d e : Declaration) → BindsByScope p u d → BindsQualified I p u e → ⊥
not_both I p u d e h k =
    let n = number_bound p u d h in
    let b = exported_as I p u e k in
    never_bound p.layout p.names u n.0 purpose.Selected b.1.1.1.behind.selected n.1
