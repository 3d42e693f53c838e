-- At most one identifier of a package begins at a place, and at most one holds a byte.
use Rattle.std.proofs.Common.{ℕ, ◌≡◌, ◌<◌, List, length, ap, sym, subst, ◌∙◌}
use Rattle.std.specs.Prelude.{Option, map, slice_get}
use Rattle.base_files.specs.Workspace.{Workspace}
use Rattle.go_ast.specs.SourceFile.{SourceFile, source_of}
use Rattle.go_scope.specs.Bindings.{Layout, IsIdentifier}
use Rattle.go_scope.specs.Named.{with_names}
use Rattle.go_scope.specs.Packages.{ScopedPackage, scoped, layout_in}
use Rattle.law_tokens.specs.Bytes as bytes
use Rattle.law_tokens.proofs.HeldBytes.{one_named_begins}
use Rattle.law_tokens.proofs.OwnPaths.{own_paths, package_sources, package_byte}
use Rattle.types_declared.specs.Package.{Package}
use Rattle.workspace_check.specs.Verdicts.{Verdicts, IsPackageIn}
use Rattle.workspace_check.proofs.OnePackage.{one_checked}
use Rattle.refs_binding.specs.Identifiers.{NameBegins, BeginsAt, HoldsByte}
use Rattle.refs_binding.specs.Uses.{IsFilePackage}
use Rattle.refs_binding.proofs.Files.{place_of_name}

-- what a package is made of

abbrev pub names_of : (w : Workspace) (known : Verdicts) (path : List ℕ) (p : Package) → IsPackageIn w known path p → ℕ → Option (List ℕ)
names_of w known path p h = h.is_package.is_laid.names

abbrev pub laid_of : (w : Workspace) (known : Verdicts) (path : List ℕ) (p : Package) → IsPackageIn w known path p → ScopedPackage
laid_of w known path p h = with_names (names_of w known path p h) (scoped h.files)

pub same_layout : (w : Workspace) (known : Verdicts) (path : List ℕ) (p : Package) (h : IsPackageIn w known path p) →
    p.layout ≡ layout_in (laid_of w known path p h)
same_layout w known path p h = ap (λ (x : Package). x.layout) h.is_package.is_package ∙ ap layout_in h.is_package.is_laid.is_named

pub same_size : (w : Workspace) (known : Verdicts) (path : List ℕ) (p : Package) (h : IsPackageIn w known path p) →
    p.size ≡ length (laid_of w known path p h).sites
same_size w known path p h = ap (λ (x : Package). x.size) h.is_package.is_package ∙ ap (λ (s : ScopedPackage). length s.sites) h.is_package.is_laid.is_named

pub same_files : (w : Workspace) (known : Verdicts) (path : List ℕ) (p : Package) (h : IsPackageIn w known path p) → p.files ≡ map source_of h.files
same_files w known path p h = ap (λ (x : Package). x.files) h.is_package.is_package

-- one identifier begins at a place

abbrev Begins : List SourceFile → Layout → (path : List ℕ) → (offset u : ℕ) → Type 0
Begins files l path offset u = IsIdentifier l u × NameBegins (slice_get files (l.place u).file) (l.place u).index path offset

begins_laid : (w : Workspace) (known : Verdicts) (path : List ℕ) (p : Package) (h : IsPackageIn w known path p) (file : List ℕ) (offset u : ℕ) →
    BeginsAt p file offset u →
    Begins (map source_of h.files) (layout_in (laid_of w known path p h)) file offset u
begins_laid w known path p h file offset u a =
    subst (λ l. Begins (map source_of h.files) l file offset u) (same_layout w known path p h)
    (subst (λ fs. Begins fs p.layout file offset u) (same_files w known path p h) (a.0.1, a.1))

pub one_begins : (w : Workspace) (known : Verdicts) (path : List ℕ) (p : Package) → IsPackageIn w known path p → (file : List ℕ) (offset u v : ℕ) →
    BeginsAt p file offset u → BeginsAt p file offset v → u ≡ v
one_begins w known path p h file offset u v a b =
    let l = layout_in (laid_of w known path p h) in
    let size = same_size w known path p h in
    let x = begins_laid w known path p h file offset u a in
    let y = begins_laid w known path p h file offset v b in
    one_named_begins (names_of w known path p h) h.files (package_sources w path h.files h.parsed) (own_paths w path h.files h.parsed) file offset u v
    (subst (λ n. u < n) size a.0.0) (subst (λ n. v < n) size b.0.0) (x.0, place_of_name h.files (l.place u).file (l.place u).index file offset x.1)
    (y.0, place_of_name h.files (l.place v).file (l.place v).index file offset y.1)

-- one identifier holds a byte

holds_laid : (w : Workspace) (known : Verdicts) (path : List ℕ) (p : Package) (h : IsPackageIn w known path p) (file : List ℕ) (offset u : ℕ) →
    HoldsByte p file offset u →
    bytes.CoversByte (map source_of h.files) (layout_in (laid_of w known path p h)) file offset u
holds_laid w known path p h file offset u a =
    subst (λ l. bytes.CoversByte (map source_of h.files) l file offset u) (same_layout w known path p h)
    (subst (λ fs. bytes.CoversByte fs p.layout file offset u) (same_files w known path p h) (a.0.1, a.1))

pub one_holds : (w : Workspace) (known : Verdicts) (path : List ℕ) (p : Package) → IsPackageIn w known path p → (file : List ℕ) (offset u v : ℕ) →
    HoldsByte p file offset u → HoldsByte p file offset v → u ≡ v
one_holds w known path p h file offset u v a b =
    let size = same_size w known path p h in
    package_byte w path h.files h.parsed (names_of w known path p h) file offset u v (subst (λ n. u < n) size a.0.0) (subst (λ n. v < n) size b.0.0)
    (holds_laid w known path p h file offset u a) (holds_laid w known path p h file offset v b)

-- one identifier of one package is asked for

pub one_asked : (w : Workspace) (known : Verdicts) (path : List ℕ) (offset : ℕ) (p q : Package) (u v : ℕ) → IsFilePackage w known path p →
    IsFilePackage w known path q →
    HoldsByte p path offset u → HoldsByte q path offset v → (p ≡ q) × (u ≡ v)
one_asked w known path offset p q u v a b h k =
    let checked : IsPackageIn w known p.path q = subst (λ r. IsPackageIn w known r q) (b.of_folder ∙ sym a.of_folder) b.is_package.is_checked in
    let same : p ≡ q = one_checked w known p.path p q a.is_package.is_checked checked in
    (same, one_holds w known p.path p a.is_package.is_checked path offset u v h (subst (λ x. HoldsByte x path offset v) (sym same) k))
