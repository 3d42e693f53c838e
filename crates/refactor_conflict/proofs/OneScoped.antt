-- The packages of a workspace as scopes see them: one for each path.
use Rattle.std.proofs.Common.{ℕ, ◌≡◌, List, [], refl, sym, ap, subst}
use Rattle.std.specs.Prelude.{Option, Some}
use Rattle.std.proofs.Math.Path.{fun_ext}
use Rattle.base_files.specs.Workspace.{Workspace}
use Rattle.go_ast.specs.SourceFile.{SourceFile}
use Rattle.workspace_graph.specs.Parsed.{AreParsed}
use Rattle.base_files.specs.Packages.{package_files}
use Rattle.types_declared.specs.Files.{package_name}
use Rattle.types_declared.specs.Package.{Package}
use Rattle.types_declared.specs.ExportTablesView.{no_export_data}
use Rattle.types_info.specs.PackageOf.{IsPackageOf}
use Rattle.types_check.proofs.OneLaid.{one_package}
use Rattle.workspace_check.proofs.OnePackage.{one_sources, package_from}
use Rattle.refactor_conflict.specs.ScopedPackages.{IsScopedIn, IsClauseName, named, unnamed}

-- the name of a package is one
one_clause : (w : Workspace) (path : List ℕ) (a b : Option (List ℕ)) → IsClauseName w path a → IsClauseName w path b → a ≡ b
one_clause w path a b (named {files = fs} has parsed) (named {files = gs} also read) =
    ap (λ (ss : List SourceFile). Some (package_name ss)) (one_sources parsed read)
one_clause w path a b (named {files = fs} has parsed) (unnamed none) = absurd (none fs has parsed)
one_clause w path a b (unnamed none) (named {files = fs} has parsed) = absurd (none fs has parsed)
one_clause w path a b (unnamed none) (unnamed other) = refl

-- one package of a path
pub one_scoped : (w : Workspace) (p q : Package) → IsScopedIn w p → IsScopedIn w q → p.path ≡ q.path → p ≡ q
one_scoped w p q h k e =
    let names : k.name_of ≡ h.name_of = fun_ext (λ path. one_clause w path (k.name_of path) (h.name_of path) (k.are_names path) (h.are_names path)) in
    let read : AreParsed (package_files w p.path) k.files [] = subst (λ path. AreParsed (package_files w path) k.files []) (sym e) k.parsed in
    let own : IsPackageOf p.path k.files k.name_of no_export_data q = subst (λ path. IsPackageOf path k.files k.name_of no_export_data q) (sym e)
    k.is_package in
    let called : IsPackageOf p.path k.files h.name_of no_export_data q = subst (λ n. IsPackageOf p.path k.files n no_export_data q) names own in
    one_package p.path h.files h.name_of no_export_data p q h.is_package
    (package_from p.path k.files h.files h.name_of no_export_data q (one_sources read h.parsed) called)
