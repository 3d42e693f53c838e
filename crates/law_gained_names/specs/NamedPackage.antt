-- A package, and what it is where an import without a name gets the name that it declares already, written before its path.
use Rattle.std.specs.Prelude.{ℕ, suc, ◌≡◌, ◌+◌, ◌↔◌, true, List, ◌∷◌, ◌++◌, cond, length, nat_eq}
use Rattle.go_ast.specs.SourceFile.{SourceFile, spelling_of}
use Rattle.go_scope.specs.Site.{Site, sites_layout, sites_names}
use Rattle.law_rename.specs.Around.{AroundImport, around_by, bare_import, file_with, from_on, import_with_name}
use Rattle.law_rename.specs.Gained.{Gain, HasGained, import_site}
use Rattle.law_changed_types.specs.SameBindings.{IsParsedPackage}
use Rattle.law_changed_types.specs.RenumberedPackage.{NewNumbers, IsRenumberedPackage}
use Rattle.types_declared.specs.Files.{HasLiteral}
use Rattle.types_declared.specs.Laid.{is_literal, literal_of}
use Rattle.types_declared.specs.Package.{Package}
use Rattle.types_declared.specs.Written.{DeclaresImport}

-- The new numbers where the import of identifier `at` gains a name. The import keeps its first token, which is now its name.
abbrev pub numbers_of : Gain → ℕ → NewNumbers
numbers_of i at = record {
  token = λ file n. cond (nat_eq file i.rank) (from_on (suc i.number) n) n;
  identifier = from_on (suc at);
}

-- The identifiers of the package are these.
pub record HasSites (p : Package) (sites : List Site) : Type 0 where
  pub layout : p.layout ≡ sites_layout sites
  pub names : p.names ≡ sites_names sites
  pub size : p.size ≡ length sites

-- In one file of q an import has a name that it has not in p. All else is written in q as in p.
pub record HasNamedFile (i : Gain) (p q : Package) : Type 0 where
  pub first : List SourceFile
  pub rest : List SourceFile
  pub before : SourceFile
  pub after : SourceFile
  pub rank : length first ≡ i.rank
  pub before_files : p.files ≡ first ++ before ∷ rest
  pub after_files : q.files ≡ first ++ after ∷ rest
  pub around : AroundImport
  pub bare : before.tree ≡ file_with (bare_import i.number) around
  pub named : after.tree ≡ file_with (import_with_name i.number) (around_by (from_on i.number) around)
  pub spelled : (n : ℕ) → spelling_of after (from_on i.number n) ≡ spelling_of before n

-- q is p after an import, the identifier `at`, got the name that it declared already.
pub record IsNamedPackage (i : Gain) (at : ℕ) (p q : Package) : Type 0 where
  pub path : q.path ≡ p.path
  pub parsed : IsParsedPackage p
  pub parsed_too : IsParsedPackage q
  pub exports : (path : List ℕ) → q.export_data_of path ≡ p.export_data_of path
  pub old : List Site
  pub new : List Site
  pub gained : HasGained i (import_site i i.name) at old new
  pub was : HasSites p old
  pub is : HasSites q new
  pub file : HasNamedFile i p q

-- Imports keep their paths.
abbrev pub KeepsImports : Gain → ℕ → Package → Package → Type 0
KeepsImports i at p q = (d : ℕ) (path : List ℕ) → DeclaresImport p d path ↔ DeclaresImport q ((numbers_of i at).identifier d) path

-- String literals of the file keep their values. The literal of the import is its own identifier in p, and the literals of other imports are
-- in the files of their names.
pub record KeepsLiterals (i : Gain) (at : ℕ) (p q : Package) (h : HasNamedFile i p q) : Type 0 where
  pub values : (n : ℕ) (value : List ℕ) → HasLiteral h.before n value ↔ HasLiteral h.after (from_on i.number n) value
  pub own : literal_of p.layout at ≡ at
  pub beside : (d : ℕ) → is_literal (p.layout.role (d + 1)) ≡ true → (p.layout.place (d + 1)).file ≡ (p.layout.place d).file

-- Then imports keep their paths.
abbrev pub ImportsKeepPaths : Type 0
ImportsKeepPaths = (i : Gain) (at : ℕ) (p q : Package) (a : IsNamedPackage i at p q) → KeepsLiterals i at p q a.file → KeepsImports i at p q

-- So the package is the old one with the new numbers: its types, meanings, definitions and findings are those of `law_changed_types`.
abbrev pub NamedPackagesAreRenumbered : Type 0
NamedPackagesAreRenumbered = (i : Gain) (at : ℕ) (p q : Package) → IsNamedPackage i at p q → KeepsImports i at p q →
    IsRenumberedPackage (numbers_of i at) p q
