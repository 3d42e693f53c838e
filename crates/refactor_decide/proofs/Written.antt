-- In a workspace without faults all declarations count. Of what declares or is used, just the identifiers that files have begin at places.
use Rattle.std.proofs.Common.{ℕ, ◌≡◌, ◌<◌, ◌⊎◌, inl, inr, true, List, sym, subst, refl, ◌∙◌}
use Rattle.std.specs.Prelude.{[], Some}
use Rattle.base_files.specs.Workspace.{Workspace}
use Rattle.base_files.specs.declared.fault_kind.FaultKind.TheVariants as kind
use Rattle.base_files.specs.declared.place.Place.{Place}
use Rattle.go_scope.specs.declared.model.Block.TheVariants.{Universe, File, Inner}
use Rattle.go_scope.specs.declared.model.Block.TheVariants.{Package as PackageBlock}
use Rattle.go_scope.specs.declared.model.Role.{Role}
use Rattle.go_scope.specs.declared.model.Role.TheVariants.{Use, Declaring, LeftName, Implied, NotLexical}
use Rattle.go_scope.specs.Bindings.{IsImport, Declares, Counts, AllCount, block_of, is_use, may_declare}
use Rattle.go_scope.specs.WellFormed.{WellFormed}
use Rattle.types_expr.specs.World.{Bound}
use Rattle.types_declared.specs.Laid.{literal_of}
use Rattle.types_declared.specs.Files.{HasLiteral}
use Rattle.types_declared.specs.MeaningOf.{IsMeaningOf}
use Rattle.types_declared.specs.MeaningOf as bound
use Rattle.types_declared.specs.Package.{Package}
use Rattle.types_declared.specs.Written.{DeclaresImport}
use Rattle.types_resolve.specs.Scoping.{fault_at}
use Rattle.workspace_check.specs.FaultLists.{ListsFaults}
use Rattle.workspace_check.specs.Verdicts.{Verdicts, AreVerdicts}
use Rattle.workspace_check.proofs.OnePackage.{layout_formed}
use Rattle.refs_binding.specs.Identifiers.{BeginsAt, IsNameToken, NameBegins}
use Rattle.refs_binding.specs.Uses.{IsCheckedPackage}
use Rattle.refs_lookup.proofs.Faultless.{no_fault_later}
use Rattle.refactor_scopes.specs.Conflicts.{IsWritten}
use Rattle.law_faultless.proofs.Declared.{may_within}
use Rattle.law_faultless.proofs.MeaningfulNames.{counts_mean}
use Rattle.law_renamed_workspaces.proofs.Literals.{no_name, to_string}
use Rattle.law_renamed_workspaces.proofs.Standing.{begins_there, use_stands, declared_stands, laid_literal}

-- an identifier in the block of a file may declare
file_may : (r : Role) (f : ℕ) → block_of r ≡ File f → may_declare r ≡ true
file_may (Declaring b s) f e = refl
file_may (LeftName b s) f e = refl
file_may (Implied b s) f e = refl
file_may Use f e = let z : Universe ≡ File f = e in cc
file_may (NotLexical p) f e = let z : Universe ≡ File f = e in cc

-- an import means the package of its path
import_means : (p : Package) (u : ℕ) (b : Bound) → IsMeaningOf p u b → IsImport p.layout u → (q : List ℕ) × DeclaresImport p u q
import_means p u _ (bound.predeclared is means) import = let z : Universe ≡ File import.0 = sym is.universe ∙ import.1 in cc
import_means p u _ (bound.import_name {path} is) import = (path, is)
import_means p u _ (bound.local {file} {from} {to} is) import = let z : Inner file from to ≡ File import.0 = sym is ∙ import.1 in cc
import_means p u _ (bound.variable is t) import = let z : PackageBlock ≡ File import.0 = sym is.0 ∙ import.1 in cc
import_means p u _ (bound.broken_variable is t) import = let z : PackageBlock ≡ File import.0 = sym is.0 ∙ import.1 in cc
import_means p u _ (bound.function is s) import = let z : PackageBlock ≡ File import.0 = sym is.0 ∙ import.1 in cc
import_means p u _ (bound.broken_function is s) import = let z : PackageBlock ≡ File import.0 = sym is.0 ∙ import.1 in cc
import_means p u _ (bound.definition is r whole) import = let z : PackageBlock ≡ File import.0 = sym is ∙ import.1 in cc
import_means p u _ (bound.broken_definition is r broken) import = let z : PackageBlock ≡ File import.0 = sym is ∙ import.1 in cc

module _ (w : Workspace) (sound : ListsFaults w []) (known : Verdicts) (right : AreVerdicts w known) (p : Package) (is : IsCheckedPackage w known p) where
  pub formed : WellFormed p.layout
  formed = layout_formed w known p.path p is.is_checked

  pub declares_within : (d : ℕ) → Declares p.layout p.names d → d < p.size
  declares_within d declares = may_within w known p.path p is.is_checked d declares.may

  pub all_count : AllCount p.layout p.names
  all_count d declares = record {
    declares = declares;
    first = λ e also named displaces.
        no_fault_later w sound known right p is (fault_at p.layout d kind.Repeated)
        (inl (inl (inl (
          d,
          declares_within d declares,
          inr (inl (record {
            at = refl;
            repeats = inl (declares, λ counts. counts.first e also named displaces);
          })),
        ))));
  }

  -- An identifier that a file has begins at a place.
  pub written_begins : (u : ℕ) → u < p.size → IsWritten p.layout u → (is_use (p.layout.role u) ≡ true) ⊎ (may_declare (p.layout.role u) ≡ true) →
      (place : Place) × BeginsAt p place.path place.offset u
  written_begins u lt written lexical = begins_there p u lt written.0 (elim lexical [
    | inl use_of ↦ use_stands w known p.path p is.is_checked u lt use_of
    | inr may ↦ declared_stands w known p.path p is.is_checked u lt may written.0
        (λ unnamed import. written.1 import (laid_literal w known p.path p is.is_checked u lt unnamed))
  ])

  -- What begins at a place is an identifier that a file has: an import without a name stands at its string literal.

  import_counts : (u : ℕ) → IsImport p.layout u → Counts p.layout p.names u
  import_counts u import = all_count u (record {
    may = file_may (p.layout.role u) import.0 import.1;
    is_new = λ left. let b = formed.left_inner u left in
        let z : File import.0 ≡ Inner b.0 b.1 b.2 = sym import.1 ∙ b.3 in cc;
  })

  no_string : (u : ℕ) (place : Place) → BeginsAt p place.path place.offset u → literal_of p.layout u ≡ u → (q : List ℕ) → DeclaresImport p u q → ⊥
  no_string u place begins same q import =
      let path = import.of_path in
      let literal : HasLiteral path.source (p.layout.place u).index q =
      subst (λ n. HasLiteral path.source (p.layout.place n).index q) same path.has_literal in
      let string = to_string path.source (p.layout.place u).index q literal in
      let named : NameBegins (Some path.source) (p.layout.place u).index place.path place.offset =
      subst (λ o. NameBegins o (p.layout.place u).index place.path place.offset) path.is_file begins.1 in
      let name : IsNameToken (Some string.piece) = subst IsNameToken string.at named.0 in
      no_name string.piece.class string.is_string name

  pub begins_written : (u : ℕ) (place : Place) → BeginsAt p place.path place.offset u → IsWritten p.layout u
  begins_written u place begins = (
    begins.0.1,
    λ import same.
        counts_mean w sound known right p is u (import_counts u import) (λ b means.
        let q = import_means p u b means import in no_string u place begins same q.0 q.1),
  )
