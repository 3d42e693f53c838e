-- The package to check is unique: the names of its imports are determined.
use Rattle.std.proofs.Common.{ℕ, suc, ◌≡◌, ◌⊎◌, ◌<◌, inl, inr, true, false, Bool, List, [], ◌∷◌, length, ap, sym, refl, ◌∙◌, arith}
use Rattle.std.specs.Prelude.{Option, Some, None, slice_get, map}
use Rattle.std.proofs.Math.Path.{ap₂}
use Rattle.std.proofs.lemmas.Option.{none-some}
use Rattle.go_ast.specs.SourceFile.{SourceFile, FileParts, source_of}
use Rattle.go_scope.specs.Named.{is_unnamed_import, named_sites, named_where}
use Rattle.go_scope.specs.Packages.{ScopedPackage, scoped}
use Rattle.go_scope.specs.Site.{Site, or_blank}
use Rattle.types_declared.specs.Laid.{Laid, laid_in, IsPathOf}
use Rattle.types_declared.specs.PackageNames.{IsPackageName, IsLaidOver}
use Rattle.types_declared.specs.Package.{Package, ExportData}
use Rattle.types_info.specs.PackageOf.{IsPackageOf, package_in}
use Rattle.types_declared.proofs.ByteKeys.{cases_bytes}

cases_names : (a b : Option (List ℕ)) → (a ≡ b) ⊎ (a ≡ b → ⊥)
cases_names None None = inl refl
cases_names None (Some y) = inr (λ e. none-some y e)
cases_names (Some x) None = inr (λ e. none-some x (sym e))
cases_names (Some x) (Some y) = elim (cases_bytes x y) [
  | inl same ↦ inl (ap Some same)
  | inr other ↦ inr (λ e. other (cc))
]

-- the package of an import has at most one name
one_name : (files : List SourceFile) (name_of : (path : List ℕ) → Option (List ℕ)) (p : Laid) (u : ℕ) (a b : Option (List ℕ)) →
    IsPackageName files name_of p u a → IsPackageName files name_of p u b → a ≡ b
one_name files name_of p u a b h k = elim (cases_names a b) [
  | inl same ↦ same
  | inr other ↦ let none : (path : List ℕ) → IsPathOf files p u path → ⊥ = λ path is. other (h.known path is ∙ sym (k.known path is)) in
      h.unknown none ∙ sym (k.unknown none)
]

same_where : (unnamed : Bool) (a b : Option (List ℕ)) (x : Site) → (unnamed ≡ true → a ≡ b) → named_where unnamed a x ≡ named_where unnamed b x
same_where true a b x e = ap (λ name. named_where true name x) (e refl)
same_where false a b x e = refl

same_named : (m n : ℕ → Option (List ℕ)) (xs : List Site) →
    ((u : ℕ) → u < length xs → is_unnamed_import (or_blank (slice_get xs u)).role ≡ true → m u ≡ n u) →
    named_sites m xs ≡ named_sites n xs
unfolding named_sites
same_named m n [] e = refl
same_named m n (x ∷ xs) e =
    ap₂ (λ y ys. y ∷ ys) (same_where (is_unnamed_import x.role) (m 0) (n 0) x (e 0 (omega arith)))
    (same_named (λ u. m (suc u)) (λ u. n (suc u)) xs (λ u lt. e (suc u) (omega arith)))

one_laid : (files : List SourceFile) (name_of : (path : List ℕ) → Option (List ℕ)) (plain a b : ScopedPackage) → IsLaidOver files name_of plain a →
    IsLaidOver files name_of plain b → a ≡ b
one_laid files name_of plain a b h k =
    h.is_named ∙ ap (λ sites. record { files = plain.files; sites = sites })
    (same_named h.names k.names plain.sites (λ u lt is.
    one_name files name_of (laid_in plain) u (h.names u) (k.names u) (h.are_names u lt is) (k.are_names u lt is)))
    ∙ sym k.is_named

pub one_package : (path : List ℕ) (files : List FileParts) (name_of : (path : List ℕ) → Option (List ℕ)) (export_data_of : (path : List ℕ) → ExportData)
    (p q : Package) →
    IsPackageOf path files name_of export_data_of p → IsPackageOf path files name_of export_data_of q → p ≡ q
one_package path files name_of export_data_of p q h k =
    h.is_package ∙ ap (λ laid. package_in path (map source_of files) laid export_data_of)
    (one_laid (map source_of files) name_of (scoped files) h.laid k.laid h.is_laid k.is_laid)
    ∙ sym k.is_package
