-- The name of a selector is the spelling of its token.
use Rattle.std.proofs.Common.{ℕ, zero, suc, ◌≡◌, ◌+◌, List, [], ◌∷◌, Bool, true, false, map, refl, sym, ap, subst, ◌∙◌, arith}
use Rattle.std.specs.Prelude.{Option, Some, None, option_map, slice_get}
use Rattle.std.proofs.lemmas.Option.{none-some, same_Some, slice_get-map}
use Rattle.base_files.specs.Workspace.{Workspace}
use Rattle.go_ast.specs.SourceFile.{FileParts, source_of}
use Rattle.go_scope.specs.declared.model.Role.TheVariants.{NotLexical}
use Rattle.go_scope.specs.declared.model.Purpose.TheVariants.{Selected}
use Rattle.go_scope.specs.Site.{Site, TokenSpellings, or_blank}
use Rattle.go_scope.specs.FileSites.{SpelledFile, universe, universe_site, file_sites, files_sites, package_sites}
use Rattle.go_scope.specs.Named.{is_unnamed_import, named_where, named_sites, with_names}
use Rattle.go_scope.specs.SpelledFiles.{spelled_file}
use Rattle.go_scope.specs.Packages.{ScopedPackage, scoped}
use Rattle.go_scope.proofs.PackageRegions.{each_at}
use Rattle.go_scope.proofs.Regions.{Each, each_append, each_map}
use Rattle.law_tokens.proofs.EachIdentifier.{in_file}
use Rattle.types_declared.specs.Package.{Package, spelled_at, spelled}
use Rattle.types_info.specs.PackageOf.{package_in}
use Rattle.workspace_check.specs.Verdicts.{Verdicts, IsPackageIn}

-- an identifier of one of the files, of which the first has that rank, has the name that its token spells
record IsSpelledIn (rank : ℕ) (fs : List SpelledFile) (x : Site) : Type 0 where
  pub number : ℕ
  pub file : SpelledFile
  pub at : rank + number ≡ x.place.file
  pub of_number : slice_get fs number ≡ Some file
  pub called : x.name ≡ file.spell x.place.index

later_file : (rank : ℕ) (f : SpelledFile) (fs : List SpelledFile) (x : Site) → IsSpelledIn (suc rank) fs x → IsSpelledIn rank (f ∷ fs) x
later_file rank f fs x h =
    let e : suc rank + h.number ≡ x.place.file = h.at in
    record { number = suc h.number; file = h.file; at = omega arith; of_number = h.of_number; called = h.called }

files_spelled : (rank : ℕ) (fs : List SpelledFile) → Each (IsSpelledIn rank fs) (files_sites rank fs)
unfolding files_sites
files_spelled rank [] = tt
files_spelled rank (f ∷ fs) =
    let s : TokenSpellings = record { rank = rank; spell = f.spell } in
    each_append (IsSpelledIn rank (f ∷ fs)) (file_sites s f.tree) (files_sites (suc rank) fs)
    (in_file s (IsSpelledIn rank (f ∷ fs))
    (λ i role. record { number = zero; file = f; at = (let z : rank + 0 ≡ rank = omega arith in z); of_number = refl; called = refl }) f.tree)
    (each_map (IsSpelledIn (suc rank) fs) (IsSpelledIn rank (f ∷ fs)) (later_file rank f fs) (files_sites (suc rank) fs) (files_spelled (suc rank) fs))

-- a name behind a dot
abbrev IsSpelledIf : List SpelledFile → Site → Type 0
IsSpelledIf fs x = x.role ≡ NotLexical Selected → IsSpelledIn 0 fs x

universe_spelled : (fs : List SpelledFile) (names : List (List ℕ)) → Each (IsSpelledIf fs) (map universe_site names)
universe_spelled fs [] = tt
universe_spelled fs (x ∷ xs) = ((λ e. let z : ⊥ = cc in absurd z), universe_spelled fs xs)

package_spelled : (fs : List SpelledFile) → Each (IsSpelledIf fs) (package_sites fs)
unfolding package_sites
package_spelled fs =
    each_append (IsSpelledIf fs) (map universe_site universe) (files_sites 0 fs) (universe_spelled fs universe)
    (each_map (IsSpelledIn 0 fs) (IsSpelledIf fs) (λ x h e. h) (files_sites 0 fs) (files_spelled 0 fs))

-- in the table where imports without a name declare it is as before
where_plain : (b : Bool) (o : Option (List ℕ)) (x : Site) → (named_where b o x).role ≡ NotLexical Selected → named_where b o x ≡ x
where_plain true (Some name) x e = let z : ⊥ = cc in absurd z
where_plain true None x e = refl
where_plain false name x e = refl

selected_plain : (names : ℕ → Option (List ℕ)) (xs : List Site) (u : ℕ) → (or_blank (slice_get (named_sites names xs) u)).role ≡ NotLexical Selected →
    or_blank (slice_get (named_sites names xs) u) ≡ or_blank (slice_get xs u)
unfolding named_sites
selected_plain names [] u e = refl
selected_plain names (x ∷ xs) zero e = where_plain (is_unnamed_import x.role) (names 0) x e
selected_plain names (x ∷ xs) (suc u) e = selected_plain (λ v. names (suc v)) xs u e

-- by the trees of the files
file_there : (o : Option FileParts) (f : SpelledFile) → option_map spelled_file o ≡ Some f → (t : FileParts) × ((o ≡ Some t) × (spelled_file t ≡ f))
file_there None f e = absurd (none-some f e)
file_there (Some t) f e = (t, (refl, same_Some (spelled_file t) f e))

site_spelled : (files : List FileParts) (x : Site) → IsSpelledIn 0 (map spelled_file files) x →
    x.name ≡ spelled_at (slice_get (map source_of files) x.place.file) x.place.index
site_spelled files x h =
    let t = file_there (slice_get files h.number) h.file (sym (slice_get-map spelled_file files h.number) ∙ h.of_number) in
    let here : h.number ≡ x.place.file = (let e : 0 + h.number ≡ x.place.file = h.at in omega arith) in
    let source : slice_get (map source_of files) x.place.file ≡ Some (source_of t.0) =
    ap (slice_get (map source_of files)) (sym here) ∙ slice_get-map source_of files h.number ∙ ap (option_map source_of) t.1.0 in
    h.called ∙ ap (λ (f : SpelledFile). f.spell x.place.index) (sym t.1.1) ∙ ap (λ o. spelled_at o x.place.index) (sym source)

-- the name of an identifier is spelled by its token
abbrev pub IsSpelled : Package → ℕ → Type 0
IsSpelled c u = c.layout.role u ≡ NotLexical Selected → c.names u ≡ spelled c (c.layout.place u).file (c.layout.place u).index

pub selected_spelled : (w : Workspace) (known : Verdicts) (p : List ℕ) (c : Package) → IsPackageIn w known p c → (u : ℕ) → IsSpelled c u
selected_spelled w known p c h u =
    let files = h.files in
    let own = h.is_package in
    let names = own.is_laid.names in
    let sites = package_sites (map spelled_file files) in
    let laid : ScopedPackage = with_names names (scoped files) in
    let is : c ≡ package_in p (map source_of files) laid h.export_data_of =
    own.is_package ∙ ap (λ t. package_in p (map source_of files) t h.export_data_of) own.is_laid.is_named in
    subst (λ d. IsSpelled d u) (sym is) (λ role.
    let same = selected_plain names sites u role in
    let plain : (or_blank (slice_get sites u)).role ≡ NotLexical Selected = ap (λ (x : Site). x.role) (sym same) ∙ role in
    subst (λ (x : Site). x.name ≡ spelled_at (slice_get (map source_of files) x.place.file) x.place.index) (sym same)
    (site_spelled files (or_blank (slice_get sites u))
    (each_at (IsSpelledIf (map spelled_file files)) (λ e. let z : ⊥ = cc in absurd z) sites (package_spelled (map spelled_file files)) u plain)))
