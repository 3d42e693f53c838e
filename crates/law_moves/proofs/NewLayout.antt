-- The layout of a package after a move: that of before, whatever names its imports without a name declare.
use Rattle.std.proofs.Common.{ℕ, zero, suc, ◌≡◌, ◌+◌, Bool, true, false, List, [], ◌∷◌, Option, Some, None, length, map, ap, sym, subst, refl, ◌∙◌}
use Rattle.std.proofs.Common.{arith}
use Rattle.std.specs.Prelude.{slice_get, option_map, unwrap_or}
use Rattle.std.proofs.Math.Path.{ap₂}
use Rattle.std.proofs.lemmas.Option.{slice_get-map}
use Rattle.base_files.specs.Workspace.{Workspace}
use Rattle.base_edits.specs.EditSet.{FileChanges}
use Rattle.base_edits.specs.Fits.{path_after}
use Rattle.base_edits.specs.Moved.{moved}
use Rattle.go_ast.specs.FileView.{file_view}
use Rattle.go_ast.specs.SourceFile.{SourceFile, FileParts, source_of, spelling_of}
use Rattle.go_scope.specs.FileSites.{SpelledFile, package_sites}
use Rattle.go_scope.specs.Named.{is_unnamed_import, named_sites, named_where}
use Rattle.go_scope.specs.Packages.{ScopedPackage, scoped, layout_in}
use Rattle.go_scope.specs.Site.{Site, or_blank, sites_layout}
use Rattle.go_scope.specs.SpelledFiles.{spelled_file}
use Rattle.law_rename.specs.Respelled.{Spelling, respelled_files, KeepsRoles, KeepAllRoles}
use Rattle.law_rename.proofs.Laid.{layout_stays}
use Rattle.law_tokens.proofs.Ordered.{same_length}
use Rattle.law_changed_types.specs.SameBindings.{trees_of, paths_of}
use Rattle.types_declared.specs.Package.{Package, spelled_at}
use Rattle.workspace_check.specs.Verdicts.{Verdicts}
use Rattle.refs_binding.specs.Uses.{IsCheckedPackage}
use Rattle.refs_lookup.proofs.OnePlace.{same_files, same_layout as same_layout_in, same_size as same_size_in}
use Rattle.law_renamed_workspaces.proofs.SpelledSites.{plain_stays, size_stays}
use Rattle.law_moves.specs.Moves.{IsMove}
use Rattle.law_moves.proofs.Clauses.{roles_kept}
use Rattle.law_moves.proofs.NewFiles.{new_parts}

-- the files of a package, with new spellings

abbrev pub new_files : FileChanges → List FileParts → List SourceFile
new_files s ts = map source_of (map (new_parts s) ts)

respelled_as : (s : FileChanges) (spell : Spelling) (rank : ℕ) (ts : List FileParts) →
    ((k : ℕ) (t : FileParts) → slice_get ts k ≡ Some t → spell (rank + k) ≡ spelling_of (source_of (new_parts s t))) →
    respelled_files spell rank (map spelled_file ts) ≡ map spelled_file (map (new_parts s) ts)
unfolding respelled_files
respelled_as s spell rank [] at = refl
respelled_as s spell rank (t ∷ ts) at =
    let zeroed : rank + 0 ≡ rank = omega arith in
    ap₂ (λ (n : ℕ → List ℕ) (fs : List SpelledFile). record { tree = file_view t.file; spell = n } ∷ fs) (ap spell (sym zeroed) ∙ at zero t refl)
    (respelled_as s spell (suc rank) ts (λ k u is. let next : suc rank + k ≡ rank + suc k = omega arith in ap spell next ∙ at (suc k) u is))

keep_all : (spell : Spelling) (rank : ℕ) (ts : List FileParts) →
    ((k : ℕ) (t : FileParts) → slice_get ts k ≡ Some t → KeepsRoles (spelling_of (source_of t)) (spell (rank + k)) (file_view t.file)) →
    KeepAllRoles spell rank (map spelled_file ts)
unfolding KeepAllRoles
keep_all spell rank [] at = tt
keep_all spell rank (t ∷ ts) at =
    let zeroed : rank + 0 ≡ rank = omega arith in (
      subst (λ n. KeepsRoles (spelling_of (source_of t)) (spell n) (file_view t.file)) zeroed (at zero t refl),
      keep_all spell (suc rank) ts
          (λ k u is. let next : rank + suc k ≡ suc rank + k = omega arith in
          subst (λ n. KeepsRoles (spelling_of (source_of u)) (spell n) (file_view u.file)) next (at (suc k) u is)),
    )

pub same_trees : (s : FileChanges) (ts : List FileParts) → trees_of (new_files s ts) ≡ trees_of (map source_of ts)
same_trees s [] = refl
same_trees s (t ∷ ts) = ap (λ xs. file_view t.file ∷ xs) (same_trees s ts)

pub moved_paths : (s : FileChanges) (ts : List FileParts) →
    paths_of (new_files s ts) ≡ map (λ path. (moved s (record { path = path; offset = 0 })).path) (paths_of (map source_of ts))
moved_paths s [] = refl
moved_paths s (t ∷ ts) = ap (λ xs. unwrap_or (path_after s t.path) t.path ∷ xs) (moved_paths s ts)

pub file_at : (s : FileChanges) (ts : List FileParts) (k : ℕ) (o : Option FileParts) → slice_get ts k ≡ o →
    slice_get (new_files s ts) k ≡ option_map (λ t. source_of (new_parts s t)) o
file_at s ts k None e =
    slice_get-map source_of (map (new_parts s) ts) k ∙ ap (option_map source_of) (slice_get-map (new_parts s) ts k ∙ ap (option_map (new_parts s)) e)
file_at s ts k (Some t) e =
    slice_get-map source_of (map (new_parts s) ts) k ∙ ap (option_map source_of) (slice_get-map (new_parts s) ts k ∙ ap (option_map (new_parts s)) e)

-- other names of imports without a name

abbrev pub with_others : (ℕ → List ℕ → List ℕ) → (ℕ → Option (List ℕ)) → ℕ → Option (List ℕ)
with_others g names u = option_map (g u) (names u)

record AreAlike (x y : Site) : Type 0 where
  role : x.role ≡ y.role
  place : x.place ≡ y.place

where_alike : (b : Bool) (o : Option (List ℕ)) (f : List ℕ → List ℕ) (x : Site) → AreAlike (named_where b (option_map f o) x) (named_where b o x)
where_alike true (Some n) f x = record { role = refl; place = refl }
where_alike true None f x = record { role = refl; place = refl }
where_alike false o f x = record { role = refl; place = refl }

named_alike : (g : ℕ → List ℕ → List ℕ) (names : ℕ → Option (List ℕ)) (xs : List Site) (u : ℕ) →
    AreAlike (or_blank (slice_get (named_sites (with_others g names) xs) u)) (or_blank (slice_get (named_sites names xs) u))
unfolding named_sites
named_alike g names [] u = record { role = refl; place = refl }
named_alike g names (x ∷ xs) zero = where_alike (is_unnamed_import x.role) (names 0) (g 0) x
named_alike g names (x ∷ xs) (suc u) = named_alike (λ k. g (suc k)) (λ k. names (suc k)) xs u

layout_alike : (g : ℕ → List ℕ → List ℕ) (names : ℕ → Option (List ℕ)) (xs : List Site) →
    sites_layout (named_sites (with_others g names) xs) ≡ sites_layout (named_sites names xs)
layout_alike g names xs = λ i. record { role = λ u. (named_alike g names xs u).role i; place = λ u. (named_alike g names xs u).place i }

module _ (w : Workspace) (known : Verdicts) (from to : List ℕ) (s : FileChanges) (h : IsMove w known from to s) (p : Package)
    (is : IsCheckedPackage w known p) where
  abbrev pub ts : List FileParts
  ts = is.is_checked.files

  abbrev pub names : ℕ → Option (List ℕ)
  names = is.is_checked.is_package.is_laid.names

  pub source_at : (k : ℕ) (t : FileParts) → slice_get ts k ≡ Some t → slice_get p.files k ≡ Some (source_of t)
  source_at k t e =
      ap (λ fs. slice_get fs k) (same_files w known p.path p is.is_checked) ∙ slice_get-map source_of ts k ∙ ap (option_map source_of) e

  abbrev pub spell : Spelling
  spell k n = spelled_at (slice_get (new_files s ts) k) n

  spell_is : (k : ℕ) (t : FileParts) → slice_get ts k ≡ Some t → spell k ≡ spelling_of (source_of (new_parts s t))
  spell_is k t e = ap spelled_at (file_at s ts k (Some t) e)

  from_zero : (k : ℕ) → 0 + k ≡ k
  from_zero k = omega arith

  pub files_are : respelled_files spell 0 (map spelled_file ts) ≡ map spelled_file (map (new_parts s) ts)
  files_are = respelled_as s spell 0 ts (λ k t e. ap spell (from_zero k) ∙ spell_is k t e)

  pub roles : KeepAllRoles spell 0 (map spelled_file ts)
  roles = keep_all spell 0 ts
      (λ k t e. subst (λ (n : ℕ → List ℕ). KeepsRoles (spelling_of (source_of t)) n (file_view t.file)) (sym (ap spell (from_zero k) ∙ spell_is k t e))
      (roles_kept w known from to s h p is k (source_of t) (source_at k t e) (unwrap_or (path_after s t.path) t.path)))

  abbrev pub plain : ScopedPackage
  plain = scoped (map (new_parts s) ts)

  pub plain_layout : layout_in plain ≡ layout_in (scoped ts)
  plain_layout = ap (λ fs. sites_layout (package_sites fs)) (sym files_are) ∙ plain_stays spell (map spelled_file ts) roles

  pub plain_size : length plain.sites ≡ length (scoped ts).sites
  plain_size = ap (λ fs. length (package_sites fs)) (sym files_are) ∙ size_stays spell (map spelled_file ts) roles

  -- with any names
  module _ (g : ℕ → List ℕ → List ℕ) where
    pub layout_is : sites_layout (named_sites (with_others g names) plain.sites) ≡ p.layout
    layout_is =
        layout_alike g names plain.sites
        ∙ ap (λ fs. sites_layout (named_sites names (package_sites fs))) (sym files_are) ∙ layout_stays spell (map spelled_file ts) names roles
        ∙ sym (same_layout_in w known p.path p is.is_checked)

    pub size_is : length (named_sites (with_others g names) plain.sites) ≡ p.size
    size_is =
        same_length (with_others g names) plain.sites ∙ plain_size ∙ sym (same_length names (scoped ts).sites)
        ∙ sym (same_size_in w known p.path p is.is_checked)
