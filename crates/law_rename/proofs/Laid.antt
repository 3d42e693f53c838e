-- The layout of a package whose tokens get other spellings.
use Rattle.std.proofs.Common.{ℕ, suc, zero, ◌≡◌, List, [], ◌∷◌, ◌++◌, Option, Some, None, Bool, true, false, map, refl, sym, ap, ◌∙◌}
use Rattle.std.specs.Prelude.{slice_get, option_map}
use Rattle.std.proofs.lemmas.List.{map-append}
use Rattle.go_scope.specs.FileSites.{SpelledFile, file_sites, files_sites, package_sites, universe, universe_site}
use Rattle.go_scope.specs.Named.{named_sites, named_where, is_unnamed_import}
use Rattle.go_scope.specs.Site.{Site, or_blank, sites_layout}
use Rattle.law_rename.specs.Respelled.{Spelling, respelled, respelled_files, KeepAllRoles}
use Rattle.law_rename.proofs.RespelledFiles.{file_respelled}

pub files_respelled : (spell : Spelling) (rank : ℕ) (files : List SpelledFile) → KeepAllRoles spell rank files →
    files_sites rank (respelled_files spell rank files) ≡ map (respelled spell) (files_sites rank files)
unfolding files_sites respelled_files KeepAllRoles
files_respelled spell rank [] kept = refl
files_respelled spell rank (f ∷ fs) kept =
    (λ i. file_respelled rank f.spell spell f.tree kept.0 i ++ files_respelled spell (suc rank) fs kept.1 i)
    ∙ sym (map-append (respelled spell) (file_sites (record { rank = rank; spell = f.spell }) f.tree) (files_sites (suc rank) fs))

pub package_respelled : (spell : Spelling) (files : List SpelledFile) → KeepAllRoles spell 0 files →
    package_sites (respelled_files spell 0 files) ≡ map universe_site universe ++ map (respelled spell) (files_sites 0 files)
unfolding package_sites
package_respelled spell files kept = ap (λ xs. map universe_site universe ++ xs) (files_respelled spell 0 files kept)

-- an identifier without its name
abbrev unnamed : Site → Site
unnamed x = record { place = x.place; name = []; role = x.role }

unnamed_found : (o : Option Site) → or_blank (option_map unnamed o) ≡ unnamed (or_blank o)
unnamed_found None = refl
unnamed_found (Some x) = refl

unnamed_at : (xs : List Site) (i : ℕ) → slice_get (map unnamed xs) i ≡ option_map unnamed (slice_get xs i)
unnamed_at [] i = refl
unnamed_at (x ∷ xs) zero = refl
unnamed_at (x ∷ xs) (suc i) = unnamed_at xs i

unnamed_layout : (xs : List Site) → sites_layout (map unnamed xs) ≡ sites_layout xs
unnamed_layout xs = λ i. record {
  role = λ u. ((ap or_blank (unnamed_at xs u) ∙ unnamed_found (slice_get xs u)) i).role;
  place = λ u. ((ap or_blank (unnamed_at xs u) ∙ unnamed_found (slice_get xs u)) i).place;
}

-- the layout where imports without a name declare is told of identifiers without their names
unnamed_where : (b : Bool) (name : Option (List ℕ)) (x : Site) → unnamed (named_where b name x) ≡ unnamed (named_where b name (unnamed x))
unnamed_where true (Some name) x = refl
unnamed_where true None x = refl
unnamed_where false name x = refl

unnamed_named : (names : ℕ → Option (List ℕ)) (xs : List Site) → map unnamed (named_sites names xs) ≡ map unnamed (named_sites names (map unnamed xs))
unfolding named_sites
unnamed_named names [] = refl
unnamed_named names (x ∷ xs) = λ i. unnamed_where (is_unnamed_import x.role) (names 0) x i ∷ unnamed_named (λ u. names (suc u)) xs i

same_layout : (names : ℕ → Option (List ℕ)) (xs ys : List Site) → map unnamed xs ≡ map unnamed ys →
    sites_layout (named_sites names xs) ≡ sites_layout (named_sites names ys)
same_layout names xs ys same =
    sym (unnamed_layout (named_sites names xs)) ∙ ap sites_layout (unnamed_named names xs)
    ∙ ap (λ zs. sites_layout (map unnamed (named_sites names zs))) same
    ∙ ap sites_layout (sym (unnamed_named names ys)) ∙ unnamed_layout (named_sites names ys)

unnamed_respelled : (spell : Spelling) (xs : List Site) → map unnamed (map (respelled spell) xs) ≡ map unnamed xs
unnamed_respelled spell [] = refl
unnamed_respelled spell (x ∷ xs) = ap (λ ys. unnamed x ∷ ys) (unnamed_respelled spell xs)

unnamed_behind : (us xs ys : List Site) → map unnamed xs ≡ map unnamed ys → map unnamed (us ++ xs) ≡ map unnamed (us ++ ys)
unnamed_behind us xs ys same = map-append unnamed us xs ∙ ap (λ zs. map unnamed us ++ zs) same ∙ sym (map-append unnamed us ys)

pub layout_stays : (spell : Spelling) (files : List SpelledFile) (names : ℕ → Option (List ℕ)) → KeepAllRoles spell 0 files →
    sites_layout (named_sites names (package_sites (respelled_files spell 0 files))) ≡ sites_layout (named_sites names (package_sites files))
unfolding package_sites
layout_stays spell files names kept =
    same_layout names (package_sites (respelled_files spell 0 files)) (package_sites files)
    (ap (map unnamed) (package_respelled spell files kept)
    ∙ unnamed_behind (map universe_site universe) (map (respelled spell) (files_sites 0 files)) (files_sites 0 files)
    (unnamed_respelled spell (files_sites 0 files)))
