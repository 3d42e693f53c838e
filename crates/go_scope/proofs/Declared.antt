-- The identifiers that the program collects from files, and their layout.
use Rattle.std.proofs.Common.{ℕ, ◌≡◌, ◌+◌, ◌<◌, ◌≤◌, List, [], ◌∷◌, ◌++◌, length, take, get_or, map, ap, sym, ◌∙◌, refl, subst, append_assoc, append-nil}
use Rattle.std.proofs.Common.{arith, zero, suc}
use Rattle.std.specs.Prelude.{slice_get}
use Rattle.std.proofs.Math.Path.{fun_ext}
use Rattle.std.proofs.Math.Seq.{take-length}
use Rattle.go_scope.specs.declared.model.Identifier.{Identifier}
use Rattle.go_scope.specs.declared.model.Position.{Position}
use Rattle.go_scope.specs.declared.model.Role.{Role}
use Rattle.go_scope.specs.Bindings.{Layout, Names}
use Rattle.go_scope.specs.Site.{Site, or_blank, sites_layout, sites_names}
use Rattle.go_scope.specs.SpelledFiles.{spelled_file}
use Rattle.go_scope.specs.FileSites.{file_sites, files_sites, universe, universe_site, package_sites}
use Rattle.go_scope.specs.Trees.{AreRising, IsNumbered, AreNumbered}
use Rattle.go_scope.specs.IdentifierViews.{site_of, AddsTo}
use Rattle.go_scope.specs.Table.{role_at, place_at, name_at, layout_of, names_of}
use Rattle.std.proofs.lemmas.List.Elements.{All-cons, All-head, All-tail}
use Rattle.std.proofs.lemmas.List.{length-map}
use Rattle.go_scanner.specs.CutText.{tokens_in}
use Rattle.go_scanner.specs.declared.piece.Piece.{Piece}
use Rattle.go_ast.specs.FileView.{file_view}
use Rattle.go_ast.specs.Kinds.{kinds_from}
use Rattle.go_ast.specs.SourceFile.{FileParts, IsSourceFile, source_of, spelling_of}
use Rattle.go_ast.specs.declared.syntax.Token.{Token}
use Rattle.go_ast.specs.declared.tree.File.{File}

abbrev file_part : ℕ → FileParts → List Site
file_part r x = file_sites (record { rank = r; spell = spelling_of (source_of x) }) (file_view x.file)

files_take : (r i : ℕ) (xs : List FileParts) (d : FileParts) → i < length xs →
    files_sites r (map spelled_file (take i xs)) ++ file_part (r + i) (get_or xs i d) ≡ files_sites r (map spelled_file (take (suc i) xs))
unfolding files_sites
files_take r i [] d lt = absurd (omega arith)
files_take r zero (x ∷ xs) d lt = ap (λ k. file_part k x) (let e : r + 0 ≡ r = omega arith in e) ∙ sym (append-nil (file_part r x))
files_take r (suc i) (x ∷ xs) d lt =
    append_assoc (file_part r x) (files_sites (suc r) (map spelled_file (take i xs))) (file_part (r + suc i) (get_or xs i d)) ∙
    ap (λ z. file_part r x ++ z) (ap (λ k. files_sites (suc r) (map spelled_file (take i xs)) ++ file_part k (get_or xs i d))
    (let e : r + suc i ≡ suc r + i = omega arith in e) ∙
    files_take (suc r) i xs d (omega arith))

pub files_next : (files : List FileParts) (rank : ℕ) (x : FileParts) (file : File) → rank < length files → x ≡ get_or files rank x → file ≡ x.file →
    files_sites 0 (map spelled_file (take rank files)) ++ file_sites (record { rank = rank; spell = spelling_of (source_of x) }) (file_view file) ≡
    files_sites 0 (map spelled_file (take (rank + 1) files))
files_next files rank x file lt ex ef =
    ap (λ z. files_sites 0 (map spelled_file (take rank files)) ++ file_sites (record { rank = rank; spell = spelling_of (source_of x) }) (file_view z)) ef ∙
    ap (λ z. files_sites 0 (map spelled_file (take rank files)) ++ file_part rank z) ex ∙
    ap (λ k. files_sites 0 (map spelled_file (take rank files)) ++ file_part k (get_or files rank x)) (let e : rank ≡ 0 + rank = omega arith in e) ∙
    files_take 0 rank files x lt ∙ ap (λ k. files_sites 0 (map spelled_file (take k files))) (let e : suc rank ≡ rank + 1 = omega arith in e)

-- the tokens of a file are numbered in their order
kinds_rise : (n : ℕ) (text : List ℕ) (ps : List Piece) → AreRising n (kinds_from n text ps)
unfolding kinds_from
kinds_rise n text [] = tt
kinds_rise n text (p ∷ ps) =
    let P : ℕ → Type 0 = λ k. AreRising k (kinds_from (n + 1) text ps) in
    (let le : n ≤ n = omega arith in le, subst P (let e : n + 1 ≡ suc n = omega arith in e) (kinds_rise (n + 1) text ps))

pub file_numbered : (f : FileParts) → IsSourceFile (source_of f) → IsNumbered (spelled_file f)
file_numbered f h = record {
  grouped = h.is_tree.well_formed;
  rising = (let P : List Token → Type 0 = λ ts. AreRising 0 ts in subst P (sym h.is_tree.written) (kinds_rise 0 f.cut.text (tokens_in f.cut)));
}

pub no_numbers : AreNumbered (map spelled_file [])
no_numbers = λ k d lt. absurd (omega arith)

numbered_step : (files : List FileParts) (rank : ℕ) (x : FileParts) → rank < length files → x ≡ get_or files rank x → IsSourceFile (source_of x) →
    AreNumbered (map spelled_file (take rank files)) → AreNumbered (map spelled_file (take (suc rank) files))
numbered_step [] rank x lt ex h w = absurd (omega arith)
numbered_step (y ∷ ys) zero x lt ex h w =
    let P : FileParts → Type 0 = λ z. IsNumbered (spelled_file z) in
    All-cons IsNumbered (spelled_file y) [] (subst P ex (file_numbered x h)) no_numbers
numbered_step (y ∷ ys) (suc rank) x lt ex h w =
    All-cons IsNumbered (spelled_file y) (map spelled_file (take (suc rank) ys)) (All-head IsNumbered (spelled_file y) (map spelled_file (take rank ys)) w)
    (numbered_step ys rank x (omega arith) ex h (All-tail IsNumbered (spelled_file y) (map spelled_file (take rank ys)) w))

pub numbered_next : (files : List FileParts) (rank : ℕ) (x : FileParts) → rank < length files → x ≡ get_or files rank x → IsSourceFile (source_of x) →
    AreNumbered (map spelled_file (take rank files)) → AreNumbered (map spelled_file (take (rank + 1) files))
numbered_next files rank x lt ex h w =
    let P : ℕ → Type 0 = λ k. AreNumbered (map spelled_file (take k files)) in
    subst P (let e : suc rank ≡ rank + 1 = omega arith in e) (numbered_step files rank x lt ex h w)

pub no_files : files_sites 0 [] ≡ []
unfolding files_sites
no_files = refl

pub package_made : (none found : List Identifier) (files : List FileParts) (rank : ℕ) → none ≡ [] → rank ≡ length files →
    AddsTo none found (map universe_site universe ++ files_sites 0 (map spelled_file (take rank files))) →
    map site_of found ≡ package_sites (map spelled_file files)
unfolding package_sites
package_made none found files rank en er h =
    h.added ∙ ap (λ z. map site_of z ++ (map universe_site universe ++ files_sites 0 (map spelled_file (take rank files)))) en ∙
    ap (λ k. map universe_site universe ++ files_sites 0 (map spelled_file (take k files))) er ∙
    ap (λ z. map universe_site universe ++ files_sites 0 (map spelled_file z)) (take-length files)

pub package_numbered : (files : List FileParts) (rank : ℕ) → rank ≡ length files → AreNumbered (map spelled_file (take rank files)) →
    AreNumbered (map spelled_file files)
package_numbered files rank e w =
    let P : List FileParts → Type 0 = λ fs. AreNumbered (map spelled_file fs) in
    subst P (ap (λ k. take k files) e ∙ take-length files) w

same_role : (xs : List Identifier) (i : ℕ) → role_at (slice_get xs i) ≡ (or_blank (slice_get (map site_of xs) i)).role
same_role [] i = refl
same_role (x ∷ xs) zero = refl
same_role (x ∷ xs) (suc i) = same_role xs i

same_place : (xs : List Identifier) (i : ℕ) → place_at (slice_get xs i) ≡ (or_blank (slice_get (map site_of xs) i)).place
same_place [] i = refl
same_place (x ∷ xs) zero = refl
same_place (x ∷ xs) (suc i) = same_place xs i

layout_made : (ℕ → Role) → (ℕ → Position) → Layout
layout_made r p = record { role = r; place = p }

pub layout-sites : (xs : List Identifier) → layout_of xs ≡ sites_layout (map site_of xs)
unfolding layout_made
layout-sites xs =
    ap (λ r. layout_made r (λ i. place_at (slice_get xs i))) (fun_ext (same_role xs)) ∙
    ap (layout_made (λ i. (or_blank (slice_get (map site_of xs) i)).role)) (fun_ext (same_place xs))

same_name : (xs : List Identifier) (i : ℕ) → name_at (slice_get xs i) ≡ (or_blank (slice_get (map site_of xs) i)).name
same_name [] i = refl
same_name (x ∷ xs) zero = refl
same_name (x ∷ xs) (suc i) = same_name xs i

names-sites : (xs : List Identifier) → names_of xs ≡ sites_names (map site_of xs)
names-sites xs = fun_ext (same_name xs)

-- a fact of the program's list of identifiers is one of its sites
pub in_sites : (P : Layout → Names → ℕ → Type 0) (xs : List Identifier) → P (layout_of xs) (names_of xs) (length xs) →
    P (sites_layout (map site_of xs)) (sites_names (map site_of xs)) (length (map site_of xs))
in_sites P xs h =
    let L : Layout → Type 0 = λ l. P l (names_of xs) (length xs) in
    let N : Names → Type 0 = λ n. P (sites_layout (map site_of xs)) n (length xs) in
    let S : ℕ → Type 0 = λ n. P (sites_layout (map site_of xs)) (sites_names (map site_of xs)) n in
    subst S (sym (length-map xs site_of)) (subst N (names-sites xs) (subst L (layout-sites xs) h))
