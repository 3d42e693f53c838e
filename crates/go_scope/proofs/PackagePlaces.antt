-- The identifiers of a package are numbered in the order of their positions, and a declaration in an inner block is before its scope.
use Rattle.std.proofs.Common.{ℕ, zero, suc, ◌≡◌, ◌<◌, ◌≤◌, true, inl, inr, List, [], ◌∷◌, length, map, ap, sym, ◌∙◌, refl, arith}
use Rattle.std.specs.Prelude.{slice_get}
use Rattle.std.proofs.lemmas.Bool.{cases_order, true≢false}
use Rattle.std.proofs.lemmas.List.Elements.{All-head, All-tail}
use Rattle.go_ast.specs.Flatten.{flatten}
use Rattle.go_scope.specs.declared.model.Block.TheVariants.{Inner}
use Rattle.go_scope.specs.declared.model.Position.{Position}
use Rattle.go_scope.specs.Bindings.{MayDeclare, is_implied, start_of}
use Rattle.go_scope.specs.FileSites.{SpelledFile, file_sites, files_sites, universe, universe_site, package_sites}
use Rattle.go_scope.specs.Site.{Site, TokenSpellings, or_blank, sites_layout}
use Rattle.go_scope.specs.Trees.{IsNumbered, AreNumbered}
use Rattle.go_scope.specs.WellFormed.{InBlock, InPlaceOrder, HaveOwnPlaces}
use Rattle.go_scope.proofs.AmongTokens.{UpTo, StandApart, StandsFrom, position, places_apart, places_rise}
use Rattle.go_scope.proofs.AmongTrees.{file_among}
use Rattle.go_scope.proofs.PackageRegions.{From, frame, package_agrees}
use Rattle.go_scope.proofs.Regions.{Each, EachPair, Related, each_append, each_map, pairs_append, pairs_of_each, inner_file}

-- in a file of this rank or a higher one
abbrev FileFrom : ℕ → Site → Type 0
FileFrom rank x = rank ≤ x.place.file

files_rise : (rank : ℕ) (fs : List SpelledFile) → AreNumbered fs → Each (FileFrom rank) (files_sites rank fs) × EachPair UpTo (files_sites rank fs)
unfolding files_sites
files_rise rank [] w = (tt, tt)
files_rise rank (f ∷ fs) w =
    let s : TokenSpellings = record { rank = rank; spell = f.spell } in
    let one = All-head IsNumbered f fs w in
    let here = places_rise rank 0 (file_sites s f.tree) (flatten f.tree) (file_among s f.tree) one.rising in
    let rest = files_rise (suc rank) fs (All-tail IsNumbered f fs w) in (
      each_append (FileFrom rank) (file_sites s f.tree) (files_sites (suc rank) fs)
          (each_map (StandsFrom rank 0) (FileFrom rank) (λ x h. (let e : x.place.file ≡ rank = h.0 in omega arith)) (file_sites s f.tree) here.0)
          (each_map (FileFrom (suc rank)) (FileFrom rank) (λ x h. (let le : suc rank ≤ x.place.file = h in omega arith)) (files_sites (suc rank) fs) rest.0),
      pairs_append UpTo (StandsFrom rank 0) (FileFrom (suc rank))
          (λ x y h k. inl (let e : x.place.file ≡ rank = h.0 in let le : suc rank ≤ y.place.file = k in omega arith)) (file_sites s f.tree)
          (files_sites (suc rank) fs) here.0 rest.0 here.1 rest.1,
    )

-- predeclared names have the first position of all
abbrev IsFirstPlace : Site → Type 0
IsFirstPlace x = x.place ≡ position 0 0

names_first : (names : List (List ℕ)) → Each IsFirstPlace (map universe_site names)
names_first [] = tt
names_first (x ∷ xs) = (refl, names_first xs)

first_up_to : (x y : Site) → IsFirstPlace x → UpTo x y
first_up_to x y h =
    let file : x.place.file ≡ 0 = ap (λ (p : Position). p.file) h in
    let at : x.place.index ≡ 0 = ap (λ (p : Position). p.index) h in
    elim (cases_order x.place.file y.place.file) [
      | inl same ↦ inr (same, omega arith)
      | inr o ↦ elim o [ inl less ↦ inl less | inr more ↦ absurd (omega arith) ]
    ]

package_rises : (fs : List SpelledFile) → AreNumbered fs → EachPair UpTo (package_sites fs)
unfolding package_sites
package_rises fs w =
    let names = map universe_site universe in
    let first = names_first universe in
    let rest = files_rise 0 fs w in
    pairs_append UpTo IsFirstPlace (FileFrom 0) (λ x y h k. first_up_to x y h) names (files_sites 0 fs) first rest.0
    (pairs_of_each UpTo IsFirstPlace (λ x y h k. first_up_to x y h) names first) rest.1

-- identifiers stand at tokens of their own

files_apart : (rank : ℕ) (fs : List SpelledFile) → AreNumbered fs → EachPair StandApart (files_sites rank fs)
unfolding files_sites
files_apart rank [] w = tt
files_apart rank (f ∷ fs) w =
    let s : TokenSpellings = record { rank = rank; spell = f.spell } in
    let one = All-head IsNumbered f fs w in
    let xs = file_sites s f.tree in
    let ts = flatten f.tree in
    let later = All-tail IsNumbered f fs w in
    pairs_append StandApart (StandsFrom rank 0) (FileFrom (suc rank))
    (λ x y h k _ same. (let file : x.place.file ≡ y.place.file = ap (λ (p : Position). p.file) same in
    let e : x.place.file ≡ rank = h.0 in let le : suc rank ≤ y.place.file = k in absurd (omega arith))) xs (files_sites (suc rank) fs)
    (places_rise rank 0 xs ts (file_among s f.tree) one.rising).0 (files_rise (suc rank) fs later).0
    (places_apart rank 0 xs ts (file_among s f.tree) one.rising) (files_apart (suc rank) fs later)

abbrev IsPredeclaredSite : Site → Type 0
IsPredeclaredSite x = is_implied x.role ≡ true

names_predeclared : (names : List (List ℕ)) → Each IsPredeclaredSite (map universe_site names)
names_predeclared [] = tt
names_predeclared (x ∷ xs) = (refl, names_predeclared xs)

predeclared_apart : (x y : Site) → IsPredeclaredSite x → StandApart x y
predeclared_apart x y h identifier same = true≢false (sym h ∙ identifier)

sites_apart : (fs : List SpelledFile) → AreNumbered fs → EachPair StandApart (package_sites fs)
unfolding package_sites
sites_apart fs w =
    let names = map universe_site universe in
    let predeclared = names_predeclared universe in
    pairs_append StandApart IsPredeclaredSite (FileFrom 0) (λ x y h k. predeclared_apart x y h) names (files_sites 0 fs) predeclared (files_rise 0 fs w).0
    (pairs_of_each StandApart IsPredeclaredSite (λ x y h k. predeclared_apart x y h) names predeclared) (files_apart 0 fs w)

-- by the numbers of identifiers

each_below : (P : Site → Type 0) (xs : List Site) → Each P xs → (v : ℕ) → v < length xs → P (or_blank (slice_get xs v))
each_below P [] h v lt = absurd (omega arith)
each_below P (x ∷ xs) h zero lt = h.0
each_below P (x ∷ xs) h (suc v) lt = each_below P xs h.1 v (omega arith)

pair_below : (R : Site → Site → Type 0) (xs : List Site) → EachPair R xs → (u v : ℕ) → u < v → v < length xs →
    R (or_blank (slice_get xs u)) (or_blank (slice_get xs v))
pair_below R [] h u v less lt = absurd (omega arith)
pair_below R (x ∷ xs) h u zero less lt = absurd (omega arith)
pair_below R (x ∷ xs) h zero (suc v) less lt = each_below (R x) xs h.0 v (omega arith)
pair_below R (x ∷ xs) h (suc u) (suc v) less lt = pair_below R xs h.1 u v (omega arith) (omega arith)

module _ (xs : List Site) (each : Each (From 0) xs) (pairs : EachPair Related xs) where
  before_scope : (d f a b : ℕ) → MayDeclare (sites_layout xs) d → InBlock (sites_layout xs) d (Inner f a b) →
      (((sites_layout xs).place d).file ≡ f) × (((sites_layout xs).place d).index < start_of ((sites_layout xs).role d))
  before_scope d f a b may block =
      let s = frame xs each pairs d f a b may block in
      let same : s.0 ≡ f = inner_file s.0 s.1.from s.1.to f a b (sym s.1.block ∙ block) in
      (s.1.stands.0 ∙ same, s.1.stands.1)

pub package_follows_places : (fs : List SpelledFile) → AreNumbered fs → InPlaceOrder (sites_layout (package_sites fs)) (length (package_sites fs))
package_follows_places fs w = record {
  rising = pair_below UpTo (package_sites fs) (package_rises fs w);
  before_scope = before_scope (package_sites fs) (package_agrees fs w).0 (package_agrees fs w).1;
}

pub package_apart : (fs : List SpelledFile) → AreNumbered fs → HaveOwnPlaces (sites_layout (package_sites fs)) (length (package_sites fs))
package_apart fs w = pair_below StandApart (package_sites fs) (sites_apart fs w)
