-- Identifiers where imports without a name declare in their files: the identifier of each number, and the layout, which stays well formed.
use Rattle.std.proofs.Common.{ℕ, ◌≡◌, ◌+◌, ◌<◌, ◌≤◌, ◌⊎◌, inl, inr, List, [], ◌∷◌, length, set, get_or, map, Option, Some, None, Bool, true, false}
use Rattle.std.proofs.Common.{ap, sym, ◌∙◌, refl, subst, arith, zero, suc}
use Rattle.std.specs.Prelude.{slice_get}
use Rattle.std.proofs.Math.ListN.{get_or-map}
use Rattle.std.proofs.lemmas.List.{length-map, map-set, set-get_or, get_or_default}
use Rattle.go_scope.specs.declared.model.Block.TheVariants.{File, Inner}
use Rattle.go_scope.specs.declared.model.Identifier.{Identifier}
use Rattle.go_scope.specs.declared.model.Position.{Position}
use Rattle.go_scope.specs.declared.model.Role.{Role}
use Rattle.go_scope.specs.declared.model.Role.TheVariants.{Use, Declaring, LeftName, Implied, NotLexical}
use Rattle.go_scope.specs.Bindings.{Layout, MayDeclare, IsLeftName, block_of, start_of, may_declare, is_implied, is_left_name}
use Rattle.go_scope.specs.FileSites.{SpelledFile, package_sites}
use Rattle.go_scope.specs.IdentifierViews.{site_of}
use Rattle.go_scope.specs.Named.{is_unnamed_import, named_where, named_site, named_sites, NamesSite}
use Rattle.go_scope.specs.Site.{Site, or_blank, sites_layout}
use Rattle.go_scope.specs.Table.{layout_of}
use Rattle.go_scope.specs.Trees.{AreNumbered}
use Rattle.go_scope.specs.WellFormed.{WellFormed, ImportsCoverFiles, InBlockOrder, IsNotAfter, InPlaceOrder, HaveOwnPlaces, IsLaidOut, InBlock}
use Rattle.go_scope.proofs.Declared.{layout-sites}
use Rattle.go_scope.proofs.PackagePlaces.{package_apart, package_follows_places}
use Rattle.go_scope.proofs.PackageRegions.{From, may_at, each_at, not_may, package_agrees, package_well_formed, package_follows_blocks}

-- an identifier stays, or it declares in a file, from the file's start
abbrev RoleStays : Role → Role → Type 0
RoleStays new old = (new ≡ old) ⊎ ((f : ℕ) × (new ≡ Declaring (File f) 0))

site_stays : (b : Bool) (name : Option (List ℕ)) (x : Site) → RoleStays (named_where b name x).role x.role
site_stays true (Some name) x = inr (x.place.file, refl)
site_stays true None x = inl refl
site_stays false name x = inl refl

role_stays : (names : ℕ → Option (List ℕ)) (xs : List Site) (d : ℕ) →
    RoleStays (or_blank (slice_get (named_sites names xs) d)).role (or_blank (slice_get xs d)).role
unfolding named_sites
role_stays names [] d = inl refl
role_stays names (x ∷ xs) zero = site_stays (is_unnamed_import x.role) (names 0) x
role_stays names (x ∷ xs) (suc d) = role_stays (λ u. names (suc u)) xs d

stays_in_place : (b : Bool) (name : Option (List ℕ)) (x : Site) → (named_where b name x).place ≡ x.place
stays_in_place true (Some name) x = refl
stays_in_place true None x = refl
stays_in_place false name x = refl

pub place_stays : (names : ℕ → Option (List ℕ)) (xs : List Site) (d : ℕ) →
    (or_blank (slice_get (named_sites names xs) d)).place ≡ (or_blank (slice_get xs d)).place
unfolding named_sites
place_stays names [] d = refl
place_stays names (x ∷ xs) zero = stays_in_place (is_unnamed_import x.role) (names 0) x
place_stays names (x ∷ xs) (suc d) = place_stays (λ u. names (suc u)) xs d

unnamed_stands : (r : Role) → is_unnamed_import r ≡ true → is_implied r ≡ false
unnamed_stands Use e = refl
unnamed_stands (Declaring b start) e = refl
unnamed_stands (LeftName b start) e = refl
unnamed_stands (Implied b start) e = let z : ⊥ = cc in absurd z
unnamed_stands (NotLexical p) e = refl

stands_still : (b : Bool) (name : Option (List ℕ)) (x : Site) → is_unnamed_import x.role ≡ b → is_implied (named_where b name x).role ≡ is_implied x.role
stands_still true (Some name) x e = sym (unnamed_stands x.role e)
stands_still true None x e = refl
stands_still false name x e = refl

-- what is an identifier stays one
pub identifier_stays : (names : ℕ → Option (List ℕ)) (xs : List Site) (u : ℕ) →
    is_implied (or_blank (slice_get (named_sites names xs) u)).role ≡ is_implied (or_blank (slice_get xs u)).role
unfolding named_sites
identifier_stays names [] u = refl
identifier_stays names (x ∷ xs) zero = stands_still (is_unnamed_import x.role) (names 0) x refl
identifier_stays names (x ∷ xs) (suc u) = identifier_stays (λ k. names (suc k)) xs u

file_not_inner : (h f a b : ℕ) → File h ≡ Inner f a b → ⊥
file_not_inner h f a b e = cc

not_left : (h : ℕ) → is_left_name (Declaring (File h) 0) ≡ true → ⊥
not_left h e = cc

module _ (k l : Layout) (n : ℕ) (finite : (d : ℕ) → MayDeclare k d → d < n) (roles : (d : ℕ) → RoleStays (k.role d) (l.role d))
    (places : (d : ℕ) → k.place d ≡ l.place d)
    (w : WellFormed l) (level : ImportsCoverFiles l) where
  inner_stays : (d f a b : ℕ) → InBlock k d (Inner f a b) → k.role d ≡ l.role d
  inner_stays d f a b i = elim (roles d) [ inl e ↦ e | inr h ↦ absurd (file_not_inner h.0 f a b (sym (ap block_of h.1) ∙ i)) ]

  left_stays : (d : ℕ) → IsLeftName k d → k.role d ≡ l.role d
  left_stays d left = elim (roles d) [ inl e ↦ e | inr h ↦ absurd (not_left h.0 (sym (ap is_left_name h.1) ∙ left)) ]

  may : (d : ℕ) → k.role d ≡ l.role d → MayDeclare k d → MayDeclare l d
  may d e m = sym (ap may_declare e) ∙ m

  within : (d f a b : ℕ) → k.role d ≡ l.role d → InBlock k d (Inner f a b) → InBlock l d (Inner f a b)
  within d f a b e i = sym (ap block_of e) ∙ i

  left : (d : ℕ) → k.role d ≡ l.role d → IsLeftName k d → IsLeftName l d
  left d e m = sym (ap is_left_name e) ∙ m

  pub imports_stay_level : ImportsCoverFiles k
  imports_stay_level d f i = elim (roles d) [ inl e ↦ ap start_of e ∙ level d f (sym (ap block_of e) ∙ i) | inr h ↦ ap start_of h.1 ]

  pub stays_well_formed : WellFormed k
  stays_well_formed = record {
    size = n;
    finite = finite;
    starts = λ d f a b m i.
        let e = inner_stays d f a b i in
        let P : Role → Type 0 = λ r. (a ≤ start_of r) × (start_of r ≤ b) in
        subst P (sym e) (w.starts d f a b (may d e m) (within d f a b e i));
    blocks = λ d g f a b a' b' md mg i j.
        let e = inner_stays d f a b i in
        let h = inner_stays g f a' b' j in
        w.blocks d g f a b a' b' (may d e md) (may g h mg) (within d f a b e i) (within g f a' b' h j);
    begins_outside = λ d g f a b a' b' md mg i j lt le.
        let e = inner_stays d f a b i in
        let h = inner_stays g f a' b' j in
        let P : Role → Type 0 = λ r. (start_of r < a) ⊎ (b ≤ start_of r) in
        subst P (sym h) (w.begins_outside d g f a b a' b' (may d e md) (may g h mg) (within d f a b e i) (within g f a' b' h j) lt le);
    in_order = λ d g md mg same lt. elim (roles d) [
      | inr h ↦ (let z : start_of (k.role d) ≡ 0 = ap start_of h.1 in omega arith)
      | inl e ↦ elim (roles g) [
        | inr h ↦ (let z : start_of (k.role d) ≡ 0 = imports_stay_level d h.0 (same ∙ ap block_of h.1) in omega arith)
        | inl h ↦ (
            let less : start_of (l.role d) ≤ start_of (l.role g) = w.in_order d g (may d e md) (may g h mg) (sym (ap block_of e) ∙ same ∙ ap block_of h) lt in
            let x : start_of (k.role d) ≡ start_of (l.role d) = ap start_of e in
            let y : start_of (k.role g) ≡ start_of (l.role g) = ap start_of h in
            omega arith)
      ]
    ];
    left_inner = λ x m.
        let e = left_stays x m in
        let z = w.left_inner x (left x e m) in
        let P : Position → Type 0 = λ p. (p.file ≡ z.0) × (z.1 ≤ p.index) in
        let at = subst P (sym (places x)) (z.4, z.5) in
        (z.0, z.1, z.2, ap block_of e ∙ z.3, at.0, at.1);
    left_before = λ x m.
        let e = left_stays x m in
        let less : (l.place x).index < start_of (l.role x) = w.left_before x (left x e m) in
        let p : (k.place x).index ≡ (l.place x).index = ap (λ q. q.index) (places x) in
        let s : start_of (k.role x) ≡ start_of (l.role x) = ap start_of e in
        omega arith;
    left_directly = λ x z f a b a' b' m mz i j lt le.
        let e = left_stays x m in
        let h = inner_stays z f a' b' j in
        let P : Position → Type 0 = λ p. (p.index < a') ⊎ (b' ≤ p.index) in
        subst P (sym (places x)) (w.left_directly x z f a b a' b' (left x e m) (may z h mz) (within x f a b e i) (within z f a' b' h j) lt le);
  }

  pub follow_blocks_still : InBlockOrder l → InBlockOrder k
  follow_blocks_still o = record {
    before = λ d g f a b a' b' lt md mg i j out within_it.
        let e = inner_stays d f a b i in
        let h = inner_stays g f a' b' j in
        let P : Role → Type 0 = λ r. start_of r < a' in
        subst P (sym e) (o.before d g f a b a' b' lt (may d e md) (may g h mg) (within d f a b e i) (within g f a' b' h j) out within_it);
    behind = λ d g f a b a' b' lt md mg i j out within_it.
        let e = inner_stays d f a b i in
        let h = inner_stays g f a' b' j in
        let P : Role → Type 0 = λ r. b ≤ start_of r in
        subst P (sym h) (o.behind d g f a b a' b' lt (may d e md) (may g h mg) (within d f a b e i) (within g f a' b' h j) out within_it);
  }

  pub follow_places_still : (size : ℕ) → InPlaceOrder l size → InPlaceOrder k size
  follow_places_still size o = record {
    rising = λ u v less lt.
        let P : Position → Type 0 = λ p. IsNotAfter p (k.place v) in
        let Q : Position → Type 0 = λ p. IsNotAfter (l.place u) p in
        subst P (sym (places u)) (subst Q (sym (places v)) (o.rising u v less lt));
    before_scope = λ d f a b md i.
        let e = inner_stays d f a b i in
        let P : Position → Type 0 = λ p. (p.file ≡ f) × (p.index < start_of (k.role d)) in
        let R : Role → Type 0 = λ r. ((l.place d).file ≡ f) × ((l.place d).index < start_of r) in
        subst P (sym (places d)) (subst R (sym e) (o.before_scope d f a b (may d e md) (within d f a b e i)));
  }

pub named_length : (names : ℕ → Option (List ℕ)) (xs : List Site) → length (named_sites names xs) ≡ length xs
unfolding named_sites
named_length names [] = refl
named_length names (x ∷ xs) = let h : length (named_sites (λ k. names (suc k)) xs) ≡ length xs = named_length (λ k. names (suc k)) xs in omega arith

pub named_well_formed : (names : ℕ → Option (List ℕ)) (xs : List Site) → WellFormed (sites_layout xs) → ImportsCoverFiles (sites_layout xs) →
    WellFormed (sites_layout (named_sites names xs))
named_well_formed names xs w level =
    stays_well_formed (sites_layout (named_sites names xs)) (sites_layout xs) (length (named_sites names xs)) (may_at (named_sites names xs))
    (role_stays names xs) (place_stays names xs) w level

pub named_level : (names : ℕ → Option (List ℕ)) (xs : List Site) → WellFormed (sites_layout xs) → ImportsCoverFiles (sites_layout xs) →
    ImportsCoverFiles (sites_layout (named_sites names xs))
named_level names xs w level =
    imports_stay_level (sites_layout (named_sites names xs)) (sites_layout xs) (length (named_sites names xs)) (may_at (named_sites names xs))
    (role_stays names xs) (place_stays names xs) w level

named_apart : (names : ℕ → Option (List ℕ)) (xs : List Site) → HaveOwnPlaces (sites_layout xs) (length xs) →
    HaveOwnPlaces (sites_layout (named_sites names xs)) (length (named_sites names xs))
named_apart names xs h u v less lt identifier same =
    h u v less (subst (λ n. v < n) (named_length names xs) lt) (sym (identifier_stays names xs u) ∙ identifier)
    (sym (place_stays names xs u) ∙ same ∙ place_stays names xs v)

pub named_laid_out : (names : ℕ → Option (List ℕ)) (xs : List Site) → IsLaidOut (sites_layout xs) (length xs) →
    IsLaidOut (sites_layout (named_sites names xs)) (length (named_sites names xs))
named_laid_out names xs h =
    let k = sites_layout (named_sites names xs) in
    let l = sites_layout xs in
    let n = length (named_sites names xs) in
    let P : ℕ → Type 0 = λ size. InPlaceOrder k size in
    record {
      well_formed = named_well_formed names xs h.well_formed h.imports;
      imports = named_level names xs h.well_formed h.imports;
      ordered = follow_blocks_still k l n (may_at (named_sites names xs)) (role_stays names xs) (place_stays names xs) h.well_formed h.imports h.ordered;
      placed = subst P (sym (named_length names xs))
          (follow_places_still k l n (may_at (named_sites names xs)) (role_stays names xs) (place_stays names xs) h.well_formed h.imports (length xs) h.placed);
      apart = named_apart names xs h.apart;
    }

level_role : (r : Role) (f : ℕ) → (may_declare r ≡ true → (start_of r ≡ 0) ⊎ (block_of r ≡ File f → ⊥)) → block_of r ≡ File f → start_of r ≡ 0
level_role Use f h e = refl
level_role (NotLexical p) f h e = refl
level_role (Declaring b s) f h e = elim (h refl) [ inl z ↦ z | inr n ↦ absurd (n e) ]
level_role (LeftName b s) f h e = elim (h refl) [ inl z ↦ z | inr n ↦ absurd (n e) ]
level_role (Implied b s) f h e = elim (h refl) [ inl z ↦ z | inr n ↦ absurd (n e) ]

level_site : (x : Site) (f : ℕ) → From 0 x → block_of x.role ≡ File f → start_of x.role ≡ 0
level_site x f h = level_role x.role f (λ m. elim (h m) [
  | inl flat ↦ inl flat.start
  | inr s ↦ inr (λ e. file_not_inner f s.0 s.1.1.from s.1.1.to (sym e ∙ s.1.1.block))
])

-- the scopes of imports with a name begin at the start of their files
pub package_level : (files : List SpelledFile) → AreNumbered files → ImportsCoverFiles (sites_layout (package_sites files))
package_level files w d f i = level_site (or_blank (slice_get (package_sites files) d)) f
    (each_at (From 0) (λ m. not_may m) (package_sites files) (package_agrees files w).0 d) i

-- the first n identifiers, each with the package's name that `names` gives for its number, and the others as they are
unfoldable pub named_below : (ℕ → Option (List ℕ)) → ℕ → List Site → List Site
named_below names zero xs = xs
named_below names (suc n) [] = []
named_below names (suc n) (x ∷ xs) = named_site (names 0) x ∷ named_below (λ u. names (suc u)) n xs

named_above : (names : ℕ → Option (List ℕ)) (xs : List Site) (u : ℕ) (d : Site) → get_or (named_below names u xs) u d ≡ get_or xs u d
unfolding named_below
named_above names xs zero d = refl
named_above names [] (suc u) d = refl
named_above names (x ∷ xs) (suc u) d = named_above (λ k. names (suc k)) xs u d

named_set : (names : ℕ → Option (List ℕ)) (xs : List Site) (u : ℕ) (d : Site) → u < length xs →
    set (named_below names u xs) u (named_site (names u) (get_or xs u d)) ≡ named_below names (suc u) xs
unfolding named_below
named_set names [] u d lt = absurd (omega arith)
named_set names (x ∷ xs) zero d lt = refl
named_set names (x ∷ xs) (suc u) d lt = ap (λ z. named_site (names 0) x ∷ z) (named_set (λ k. names (suc k)) xs u d (omega arith))

not_named : (b : Bool) (x : Site) → named_where b None x ≡ x
not_named true x = refl
not_named false x = refl

pub named_sized : (names : ℕ → Option (List ℕ)) (n : ℕ) (xs : List Site) → length (named_below names n xs) ≡ length xs
unfolding named_below
named_sized names zero xs = refl
named_sized names (suc n) [] = refl
named_sized names (suc n) (x ∷ xs) = let h : length (named_below (λ u. names (suc u)) n xs) ≡ length xs = named_sized (λ u. names (suc u)) n xs in omega arith

-- the next identifier
pub named_next : (names : ℕ → Option (List ℕ)) (xs old new : List Site) (u : ℕ) (name : Option (List ℕ)) → u < length xs → name ≡ names u →
    NamesSite old new u name → old ≡ named_below names u xs → new ≡ named_below names (u + 1) xs
named_next names xs old new u name lt given s h =
    let d : Site = or_blank None in
    let below = named_below names u xs in
    s.named d ∙ ap (λ z. set z u (named_site name (get_or z u d))) h ∙
    ap (λ y. set below u (named_site name y)) (named_above names xs u d) ∙
    ap (λ n. set below u (named_site n (get_or xs u d))) given ∙ named_set names xs u d lt ∙
    ap (λ k. named_below names k xs) (let e : suc u ≡ u + 1 = omega arith in e)

-- without a name nothing changes
pub names_nothing : (xs : List Site) (u : ℕ) → NamesSite xs xs u None
names_nothing xs u = record {
  named = λ d. sym (set-get_or xs u d) ∙ ap (set xs u) (sym (not_named (is_unnamed_import (get_or xs u d).role) (get_or xs u d)));
}

-- one identifier is named
pub names_one : (old new : List Identifier) (u : ℕ) (before x : Identifier) (name : Option (List ℕ)) → u < length old → before ≡ get_or old u before →
    new ≡ set old u x → site_of x ≡ named_site name (site_of before) → NamesSite (map site_of old) (map site_of new) u name
names_one old new u before x name lt at e is =
    let lm : u < length (map site_of old) = rw length-map lt in
    record {
      named = λ d.
          let same : site_of before ≡ get_or (map site_of old) u d =
          ap site_of at ∙ sym (get_or-map site_of old u before) ∙ get_or_default (map site_of old) u (site_of before) d lm in
          ap (map site_of) e ∙ map-set site_of old u x ∙ ap (set (map site_of old) u) (is ∙ ap (named_site name) same);
    }

pub named_none : (names : ℕ → Option (List ℕ)) (xs : List Site) → named_below names 0 xs ≡ xs
unfolding named_below
named_none names xs = refl

pub named_all : (names : ℕ → Option (List ℕ)) (n : ℕ) (xs : List Site) → length xs ≤ n → named_below names n xs ≡ named_sites names xs
unfolding named_below named_sites
named_all names zero [] le = refl
named_all names zero (x ∷ xs) le = absurd (omega arith)
named_all names (suc n) [] le = refl
named_all names (suc n) (x ∷ xs) le = ap (λ z. named_site (names 0) x ∷ z) (named_all (λ u. names (suc u)) n xs (omega arith))

-- a list of identifiers is laid out as its sites are
pub list_laid_out : (xs : List Identifier) (zs : List Site) → map site_of xs ≡ zs → IsLaidOut (sites_layout zs) (length zs) →
    IsLaidOut (layout_of xs) (length xs)
list_laid_out xs zs e h =
    let S : List Site → Type 0 = λ ys. IsLaidOut (sites_layout ys) (length ys) in
    let L : Layout → Type 0 = λ l. IsLaidOut l (length (map site_of xs)) in
    let N : ℕ → Type 0 = λ n. IsLaidOut (layout_of xs) n in
    subst N (length-map xs site_of) (subst L (sym (layout-sites xs)) (subst S (sym e) h))

pub named_list_laid_out : (names : ℕ → Option (List ℕ)) (xs : List Identifier) (ys : List Site) → map site_of xs ≡ named_sites names ys →
    IsLaidOut (sites_layout ys) (length ys) → IsLaidOut (layout_of xs) (length xs)
named_list_laid_out names xs ys e h = list_laid_out xs (named_sites names ys) e (named_laid_out names ys h)

package_laid_out : (files : List SpelledFile) → AreNumbered files → IsLaidOut (sites_layout (package_sites files)) (length (package_sites files))
package_laid_out files w = record {
  well_formed = package_well_formed files w;
  imports = package_level files w;
  ordered = package_follows_blocks files w;
  placed = package_follows_places files w;
  apart = package_apart files w;
}

pub declared_laid_out : (xs : List Identifier) (files : List SpelledFile) → map site_of xs ≡ package_sites files → AreNumbered files →
    IsLaidOut (layout_of xs) (length xs)
declared_laid_out xs files e w = list_laid_out xs (package_sites files) e (package_laid_out files w)
