-- Identifiers that stand at rising tokens stand in order.
use Rattle.std.proofs.Common.{ℕ, zero, suc, ◌≡◌, ◌<◌, ◌≤◌, inl, inr, List, [], ◌∷◌, ◌++◌, Option, Bool, true, false, length, map, ap, sym, ◌∙◌}
use Rattle.std.proofs.Common.{refl, subst, arith}
use Rattle.std.specs.Prelude.{slice_get, cond}
use Rattle.std.proofs.lemmas.Bool.{cases_lt, cond_both, true≢false}
use Rattle.std.proofs.lemmas.List.Elements.{All-head, All-tail}
use Rattle.go_ast.specs.declared.syntax.Token.{Token}
use Rattle.go_ast.specs.Flatten.{flatten}
use Rattle.go_scope.specs.declared.model.Position.{Position}
use Rattle.go_scope.specs.Bindings.{Layout, is_implied}
use Rattle.go_scope.specs.FileSites.{SpelledFile, file_sites, files_sites, universe, universe_site, package_sites}
use Rattle.go_scope.specs.Named.{named_sites, with_names}
use Rattle.go_scope.specs.Packages.{ScopedPackage, layout_in}
use Rattle.go_scope.specs.Site.{Site, TokenSpellings, or_blank, sites_layout}
use Rattle.go_scope.specs.Table.{LiesAt}
use Rattle.go_scope.specs.Trees.{AreRising, IsNumbered, AreNumbered}
use Rattle.go_scope.proofs.NamedSites.{identifier_stays, place_stays}
use Rattle.law_tokens.specs.Order.{ComesBefore, StandInOrder}
use Rattle.go_scope.specs.IdentifierTokens.{is_ident_token, is_header_name}
use Rattle.law_tokens.specs.Tokens.{begins_declaration, names_among, identifiers_among}
use Rattle.law_tokens.proofs.Covering.{Pairs, file_pairs}

-- identifiers of one file, each behind the one before, the first at that token or behind it
abbrev RisesFrom : (r n : ℕ) → List Site → Type 0
RisesFrom r n [] = Unit {0}
RisesFrom r n (x ∷ xs) = (x.place.file ≡ r) × (n ≤ x.place.index) × RisesFrom r (suc x.place.index) xs

from_before : (r n k : ℕ) (xs : List Site) → n ≤ k → RisesFrom r k xs → RisesFrom r n xs
from_before r n k [] le h = tt
from_before r n k (x ∷ xs) le h = (h.0, (let at : k ≤ x.place.index = h.1 in omega arith), h.2)

-- the identifiers among tokens are numbered as these are

pub rising_from : (n k : ℕ) (ts : List Token) → n ≤ k → AreRising k ts → AreRising n ts
rising_from n k [] le h = tt
rising_from n k (t ∷ ts) le h = ((let at : k ≤ t.place = h.0 in omega arith), h.1)

pub rising_kept : (b : Bool) (n : ℕ) (t : Token) (ts : List Token) → n ≤ t.place → AreRising (suc t.place) ts → AreRising n (cond b (t ∷ ts) ts)
rising_kept true n t ts le h = (le, h)
rising_kept false n t ts le h = rising_from n (suc t.place) ts (omega arith) h

pub rising_names : (n : ℕ) (ts : List Token) → AreRising n ts → AreRising n (names_among ts)
rising_names n [] h = tt
rising_names n (t ∷ ts) h = rising_kept (is_ident_token t.kind) n t (names_among ts) h.0 (rising_names (suc t.place) ts h.1)

pub rising_identifiers : (n : ℕ) (ts : List Token) → AreRising n ts → AreRising n (identifiers_among ts)
unfolding identifiers_among
rising_identifiers n [] h = tt
rising_identifiers n (t ∷ ts) h =
    cond_both (begins_declaration t.kind) (names_among ts) (cond (is_header_name t.kind) (t ∷ identifiers_among ts) (identifiers_among ts)) (λ l. AreRising n l)
    (λ e. rising_from n (suc t.place) (names_among ts) (let le : n ≤ t.place = h.0 in omega arith) (rising_names (suc t.place) ts h.1))
    (λ e. rising_kept (is_header_name t.kind) n t (identifiers_among ts) h.0 (rising_identifiers (suc t.place) ts h.1))

rises : (s : TokenSpellings) (n : ℕ) (xs : List Site) (ts : List Token) → Pairs s xs ts → AreRising n ts → RisesFrom s.rank n xs
rises s n [] [] p h = tt
rises s n [] (t ∷ ts) p h = absurd p
rises s n (x ∷ xs) [] p h = absurd p
rises s n (x ∷ xs) (t ∷ ts) p h =
    let at : x.place.index ≡ t.place = ap (λ (y : Site). y.place.index) p.1 in (
      ap (λ (y : Site). y.place.file) p.1,
      (let le : n ≤ t.place = h.0 in omega arith),
      from_before s.rank (suc x.place.index) (suc t.place) xs
          (omega arith) (rises s (suc t.place) xs ts p.2 h.1),
    )

-- all stand behind a position
abbrev AllBehind : Position → List Site → Type 0
AllBehind a [] = Unit {0}
AllBehind a (x ∷ xs) = ComesBefore a x.place × AllBehind a xs

-- each identifier stands before all that follow
abbrev InOrder : List Site → Type 0
InOrder [] = Unit {0}
InOrder (x ∷ xs) = (is_implied x.role ≡ false → AllBehind x.place xs) × InOrder xs

behind : (a : Position) (r n : ℕ) (xs : List Site) → a.file ≡ r → a.index < n → RisesFrom r n xs → AllBehind a xs
behind a r n [] e lt h = tt
behind a r n (x ∷ xs) e lt h =
    let at : n ≤ x.place.index = h.1 in
    (inr (e ∙ sym h.0, omega arith), behind a r (suc x.place.index) xs e (omega arith) h.2)

-- identifiers of files from a rank on
abbrev AllFrom : ℕ → List Site → Type 0
AllFrom r [] = Unit {0}
AllFrom r (x ∷ xs) = (r ≤ x.place.file) × AllFrom r xs

later_behind : (a : Position) (r : ℕ) (xs : List Site) → a.file < r → AllFrom r xs → AllBehind a xs
later_behind a r [] lt h = tt
later_behind a r (x ∷ xs) lt h = (inl (let le : r ≤ x.place.file = h.0 in omega arith), later_behind a r xs lt h.1)

behind_append : (a : Position) (xs ys : List Site) → AllBehind a xs → AllBehind a ys → AllBehind a (xs ++ ys)
behind_append a [] ys h k = k
behind_append a (x ∷ xs) ys h k = (h.0, behind_append a xs ys h.1 k)

file_then : (r n : ℕ) (xs ys : List Site) → RisesFrom r n xs → AllFrom (suc r) ys → InOrder ys → InOrder (xs ++ ys)
file_then r n [] ys h k o = o
file_then r n (x ∷ xs) ys h k o =
    let file : x.place.file ≡ r = h.0 in (
      (λ i. behind_append x.place xs ys (behind x.place r (suc x.place.index) xs h.0 (omega arith) h.2)
          (later_behind x.place (suc r) ys (omega arith) k)),
      file_then r (suc x.place.index) xs ys h.2 k o,
    )

from_append : (r n : ℕ) (xs ys : List Site) → RisesFrom r n xs → AllFrom (suc r) ys → AllFrom r (xs ++ ys)
from_append r n [] ys h k = from_lower r ys k
  where
    from_lower : (q : ℕ) (zs : List Site) → AllFrom (suc q) zs → AllFrom q zs
    from_lower q [] m = tt
    from_lower q (z ∷ zs) m = ((let le : suc q ≤ z.place.file = m.0 in omega arith), from_lower q zs m.1)
from_append r n (x ∷ xs) ys h k = ((let e : x.place.file ≡ r = h.0 in omega arith), from_append r (suc x.place.index) xs ys h.2 k)

files_ordered : (rank : ℕ) (fs : List SpelledFile) → AreNumbered fs → InOrder (files_sites rank fs) × AllFrom rank (files_sites rank fs)
unfolding files_sites
files_ordered rank [] h = (tt, tt)
files_ordered rank (f ∷ fs) h =
    let head : IsNumbered f = All-head IsNumbered f fs h in
    let s : TokenSpellings = record { rank = rank; spell = f.spell } in
    let first = rises s 0 (file_sites s f.tree) (identifiers_among (flatten f.tree)) (file_pairs s f.tree)
    (rising_identifiers 0 (flatten f.tree) head.rising) in
    let rest = files_ordered (suc rank) fs (All-tail IsNumbered f fs h) in (
      file_then rank 0 (file_sites s f.tree) (files_sites (suc rank) fs) first rest.1 rest.0,
      from_append rank 0 (file_sites s f.tree)
          (files_sites (suc rank) fs) first rest.1,
    )

-- the predeclared names stand nowhere
names_first : (names : List (List ℕ)) (ys : List Site) → InOrder ys → InOrder (map universe_site names ++ ys)
names_first [] ys h = h
names_first (n ∷ names) ys h = ((λ i. absurd (true≢false i)), names_first names ys h)

-- by numbers

behind_at : (a : Position) (xs : List Site) (v : ℕ) → v < length xs → AllBehind a xs → ComesBefore a (or_blank (slice_get xs v)).place
behind_at a [] v lt h = absurd (omega arith)
behind_at a (x ∷ xs) zero lt h = h.0
behind_at a (x ∷ xs) (suc v) lt h = behind_at a xs v (omega arith) h.1

before_at : (xs : List Site) (u v : ℕ) → u < v → v < length xs → is_implied (or_blank (slice_get xs u)).role ≡ false → InOrder xs →
    ComesBefore (or_blank (slice_get xs u)).place (or_blank (slice_get xs v)).place
before_at [] u v less lt i h = absurd (omega arith)
before_at (x ∷ xs) u zero less lt i h = absurd (omega arith)
before_at (x ∷ xs) zero (suc v) less lt i h = behind_at x.place xs v (omega arith) (h.0 i)
before_at (x ∷ xs) (suc u) (suc v) less lt i h = before_at xs u v (omega arith) (omega arith) i h.1

pub package_ordered : (fs : List SpelledFile) → AreNumbered fs → StandInOrder (sites_layout (package_sites fs)) (length (package_sites fs))
unfolding package_sites
package_ordered fs h = λ u v less lt i j. before_at (map universe_site universe ++ files_sites 0 fs) u v less lt i
    (names_first universe (files_sites 0 fs) (files_ordered 0 fs h).0)

-- where imports without a name declare

pub same_length : (names : ℕ → Option (List ℕ)) (xs : List Site) → length (named_sites names xs) ≡ length xs
unfolding named_sites
same_length names [] = refl
same_length names (x ∷ xs) =
    let h : length (named_sites (λ k. names (suc k)) xs) ≡ length xs = same_length (λ k. names (suc k)) xs in omega arith

pub named_ordered : (names : ℕ → Option (List ℕ)) (p : ScopedPackage) → StandInOrder (layout_in p) (length p.sites) →
    StandInOrder (layout_in (with_names names p)) (length (with_names names p).sites)
named_ordered names p h = λ u v less lt i j.
    let plain = h u v less (subst (λ n. v < n) (same_length names p.sites) lt) (sym (identifier_stays names p.sites u) ∙ i)
    (sym (identifier_stays names p.sites v) ∙ j) in
    subst (λ a. ComesBefore a (or_blank (slice_get (named_sites names p.sites) v)).place) (sym (place_stays names p.sites u))
    (subst (λ b. ComesBefore (or_blank (slice_get p.sites u)).place b) (sym (place_stays names p.sites v)) plain)

-- one at most stands at a token

not_before : (a b at : Position) → (a.file ≡ at.file) × (a.index ≡ at.index) → (b.file ≡ at.file) × (b.index ≡ at.index) → ComesBefore a b → ⊥
not_before a b at h k before =
    let fa : a.file ≡ at.file = h.0 in
    let ia : a.index ≡ at.index = h.1 in
    let fb : b.file ≡ at.file = k.0 in
    let ib : b.index ≡ at.index = k.1 in
    elim before [ inl lt ↦ omega arith | inr e ↦ let lt : a.index < b.index = e.1 in omega arith ]

pub one_stands : (l : Layout) (size : ℕ) → StandInOrder l size → (at : Position) (u v : ℕ) → u < size → v < size → LiesAt l at u → LiesAt l at v → u ≡ v
one_stands l size ordered at u v lu lv h k = elim (cases_lt u v) [
  | inl less ↦ absurd (not_before (l.place u) (l.place v) at (h.1, h.2) (k.1, k.2) (ordered u v less lv h.0 k.0))
  | inr ge ↦ elim (cases_lt v u) [
    | inl less ↦ absurd (not_before (l.place v) (l.place u) at (k.1, k.2) (h.1, h.2) (ordered v u less lu k.0 h.0))
    | inr le ↦ omega arith
  ]
]
