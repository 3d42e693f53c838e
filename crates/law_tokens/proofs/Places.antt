-- An identifier of a package stands at each identifier among the tokens of its files, and at no other token.
use Rattle.std.proofs.Common.{ℕ, zero, suc, ◌≡◌, ◌+◌, ◌<◌, ◌⊎◌, inl, inr, List, [], ◌∷◌, ◌++◌, false, length, map, ap, sym, ◌∙◌, refl, subst, arith}
use Rattle.std.specs.Prelude.{Contains, slice_index_or, Option, Some, slice_get, ◌↔◌}
use Rattle.std.proofs.lemmas.Bool.{true≢false}
use Rattle.std.proofs.lemmas.List.Elements.{All-head, All-tail, Contains-append_right}
use Rattle.std.proofs.lemmas.Option.{none-some, same_Some}
use Rattle.go_ast.specs.declared.syntax.Token.{Token}
use Rattle.go_ast.specs.FileView.{file_view}
use Rattle.go_ast.specs.Kinds.{kinds_of}
use Rattle.go_ast.specs.SourceFile.{FileParts, IsSourceFile, source_of, spelling_of}
use Rattle.go_scope.specs.declared.model.Position.{Position}
use Rattle.go_scope.specs.Bindings.{is_implied}
use Rattle.go_scope.specs.FileSites.{file_sites, files_sites, universe, universe_site, package_sites}
use Rattle.go_scope.specs.Named.{with_names}
use Rattle.go_scope.specs.SpelledFiles.{spelled_file}
use Rattle.go_scope.specs.Packages.{ScopedPackage, scoped, layout_in}
use Rattle.go_scope.specs.Site.{Site, TokenSpellings, sites_layout}
use Rattle.go_scope.specs.Table.{LiesAt}
use Rattle.go_scope.proofs.NamedSites.{identifier_stays, place_stays}
use Rattle.law_tokens.specs.Tokens.{identifiers_among}
use Rattle.law_tokens.specs.Covered.{IsIdentifierPlace, HasIdentifierAt, AreSourceFiles}
use Rattle.law_tokens.proofs.Covering.{Pairs, file_pairs}
use Rattle.law_tokens.proofs.Ordered.{same_length}

-- one of some identifiers stands at a place

abbrev Stands : Position → List Site → Type 0
Stands at [] = ⊥
Stands at (x ∷ xs) = ((is_implied x.role ≡ false) × (x.place.file ≡ at.file) × (x.place.index ≡ at.index)) ⊎ Stands at xs

number_of : (at : Position) (xs : List Site) → Stands at xs → HasIdentifierAt (sites_layout xs) (length xs) at
number_of at [] h = absurd h
number_of at (x ∷ xs) h = elim h [
  | inl here ↦ (zero, (omega arith, here))
  | inr rest ↦
      (let n = number_of at xs rest in (suc n.0, (omega (arith, n.1.0), n.1.1)))
]

numbered : (at : Position) (xs : List Site) (u : ℕ) → u < length xs → LiesAt (sites_layout xs) at u → Stands at xs
numbered at [] u lt h = absurd (omega arith)
numbered at (x ∷ xs) zero lt h = inl h
numbered at (x ∷ xs) (suc u) lt h = inr (numbered at xs u (omega arith) h)

stands_left : (at : Position) (xs ys : List Site) → Stands at xs → Stands at (xs ++ ys)
stands_left at [] ys h = absurd h
stands_left at (x ∷ xs) ys h = elim h [ inl here ↦ inl here | inr rest ↦ inr (stands_left at xs ys rest) ]

stands_right : (at : Position) (xs ys : List Site) → Stands at ys → Stands at (xs ++ ys)
stands_right at [] ys h = h
stands_right at (x ∷ xs) ys h = inr (stands_right at xs ys h)

stands_either : (at : Position) (xs ys : List Site) → Stands at (xs ++ ys) → Stands at xs ⊎ Stands at ys
stands_either at [] ys h = inr h
stands_either at (x ∷ xs) ys h = elim h [
  | inl here ↦ inl (inl here)
  | inr rest ↦ elim (stands_either at xs ys rest) [ inl l ↦ inl (inr l) | inr r ↦ inr r ]
]

-- the predeclared names stand nowhere
none_predeclared : (at : Position) (names : List (List ℕ)) → Stands at (map universe_site names) → ⊥
none_predeclared at [] h = h
none_predeclared at (n ∷ names) h = elim h [ inl here ↦ true≢false here.0 | inr rest ↦ none_predeclared at names rest ]

-- one of some tokens has a number

abbrev pub Marks : ℕ → List Token → Type 0
Marks i [] = ⊥
Marks i (t ∷ ts) = (t.place ≡ i) ⊎ Marks i ts

pub marked : (i : ℕ) (ts : List Token) (k : ℕ) (t : Token) → k < length ts → slice_index_or ts k t ≡ t → t.place ≡ i → Marks i ts
marked i [] k t lt e at = absurd (omega arith)
marked i (u ∷ us) zero t lt e at = inl (ap (λ (x : Token). x.place) e ∙ at)
marked i (u ∷ us) (suc k) t lt e at = inr (marked i us k t (omega arith) e at)

mark_of : (i : ℕ) (ts : List Token) → Marks i ts → (t : Token) × (Contains ts t × (t.place ≡ i))
mark_of i [] h = absurd h
mark_of i (u ∷ us) h = elim h [
  | inl at ↦ (u, ((zero, omega arith, refl), at))
  | inr rest ↦ (let m = mark_of i us rest in (m.0, (Contains-append_right (u ∷ []) us m.0 m.1.0, m.1.1)))
]

pair_stands : (s : TokenSpellings) (xs : List Site) (ts : List Token) → Pairs s xs ts → (at : Position) → at.file ≡ s.rank → Marks at.index ts → Stands at xs
pair_stands s [] [] p at f h = absurd h
pair_stands s [] (t ∷ ts) p at f h = absurd p
pair_stands s (x ∷ xs) [] p at f h = absurd p
pair_stands s (x ∷ xs) (t ∷ ts) p at f h = elim h [
  | inl here ↦ inl (p.0, ap (λ (y : Site). y.place.file) p.1 ∙ sym f, ap (λ (y : Site). y.place.index) p.1 ∙ here)
  | inr rest ↦ inr (pair_stands s xs ts p.2 at f rest)
]

pair_marks : (s : TokenSpellings) (xs : List Site) (ts : List Token) → Pairs s xs ts → (at : Position) → Stands at xs → (at.file ≡ s.rank) × Marks at.index ts
pair_marks s [] [] p at h = absurd h
pair_marks s [] (t ∷ ts) p at h = absurd p
pair_marks s (x ∷ xs) [] p at h = absurd p
pair_marks s (x ∷ xs) (t ∷ ts) p at h = elim h [
  | inl here ↦ (sym here.1 ∙ ap (λ (y : Site). y.place.file) p.1, inl (sym (ap (λ (y : Site). y.place.index) p.1) ∙ here.2))
  | inr rest ↦ (let m = pair_marks s xs ts p.2 at rest in (m.0, inr m.1))
]

-- a token of one of the files from a rank on is an identifier

abbrev MarksIn : ℕ → List FileParts → Position → Type 0
MarksIn rank [] at = ⊥
MarksIn rank (f ∷ fs) at = ((at.file ≡ rank) × Marks at.index (identifiers_among (kinds_of f.cut))) ⊎ MarksIn (suc rank) fs at

abbrev source_at : ℕ → FileParts → TokenSpellings
source_at rank f = record { rank = rank; spell = spelling_of (source_of f) }

file_tokens : (rank : ℕ) (f : FileParts) → IsSourceFile (source_of f) →
    Pairs (source_at rank f) (file_sites (source_at rank f) (file_view f.file)) (identifiers_among (kinds_of f.cut))
file_tokens rank f h =
    let s = source_at rank f in
    subst (λ ts. Pairs s (file_sites s (file_view f.file)) (identifiers_among ts)) h.is_tree.written (file_pairs s (file_view f.file))

files_stand : (rank : ℕ) (fs : List FileParts) → AreSourceFiles fs → (at : Position) → MarksIn rank fs at → Stands at (files_sites rank (map spelled_file fs))
unfolding files_sites
files_stand rank [] w at h = absurd h
files_stand rank (f ∷ fs) w at h =
    let s = source_at rank f in
    let own = file_sites s (file_view f.file) in
    let others = files_sites (suc rank) (map spelled_file fs) in
    elim h [
      | inl here ↦ stands_left at own others
          (pair_stands s own (identifiers_among (kinds_of f.cut))
          (file_tokens rank f (All-head (λ (g : FileParts). IsSourceFile (source_of g)) f fs w)) at here.0 here.1)
      | inr rest ↦ stands_right at own others (files_stand (suc rank) fs (All-tail (λ (g : FileParts). IsSourceFile (source_of g)) f fs w) at rest)
    ]

files_mark : (rank : ℕ) (fs : List FileParts) → AreSourceFiles fs → (at : Position) → Stands at (files_sites rank (map spelled_file fs)) → MarksIn rank fs at
unfolding files_sites
files_mark rank [] w at h = absurd h
files_mark rank (f ∷ fs) w at h =
    let s = source_at rank f in
    let own = file_sites s (file_view f.file) in
    let others = files_sites (suc rank) (map spelled_file fs) in
    elim (stands_either at own others h) [
      | inl here ↦ inl (pair_marks s own (identifiers_among (kinds_of f.cut))
          (file_tokens rank f (All-head (λ (g : FileParts). IsSourceFile (source_of g)) f fs w)) at here)
      | inr rest ↦ inr (files_mark (suc rank) fs (All-tail (λ (g : FileParts). IsSourceFile (source_of g)) f fs w) at rest)
    ]

rank_of : (rank : ℕ) (fs : List FileParts) (at : Position) → MarksIn rank fs at →
    (k : ℕ) × ((f : FileParts) × ((rank + k ≡ at.file) × ((slice_get fs k ≡ Some f) × Marks at.index (identifiers_among (kinds_of f.cut)))))
rank_of rank [] at h = absurd h
rank_of rank (f ∷ fs) at h = elim h [
  | inl here ↦ (let e : at.file ≡ rank = here.0 in (zero, (f, (omega arith, (refl, here.1)))))
  | inr rest ↦ (let r = rank_of (suc rank) fs at rest in let e : suc rank + r.0 ≡ at.file = r.1.1.0 in
      (suc r.0, (r.1.0, (omega arith, (r.1.1.1.0, r.1.1.1.1)))))
]

ranked : (rank : ℕ) (fs : List FileParts) (k : ℕ) (f : FileParts) (at : Position) → slice_get fs k ≡ Some f → rank + k ≡ at.file →
    Marks at.index (identifiers_among (kinds_of f.cut)) → MarksIn rank fs at
ranked rank [] k f at is e h = absurd (none-some f is)
ranked rank (g ∷ gs) zero f at is e h =
    inl ((omega arith), subst (λ (x : FileParts). Marks at.index (identifiers_among (kinds_of x.cut))) (sym (same_Some g f is)) h)
ranked rank (g ∷ gs) (suc k) f at is e h = inr (ranked (suc rank) gs k f at is (omega arith) h)

pub place_has_one : (files : List FileParts) → AreSourceFiles files → (at : Position) → IsIdentifierPlace files at →
    HasIdentifierAt (layout_in (scoped files)) (length (scoped files).sites) at
unfolding package_sites
place_has_one files w at h =
    let token = h.is_identifier in
    let marks : Marks at.index (identifiers_among (kinds_of h.file.cut)) =
    marked at.index (identifiers_among (kinds_of h.file.cut)) token.0 h.token token.1 token.2 h.stands in
    let among : MarksIn 0 files at = ranked 0 files at.file h.file at h.of_rank (omega arith) marks in
    number_of at (map universe_site universe ++ files_sites 0 (map spelled_file files))
    (stands_right at (map universe_site universe) (files_sites 0 (map spelled_file files)) (files_stand 0 files w at among))

place_by_marks : (files : List FileParts) (at : Position) → MarksIn 0 files at → IsIdentifierPlace files at
place_by_marks files at among =
    let r = rank_of 0 files at among in
    let same : r.0 ≡ at.file = (let e : 0 + r.0 ≡ at.file = r.1.1.0 in omega arith) in
    let token = mark_of at.index (identifiers_among (kinds_of r.1.0.cut)) r.1.1.1.1 in
    record {
      file = r.1.0;
      of_rank = subst (λ k. slice_get files k ≡ Some r.1.0) same r.1.1.1.0;
      token = token.0;
      is_identifier = token.1.0;
      stands = token.1.1;
    }

pub one_has_place : (files : List FileParts) → AreSourceFiles files → (at : Position) →
    HasIdentifierAt (layout_in (scoped files)) (length (scoped files).sites) at → IsIdentifierPlace files at
unfolding package_sites
one_has_place files w at h =
    let others = files_sites 0 (map spelled_file files) in
    elim (stands_either at (map universe_site universe) others (numbered at (map universe_site universe ++ others) h.0 h.1.0 h.1.1)) [
      | inl none ↦ absurd (none_predeclared at universe none)
      | inr found ↦ place_by_marks files at (files_mark 0 files w at found)
    ]

-- where imports without a name declare, identifiers stand where they did

pub named_stands : (names : ℕ → Option (List ℕ)) (p : ScopedPackage) (at : Position) (u : ℕ) → LiesAt (layout_in p) at u →
    LiesAt (layout_in (with_names names p)) at u
named_stands names p at u h =
    let place = place_stays names p.sites u in
    (identifier_stays names p.sites u ∙ h.0, ap (λ (a : Position). a.file) place ∙ h.1, ap (λ (a : Position). a.index) place ∙ h.2)

pub plainly_stands : (names : ℕ → Option (List ℕ)) (p : ScopedPackage) (at : Position) (u : ℕ) → LiesAt (layout_in (with_names names p)) at u →
    LiesAt (layout_in p) at u
plainly_stands names p at u h =
    let place = place_stays names p.sites u in
    (sym (identifier_stays names p.sites u) ∙ h.0, sym (ap (λ (a : Position). a.file) place) ∙ h.1, sym (ap (λ (a : Position). a.index) place) ∙ h.2)

pub named_has_one : (names : ℕ → Option (List ℕ)) (p : ScopedPackage) (at : Position) →
    HasIdentifierAt (layout_in p) (length p.sites) at ↔ HasIdentifierAt (layout_in (with_names names p)) (length (with_names names p).sites) at
named_has_one names p at = (
  (λ h. (h.0, (subst (λ n. h.0 < n) (sym (same_length names p.sites)) h.1.0, named_stands names p at h.0 h.1.1))),
  (λ h. (h.0, (subst (λ n. h.0 < n) (same_length names p.sites) h.1.0, plainly_stands names p at h.0 h.1.1))),
)
