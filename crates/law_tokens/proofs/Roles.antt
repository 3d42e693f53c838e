-- The roles of identifiers that the tokens next to them decide.
use Rattle.std.proofs.Common.{ℕ, zero, suc, ◌≡◌, ◌+◌, ◌<◌, ◌↔◌, inl, inr, List, [], ◌∷◌, ◌++◌, Bool, true, false, length, map, ap, sym, ◌∙◌, refl, subst, arith}
use Rattle.std.specs.Prelude.{Option, Some, None, slice_get}
use Rattle.std.specs.List.{AllByRecursion}
use Rattle.std.proofs.lemmas.Bool.{true≢false}
use Rattle.std.proofs.lemmas.List.Elements.{All-head, All-tail}
use Rattle.std.proofs.lemmas.Option.{none-some, same_Some}
use Rattle.base_lemmas.proofs.EachElement.{all_append}
use Rattle.go_scanner.specs.declared.piece.Piece.{Piece}
use Rattle.go_scanner.specs.CutText.{CutText, tokens_in}
use Rattle.go_ast.specs.declared.syntax.Kind.{Kind}
use Rattle.go_ast.specs.declared.syntax.Kind.TheVariants as kind
use Rattle.go_ast.specs.declared.syntax.Token.{Token}
use Rattle.go_ast.specs.Flatten.{flatten}
use Rattle.go_ast.specs.FileView.{file_view}
use Rattle.go_ast.specs.Kinds.{kinds_from, kinds_of}
use Rattle.go_ast.specs.SourceFile.{FileParts, IsSourceFile, source_of, spelling_of}
use Rattle.go_scope.specs.declared.model.Position.{Position}
use Rattle.go_scope.specs.declared.model.Block.TheVariants.{File}
use Rattle.go_scope.specs.declared.model.Purpose.{Purpose}
use Rattle.go_scope.specs.declared.model.Purpose.TheVariants as purpose
use Rattle.go_scope.specs.declared.model.Role.{Role}
use Rattle.go_scope.specs.declared.model.Role.TheVariants.{Declaring, NotLexical}
use Rattle.go_scope.specs.Bindings.{IsIdentifier, is_implied}
use Rattle.go_scope.specs.FileSites.{file_sites, files_sites, universe, universe_site, package_sites}
use Rattle.go_scope.specs.Named.{is_unnamed_import, named_where, named_sites, with_names}
use Rattle.go_scope.specs.SpelledFiles.{spelled_file}
use Rattle.go_scope.specs.Packages.{scoped, layout_in}
use Rattle.go_scope.specs.Site.{Site, TokenSpellings, or_blank}
use Rattle.go_scope.proofs.NamedSites.{identifier_stays, place_stays}
use Rattle.law_tokens.specs.Covered.{AreSourceFiles}
use Rattle.law_tokens.specs.Roles.{IsOfKind, FitsTokens}
use Rattle.law_tokens.specs.Tokens.{identifiers_among}
use Rattle.law_tokens.proofs.Covering.{file_pairs}
use Rattle.law_tokens.proofs.FileIdentifiers.{paired_files}
use Rattle.law_tokens.proofs.Links.{AreConsecutive, HasKind, Told, ToldIn, file_told}
use Rattle.law_tokens.proofs.Ordered.{same_length}

-- the tokens of a cut are numbered one by one
pub consecutive : (n : ℕ) (text : List ℕ) (ps : List Piece) → AreConsecutive n (kinds_from n text ps)
unfolding kinds_from
consecutive n text [] = tt
consecutive n text (p ∷ ps) = (
  refl,
  subst (λ k. AreConsecutive k (kinds_from (n + 1) text ps)) (let e : n + 1 ≡ suc n = omega arith in e)
      (consecutive (n + 1) text ps),
)

kind_at : (n : ℕ) (ts : List Token) → AreConsecutive n ts → (k : Kind) (i : ℕ) → HasKind k i ts → (j : ℕ) ×
    ((n + j ≡ i) × ((t : Token) × ((slice_get ts j ≡ Some t) × (t.kind ≡ k))))
kind_at n [] w k i h = absurd h
kind_at n (t ∷ ts) w k i h = elim h [
  | inl here ↦ (let e : t.place ≡ i = here.0 in let f : t.place ≡ n = w.0 in (zero, ((omega arith), (t, (refl, here.1)))))
  | inr rest ↦ (let r = kind_at (suc n) ts w.1 k i rest in let e : suc n + r.0 ≡ i = r.1.0 in (suc r.0, ((omega arith), r.1.1)))
]

has_kind : (n : ℕ) (ts : List Token) → AreConsecutive n ts → (k : Kind) (j i : ℕ) → n + j ≡ i → (t : Token) → slice_get ts j ≡ Some t → t.kind ≡ k →
    HasKind k i ts
has_kind n [] w k j i at t is e = absurd (none-some t is)
has_kind n (u ∷ us) w k zero i at t is e = let f : u.place ≡ n = w.0 in inl ((omega arith), ap (λ (x : Token). x.kind) (same_Some u t is) ∙ e)
has_kind n (u ∷ us) w k (suc j) i at t is e = inr (has_kind (suc n) us w.1 k j i (omega arith) t is e)

pub of_kind : (c : CutText) (k : Kind) (i : ℕ) → HasKind k i (kinds_of c) → IsOfKind c i k
of_kind c k i h =
    let r = kind_at 0 (kinds_of c) (consecutive 0 c.text (tokens_in c)) k i h in
    let same : r.0 ≡ i = (let e : 0 + r.0 ≡ i = r.1.0 in omega arith) in
    (r.1.1.0, (subst (λ j. slice_get (kinds_of c) j ≡ Some r.1.1.0) same r.1.1.1.0, r.1.1.1.1))

pub by_kind : (c : CutText) (k : Kind) (i : ℕ) → IsOfKind c i k → HasKind k i (kinds_of c)
by_kind c k i h = has_kind 0 (kinds_of c) (consecutive 0 c.text (tokens_in c)) k i i (omega arith) h.0 h.1.0 h.1.1

told_by_tokens : (c : CutText) (index : ℕ) (role : Role) → Told (kinds_of c) index role → FitsTokens c index role
told_by_tokens c index role h = record {
  selected = (
    (λ e. let d = h.dotted e in (d.0, (d.1.0, of_kind c kind.Dot d.0 d.1.1))),
    (λ q. h.by_dot q.0 q.1.0 (by_kind c kind.Dot q.0 q.1.1)),
  );
  key = (
    (λ e. of_kind c kind.Colon (suc index) (h.keyed e)),
    (λ q. h.by_colon (by_kind c kind.Colon (suc index) q)),
  );
}

-- the identifiers of files from a rank on, each by its own file

abbrev ToldByFile : ℕ → List FileParts → Site → Type 0
ToldByFile rank fs x = (k : ℕ) × ((f : FileParts) × ((rank + k ≡ x.place.file) × ((slice_get fs k ≡ Some f) × ToldIn (kinds_of f.cut) x)))

own_file : (rank : ℕ) (f : FileParts) (fs : List FileParts) (xs : List Site) → AllByRecursion (λ (x : Site). x.place.file ≡ rank) xs →
    AllByRecursion (ToldIn (kinds_of f.cut)) xs →
    AllByRecursion (ToldByFile rank (f ∷ fs)) xs
own_file rank f fs [] a b = tt
own_file rank f fs (x ∷ xs) a b = let e : x.place.file ≡ rank = a.0 in ((zero, (f, ((omega arith), (refl, b.0)))), own_file rank f fs xs a.1 b.1)

later_file : (rank : ℕ) (f : FileParts) (fs : List FileParts) (xs : List Site) → AllByRecursion (ToldByFile (suc rank) fs) xs →
    AllByRecursion (ToldByFile rank (f ∷ fs)) xs
later_file rank f fs [] a = tt
later_file rank f fs (x ∷ xs) a =
    let h = a.0 in
    let e : suc rank + h.0 ≡ x.place.file = h.1.1.0 in
    ((suc h.0, (h.1.0, ((omega arith), h.1.1.1))), later_file rank f fs xs a.1)

files_told : (rank : ℕ) (fs : List FileParts) → AreSourceFiles fs → AllByRecursion (ToldByFile rank fs) (files_sites rank (map spelled_file fs))
unfolding files_sites
files_told rank [] w = tt
files_told rank (f ∷ fs) w =
    let s : TokenSpellings = record { rank = rank; spell = spelling_of (source_of f) } in
    let tree = file_view f.file in
    let is : IsSourceFile (source_of f) = All-head (λ (g : FileParts). IsSourceFile (source_of g)) f fs w in
    let numbered : AreConsecutive 0 (flatten tree) = subst (λ ts. AreConsecutive 0 ts) (sym is.is_tree.written) (consecutive 0 f.cut.text (tokens_in f.cut)) in
    let told : AllByRecursion (ToldIn (kinds_of f.cut)) (file_sites s tree) =
    subst (λ ts. AllByRecursion (ToldIn ts) (file_sites s tree)) is.is_tree.written (file_told s tree numbered) in
    all_append (ToldByFile rank (f ∷ fs)) (file_sites s tree) (files_sites (suc rank) (map spelled_file fs))
    (own_file rank f fs (file_sites s tree) (paired_files s (file_sites s tree) (identifiers_among (flatten tree)) (file_pairs s tree)) told)
    (later_file rank f fs (files_sites (suc rank) (map spelled_file fs))
    (files_told (suc rank) fs (All-tail (λ (g : FileParts). IsSourceFile (source_of g)) f fs w)))

-- by numbers

abbrev ToldIfFound : List FileParts → Site → Type 0
ToldIfFound files x = is_implied x.role ≡ false → ToldByFile 0 files x

found_told : (files : List FileParts) (xs : List Site) → AllByRecursion (ToldByFile 0 files) xs → AllByRecursion (ToldIfFound files) xs
found_told files [] a = tt
found_told files (x ∷ xs) a = ((λ i. a.0), found_told files xs a.1)

universe_told : (files : List FileParts) (names : List (List ℕ)) → AllByRecursion (ToldIfFound files) (map universe_site names)
universe_told files [] = tt
universe_told files (n ∷ names) = ((λ i. absurd (true≢false i)), universe_told files names)

at_number : (P : Site → Type 0) (xs : List Site) → AllByRecursion P xs → (u : ℕ) → u < length xs → P (or_blank (slice_get xs u))
at_number P [] a u lt = absurd (omega arith)
at_number P (x ∷ xs) a zero lt = a.0
at_number P (x ∷ xs) a (suc u) lt = at_number P xs a.1 u (omega arith)

by_file : (files : List FileParts) (x : Site) → ToldByFile 0 files x → (f : FileParts) → slice_get files x.place.file ≡ Some f →
    FitsTokens f.cut x.place.index x.role
by_file files x h f is =
    let rank : h.0 ≡ x.place.file = (let e : 0 + h.0 ≡ x.place.file = h.1.1.0 in omega arith) in
    let same : h.1.0 ≡ f = same_Some h.1.0 f (sym h.1.1.1.0 ∙ ap (slice_get files) rank ∙ is) in
    subst (λ (g : FileParts). FitsTokens g.cut x.place.index x.role) same (told_by_tokens h.1.0.cut x.place.index x.role h.1.1.1.1)

pub role_told : (files : List FileParts) → AreSourceFiles files → (u : ℕ) → u < length (scoped files).sites → IsIdentifier (layout_in (scoped files)) u →
    (f : FileParts) →
    slice_get files ((layout_in (scoped files)).place u).file ≡ Some f →
    FitsTokens f.cut ((layout_in (scoped files)).place u).index ((layout_in (scoped files)).role u)
unfolding package_sites
role_told files w u lt i f is =
    let own = files_sites 0 (map spelled_file files) in
    let all : AllByRecursion (ToldIfFound files) (map universe_site universe ++ own) =
    all_append (ToldIfFound files) (map universe_site universe) own (universe_told files universe) (found_told files own (files_told 0 files w)) in
    by_file files (or_blank (slice_get (map universe_site universe ++ own) u))
    (at_number (ToldIfFound files) (map universe_site universe ++ own) all u lt i) f is

-- where imports without a name declare

site_keeps : (p : Purpose) → is_unnamed_import (NotLexical p) ≡ false → (b : Bool) (name : Option (List ℕ)) (x : Site) → is_unnamed_import x.role ≡ b →
    ((named_where b name x).role ≡ NotLexical p) ↔ (x.role ≡ NotLexical p)
site_keeps p other true (Some name) x e = (
  (λ q. let z : ⊥ = declares_no p x.place.file q in absurd z),
  (λ q. absurd (true≢false (sym e ∙ ap is_unnamed_import q ∙ other))),
)
  where
    declares_no : (p : Purpose) (file : ℕ) → Declaring (File file) 0 ≡ NotLexical p → ⊥
    declares_no p file q = cc
site_keeps p other true None x e = ((λ q. q), (λ q. q))
site_keeps p other false name x e = ((λ q. q), (λ q. q))

pub role_keeps : (p : Purpose) → is_unnamed_import (NotLexical p) ≡ false → (names : ℕ → Option (List ℕ)) (xs : List Site) (u : ℕ) →
    ((or_blank (slice_get (named_sites names xs) u)).role ≡ NotLexical p) ↔ ((or_blank (slice_get xs u)).role ≡ NotLexical p)
unfolding named_sites
role_keeps p other names [] u = ((λ q. q), (λ q. q))
role_keeps p other names (x ∷ xs) zero = site_keeps p other (is_unnamed_import x.role) (names 0) x refl
role_keeps p other names (x ∷ xs) (suc u) = role_keeps p other (λ k. names (suc k)) xs u

told_keeps : (c : CutText) (index : ℕ) (old new : Role) → (new ≡ NotLexical purpose.Selected) ↔ (old ≡ NotLexical purpose.Selected) →
    (new ≡ NotLexical purpose.Key) ↔ (old ≡ NotLexical purpose.Key) →
    FitsTokens c index old → FitsTokens c index new
told_keeps c index old new selected key h = record {
  selected = ((λ q. h.selected.0 (selected.0 q)), (λ q. selected.1 (h.selected.1 q)));
  key = ((λ q. h.key.0 (key.0 q)), (λ q. key.1 (h.key.1 q)));
}

pub named_role_told : (names : ℕ → Option (List ℕ)) (files : List FileParts) → AreSourceFiles files → (u : ℕ) →
    u < length (with_names names (scoped files)).sites →
    IsIdentifier (layout_in (with_names names (scoped files))) u → (f : FileParts) →
    slice_get files ((layout_in (with_names names (scoped files))).place u).file ≡ Some f →
    FitsTokens f.cut ((layout_in (with_names names (scoped files))).place u).index ((layout_in (with_names names (scoped files))).role u)
named_role_told names files w u lt i f is =
    let sites = (scoped files).sites in
    let place = place_stays names sites u in
    let plain = role_told files w u (subst (λ n. u < n) (same_length names sites) lt) (sym (identifier_stays names sites u) ∙ i) f
    (subst (λ (a : Position). slice_get files a.file ≡ Some f) place is) in
    let there = subst (λ (a : Position). FitsTokens f.cut a.index ((layout_in (scoped files)).role u)) (sym place) plain in
    told_keeps f.cut ((layout_in (with_names names (scoped files))).place u).index ((layout_in (scoped files)).role u)
    ((layout_in (with_names names (scoped files))).role u)
    (role_keeps purpose.Selected refl names sites u) (role_keeps purpose.Key refl names sites u) there
