-- A byte of a file lies in one identifier at most, and one at most begins at it.
use Rattle.std.proofs.Common.{ℕ, zero, suc, ◌≡◌, ◌+◌, ◌-◌, ◌<◌, ◌≤◌, inl, inr, List, [], ◌∷◌, Bool, true, false, length, drop, map, ap, sym, ◌∙◌, refl}
use Rattle.std.proofs.Common.{subst, arith}
use Rattle.std.specs.Prelude.{Option, Some, None, slice_get, cond}
use Rattle.std.specs.Cmp.{nat_cmp_total, tied_itself}
use Rattle.std.specs.List.{AllByRecursion}
use Rattle.std.specs.List.Sorted.{IsStrictlySortedBy}
use Rattle.std.specs.Ordering.{is_lt, nat_cmp}
use Rattle.std.specs.declared.cmp.Ordering.{Ordering}
use Rattle.std.specs.declared.cmp.Ordering.TheVariants.{Less, Equal}
use Rattle.std.proofs.lemmas.Bool.{cases_lt, cond_both, true≢false}
use Rattle.std.proofs.lemmas.List.{length-take}
use Rattle.std.proofs.lemmas.List.Elements.{All-cons, All-head, All-tail}
use Rattle.std.proofs.lemmas.Option.{none-some, same_Some}
use Rattle.go_scanner.specs.declared.piece.Piece.{Piece}
use Rattle.go_scanner.specs.CutText.{tokens_in}
use Rattle.go_scanner.specs.Cuts.{IsCut, bytes_of}
use Rattle.go_scanner.specs.Spans.{FollowFrom}
use Rattle.go_scanner.proofs.SpanLemmas.{tokens_in_order}
use Rattle.go_ast.specs.declared.syntax.Token.{Token}
use Rattle.go_ast.specs.Kinds.{kinds_from, kinds_of}
use Rattle.go_ast.specs.SourceFile.{SourceFile, FileParts, IsSourceFile, source_of, spelling_at, offset_at}
use Rattle.go_scope.specs.declared.model.Position.{Position}
use Rattle.go_scope.specs.Bindings.{Layout}
use Rattle.go_scope.specs.SpelledFiles.{spelled_file}
use Rattle.go_scope.specs.Named.{with_names}
use Rattle.go_scope.specs.Packages.{ScopedPackage, scoped, layout_in, IsPlaceOf, IsAtPlace}
use Rattle.go_scope.specs.Trees.{AreNumbered, IsNumbered}
use Rattle.go_scope.proofs.Declared.{file_numbered, no_numbers}
use Rattle.go_scope.proofs.NamedSites.{place_stays}
use Rattle.law_tokens.specs.Order.{StandInOrder}
use Rattle.go_scope.specs.IdentifierTokens.{is_ident_token, is_header_name}
use Rattle.law_tokens.specs.Tokens.{begins_declaration, names_among, identifiers_among}
use Rattle.law_tokens.specs.Covered.{AreSourceFiles}
use Rattle.law_tokens.specs.Bytes.{TokenCovers, CoversByte, AreCut, HaveOwnPaths}
use Rattle.law_tokens.proofs.Ordered.{package_ordered, one_stands, same_length}
use Rattle.law_tokens.proofs.Places.{Marks, marked, one_has_place, plainly_stands}

-- the tokens of a cut, of which one holds a byte

pub follows : (from to : ℕ) (ts : List Piece) → FollowFrom from ts to → (j : ℕ) (b : Piece) → slice_get ts j ≡ Some b → from ≤ b.span.start
follows from to [] h j b at = absurd (none-some b at)
follows from to (t ∷ ts) h zero b at = subst (λ (p : Piece). from ≤ p.span.start) (same_Some t b at) h.0
follows from to (t ∷ ts) h (suc j) b at =
    let first : from ≤ t.span.start = h.0 in
    let order : t.span.start ≤ t.span.end = h.1 in
    let rest : t.span.end ≤ b.span.start = follows t.span.end to ts h.2 j b at in
    omega arith

apart : (from to : ℕ) (ts : List Piece) → FollowFrom from ts to → (i j : ℕ) (a b : Piece) → i < j → slice_get ts i ≡ Some a → slice_get ts j ≡ Some b →
    a.span.end ≤ b.span.start
apart from to [] h i j a b lt is at = absurd (none-some a is)
apart from to (t ∷ ts) h i zero a b lt is at = absurd (omega arith)
apart from to (t ∷ ts) h zero (suc j) a b lt is at = subst (λ (p : Piece). p.span.end ≤ b.span.start) (same_Some t a is) (follows t.span.end to ts h.2 j b at)
apart from to (t ∷ ts) h (suc i) (suc j) a b lt is at = apart t.span.end to ts h.2 i j a b (omega arith) is at

one_token : (to : ℕ) (ts : List Piece) → FollowFrom 0 ts to → (i j : ℕ) (a b : Piece) → slice_get ts i ≡ Some a → slice_get ts j ≡ Some b →
    (offset : ℕ) → a.span.start ≤ offset → offset < a.span.end → b.span.start ≤ offset → offset < b.span.end → i ≡ j
one_token to ts h i j a b is at offset la ha lb hb = elim (cases_lt i j) [
  | inl less ↦ (let e : a.span.end ≤ b.span.start = apart 0 to ts h i j a b less is at in absurd (omega arith))
  | inr ge ↦ elim (cases_lt j i) [
    | inl more ↦ (let e : b.span.end ≤ a.span.start = apart 0 to ts h j i b a more at is in absurd (omega arith))
    | inr le ↦ omega arith
  ]
]

-- a token that holds a byte
record Held (o : Option Piece) (offset : ℕ) : Type 0 where
  piece : Piece
  is : o ≡ Some piece
  begins : piece.span.start ≤ offset
  ends : offset < piece.span.end

held_by : (text : List ℕ) (o : Option Piece) (offset : ℕ) → offset_at text o ≤ offset → offset < offset_at text o + length (spelling_at text o) → Held o offset
held_by text None offset le lt = absurd (omega arith)
held_by text (Some p) offset le lt =
    let size : length (bytes_of text p) ≤ p.span.end - p.span.start = omega (arith, length-take (p.span.end - p.span.start) (drop p.span.start text)) in
    record { piece = p; is = refl; begins = le; ends = omega arith }

-- a file with a token that holds a byte
record HeldIn (o : Option SourceFile) (token : ℕ) (path : List ℕ) (offset : ℕ) : Type 0 where
  file : SourceFile
  is : o ≡ Some file
  of_path : file.path ≡ path
  held : Held (slice_get (tokens_in file.cut) token) offset

held_in : (o : Option SourceFile) (token : ℕ) (path : List ℕ) (offset : ℕ) → TokenCovers o token path offset → HeldIn o token path offset
held_in None token path offset h = absurd h
held_in (Some f) token path offset h =
    record { file = f; is = refl; of_path = h.0; held = held_by f.cut.text (slice_get (tokens_in f.cut) token) offset h.1 h.2 }

pub one_holds : (files : List SourceFile) → AreCut files → HaveOwnPaths files → (l : Layout) (size : ℕ) → StandInOrder l size →
    (path : List ℕ) (offset u v : ℕ) → u < size → v < size →
    CoversByte files l path offset u → CoversByte files l path offset v → u ≡ v
one_holds files cut own l size ordered path offset u v lu lv h k =
    let a = held_in (slice_get files (l.place u).file) (l.place u).index path offset h.1 in
    let b = held_in (slice_get files (l.place v).file) (l.place v).index path offset k.1 in
    let file : (l.place u).file ≡ (l.place v).file = own (l.place u).file (l.place v).file a.file b.file a.is b.is (a.of_path ∙ sym b.of_path) in
    let same : b.file ≡ a.file = same_Some b.file a.file (sym b.is ∙ ap (slice_get files) (sym file) ∙ a.is) in
    let at : slice_get (tokens_in a.file.cut) (l.place v).index ≡ Some b.held.piece =
    ap (λ (s : SourceFile). slice_get (tokens_in s.cut) (l.place v).index) (sym same) ∙ b.held.is in
    let index : (l.place u).index ≡ (l.place v).index =
    one_token (length a.file.cut.text) (tokens_in a.file.cut) (tokens_in_order a.file.cut.text a.file.cut.pieces (cut (l.place u).file a.file a.is)).follow
    (l.place u).index (l.place v).index
    a.held.piece b.held.piece a.held.is at offset a.held.begins a.held.ends b.held.begins b.held.ends in
    one_stands l size ordered (l.place v) u v lu lv (h.0, file, index) (k.0, refl, refl)

-- of rising keys an index tells which

pub less_differs : (o : Ordering) → o ≡ Equal → o ≡ Less → ⊥
less_differs o e f = true≢false (sym (ap is_lt (sym e ∙ f)))

below_each : {X K : Type 0} (key : X → K) (P : K → Type 0) (xs : List X) → AllByRecursion P (map key xs) → (j : ℕ) (b : X) → slice_get xs j ≡ Some b → P (key b)
below_each key P [] all j b at = absurd (none-some b at)
below_each key P (x ∷ xs) all zero b at = subst (λ y. P (key y)) (same_Some x b at) all.0
below_each key P (x ∷ xs) all (suc j) b at = below_each key P xs all.1 j b at

pub one_index : {X K : Type 0} (cmp : K → K → Ordering) (key : X → K) → ((k : K) → cmp k k ≡ Less → ⊥) → (xs : List X) →
    IsStrictlySortedBy cmp (map key xs) → (i j : ℕ) (a b : X) →
    slice_get xs i ≡ Some a → slice_get xs j ≡ Some b → key a ≡ key b → i ≡ j
unfolding IsStrictlySortedBy
one_index cmp key never [] rise i j a b at bt e = absurd (none-some a at)
one_index cmp key never (x ∷ xs) rise zero zero a b at bt e = refl
one_index cmp key never (x ∷ xs) rise zero (suc j) a b at bt e =
    absurd (never (key b) (subst (λ k. cmp k (key b) ≡ Less) (ap key (same_Some x a at) ∙ e) (below_each key (λ k. cmp (key x) k ≡ Less) xs rise.0 j b bt)))
one_index cmp key never (x ∷ xs) rise (suc i) zero a b at bt e =
    absurd (never (key a) (subst (λ k. cmp k (key a) ≡ Less) (ap key (same_Some x b bt) ∙ sym e) (below_each key (λ k. cmp (key x) k ≡ Less) xs rise.0 i a at)))
one_index cmp key never (x ∷ xs) rise (suc i) (suc j) a b at bt e = ap suc (one_index cmp key never xs rise.1 i j a b at bt e)

-- an identifier among the tokens of a cut is one of its tokens

kept_mark : (b : Bool) (i : ℕ) (t : Token) (ts us : List Token) → (Marks i us → Marks i ts) → Marks i (cond b (t ∷ us) us) → Marks i (t ∷ ts)
kept_mark true i t ts us f h = elim h [ inl here ↦ inl here | inr rest ↦ inr (f rest) ]
kept_mark false i t ts us f h = inr (f h)

names_mark : (i : ℕ) (ts : List Token) → Marks i (names_among ts) → Marks i ts
names_mark i [] h = h
names_mark i (t ∷ ts) h = kept_mark (is_ident_token t.kind) i t ts (names_among ts) (names_mark i ts) h

identifiers_mark : (i : ℕ) (ts : List Token) → Marks i (identifiers_among ts) → Marks i ts
unfolding identifiers_among
identifiers_mark i [] h = h
identifiers_mark i (t ∷ ts) h =
    cond_both (begins_declaration t.kind) (names_among ts) (cond (is_header_name t.kind) (t ∷ identifiers_among ts) (identifiers_among ts))
    (λ l. Marks i l → Marks i (t ∷ ts))
    (λ e. λ m. inr (names_mark i ts m))
    (λ e. kept_mark (is_header_name t.kind) i t ts (identifiers_among ts) (identifiers_mark i ts)) h

piece_of : (n : ℕ) (text : List ℕ) (ps : List Piece) (i : ℕ) → Marks i (kinds_from n text ps) → (k : ℕ) ×
    ((p : Piece) × ((n + k ≡ i) × (slice_get ps k ≡ Some p)))
unfolding kinds_from
piece_of n text [] i h = absurd h
piece_of n text (p ∷ ps) i h = elim h [
  | inl here ↦ (zero, (p, ((let e : n ≡ i = here in omega arith), refl)))
  | inr rest ↦ (let r = piece_of (n + 1) text ps i rest in let e : n + 1 + r.0 ≡ i = r.1.1.0 in (suc r.0, (r.1.0, (omega arith, r.1.1.1))))
]

token_of : (text : List ℕ) (ps : List Piece) (i : ℕ) → Marks i (kinds_from 0 text ps) → (p : Piece) × (slice_get ps i ≡ Some p)
token_of text ps i h =
    let r = piece_of 0 text ps i h in
    let same : r.0 ≡ i = (let e : 0 + r.0 ≡ i = r.1.1.0 in omega arith) in
    (r.1.0, subst (λ k. slice_get ps k ≡ Some r.1.0) same r.1.1.1)

-- where an identifier of a package begins
record Begun (files : List FileParts) (at : Position) (path : List ℕ) (offset : ℕ) : Type 0 where
  file : FileParts
  is : slice_get files at.file ≡ Some file
  of_path : file.path ≡ path
  piece : Piece
  is_piece : slice_get (tokens_in file.cut) at.index ≡ Some piece
  begins : piece.span.start ≡ offset

begun_by : (files : List FileParts) (at : Position) (f : FileParts) (p : Piece) (path : List ℕ) (offset : ℕ) → slice_get files at.file ≡ Some f →
    slice_get (tokens_in f.cut) at.index ≡ Some p →
    IsPlaceOf (slice_get files at.file) at.index path offset → Begun files at path offset
begun_by files at f p path offset is at_token h =
    let place : IsPlaceOf (Some f) at.index path offset = subst (λ (o : Option FileParts). IsPlaceOf o at.index path offset) is h in
    record { file = f; is = is; of_path = place.0; piece = p; is_piece = at_token; begins = sym (ap (offset_at f.cut.text) at_token) ∙ place.1 }

begun : (files : List FileParts) → AreSourceFiles files → (path : List ℕ) (offset u : ℕ) → u < length (scoped files).sites →
    IsAtPlace (scoped files) path offset u →
    Begun files ((layout_in (scoped files)).place u) path offset
begun files w path offset u lt h =
    let at = (layout_in (scoped files)).place u in
    let place = one_has_place files w at (u, (lt, (h.0, refl, refl))) in
    let contained = place.is_identifier in
    let marks : Marks at.index (identifiers_among (kinds_of place.file.cut)) =
    marked at.index (identifiers_among (kinds_of place.file.cut)) contained.0 place.token contained.1 contained.2 place.stands in
    let token = token_of place.file.cut.text (tokens_in place.file.cut) at.index (identifiers_mark at.index (kinds_of place.file.cut) marks) in
    begun_by files at place.file token.0 path offset place.of_rank token.1 h.1

pub numbered_files : (files : List FileParts) → AreSourceFiles files → AreNumbered (map spelled_file files)
numbered_files [] w = no_numbers
numbered_files (f ∷ fs) w =
    All-cons IsNumbered (spelled_file f) (map spelled_file fs) (file_numbered f (All-head (λ (g : FileParts). IsSourceFile (source_of g)) f fs w))
    (numbered_files fs (All-tail (λ (g : FileParts). IsSourceFile (source_of g)) f fs w))

source_at : (files : List FileParts) (i : ℕ) (f : FileParts) → slice_get files i ≡ Some f → slice_get (map source_of files) i ≡ Some (source_of f)
source_at [] i f at = absurd (none-some f at)
source_at (g ∷ gs) zero f at = ap (λ (x : FileParts). Some (source_of x)) (same_Some g f at)
source_at (g ∷ gs) (suc i) f at = source_at gs i f at

pub source_file_at : (files : List FileParts) → AreSourceFiles files → (i : ℕ) (t : FileParts) → slice_get files i ≡ Some t → IsSourceFile (source_of t)
source_file_at [] w i t is = absurd (none-some t is)
source_file_at (x ∷ xs) w zero t is =
    subst (λ (y : FileParts). IsSourceFile (source_of y)) (same_Some x t is) (All-head (λ (g : FileParts). IsSourceFile (source_of g)) x xs w)
source_file_at (x ∷ xs) w (suc i) t is = source_file_at xs (All-tail (λ (g : FileParts). IsSourceFile (source_of g)) x xs w) i t is

pub cut_at : (files : List FileParts) → AreSourceFiles files → (i : ℕ) (f : FileParts) → slice_get files i ≡ Some f → IsCut f.cut.text f.cut.pieces
cut_at files w i f at = (source_file_at files w i f at).is_cut

pub one_begins : (files : List FileParts) → AreSourceFiles files → HaveOwnPaths (map source_of files) → (path : List ℕ) (offset u v : ℕ) →
    u < length (scoped files).sites → v < length (scoped files).sites →
    IsAtPlace (scoped files) path offset u → IsAtPlace (scoped files) path offset v → u ≡ v
one_begins files w own path offset u v lu lv h k =
    let l = layout_in (scoped files) in
    let a = begun files w path offset u lu h in
    let b = begun files w path offset v lv k in
    let file : (l.place u).file ≡ (l.place v).file =
    own (l.place u).file (l.place v).file (source_of a.file) (source_of b.file) (source_at files (l.place u).file a.file a.is)
    (source_at files (l.place v).file b.file b.is) (a.of_path ∙ sym b.of_path) in
    let same : b.file ≡ a.file = same_Some b.file a.file (sym b.is ∙ ap (slice_get files) (sym file) ∙ a.is) in
    let at : slice_get (tokens_in a.file.cut) (l.place v).index ≡ Some b.piece =
    ap (λ (x : FileParts). slice_get (tokens_in x.cut) (l.place v).index) (sym same) ∙ b.is_piece in
    let index : (l.place u).index ≡ (l.place v).index =
    one_index nat_cmp (λ (t : Piece). t.span.start) (λ n. less_differs (nat_cmp n n) (tied_itself nat_cmp_total n)) (tokens_in a.file.cut)
    (tokens_in_order a.file.cut.text a.file.cut.pieces (cut_at files w (l.place u).file a.file a.is)).rise (l.place u).index
    (l.place v).index a.piece b.piece a.is_piece at (a.begins ∙ sym b.begins) in
    one_stands l (length (scoped files).sites) (package_ordered (map spelled_file files) (numbered_files files w)) (l.place v) u v lu lv (h.0, file, index)
    (k.0, refl, refl)

-- where imports without a name declare, identifiers begin where they did

plainly_begins : (names : ℕ → Option (List ℕ)) (p : ScopedPackage) (path : List ℕ) (offset u : ℕ) → IsAtPlace (with_names names p) path offset u →
    IsAtPlace p path offset u
plainly_begins names p path offset u h = (
  (plainly_stands names p ((layout_in (with_names names p)).place u) u (h.0, refl, refl)).0,
  subst (λ (a : Position). IsPlaceOf (slice_get p.files a.file) a.index path offset) (place_stays names p.sites u) h.1,
)

pub one_named_begins : (names : ℕ → Option (List ℕ)) (files : List FileParts) → AreSourceFiles files → HaveOwnPaths (map source_of files) →
    (path : List ℕ) (offset u v : ℕ) →
    u < length (with_names names (scoped files)).sites → v < length (with_names names (scoped files)).sites →
    IsAtPlace (with_names names (scoped files)) path offset u → IsAtPlace (with_names names (scoped files)) path offset v → u ≡ v
one_named_begins names files w own path offset u v lu lv h k =
    let size = same_length names (scoped files).sites in
    one_begins files w own path offset u v (subst (λ n. u < n) size lu) (subst (λ n. v < n) size lv) (plainly_begins names (scoped files) path offset u h)
    (plainly_begins names (scoped files) path offset v k)
