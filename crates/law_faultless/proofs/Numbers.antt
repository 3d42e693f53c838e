-- What the files of a package tell of its declaring identifiers, by their numbers in the table where imports without a name declare.
use Rattle.std.proofs.Common.{ℕ, zero, suc, ◌≡◌, ◌+◌, ◌<◌, inl, inr, Bool, true, false, List, [], ◌∷◌, ◌++◌, Option, Some, None, map, length, refl, sym}
use Rattle.std.proofs.Common.{◌∙◌, ap, subst, arith}
use Rattle.std.specs.Prelude.{slice_get}
use Rattle.std.specs.List.{AllByRecursion}
use Rattle.std.proofs.lemmas.List.Elements.{All-head, All-tail}
use Rattle.base_lemmas.proofs.EachElement.{all_append}
use Rattle.go_scanner.specs.CutText.{CutText}
use Rattle.go_ast.specs.declared.syntax.Kind.{Kind}
use Rattle.go_ast.specs.declared.syntax.Kind.TheVariants as kind
use Rattle.go_ast.specs.declared.syntax.Token.{Token}
use Rattle.go_ast.specs.FileView.{file_view}
use Rattle.go_ast.specs.Flatten.{flatten}
use Rattle.go_ast.specs.Kinds.{kinds_of}
use Rattle.go_ast.specs.SourceFile.{SourceFile, FileParts, IsSourceFile, source_of, spelling_of}
use Rattle.go_scope.specs.declared.model.Block.TheVariants.{Universe, File}
use Rattle.go_scope.specs.declared.model.Position.{Position}
use Rattle.go_scope.specs.declared.model.Role.TheVariants.{Declaring, Implied}
use Rattle.go_scope.specs.FileSites.{file_sites, files_sites, universe_site}
use Rattle.go_scope.specs.Named.{is_unnamed_import, named_where, named_sites}
use Rattle.go_scope.specs.SpelledFiles.{spelled_file}
use Rattle.go_scope.specs.Site.{Site, TokenSpellings, or_blank}
use Rattle.types_info.proofs.DeclKinds.{Holds}
use Rattle.law_tokens.specs.Covered.{AreSourceFiles}
use Rattle.law_tokens.specs.Roles.{IsOfKind}
use Rattle.law_tokens.specs.Tokens.{identifiers_among}
use Rattle.law_tokens.proofs.Covering.{Pairs, file_pairs}
use Rattle.law_tokens.proofs.Links.{HasKind}
use Rattle.law_tokens.proofs.Roles.{of_kind}
use Rattle.law_faultless.proofs.DeclaringNames.{Told, AllOf}
use Rattle.law_faultless.proofs.FilesDecided.{IsGlobal, NextIs, ArePaired, paired_append, file_told, file_paired, clause_told}

-- the kinds of the tokens of a file

abbrev pub OfKind : CutText → Kind → ℕ → Type 0
OfKind c k i = IsOfKind c i k

all_of : (c : CutText) (ts : List Token) → ((k : Kind) (i : ℕ) → HasKind k i ts → IsOfKind c i k) → AllOf (OfKind c) ts
all_of c [] f = tt
all_of c (t ∷ ts) f = (f t.kind t.place (inl (refl, refl)), all_of c ts (λ k i h. f k i (inr h)))

pub file_kinds : (s : SourceFile) → IsSourceFile s → AllOf (OfKind s.cut) (flatten s.tree)
file_kinds s is = subst (AllOf (OfKind s.cut)) (sym is.is_tree.written) (all_of s.cut (kinds_of s.cut) (of_kind s.cut))

pub clause_named : (s : SourceFile) → IsSourceFile s → IsOfKind s.cut s.tree.name kind.Name
clause_named s is = clause_told (OfKind s.cut) (record { rank = 0; spell = spelling_of s }) s.tree (file_kinds s is)

-- an identifier of one of the files, of which the first has that rank
pub record IsTold (rank : ℕ) (ts : List FileParts) (x : Site) : Type 0 where
  pub number : ℕ
  pub file : FileParts
  pub at : rank + number ≡ x.place.file
  pub of_number : slice_get ts number ≡ Some file
  pub named : x.name ≡ spelling_of (source_of file) x.place.index
  pub told : Told (OfKind file.cut) (IsGlobal (source_of file).tree.decls) (Unit {0}) x.place.index x.role

own_file : (rank : ℕ) (t : FileParts) (ts : List FileParts) (xs : List Site) (ks : List Token) →
    Pairs (record { rank = rank; spell = spelling_of (source_of t) }) xs ks →
    AllByRecursion (λ x. Told (OfKind t.cut) (IsGlobal (source_of t).tree.decls) (Unit {0}) x.place.index x.role) xs → AllByRecursion (IsTold rank (t ∷ ts)) xs
own_file rank t ts [] ks p a = tt
own_file rank t ts (x ∷ xs) [] p a = absurd p
own_file rank t ts (x ∷ xs) (k ∷ ks) p a = (
  (let is = p.1 in
      let at : x.place.file ≡ rank = ap (λ (y : Site). y.place.file) is in
      let index : x.place.index ≡ k.place = ap (λ (y : Site). y.place.index) is in
      record {
        number = zero;
        file = t;
        at = omega arith;
        of_number = refl;
        named = ap (λ (y : Site). y.name) is ∙ ap (spelling_of (source_of t)) (sym index);
        told = a.0;
      }),
  own_file rank t ts xs ks p.2 a.1,
)

later_file : (rank : ℕ) (t : FileParts) (ts : List FileParts) (xs : List Site) → AllByRecursion (IsTold (suc rank) ts) xs →
    AllByRecursion (IsTold rank (t ∷ ts)) xs
later_file rank t ts [] a = tt
later_file rank t ts (x ∷ xs) a = (
  (let h = a.0 in
      let e : suc rank + h.number ≡ x.place.file = h.at in
      record { number = suc h.number; file = h.file; at = omega arith; of_number = h.of_number; named = h.named; told = h.told }),
  later_file rank t ts xs a.1,
)

pub files_told : (rank : ℕ) (ts : List FileParts) → AreSourceFiles ts → AllByRecursion (IsTold rank ts) (files_sites rank (map spelled_file ts))
unfolding files_sites
files_told rank [] w = tt
files_told rank (t ∷ ts) w =
    let s : TokenSpellings = record { rank = rank; spell = spelling_of (source_of t) } in
    let tree = file_view t.file in
    let is : IsSourceFile (source_of t) = All-head (λ (g : FileParts). IsSourceFile (source_of g)) t ts w in
    all_append (IsTold rank (t ∷ ts)) (file_sites s tree) (files_sites (suc rank) (map spelled_file ts))
    (own_file rank t ts (file_sites s tree) (identifiers_among (flatten tree)) (file_pairs s tree)
    (file_told (OfKind t.cut) s tree (file_kinds (source_of t) is)))
    (later_file rank t ts (files_sites (suc rank) (map spelled_file ts))
    (files_told (suc rank) ts (All-tail (λ (g : FileParts). IsSourceFile (source_of g)) t ts w)))

-- the token at a place is a string
pub record IsTextAt (rank : ℕ) (ts : List FileParts) (at : Position) : Type 0 where
  pub number : ℕ
  pub file : FileParts
  pub in_file : rank + number ≡ at.file
  pub of_number : slice_get ts number ≡ Some file
  pub text : IsOfKind file.cut at.index kind.Text

paired_as : (T U : Position → Type 0) → ((at : Position) → T at → U at) → (xs : List Site) → ArePaired T xs → ArePaired U xs
paired_as T U f [] h = tt
paired_as T U f (x ∷ xs) h = ((λ g e. next xs (h.0 g e)), paired_as T U f xs h.1)
  where
    next : (ys : List Site) → NextIs T x.place.file ys → NextIs U x.place.file ys
    next [] n = absurd n
    next (y ∷ ys) n = (n.0, (n.1.0, f y.place n.1.1))

pub files_paired : (rank : ℕ) (ts : List FileParts) → AreSourceFiles ts → ArePaired (IsTextAt rank ts) (files_sites rank (map spelled_file ts))
unfolding files_sites
files_paired rank [] w = tt
files_paired rank (t ∷ ts) w =
    let s : TokenSpellings = record { rank = rank; spell = spelling_of (source_of t) } in
    let tree = file_view t.file in
    let is : IsSourceFile (source_of t) = All-head (λ (g : FileParts). IsSourceFile (source_of g)) t ts w in
    paired_append (IsTextAt rank (t ∷ ts)) (file_sites s tree) (files_sites (suc rank) (map spelled_file ts))
    (file_paired (OfKind t.cut) s tree (file_kinds (source_of t) is) (IsTextAt rank (t ∷ ts))
    (λ i k. record { number = zero; file = t; in_file = (let z : rank + 0 ≡ rank = omega arith in z); of_number = refl; text = k }))
    (paired_as (IsTextAt (suc rank) ts) (IsTextAt rank (t ∷ ts))
    (λ at h.
    let e : suc rank + h.number ≡ at.file = h.in_file in
    record {
      number = suc h.number;
      file = h.file;
      in_file =
          (let z : rank + suc h.number ≡ at.file = omega arith in z);
      of_number = h.of_number;
      text = h.text;
    })
    (files_sites (suc rank) (map spelled_file ts)) (files_paired (suc rank) ts (All-tail (λ (g : FileParts). IsSourceFile (source_of g)) t ts w)))

-- by number, where imports without a name declare

-- A site of that number in the second list: a predeclared name, a site of which Q holds in the first list, or an import that
-- got that name.
pub data IsKept (Q : Site → Type 0) (ns : List (List ℕ)) (given : Option (List ℕ)) (old new : Site) : Type 0 where
  universal : new.role ≡ Implied Universe 0 → Holds ns new.name → IsKept Q ns given old new
  plain : old ≡ new → Q new → IsKept Q ns given old new
  laid : is_unnamed_import old.role ≡ true → given ≡ Some new.name → new.role ≡ Declaring (File old.place.file) 0 → IsKept Q ns given old new

where_kept : (Q : Site → Type 0) (ns : List (List ℕ)) (given : Option (List ℕ)) (x : Site) → Q x → (b : Bool) → is_unnamed_import x.role ≡ b →
    IsKept Q ns given x (named_where b given x)
where_kept Q ns (Some name) x q true e = laid e refl refl
where_kept Q ns None x q true e = plain refl q
where_kept Q ns given x q false e = plain refl q

sites_kept : (Q : Site → Type 0) (ns : List (List ℕ)) (names : ℕ → Option (List ℕ)) (xs : List Site) → AllByRecursion Q xs → (d : ℕ) →
    d < length xs → IsKept Q ns (names d) (or_blank (slice_get xs d)) (or_blank (slice_get (named_sites names xs) d))
unfolding named_sites
sites_kept Q ns names [] a d m = absurd (omega arith)
sites_kept Q ns names (x ∷ xs) a zero m = where_kept Q ns (names 0) x a.0 (is_unnamed_import x.role) refl
sites_kept Q ns names (x ∷ xs) a (suc d) m = sites_kept Q ns (λ k. names (suc k)) xs a.1 d (omega arith)

more_names : (Q : Site → Type 0) (n : List ℕ) (ns : List (List ℕ)) (given : Option (List ℕ)) (old new : Site) → IsKept Q ns given old new →
    IsKept Q (n ∷ ns) given old new
more_names Q n ns given old new (universal r h) = universal r (inr h)
more_names Q n ns given old new (plain e q) = plain e q
more_names Q n ns given old new (laid u g r) = laid u g r

pub kept_at : (Q : Site → Type 0) (ns : List (List ℕ)) (names : ℕ → Option (List ℕ)) (xs : List Site) → AllByRecursion Q xs → (d : ℕ) →
    d < length (map universe_site ns ++ xs) →
    IsKept Q ns (names d) (or_blank (slice_get (map universe_site ns ++ xs) d)) (or_blank (slice_get (named_sites names (map universe_site ns ++ xs)) d))
unfolding named_sites
kept_at Q [] names xs a d m = sites_kept Q [] names xs a d m
kept_at Q (n ∷ ns) names xs a zero m = universal refl (inl refl)
kept_at Q (n ∷ ns) names xs a (suc d) m =
    more_names Q n ns (names (suc d)) _ _ (kept_at Q ns (λ k. names (suc k)) xs a d (omega arith))
