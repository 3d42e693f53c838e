-- Names stay behind their dots: the literal of the import is neither a dot nor before one.
use Rattle.std.proofs.Common.{ℕ, zero, suc, ◌≡◌, ◌+◌, inl, inr, List, [], ◌∷◌, ◌++◌, Option, Some, None, option_map, length, map, refl, sym, ap, ◌∙◌}
use Rattle.std.proofs.Common.{subst, arith, append_assoc}
use Rattle.std.specs.Prelude.{slice_get, cond, nat_eq}
use Rattle.std.proofs.lemmas.Bool.{cases_eq, eqb-true, false_from_ne_true}
use Rattle.std.proofs.lemmas.Bool.Decides.{nat_tests}
use Rattle.std.proofs.lemmas.Option.{same_Some, slice_get-map}
use Rattle.go_scanner.specs.CutText.{tokens_in}
use Rattle.go_ast.specs.declared.syntax.Token.{Token}
use Rattle.go_ast.specs.declared.syntax.Kind.{Kind}
use Rattle.go_ast.specs.declared.syntax.Kind.TheVariants as kind
use Rattle.go_ast.specs.Flatten.{flatten, all_tokens, item_tokens, group_tokens, import_tokens, imports_tokens, decl_tokens, sign, sign_if}
use Rattle.go_ast.specs.Kinds.{kinds_of}
use Rattle.go_ast.specs.SourceFile.{SourceFile, FileParts, source_of}
use Rattle.go_ast.specs.Tree.{Item, FileTree, ImportTree}
use Rattle.go_scope.specs.declared.model.Position.{Position}
use Rattle.go_scope.specs.Named.{with_names}
use Rattle.go_scope.specs.Packages.{scoped}
use Rattle.law_tokens.specs.Covered.{AreSourceFiles, HasIdentifierAt}
use Rattle.law_tokens.specs.Roles.{FollowsDot, IsOfKind}
use Rattle.law_tokens.proofs.HeldBytes.{source_file_at}
use Rattle.law_tokens.proofs.Links.{AreConsecutive}
use Rattle.law_tokens.proofs.Places.{one_has_place, named_has_one}
use Rattle.law_tokens.proofs.Roles.{consecutive, named_role_told}
use Rattle.law_rename.specs.Around.{AroundImport, AroundItem, alone, among, bare_import, file_with, from_on, group_with, imports_with}
use Rattle.law_rename.specs.Gained.{Gain}
use Rattle.law_rename.proofs.TokensBehind.{seam}
use Rattle.law_changed_types.specs.SameBindings.{IsParsedPackage, IsSelectedAt}
use Rattle.types_declared.specs.Package.{Package}
use Rattle.types_info.specs.PackageOf.{package_in}
use Rattle.law_changed_types.specs.RenumberedPackage.{IsBehindDot}
use Rattle.law_gained_names.specs.NamedPackage.{HasNamedFile}
use Rattle.law_gained_names.proofs.Layouts.{token, token_here}

-- the literal, with the token behind it

record Literal (number : ℕ) (ts : List Token) : Type 0 where
  before : List Token
  next : Token
  behind : List Token
  is : ts ≡ before ++ sign kind.Text number ∷ next ∷ behind
  no_dot : next.kind ≡ kind.Dot → ⊥

literal_behind : (number : ℕ) (us ts : List Token) → Literal number ts → Literal number (us ++ ts)
literal_behind number us ts l = record {
  before = us ++ l.before;
  next = l.next;
  behind = l.behind;
  is = ap (λ zs. us ++ zs) l.is ∙ sym (append_assoc us l.before (sign kind.Text number ∷ l.next ∷ l.behind));
  no_dot = l.no_dot;
}

literal_before : (number : ℕ) (ts us : List Token) → Literal number ts → Literal number (ts ++ us)
literal_before number ts us l = record {
  before = l.before;
  next = l.next;
  behind = l.behind ++ us;
  is = ap (λ zs. zs ++ us) l.is ∙ append_assoc l.before (sign kind.Text number ∷ l.next ∷ l.behind) us;
  no_dot = l.no_dot;
}

literal_all : {X : Type 0} (number : ℕ) (t : X → List Token) (xs : List X) (x : X) (ys : List X) → Literal number (t x) →
    Literal number (all_tokens t (xs ++ x ∷ ys))
unfolding all_tokens
literal_all number t [] x ys l = literal_before number (t x) (all_tokens t ys) l
literal_all number t (y ∷ xs) x ys l = literal_behind number (t y) (all_tokens t (xs ++ x ∷ ys)) (literal_all number t xs x ys l)

-- behind an item without a separator comes another one, or the parenthesis
next_item : (number : ℕ) (name : Option ℕ) (path : ℕ) (more : List Token) →
    Literal number (sign kind.Text number ∷ ((sign_if kind.Name name ++ (sign kind.Text path ∷ [])) ++ more))
next_item number None path more = record { before = []; next = sign kind.Text path; behind = more; is = refl; no_dot = λ e. cc }
next_item number (Some n) path more =
    record { before = []; next = sign kind.Name n; behind = sign kind.Text path ∷ more; is = refl; no_dot = λ e. cc }

abbrev items : List (Item ImportTree) → List Token
items xs = all_tokens (item_tokens kind.Semicolon import_tokens) xs

item_then : (number c : ℕ) (separator : Option ℕ) (after : List (Item ImportTree)) →
    Literal number ((((sign kind.Text number ∷ []) ++ sign_if kind.Semicolon separator) ++ items after) ++ (sign kind.RightParen c ∷ []))
unfolding all_tokens import_tokens
item_then number c (Some s) after = record {
  before = [];
  next = sign kind.Semicolon s;
  behind = items after ++ (sign kind.RightParen c ∷ []);
  is = refl;
  no_dot = λ e. cc;
}
item_then number c None [] = record { before = []; next = sign kind.RightParen c; behind = []; is = refl; no_dot = λ e. cc }
item_then number c None (j ∷ after) =
    let own = sign_if kind.Name j.value.name ++ (sign kind.Text j.value.path ∷ []) in
    let more = sign_if kind.Semicolon j.separator ++ (items after ++ (sign kind.RightParen c ∷ [])) in
    subst (Literal number)
    (ap (λ zs. sign kind.Text number ∷ zs)
    (sym (append_assoc ((own ++ sign_if kind.Semicolon j.separator)) (items after) (sign kind.RightParen c ∷ [])
    ∙ append_assoc own (sign_if kind.Semicolon j.separator) (items after ++ (sign kind.RightParen c ∷ [])))))
    (next_item number j.value.name j.value.path more)

items_then : (number c : ℕ) (before : List (Item ImportTree)) (separator : Option ℕ) (after : List (Item ImportTree)) →
    Literal number (items (before ++ record { value = bare_import number; separator = separator } ∷ after) ++ (sign kind.RightParen c ∷ []))
unfolding all_tokens import_tokens
items_then number c [] separator after = item_then number c separator after
items_then number c (b ∷ before) separator after =
    let first = item_tokens kind.Semicolon import_tokens b in
    let rest = items (before ++ record { value = bare_import number; separator = separator } ∷ after) in
    subst (Literal number) (sym (append_assoc first rest (sign kind.RightParen c ∷ [])))
    (literal_behind number first (rest ++ (sign kind.RightParen c ∷ [])) (items_then number c before separator after))

in_imports : (number keyword semicolon : ℕ) (a : AroundItem) →
    Literal number (sign kind.Import keyword ∷ (group_tokens import_tokens (group_with (bare_import number) a) ++ (sign kind.Semicolon semicolon ∷ [])))
unfolding group_tokens import_tokens
in_imports number keyword semicolon alone =
    record { before = sign kind.Import keyword ∷ []; next = sign kind.Semicolon semicolon; behind = []; is = refl; no_dot = λ e. cc }
in_imports number keyword semicolon (among o before separator after c) =
    let inner = items (before ++ record { value = bare_import number; separator = separator } ∷ after) ++ (sign kind.RightParen c ∷ []) in
    literal_behind number (sign kind.Import keyword ∷ sign kind.LeftParen o ∷ []) (inner ++ (sign kind.Semicolon semicolon ∷ []))
    (literal_before number inner (sign kind.Semicolon semicolon ∷ []) (items_then number c before separator after))

in_file : (number : ℕ) (a : AroundImport) → Literal number (flatten (file_with (bare_import number) a))
unfolding flatten imports_tokens
in_file number a =
    let header = sign kind.Package a.keyword ∷ sign kind.Name a.name ∷ sign kind.Semicolon a.semicolon ∷ [] in
    let imports = all_tokens imports_tokens (a.before ++ imports_with (bare_import number) a ∷ a.after) in
    let decls = all_tokens decl_tokens a.decls in
    literal_behind number header (imports ++ decls)
    (literal_before number imports decls
    (literal_all number imports_tokens a.before (imports_with (bare_import number) a) a.after
    (in_imports number a.import_keyword a.import_semicolon a.item)))

-- tokens by their numbers

numbered_at : (n : ℕ) (xs : List Token) (t : Token) (ys : List Token) → AreConsecutive n (xs ++ t ∷ ys) → t.place ≡ n + length xs
numbered_at n [] t ys h = let e : t.place ≡ n = h.0 in omega arith
numbered_at n (x ∷ xs) t ys h = let e : t.place ≡ suc n + length xs = numbered_at (suc n) xs t ys h.1 in omega arith

next_at : {X : Type 0} (xs ys : List X) (x y : X) → slice_get (xs ++ x ∷ y ∷ ys) (suc (length xs)) ≡ Some y
next_at [] ys x y = refl
next_at (z ∷ xs) ys x y = next_at xs ys x y

same_kind : (o : Option Token) (t u : Token) (k : Kind) → o ≡ Some t → o ≡ Some u → u.kind ≡ k → t.kind ≡ k
same_kind o t u k one two e = ap (λ (z : Token). z.kind) (same_Some t u (sym one ∙ two)) ∙ e

-- a dot is not the literal, and not the token behind it
no_dot_there : (number : ℕ) (a : AroundImport) (ts : List Token) → ts ≡ flatten (file_with (bare_import number) a) → AreConsecutive 0 ts → (d : ℕ) (t : Token) →
    slice_get ts d ≡ Some t → t.kind ≡ kind.Dot → (d ≡ number → ⊥) × (d ≡ suc number → ⊥)
no_dot_there number a ts is order d t at dot =
    let l = in_file number a in
    let written : ts ≡ l.before ++ sign kind.Text number ∷ l.next ∷ l.behind = is ∙ l.is in
    let place : number ≡ 0 + length l.before =
    numbered_at 0 l.before (sign kind.Text number) (l.next ∷ l.behind) (subst (AreConsecutive 0) written order) in
    let size : number ≡ length l.before = omega arith in
    let literal : slice_get ts number ≡ Some (sign kind.Text number) =
    ap (slice_get ts) size ∙ ap (λ zs. slice_get zs (length l.before)) written ∙ seam l.before (l.next ∷ l.behind) (sign kind.Text number) in
    let next : slice_get ts (suc number) ≡ Some l.next =
    ap (λ n. slice_get ts (suc n)) size ∙ ap (λ zs. slice_get zs (suc (length l.before))) written
    ∙ next_at l.before l.behind (sign kind.Text number) l.next in (
      (λ e. no_text (same_kind (slice_get ts d) (sign kind.Text number) t kind.Dot (ap (slice_get ts) e ∙ literal) at dot)),
      (λ e. l.no_dot (same_kind (slice_get ts d) l.next t kind.Dot (ap (slice_get ts) e ∙ next) at dot)),
    )
  where
    no_text : kind.Text ≡ kind.Dot → ⊥
    no_text e = cc

first_is : (f : FileTree) → slice_get (flatten f) 0 ≡ Some (sign kind.Package f.keyword)
unfolding flatten
first_is f = refl

-- in a package

record DotBefore (files : List FileParts) (file x : ℕ) : Type 0 where
  parts : FileParts
  of_rank : slice_get files file ≡ Some parts
  follows : FollowsDot parts.cut x

dot_before : (path : List ℕ) (files : List FileParts) (names : _) (data_of : _) → AreSourceFiles files → (file x : ℕ) →
    IsSelectedAt (package_in path (map source_of files) (with_names names (scoped files)) data_of) file x → DotBefore files file x
dot_before path files names data_of sources file x s =
    let own = package_in path (map source_of files) (with_names names (scoped files)) data_of in
    let at : Position = record { file = file; index = x } in
    let lies = s.found.holds in
    let has : HasIdentifierAt own.layout own.size at = (s.identifier, (s.found.within, lies)) in
    let place = one_has_place files sources at ((named_has_one names (scoped files) at).1 has) in
    let in_own : slice_get files (own.layout.place s.identifier).file ≡ Some place.file = ap (slice_get files) lies.1 ∙ place.of_rank in
    let fits = named_role_told names files sources s.identifier s.found.within lies.0 place.file in_own in
    record { parts = place.file; of_rank = place.of_rank; follows = subst (FollowsDot place.file.cut) lies.2 (fits.selected.0 s.selected) }

shifted_alike : (number b : ℕ) → (suc b ≡ number → ⊥) → (suc b ≡ suc number → ⊥) →
    from_on (suc number) (suc (suc b)) ≡ suc (suc (from_on (suc number) b))
shifted_alike number b one two = grind (arith, nat_tests)

module _ (i : Gain) (at : ℕ) (p q : Package) (parsed : IsParsedPackage p) (h : HasNamedFile i p q) where
  -- the file in which the import gets its name, among the parsed ones
  named_file : (parts : FileParts) → slice_get parsed.files i.rank ≡ Some parts → (source_of parts).tree ≡ file_with (bare_import i.number) h.around
  named_file parts of_rank =
      let files : p.files ≡ map source_of parsed.files = ap (λ (x : Package). x.files) parsed.is_package.is_package in
      let here : slice_get p.files i.rank ≡ Some (source_of parts) =
      ap (λ fs. slice_get fs i.rank) files ∙ slice_get-map source_of parsed.files i.rank ∙ ap (option_map source_of) of_rank in
      let there : slice_get p.files i.rank ≡ Some h.before =
      ap (slice_get p.files) (sym h.rank) ∙ ap (λ fs. slice_get fs (length h.first)) h.before_files ∙ seam h.first h.rest h.before in
      ap (λ (f : SourceFile). f.tree) (same_Some (source_of parts) h.before (sym here ∙ there)) ∙ h.bare

  other_token : (file n : ℕ) → (file ≡ i.rank → ⊥) → token i at file n ≡ n
  other_token file n other =
      ap (λ b. cond b (from_on (suc i.number) n) n) (false_from_ne_true (nat_eq file i.rank) (λ e. other (eqb-true file i.rank e)))

  -- the numbers of a name and of the token before its dot
  stays : (file b : ℕ) (parts : FileParts) → slice_get parsed.files file ≡ Some parts → (t : Token) → slice_get (kinds_of parts.cut) (suc b) ≡ Some t →
      t.kind ≡ kind.Dot → token i at file (suc (suc b)) ≡ suc (suc (token i at file b))
  stays file b parts of_rank t got dot = elim (cases_eq file i.rank) [
    | inl is ↦
        let written = (source_file_at parsed.files parsed.sources file parts of_rank).is_tree.written in
        let tree = named_file parts (ap (slice_get parsed.files) (sym is) ∙ of_rank) in
        let no = no_dot_there i.number h.around (kinds_of parts.cut) (sym written ∙ ap flatten tree)
        (consecutive 0 parts.cut.text (tokens_in parts.cut)) (suc b) t got dot in
        ap (λ f. token i at f (suc (suc b))) is ∙ token_here i at (suc (suc b)) ∙ shifted_alike i.number b no.0 no.1
        ∙ sym (ap (λ f. suc (suc (token i at f b))) is ∙ ap (λ n. suc (suc n)) (token_here i at b))
    | inr other ↦ other_token file (suc (suc b)) other ∙ sym (ap (λ n. suc (suc n)) (other_token file b other))
  ]

  by_dot : (file x d : ℕ) (parts : FileParts) → slice_get parsed.files file ≡ Some parts → suc d ≡ x → IsOfKind parts.cut d kind.Dot →
      IsBehindDot (token i at file) x
  by_dot file x zero parts of_rank next is =
      let written = (source_file_at parsed.files parsed.sources file parts of_rank).is_tree.written in
      let tree = (source_of parts).tree in
      let first : slice_get (kinds_of parts.cut) 0 ≡ Some (sign kind.Package tree.keyword) =
      ap (λ ts. slice_get ts 0) (sym written) ∙ first_is tree in
      absurd (no_package (same_kind (slice_get (kinds_of parts.cut) 0) (sign kind.Package tree.keyword) is.0 kind.Dot first is.1.0 is.1.1))
    where
      no_package : kind.Package ≡ kind.Dot → ⊥
      no_package e = cc
  by_dot file x (suc b) parts of_rank next is = record {
    before = b;
    is_behind = sym next;
    stays_behind = ap (token i at file) (sym next) ∙ stays file b parts of_rank is.0 is.1.0 is.1.1;
  }

  pub dots : (file x : ℕ) → IsSelectedAt p file x → IsBehindDot (token i at file) x
  dots file x s =
      let laid = parsed.is_package.is_laid in
      let is : p ≡ package_in parsed.path (map source_of parsed.files) (with_names laid.names (scoped parsed.files)) parsed.export_data_of =
      parsed.is_package.is_package ∙ ap (λ table. package_in parsed.path (map source_of parsed.files) table parsed.export_data_of) laid.is_named in
      let d = dot_before parsed.path parsed.files laid.names parsed.export_data_of parsed.sources file x (subst (λ z. IsSelectedAt z file x) is s) in
      by_dot file x d.follows.0 d.parts d.of_rank d.follows.1.0 d.follows.1.1
