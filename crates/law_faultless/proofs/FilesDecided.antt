-- The identifiers in the tree of a file. The literal of an import stands behind the import's name.
use Rattle.std.proofs.Common.{ℕ, zero, suc, ◌≡◌, List, [], ◌∷◌, ◌++◌, Option, Some, None, map, refl}
use Rattle.std.specs.Prelude.{slice_get}
use Rattle.std.specs.List.{AllByRecursion, flat_map}
use Rattle.base_lemmas.proofs.EachElement.{all_append}
use Rattle.go_ast.specs.declared.syntax.Kind.{Kind}
use Rattle.go_ast.specs.declared.syntax.Kind.TheVariants as kind
use Rattle.go_ast.specs.Flatten.{sign, sign_if, all_tokens, item_tokens, list_tokens, group_tokens, import_tokens, imports_tokens, decl_tokens, flatten}
use Rattle.go_ast.specs.Tree.{Item, Group, single, several, ImportTree, ImportsTree, DeclTree, FileTree}
use Rattle.go_scope.specs.declared.model.Block.TheVariants.{Universe, File, Inner}
use Rattle.go_scope.specs.declared.model.Block.TheVariants.{Package as PackageBlock}
use Rattle.go_scope.specs.declared.model.Position.{Position}
use Rattle.go_scope.specs.declared.model.Purpose.TheVariants as purpose
use Rattle.go_scope.specs.declared.model.Role.{Role}
use Rattle.go_scope.specs.declared.model.Role.TheVariants.{Use, Declaring, LeftName, Implied, NotLexical}
use Rattle.go_scope.specs.Bindings.{block_of}
use Rattle.go_scope.specs.Site.{Site, TokenSpellings, site, or_blank}
use Rattle.go_scope.specs.StatementSites.{separated_sites, group_sites}
use Rattle.go_scope.specs.FileSites.{import_name, import_purpose, import_sites, imports_sites, spec_sites, decl_sites, file_sites, universe_site}
use Rattle.types_info.proofs.DeclKinds.{Holds}
use Rattle.law_faultless.proofs.DeclaringNames.{Told, IsNameIn, AllOf, front, back, decls_told}

-- the token is the name of what one of the declarations declares
abbrev pub IsGlobal : List DeclTree → ℕ → Type 0
IsGlobal ds i = (d : DeclTree) × (Holds ds d × IsNameIn d i)

-- lists in which the literal of an import stands behind its name, T: that its token is a string

-- the first of them is the literal of an import of that file
abbrev pub NextIs : (T : Position → Type 0) → (file : ℕ) → List Site → Type 0
NextIs T file [] = ⊥
NextIs T file (y ∷ ys) = (y.role ≡ NotLexical purpose.ImportPath) × ((y.place.file ≡ file) × T y.place)

abbrev pub ArePaired : (T : Position → Type 0) → List Site → Type 0
ArePaired T [] = Unit {0}
ArePaired T (x ∷ xs) = ((f : ℕ) → block_of x.role ≡ File f → NextIs T x.place.file xs) × ArePaired T xs

next_more : (T : Position → Type 0) (file : ℕ) (xs ys : List Site) → NextIs T file xs → NextIs T file (xs ++ ys)
next_more T file [] ys h = absurd h
next_more T file (x ∷ xs) ys h = h

pub paired_append : (T : Position → Type 0) (xs ys : List Site) → ArePaired T xs → ArePaired T ys → ArePaired T (xs ++ ys)
paired_append T [] ys a b = b
paired_append T (x ∷ xs) ys a b = ((λ f e. next_more T x.place.file xs ys (a.0 f e)), paired_append T xs ys a.1 b)

no_file : (K : Kind → ℕ → Type 0) (G : ℕ → Type 0) (i : ℕ) (r : Role) → Told K G ⊥ i r → (f : ℕ) → block_of r ≡ File f → ⊥
no_file K G i (Declaring PackageBlock start) t f e = cc
no_file K G i (Declaring (Inner g a b) start) t f e = cc
no_file K G i (Declaring (File g) start) t f e = t.1
no_file K G i (Declaring Universe start) t f e = t
no_file K G i (LeftName PackageBlock start) t f e = t
no_file K G i (LeftName (Inner g a b) start) t f e = cc
no_file K G i (LeftName (File g) start) t f e = t
no_file K G i (LeftName Universe start) t f e = t
no_file K G i (Implied b start) t f e = t
no_file K G i Use t f e = cc
no_file K G i (NotLexical p) t f e = cc

unpaired : (T : Position → Type 0) (K : Kind → ℕ → Type 0) (G : ℕ → Type 0) (xs : List Site) → AllByRecursion (λ x. Told K G ⊥ x.place.index x.role) xs →
    ArePaired T xs
unpaired T K G [] h = tt
unpaired T K G (x ∷ xs) h = ((λ f e. absurd (no_file K G x.place.index x.role h.0 f e)), unpaired T K G xs h.1)

module _ (K : Kind → ℕ → Type 0) (G : ℕ → Type 0) (s : TokenSpellings) where
  abbrev P : Site → Type 0
  P x = Told K G (Unit {0}) x.place.index x.role

  import_told : (i : ImportTree) → AllOf K (import_tokens i) → AllByRecursion P (import_sites s i)
  unfolding import_sites import_tokens
  import_told i h =
      all_append P (import_name s i.name) (site s i.path (NotLexical (import_purpose i.name)) ∷ [])
      (named i.name (front K (sign_if kind.Name i.name) _ h)) (tt, tt)
    where
      named : (n : Option ℕ) → AllOf K (sign_if kind.Name n) → AllByRecursion P (import_name s n)
      named None a = tt
      named (Some n) a = ((a.0, tt), tt)

  items_told : (xs : List (Item ImportTree)) → AllOf K (list_tokens kind.Semicolon import_tokens xs) →
      AllByRecursion P (flat_map (λ (x : Item ImportTree). import_sites s x.value) xs)
  unfolding all_tokens
  items_told [] h = tt
  items_told (x ∷ xs) h =
      let own = item_tokens kind.Semicolon import_tokens x in
      let rest = list_tokens kind.Semicolon import_tokens xs in
      all_append P (import_sites s x.value) _
      (import_told x.value (front K (import_tokens x.value) (sign_if kind.Semicolon x.separator) (front K own rest h))) (items_told xs (back K own rest h))

  group_told : (g : Group ImportTree) → AllOf K (group_tokens import_tokens g) → AllByRecursion P (spec_sites (import_sites s) g)
  unfolding group_sites separated_sites group_tokens
  group_told (single x) h = import_told x h
  group_told (several o xs c) h = items_told xs (front K (list_tokens kind.Semicolon import_tokens xs) (sign kind.RightParen c ∷ []) h.1)

  imports_told : (is : List ImportsTree) → AllOf K (all_tokens imports_tokens is) → AllByRecursion P (flat_map (imports_sites s) is)
  unfolding all_tokens imports_sites imports_tokens
  imports_told [] h = tt
  imports_told (i ∷ is) h =
      let own = imports_tokens i in
      let rest = all_tokens imports_tokens is in
      all_append P (imports_sites s i) (flat_map (imports_sites s) is)
      (group_told i.imports (front K (group_tokens import_tokens i.imports) (sign kind.Semicolon i.semicolon ∷ []) (front K own rest h).1))
      (imports_told is (back K own rest h))

  -- the literals of imports

  module _ (T : Position → Type 0) (texts : (i : ℕ) → K kind.Text i → T (record { file = s.rank; index = i })) where
    import_paired : (i : ImportTree) → AllOf K (import_tokens i) → ArePaired T (import_sites s i)
    unfolding import_sites import_tokens
    import_paired i h = named i.name h
      where
        named : (n : Option ℕ) → AllOf K (sign_if kind.Name n ++ (sign kind.Text i.path ∷ [])) →
            ArePaired T (import_name s n ++ (site s i.path (NotLexical (import_purpose n)) ∷ []))
        named None a = ((λ f e. let z : ⊥ = cc in absurd z), tt)
        named (Some n) a = ((λ f e. (refl, (refl, texts i.path a.1.0))), ((λ f e. let z : ⊥ = cc in absurd z), tt))

    items_paired : (xs : List (Item ImportTree)) → AllOf K (list_tokens kind.Semicolon import_tokens xs) →
        ArePaired T (flat_map (λ (x : Item ImportTree). import_sites s x.value) xs)
    unfolding all_tokens
    items_paired [] h = tt
    items_paired (x ∷ xs) h =
        let own = item_tokens kind.Semicolon import_tokens x in
        let rest = list_tokens kind.Semicolon import_tokens xs in
        paired_append T (import_sites s x.value) _
        (import_paired x.value (front K (import_tokens x.value) (sign_if kind.Semicolon x.separator) (front K own rest h)))
        (items_paired xs (back K own rest h))

    group_paired : (g : Group ImportTree) → AllOf K (group_tokens import_tokens g) → ArePaired T (spec_sites (import_sites s) g)
    unfolding group_sites separated_sites group_tokens
    group_paired (single x) h = import_paired x h
    group_paired (several o xs c) h = items_paired xs (front K (list_tokens kind.Semicolon import_tokens xs) (sign kind.RightParen c ∷ []) h.1)

    imports_paired : (is : List ImportsTree) → AllOf K (all_tokens imports_tokens is) → ArePaired T (flat_map (imports_sites s) is)
    unfolding all_tokens imports_sites imports_tokens
    imports_paired [] h = tt
    imports_paired (i ∷ is) h =
        let own = imports_tokens i in
        let rest = all_tokens imports_tokens is in
        paired_append T (imports_sites s i) (flat_map (imports_sites s) is)
        (group_paired i.imports (front K (group_tokens import_tokens i.imports) (sign kind.Semicolon i.semicolon ∷ []) (front K own rest h).1))
        (imports_paired is (back K own rest h))

-- a whole file

module _ (K : Kind → ℕ → Type 0) (s : TokenSpellings) (f : FileTree) (h : AllOf K (flatten f)) where
  abbrev G : ℕ → Type 0
  G = IsGlobal f.decls

  named_so : (d : DeclTree) → Holds f.decls d → (i : ℕ) → IsNameIn d i → G i
  named_so d j i n = (d, (j, n))

  rest_of : AllOf K (all_tokens imports_tokens f.imports ++ all_tokens decl_tokens f.decls)
  unfolding flatten
  rest_of = h.1.1.1

  of_imports : AllOf K (all_tokens imports_tokens f.imports)
  of_imports = front K (all_tokens imports_tokens f.imports) (all_tokens decl_tokens f.decls) rest_of

  of_decls : AllOf K (all_tokens decl_tokens f.decls)
  of_decls = back K (all_tokens imports_tokens f.imports) (all_tokens decl_tokens f.decls) rest_of

  -- the name in the package clause
  pub clause_told : K kind.Name f.name
  unfolding flatten
  clause_told = h.1.0

  pub file_told : AllByRecursion (λ x. Told K G (Unit {0}) x.place.index x.role) (file_sites s f)
  unfolding file_sites
  file_told = (
    tt,
    all_append (λ (x : Site). Told K G (Unit {0}) x.place.index x.role) (flat_map (imports_sites s) f.imports) (flat_map (decl_sites s) f.decls)
        (imports_told K G s f.imports of_imports) (decls_told K G (Unit {0}) s f.decls named_so of_decls),
  )

  pub file_paired : (T : Position → Type 0) → ((i : ℕ) → K kind.Text i → T (record { file = s.rank; index = i })) → ArePaired T (file_sites s f)
  unfolding file_sites
  file_paired T texts = (
    (λ g e. let z : ⊥ = cc in absurd z),
    paired_append T (flat_map (imports_sites s) f.imports) (flat_map (decl_sites s) f.decls) (imports_paired K G s T texts f.imports of_imports)
        (unpaired T K G (flat_map (decl_sites s) f.decls) (decls_told K G ⊥ s f.decls named_so of_decls)),
  )

-- by number

pub paired_at : (T : Position → Type 0) (xs : List Site) → ArePaired T xs → (d f : ℕ) → block_of (or_blank (slice_get xs d)).role ≡ File f →
    ((or_blank (slice_get xs (suc d))).role ≡ NotLexical purpose.ImportPath)
    × (((or_blank (slice_get xs (suc d))).place.file ≡ (or_blank (slice_get xs d)).place.file) × T (or_blank (slice_get xs (suc d))).place)
paired_at T [] h d f e = let z : ⊥ = cc in absurd z
paired_at T (x ∷ xs) h zero f e = next_at xs (h.0 f e)
  where
    next_at : (ys : List Site) → NextIs T x.place.file ys → ((or_blank (slice_get ys 0)).role ≡ NotLexical purpose.ImportPath)
        × (((or_blank (slice_get ys 0)).place.file ≡ x.place.file) × T (or_blank (slice_get ys 0)).place)
    next_at [] n = absurd n
    next_at (y ∷ ys) n = n
paired_at T (x ∷ xs) h (suc d) f e = paired_at T xs h.1 d f e

pub universe_paired : (T : Position → Type 0) (names : List (List ℕ)) (xs : List Site) → ArePaired T xs → ArePaired T (map universe_site names ++ xs)
universe_paired T [] xs h = h
universe_paired T (n ∷ names) xs h = ((λ f e. let z : ⊥ = cc in absurd z), universe_paired T names xs h)
