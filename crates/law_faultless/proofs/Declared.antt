-- The identifiers of a package by what its files tell of them: how each is spelled, and that what declares is a name.
use Rattle.std.proofs.Common.{ℕ, suc, ◌≡◌, ◌+◌, ◌<◌, inl, inr, true, false, List, [], ◌∷◌, length, map, ap, sym, subst, refl, ◌∙◌, arith}
use Rattle.std.specs.Prelude.{Option, Some, slice_get}
use Rattle.std.proofs.lemmas.Bool.{true≢false}
use Rattle.std.proofs.lemmas.Option.{none-some, same_Some, slice_get-map}
use Rattle.std.specs.Option.{option_map}
use Rattle.base_files.specs.Workspace.{Workspace}
use Rattle.go_ast.specs.declared.syntax.Kind.{Kind}
use Rattle.go_ast.specs.declared.syntax.Kind.TheVariants as kind
use Rattle.go_ast.specs.SourceFile.{SourceFile, FileParts, IsSourceFile, source_of, spelling_of}
use Rattle.go_scope.specs.declared.model.Block.TheVariants.{Universe, File, Inner}
use Rattle.go_scope.specs.declared.model.Block.TheVariants.{Package as PackageBlock}
use Rattle.go_scope.specs.declared.model.Position.{Position}
use Rattle.go_scope.specs.declared.model.Role.{Role}
use Rattle.go_scope.specs.declared.model.Role.TheVariants.{Use, Declaring, LeftName, Implied, NotLexical}
use Rattle.go_scope.specs.Bindings.{Layout, MayDeclare, may_declare, block_of, is_implied}
use Rattle.go_scope.specs.FileSites.{universe, files_sites, package_sites}
use Rattle.go_scope.specs.Named.{named_sites}
use Rattle.go_scope.specs.SpelledFiles.{spelled_file}
use Rattle.go_scope.specs.Packages.{ScopedPackage, scoped, names_in}
use Rattle.go_scope.specs.Site.{Site, or_blank}
use Rattle.go_scope.proofs.PackageRegions.{may_at}
use Rattle.types_declared.specs.Files.{package_name}
use Rattle.law_tokens.specs.Covered.{AreSourceFiles}
use Rattle.law_tokens.proofs.Ordered.{same_length}
use Rattle.law_tokens.proofs.OwnPaths.{package_sources}
use Rattle.law_tokens.proofs.HeldBytes.{source_file_at}
use Rattle.types_declared.specs.Package.{Package, ExportData}
use Rattle.types_info.proofs.DeclKinds.{Holds}
use Rattle.workspace_check.specs.FaultLists.{ListsFaults}
use Rattle.workspace_check.specs.Verdicts.{Verdicts, IsSeenAs, seen, unseen, IsPackageIn}
use Rattle.workspace_check.proofs.Closed.{to_package}
use Rattle.workspace_check.proofs.OneList.{checked_package}
use Rattle.refs_lookup.proofs.OnePlace.{names_of, same_layout, same_size, same_files}
use Rattle.law_faultless.proofs.DeclaringNames.{Told}
use Rattle.law_faultless.proofs.FilesDecided.{IsGlobal}
use Rattle.law_faultless.proofs.Spellings.{name_spelled}
use Rattle.law_faultless.proofs.Numbers.{OfKind, IsTold, files_told, IsKept, universal, plain, laid, kept_at, clause_named}

-- `_`
abbrev pub blank : List ℕ
blank = 95 ∷ []

abbrev AreLong : List (List ℕ) → Type 0
AreLong [] = Unit {0}
AreLong (x ∷ xs) = (length x ≡ 1 → ⊥) × AreLong xs

not_long : (name : List ℕ) → name ≡ blank → (xs : List (List ℕ)) → AreLong xs → Holds xs name → ⊥
not_long name e [] l i = i
not_long name e (x ∷ xs) l i = elim i [ inl same ↦ l.0 (ap length (same ∙ e)) | inr more ↦ not_long name e xs l.1 more ]

longer : (n : ℕ) → suc (suc n) ≡ 1 → ⊥
longer n q = omega arith

universe_not_blank : (name : List ℕ) → Holds universe name → name ≡ blank → ⊥
universe_not_blank name h e =
    not_long name e universe
    (longer 2, (longer 1, (longer 4, (longer 2, (longer 3, (longer 1, (longer 4, (longer 1, (longer 3, (longer 3, (longer 5, tt))))))))))) h

module _ (K : Kind → ℕ → Type 0) (G : ℕ → Type 0) (F : Type 0) where
  pub told_name : (i : ℕ) (r : Role) → Told K G F i r → may_declare r ≡ true → K kind.Name i
  told_name i (Declaring PackageBlock start) t m = t.0
  told_name i (Declaring (Inner file from to) start) t m = t
  told_name i (Declaring (File file) start) t m = t.0
  told_name i (Declaring Universe start) t m = absurd t
  told_name i (LeftName (Inner file from to) start) t m = t
  told_name i (LeftName PackageBlock start) t m = absurd t
  told_name i (LeftName (File file) start) t m = absurd t
  told_name i (LeftName Universe start) t m = absurd t
  told_name i (Implied block start) t m = absurd t
  told_name i Use t m = absurd (true≢false (sym m))
  told_name i (NotLexical p) t m = absurd (true≢false (sym m))

  pub told_global : (i : ℕ) (r : Role) → Told K G F i r → may_declare r ≡ true → block_of r ≡ PackageBlock → G i
  told_global i (Declaring PackageBlock start) t m e = t.1
  told_global i (Declaring (Inner file from to) start) t m e = let z : ⊥ = cc in absurd z
  told_global i (Declaring (File file) start) t m e = let z : ⊥ = cc in absurd z
  told_global i (Declaring Universe start) t m e = absurd t
  told_global i (LeftName (Inner file from to) start) t m e = let z : ⊥ = cc in absurd z
  told_global i (LeftName PackageBlock start) t m e = absurd t
  told_global i (LeftName (File file) start) t m e = absurd t
  told_global i (LeftName Universe start) t m e = absurd t
  told_global i (Implied block start) t m e = absurd t
  told_global i Use t m e = absurd (true≢false (sym m))
  told_global i (NotLexical p) t m e = absurd (true≢false (sym m))

  pub told_universe : (i : ℕ) (r : Role) → Told K G F i r → may_declare r ≡ true → block_of r ≡ Universe → ⊥
  told_universe i (Declaring PackageBlock start) t m e = cc
  told_universe i (Declaring (Inner file from to) start) t m e = cc
  told_universe i (Declaring (File file) start) t m e = cc
  told_universe i (Declaring Universe start) t m e = t
  told_universe i (LeftName (Inner file from to) start) t m e = cc
  told_universe i (LeftName PackageBlock start) t m e = t
  told_universe i (LeftName (File file) start) t m e = t
  told_universe i (LeftName Universe start) t m e = t
  told_universe i (Implied block start) t m e = t
  told_universe i Use t m e = true≢false (sym m)
  told_universe i (NotLexical p) t m e = true≢false (sym m)

  pub told_identifies : (i : ℕ) (r : Role) → Told K G F i r → is_implied r ≡ false
  told_identifies i (Declaring b start) t = refl
  told_identifies i (LeftName b start) t = refl
  told_identifies i (Implied b start) t = absurd t
  told_identifies i Use t = refl
  told_identifies i (NotLexical p) t = refl

-- the name of a package is not `_`

first_not_blank : (files : List FileParts) → AreSourceFiles files → package_name (map source_of files) ≡ blank → ⊥
first_not_blank [] all e = cc
first_not_blank (t ∷ ts) all e =
    let is : IsSourceFile (source_of t) = source_file_at (t ∷ ts) all 0 t refl in
    name_spelled (source_of t) (source_of t).tree.name (clause_named (source_of t) is) e

package_not_blank : (w : Workspace) (known : Verdicts) (path : List ℕ) (p : Package) → IsPackageIn w known path p → package_name p.files ≡ blank → ⊥
package_not_blank w known path p h e =
    first_not_blank h.files (package_sources w path h.files h.parsed) (ap package_name (sym (same_files w known path p h)) ∙ e)

seen_not_blank : (w : Workspace) (sound : ListsFaults w []) (r q : List ℕ) (n : Option (List ℕ)) (i : ExportData) → IsSeenAs w sound.known r q n i →
    n ≡ Some blank → ⊥
seen_not_blank w sound r q _ _ (seen on sees) e =
    let x = checked_package w sound q (to_package w r q on.imported) in
    package_not_blank w sound.known q x.checked x.is_package (sym x.is_export_data.name ∙ same_Some (sound.known q).export_data.name blank e)
seen_not_blank w sound r q _ _ (unseen none) e = none-some blank e

-- identifiers by their numbers

module _ (w : Workspace) (known : Verdicts) (path : List ℕ) (p : Package) (h : IsPackageIn w known path p) where
  abbrev pub given : ℕ → Option (List ℕ)
  given = names_of w known path p h

  abbrev pub sites : List Site
  sites = (scoped h.files).sites

  abbrev pub old_site : ℕ → Site
  old_site d = or_blank (slice_get sites d)

  abbrev pub new_site : ℕ → Site
  new_site d = or_blank (slice_get (named_sites given sites) d)

  pub sources : AreSourceFiles h.files
  sources = package_sources w path h.files h.parsed

  pub role_is : (d : ℕ) → p.layout.role d ≡ (new_site d).role
  role_is d = ap (λ (l : Layout). l.role d) (same_layout w known path p h)

  pub place_is : (d : ℕ) → p.layout.place d ≡ (new_site d).place
  place_is d = ap (λ (l : Layout). l.place d) (same_layout w known path p h)

  pub name_is : (d : ℕ) → p.names d ≡ (new_site d).name
  name_is d =
      ap (λ (x : Package). x.names d) h.is_package.is_package ∙ ap (λ (s : ScopedPackage). names_in s d) h.is_package.is_laid.is_named

  pub kept : (d : ℕ) → d < p.size → IsKept (IsTold 0 h.files) universe (given d) (old_site d) (new_site d)
  unfolding package_sites
  kept d lt =
      kept_at (IsTold 0 h.files) universe given (files_sites 0 (map spelled_file h.files)) (files_told 0 h.files sources) d
      (subst (λ n. d < n) (same_length given sites) (subst (λ n. d < n) (same_size w known path p h) lt))

  pub may_within : (d : ℕ) → MayDeclare p.layout d → d < p.size
  may_within d m =
      subst (λ n. d < n) (sym (same_size w known path p h))
      (may_at (named_sites given sites) d (subst (λ (l : Layout). MayDeclare l d) (same_layout w known path p h) m))

  -- the file of an identifier
  pub file_of_told : (x : Site) → (t : IsTold 0 h.files x) → slice_get p.files x.place.file ≡ Some (source_of t.file)
  file_of_told x t =
      let at : t.number ≡ x.place.file = let z : 0 + t.number ≡ x.place.file = t.at in omega arith in
      subst (λ k. slice_get p.files k ≡ Some (source_of t.file)) at
      (ap (λ (fs : List SourceFile). slice_get fs t.number) (same_files w known path p h) ∙ slice_get-map source_of h.files t.number
      ∙ ap (option_map source_of) t.of_number)

  -- an identifier that is no import without a name is spelled as its token is
  pub spelled_so : (d : ℕ) → d < p.size → is_implied (p.layout.role d) ≡ false → may_declare (p.layout.role d) ≡ false → (s : SourceFile) →
      slice_get p.files (p.layout.place d).file ≡ Some s → p.names d ≡ spelling_of s (p.layout.place d).index
  spelled_so d lt i m s at = by_kind (kept d lt)
    where
      by_kind : IsKept (IsTold 0 h.files) universe (given d) (old_site d) (new_site d) → p.names d ≡ spelling_of s (p.layout.place d).index
      by_kind (universal r n) = absurd (true≢false (sym (ap is_implied (role_is d ∙ r)) ∙ i))
      by_kind (plain e t) =
          let file = ap (λ (q : Position). slice_get p.files q.file) (sym (place_is d)) in
          let same : source_of t.file ≡ s = same_Some (source_of t.file) s (sym (file_of_told (new_site d) t) ∙ file ∙ at) in
          name_is d ∙ t.named ∙ ap (λ (x : SourceFile). spelling_of x (new_site d).place.index) same ∙ ap (λ (q : Position). spelling_of s q.index)
          (sym (place_is d))
      by_kind (laid u g r) = absurd (true≢false (sym (ap may_declare (role_is d ∙ r)) ∙ m))

-- what declares is not named `_`

module _ (w : Workspace) (sound : ListsFaults w []) (path : List ℕ) (p : Package) (h : IsPackageIn w sound.known path p) where
  module _ (d : ℕ) (m : MayDeclare p.layout d) (e : p.names d ≡ blank) where
    abbrev new : Site
    new = new_site w sound.known path p h d

    abbrev names : ℕ → Option (List ℕ)
    names = given w sound.known path p h

    named : new.name ≡ blank
    named = sym (name_is w sound.known path p h d) ∙ e

    blank_by : IsKept (IsTold 0 h.files) universe (names d) (old_site w sound.known path p h d) new → ⊥
    blank_by (universal r n) = universe_not_blank new.name n named
    blank_by (plain q t) =
        name_spelled (source_of t.file) new.place.index
        (told_name (OfKind t.file.cut) (IsGlobal (source_of t.file).tree.decls) (Unit {0}) new.place.index new.role t.told
        (subst (λ r. may_declare r ≡ true) (role_is w sound.known path p h d) m)) (sym t.named ∙ named)
    blank_by (laid u g r) =
        let sites_of = sites w sound.known path p h in
        let lt : d < length sites_of = subst (λ n. d < n) (same_length names sites_of)
        (subst (λ n. d < n) (same_size w sound.known path p h) (may_within w sound.known path p h d m)) in
        let own = h.is_package.is_laid.are_names d lt u in
        let as_blank : names d ≡ Some blank = g ∙ ap (λ x. Some x) named in
        none-some blank
        (sym (own.unknown (λ q i. seen_not_blank w sound path q (h.name_of q) (h.export_data_of q) (h.are_seen q) (sym (own.known q i) ∙ as_blank))) ∙ as_blank)

  pub not_blank : (d : ℕ) → MayDeclare p.layout d → p.names d ≡ blank → ⊥
  not_blank d m e = blank_by d m e (kept w sound.known path p h d (may_within w sound.known path p h d m))
