-- Behind the literal of an import without a name stands no literal of an import with a name.
use Rattle.std.proofs.Common.{ℕ, zero, suc, ◌≡◌, ◌+◌, true, List, [], ◌∷◌, ◌++◌, map, refl, sym, ap, ◌∙◌, subst, arith}
use Rattle.std.specs.Prelude.{slice_get}
use Rattle.std.specs.List.{AllByRecursion}
use Rattle.std.proofs.lemmas.Bool.{true≢false}
use Rattle.std.proofs.lemmas.List.Elements.{All-head, All-tail}
use Rattle.base_lemmas.proofs.EachElement.{all_append}
use Rattle.go_ast.specs.FileView.{file_view}
use Rattle.go_ast.specs.Flatten.{flatten}
use Rattle.go_ast.specs.SourceFile.{FileParts, IsSourceFile, source_of, spelling_of}
use Rattle.go_scope.specs.declared.model.Position.{Position}
use Rattle.go_scope.specs.declared.model.Purpose.TheVariants as purpose
use Rattle.go_scope.specs.declared.model.Role.{Role}
use Rattle.go_scope.specs.declared.model.Role.TheVariants.{NotLexical}
use Rattle.go_scope.specs.FileSites.{file_sites, files_sites, package_sites, universe, universe_site}
use Rattle.go_scope.specs.Named.{is_unnamed_import}
use Rattle.go_scope.specs.Site.{Site, TokenSpellings, or_blank}
use Rattle.go_scope.specs.SpelledFiles.{spelled_file}
use Rattle.law_tokens.specs.Covered.{AreSourceFiles}
use Rattle.law_tokens.specs.Tokens.{identifiers_among}
use Rattle.law_tokens.proofs.Covering.{file_pairs}
use Rattle.law_tokens.proofs.FileIdentifiers.{role_in, paired_files}
use Rattle.law_faultless.proofs.Numbers.{IsTextAt, OfKind, file_kinds}
use Rattle.law_faultless.proofs.Spellings.{text_is_string}
use Rattle.law_renamed_workspaces.proofs.TokenKinds.{Fits, file_fits}
use Rattle.law_renamed_workspaces.proofs.RenamedScopesNameTokens.{IsStringAt, IsStringIn, Led, all_last, files_led, is_import_name, led_at, led_universe}

-- the literal of an import with a name is a string

abbrev IsLiteral : Role → Type 0
IsLiteral r = r ≡ NotLexical purpose.ImportPath

abbrev LiteralTold : (Position → Type 0) → Site → Type 0
LiteralTold T x = IsLiteral x.role → T x.place

module _ (rank : ℕ) (t : FileParts) (ts : List FileParts) where
  own_file : (xs : List Site) → AllByRecursion (λ x. x.place.file ≡ rank) xs → AllByRecursion (λ x. Fits (OfKind t.cut) x.place.index x.role) xs →
      AllByRecursion (LiteralTold (IsTextAt rank (t ∷ ts))) xs
  own_file [] files fits = tt
  own_file (x ∷ xs) files fits = (
    (λ e. record {
      number = 0;
      file = t;
      in_file = (let here : x.place.file ≡ rank = files.0 in let z : rank + 0 ≡ x.place.file = omega arith in z);
      of_number = refl;
      text = subst (Fits (OfKind t.cut) x.place.index) e fits.0;
    }),
    own_file xs files.1 fits.1,
  )

  later_files : (xs : List Site) → AllByRecursion (LiteralTold (IsTextAt (suc rank) ts)) xs → AllByRecursion (LiteralTold (IsTextAt rank (t ∷ ts))) xs
  later_files [] told = tt
  later_files (x ∷ xs) told = (
    (λ literal.
        let h = told.0 literal in
        let e : suc rank + h.number ≡ x.place.file = h.in_file in
        record {
          number = suc h.number;
          file = h.file;
          in_file =
              (let z : rank + suc h.number ≡ x.place.file = omega arith in z);
          of_number = h.of_number;
          text = h.text;
        }),
    later_files xs told.1,
  )

files_texts : (rank : ℕ) (ts : List FileParts) → AreSourceFiles ts → AllByRecursion (LiteralTold (IsTextAt rank ts)) (files_sites rank (map spelled_file ts))
unfolding files_sites
files_texts rank [] sources = tt
files_texts rank (t ∷ ts) sources =
    let s : TokenSpellings = record { rank = rank; spell = spelling_of (source_of t) } in
    let tree = file_view t.file in
    let is : IsSourceFile (source_of t) = All-head (λ (g : FileParts). IsSourceFile (source_of g)) t ts sources in
    let rest : AreSourceFiles ts = All-tail (λ (g : FileParts). IsSourceFile (source_of g)) t ts sources in
    all_append (LiteralTold (IsTextAt rank (t ∷ ts))) (file_sites s tree) (files_sites (suc rank) (map spelled_file ts))
    (own_file rank t ts (file_sites s tree) (paired_files s (file_sites s tree) (identifiers_among (flatten tree)) (file_pairs s tree))
    (file_fits (OfKind t.cut) s tree (file_kinds (source_of t) is)))
    (later_files rank t ts (files_sites (suc rank) (map spelled_file ts)) (files_texts (suc rank) ts rest))

abbrev place_in : List Site → ℕ → Position
place_in xs u = (or_blank (slice_get xs u)).place

told_at : (T : Position → Type 0) (xs : List Site) → AllByRecursion (LiteralTold T) xs → (u : ℕ) → IsLiteral (role_in xs u) → T (place_in xs u)
told_at T [] told u e = absurd (let z : ⊥ = cc in z)
told_at T (x ∷ xs) told zero e = told.0 e
told_at T (x ∷ xs) told (suc u) e = told_at T xs told.1 u e

told_behind : (T : Position → Type 0) (names : List (List ℕ)) (xs : List Site) → AllByRecursion (LiteralTold T) xs →
    AllByRecursion (LiteralTold T) (map universe_site names ++ xs)
told_behind T [] xs told = told
told_behind T (n ∷ names) xs told = ((λ e. absurd (let z : ⊥ = cc in z)), told_behind T names xs told)

string_at : (files : List FileParts) (at : Position) → IsTextAt 0 files at → IsStringAt files at
string_at files at h =
    let same : h.number ≡ at.file = (let z : 0 + h.number ≡ at.file = h.in_file in omega arith) in
    subst (λ o. IsStringIn o at.index) (sym (ap (slice_get files) (sym same) ∙ h.of_number)) (text_is_string h.file.cut at.index h.text)

no_import_name : (r : Role) → is_unnamed_import r ≡ true → is_import_name r ≡ true → ⊥
no_import_name (NotLexical purpose.UnnamedImport) e f = true≢false (sym f)
no_import_name r e f = true≢false (sym e)

pub bare_behind : (files : List FileParts) → AreSourceFiles files → (u : ℕ) →
    is_unnamed_import (role_in (package_sites (map spelled_file files)) u) ≡ true → IsLiteral (role_in (package_sites (map spelled_file files)) (suc u)) → ⊥
unfolding package_sites
bare_behind files sources u unnamed literal =
    let sites = files_sites 0 (map spelled_file files) in
    let all = map universe_site universe ++ sites in
    let led : Led (IsStringAt files) _ all = led_universe (IsStringAt files) universe sites (files_led files 0 files sources (all_last files)) in
    let told = told_behind (IsTextAt 0 files) universe sites (files_texts 0 files sources) in
    no_import_name (role_in all u) unnamed
    (led_at (IsStringAt files) _ all led u literal (string_at files (place_in all (suc u)) (told_at (IsTextAt 0 files) all told (suc u) literal)))
