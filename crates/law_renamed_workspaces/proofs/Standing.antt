-- The identifiers of a package that stand at names: those that declare or are uses, but for predeclared names and imports without a name.
use Rattle.std.proofs.Common.{ℕ, suc, ◌≡◌, ◌+◌, ◌<◌, ◌⊎◌, inl, inr, true, false, List, Option, Some, map, length, refl, sym, ◌∙◌, ap, subst, arith}
use Rattle.std.proofs.Common.{if◌then◌else◌}
use Rattle.std.specs.Prelude.{slice_get}
use Rattle.std.proofs.lemmas.Bool.{cases_Bool, true≢false}
use Rattle.std.proofs.lemmas.Option.{none-some, slice_get-map}
use Rattle.std.specs.Option.{option_map}
use Rattle.base_files.specs.Workspace.{Workspace}
use Rattle.base_files.specs.declared.place.Place.{Place}
use Rattle.go_scanner.specs.declared.piece.Piece.{Piece}
use Rattle.go_scanner.specs.declared.piece.Class.TheVariants.{Name}
use Rattle.go_scanner.specs.CutText.{CutText, tokens_in, token_at}
use Rattle.go_scanner.specs.TokenValues.{IsStringClass}
use Rattle.go_ast.specs.declared.syntax.Kind.TheVariants as kind
use Rattle.go_ast.specs.SourceFile.{SourceFile, FileParts, source_of, offset_of}
use Rattle.go_scope.specs.declared.model.Position.{Position}
use Rattle.go_scope.specs.declared.model.Purpose.TheVariants as purpose
use Rattle.go_scope.specs.declared.model.Role.{Role}
use Rattle.go_scope.specs.declared.model.Role.TheVariants.{Use, NotLexical}
use Rattle.go_scope.specs.Bindings.{IsImport, is_use, is_implied, may_declare, block_of}
use Rattle.go_scope.specs.FileSites.{universe, files_sites, package_sites}
use Rattle.go_scope.specs.Named.{is_unnamed_import}
use Rattle.go_scope.specs.Packages.{scoped}
use Rattle.go_scope.specs.Site.{or_blank}
use Rattle.go_scope.specs.SpelledFiles.{spelled_file}
use Rattle.types_declared.specs.Laid.{laid_in, is_literal, literal_of}
use Rattle.types_declared.specs.Package.{Package}
use Rattle.law_tokens.proofs.FileIdentifiers.{role_in}
use Rattle.law_tokens.proofs.Ordered.{same_length}
use Rattle.law_tokens.proofs.OwnPaths.{part_at}
use Rattle.law_tokens.proofs.Roles.{role_keeps}
use Rattle.workspace_check.specs.Verdicts.{Verdicts, IsPackageIn}
use Rattle.refs_binding.specs.Identifiers.{IsNameToken, NameBegins, BeginsAt}
use Rattle.refs_lookup.proofs.ImportSites.{literal_file}
use Rattle.refs_lookup.proofs.OnePlace.{same_size, same_files}
use Rattle.law_faultless.proofs.Declared.{given, sites, old_site, new_site, sources, role_is, place_is, kept, file_of_told, told_name}
use Rattle.law_faultless.proofs.FilesDecided.{IsGlobal}
use Rattle.law_faultless.proofs.Numbers.{OfKind, IsTold, IsKept, universal, plain, laid, kept_at}
use Rattle.law_renamed_workspaces.proofs.RenamedScopesNameTokens.{IsIdent, IsUseTold, IsStringIn, IsStringAt, Led}
use Rattle.law_renamed_workspaces.proofs.RenamedScopesNameTokens.{is_import_name, is_named, ident_piece, files_uses, files_led}
use Rattle.law_renamed_workspaces.proofs.RenamedScopesNameTokens.{all_last, led_at, led_universe}

-- a name stands at the token of the identifier
pub record StandsAtName (p : Package) (u : ℕ) : Type 0 where
  pub source : SourceFile
  pub of_rank : slice_get p.files (p.layout.place u).file ≡ Some source
  pub is_name : IsNameToken (slice_get (tokens_in source.cut) (p.layout.place u).index)

pub place_of : (p : Package) (u : ℕ) → StandsAtName p u → Place
place_of p u h = record { path = h.source.path; offset = offset_of h.source (p.layout.place u).index }

pub begins_there : (p : Package) (u : ℕ) → u < p.size → is_implied (p.layout.role u) ≡ false → (h : StandsAtName p u) →
    (place : Place) × BeginsAt p place.path place.offset u
begins_there p u lt identifies h =
    let place : Place = record { path = h.source.path; offset = offset_of h.source (p.layout.place u).index } in
    (place, ((lt, identifies), subst (λ o. NameBegins o (p.layout.place u).index place.path place.offset) (sym h.of_rank) (h.is_name, refl, refl)))

piece_is_name : (o : Option Piece) (x : Piece) → o ≡ Some x → x.class ≡ Name → IsNameToken o
piece_is_name o x e named = subst IsNameToken (sym e) named

ident_name : (c : CutText) (i : ℕ) → IsIdent c i → IsNameToken (slice_get (tokens_in c) i)
ident_name c i h = let x = ident_piece c i h in piece_is_name (slice_get (tokens_in c) i) x.piece x.at x.is_name

-- the role of the literal of an import with a name
pub literal_role : (r : Role) → is_literal r ≡ true → r ≡ NotLexical purpose.ImportPath
literal_role (NotLexical purpose.ImportPath) e = refl
literal_role r e = absurd (true≢false (sym e))

unnamed_is_no_name : (r : Role) → is_unnamed_import r ≡ true → is_import_name r ≡ true → ⊥
unnamed_is_no_name (NotLexical purpose.UnnamedImport) e f = true≢false (sym f)
unnamed_is_no_name r e f = true≢false (sym e)

use_is_named : (r : Role) → is_use r ≡ true → is_named r ≡ true
use_is_named Use e = refl
use_is_named r e = absurd (true≢false (sym e))

module _ (w : Workspace) (known : Verdicts) (path : List ℕ) (p : Package) (h : IsPackageIn w known path p) where
  abbrev files : List FileParts
  files = h.files

  pub in_package : (at : Position) (t : FileParts) → slice_get h.files at.file ≡ Some t → slice_get p.files at.file ≡ Some (source_of t)
  in_package at t e =
      ap (λ (fs : List SourceFile). slice_get fs at.file) (same_files w known path p h) ∙ slice_get-map source_of h.files at.file ∙ ap (option_map source_of) e

  at_ident : (u : ℕ) (at : Position) → p.layout.place u ≡ at → (s : SourceFile) → slice_get p.files at.file ≡ Some s → IsIdent s.cut at.index →
      StandsAtName p u
  at_ident u at e s file ident = record {
    source = s;
    of_rank = ap (λ (a : Position). slice_get p.files a.file) e ∙ file;
    is_name = subst (λ (a : Position). IsNameToken (slice_get (tokens_in s.cut) a.index)) (sym e) (ident_name s.cut at.index ident);
  }

  used : (u : ℕ) → u < p.size → IsKept (IsUseTold h.files) universe (given w known path p h u) (old_site w known path p h u) (new_site w known path p h u)
  unfolding package_sites
  used u lt =
      kept_at (IsUseTold h.files) universe (given w known path p h) (files_sites 0 (map spelled_file h.files))
      (files_uses h.files 0 h.files (sources w known path p h) (all_last h.files)) u
      (subst (λ n. u < n) (same_length (given w known path p h) (sites w known path p h)) (subst (λ n. u < n) (same_size w known path p h) lt))

  pub named_stands : (u : ℕ) → u < p.size → is_named (p.layout.role u) ≡ true → StandsAtName p u
  named_stands u lt named = by_kind (used u lt)
    where
      by_kind : IsKept (IsUseTold h.files) universe (given w known path p h u) (old_site w known path p h u) (new_site w known path p h u) → StandsAtName p u
      by_kind (universal r n) = absurd (true≢false (sym named ∙ ap is_named (role_is w known path p h u ∙ r)))
      by_kind (plain e q) =
          let told = q (sym (ap is_named (role_is w known path p h u)) ∙ named) in
          let at = (new_site w known path p h u).place in
          at_ident u at (place_is w known path p h u) (source_of told.0) (in_package at told.0 told.1.0) told.1.1
      by_kind (laid g e r) = absurd (true≢false (sym named ∙ ap is_named (role_is w known path p h u ∙ r)))

  pub use_stands : (u : ℕ) → u < p.size → is_use (p.layout.role u) ≡ true → StandsAtName p u
  use_stands u lt use_of = named_stands u lt (use_is_named (p.layout.role u) use_of)

  -- an import without a name that declares
  abbrev pub IsLaid : ℕ → Type 0
  IsLaid u = (is_unnamed_import (old_site w known path p h u).role ≡ true) × ((name : List ℕ) × (given w known path p h u ≡ Some name))

  declared_or_laid : (u : ℕ) → u < p.size → may_declare (p.layout.role u) ≡ true → is_implied (p.layout.role u) ≡ false →
      StandsAtName p u ⊎ (IsLaid u × IsImport p.layout u)
  declared_or_laid u lt may identifies = by_kind (kept w known path p h u lt)
    where
      by_kind : IsKept (IsTold 0 h.files) universe (given w known path p h u) (old_site w known path p h u) (new_site w known path p h u) →
          StandsAtName p u ⊎ (IsLaid u × IsImport p.layout u)
      by_kind (universal r n) = absurd (true≢false (sym (ap is_implied (role_is w known path p h u ∙ r)) ∙ identifies))
      by_kind (plain e t) =
          let at = (new_site w known path p h u).place in
          let s = source_of t.file in
          let named = told_name (OfKind t.file.cut) (IsGlobal s.tree.decls) (Unit {0}) at.index (new_site w known path p h u).role t.told
          (sym (ap may_declare (role_is w known path p h u)) ∙ may) in
          inl (at_ident u at (place_is w known path p h u) s (file_of_told w known path p h (new_site w known path p h u) t)
          (record { kind = kind.Name; of_kind = named; is_ident = refl }))
      by_kind (laid g e r) = inr ((g, (_, e)), (_, ap block_of (role_is w known path p h u ∙ r)))

  pub declared_stands : (u : ℕ) → u < p.size → may_declare (p.layout.role u) ≡ true → is_implied (p.layout.role u) ≡ false →
      (IsLaid u → IsImport p.layout u → ⊥) →
      StandsAtName p u
  declared_stands u lt may identifies other = elim (declared_or_laid u lt may identifies) [ inl stands ↦ stands | inr wrong ↦ absurd (other wrong.0 wrong.1) ]

  -- its literal stands for it
  no_literal_behind : (u : ℕ) → u < p.size → IsLaid u → is_literal (p.layout.role (u + 1)) ≡ true → ⊥
  unfolding package_sites
  no_literal_behind u lt unnamed literal =
      let names = given w known path p h in
      let all = sites w known path p h in
      let next : u + 1 ≡ suc u = omega arith in
      let role : p.layout.role (suc u) ≡ NotLexical purpose.ImportPath =
      literal_role (p.layout.role (suc u)) (subst (λ n. is_literal (p.layout.role n) ≡ true) next literal) in
      let old : role_in all (suc u) ≡ NotLexical purpose.ImportPath =
      (role_keeps purpose.ImportPath refl names all (suc u)).0 (sym (role_is w known path p h (suc u)) ∙ role) in
      let within : u < length all = subst (λ n. u < n) (same_length names all) (subst (λ n. u < n) (same_size w known path p h) lt) in
      let own = h.is_package.is_laid.are_names u within unnamed.0 in
      let number : literal_of (laid_in (scoped h.files)).layout u ≡ suc u =
      ap (λ b. if b then u + 1 else u) (ap is_literal (ap (role_in all) next ∙ old)) ∙ next in
      let led : Led (IsStringAt h.files) false all =
      led_universe (IsStringAt h.files) universe (files_sites 0 (map spelled_file h.files))
      (files_led h.files 0 h.files (sources w known path p h) (all_last h.files)) in
      none-some unnamed.1.0
      (sym (own.unknown (λ q i.
      let file = literal_file universe (map spelled_file h.files) u old in
      let part = part_at h.files (or_blank (slice_get all u)).place.file i.source i.is_file in
      let there : slice_get h.files (or_blank (slice_get all (suc u))).place.file ≡ Some part.0 = ap (slice_get h.files) file ∙ part.1.0 in
      let index : ((laid_in (scoped h.files)).layout.place (literal_of (laid_in (scoped h.files)).layout u)).index
      ≡ (or_blank (slice_get all (suc u))).place.index =
      ap (λ n. ((laid_in (scoped h.files)).layout.place n).index) number in
      let string : IsStringClass (token_at part.0.cut (or_blank (slice_get all (suc u))).place.index).class =
      subst (λ (s : SourceFile). IsStringClass (token_at s.cut (or_blank (slice_get all (suc u))).place.index).class) (sym part.1.1)
      (subst (λ n. IsStringClass (token_at i.source.cut n).class) index i.has_literal.is_string) in
      unnamed_is_no_name (role_in all u) unnamed.0
      (led_at (IsStringAt h.files) false all led u old
      (subst (λ o. IsStringIn o (or_blank (slice_get all (suc u))).place.index) (sym there) string)))) ∙ unnamed.1.1)

  pub laid_literal : (u : ℕ) → u < p.size → IsLaid u → literal_of p.layout u ≡ u
  laid_literal u lt unnamed = elim (cases_Bool (is_literal (p.layout.role (u + 1)))) [
    | inl literal ↦ absurd (no_literal_behind u lt unnamed literal)
    | inr other ↦ ap (λ b. if b then u + 1 else u) other
  ]
