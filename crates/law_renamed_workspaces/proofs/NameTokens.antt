-- The tokens of a package's identifiers by their roles, and the bytes of those tokens.
use Rattle.std.proofs.Common.{ℕ, ◌≡◌, ◌⊎◌, inl, inr, true, List, [], ◌∷◌, Option, Some, None, map, ap, sym, subst, refl, ◌∙◌, arith}
use Rattle.std.specs.Prelude.{slice_get, option_map}
use Rattle.std.specs.List.{AllByRecursion}
use Rattle.std.proofs.lemmas.Bool.{true≢false}
use Rattle.std.proofs.lemmas.Option.{same_Some, slice_get-map, get_or_from_slice_get}
use Rattle.base_files.specs.Workspace.{Workspace}
use Rattle.go_scanner.specs.declared.piece.Piece.{Piece}
use Rattle.go_scanner.specs.CutText.{CutText, tokens_in, token_at}
use Rattle.go_scanner.specs.TokenValues.{IsStringClass}
use Rattle.go_scanner.specs.Tokens.{semicolon}
use Rattle.go_ast.specs.declared.syntax.Kind.TheVariants as kind
use Rattle.go_ast.specs.SourceFile.{SourceFile, IsSourceFile, source_of, spelling_of}
use Rattle.go_scope.specs.declared.model.Position.{Position}
use Rattle.go_scope.specs.declared.model.Purpose.TheVariants as purpose
use Rattle.go_scope.specs.declared.model.Role.{Role}
use Rattle.go_scope.specs.declared.model.Role.TheVariants.{NotLexical}
use Rattle.go_scope.specs.Bindings.{Layout, is_implied}
use Rattle.go_scope.specs.FileSites.{SpelledFile, file_sites, files_sites, universe, package_sites}
use Rattle.go_scope.specs.Named.{is_unnamed_import}
use Rattle.go_scope.specs.Packages.{scoped, layout_in}
use Rattle.go_scope.specs.SpelledFiles.{spelled_file}
use Rattle.go_scope.specs.Site.{Site, TokenSpellings, or_blank}
use Rattle.go_scope.specs.Table.{LiesAt}
use Rattle.law_tokens.specs.Roles.{IsOfKind}
use Rattle.law_tokens.proofs.OwnPaths.{part_at}
use Rattle.law_tokens.proofs.Places.{plainly_stands}
use Rattle.types_declared.specs.Package.{Package}
use Rattle.workspace_check.specs.Verdicts.{Verdicts, IsPackageIn}
use Rattle.refs_binding.specs.Identifiers.{IsInFiles, IsNameToken}
use Rattle.refs_lookup.proofs.OnePlace.{names_of, laid_of, same_layout, same_files}
use Rattle.law_faultless.proofs.Declared.{given, old_site, new_site, kept, name_is, role_is, place_is, file_of_told}
use Rattle.law_faultless.proofs.LinksBound.{at_number, source_is}
use Rattle.law_faultless.proofs.Numbers.{OfKind, IsTold, IsKept, universal, plain, laid, file_kinds}
use Rattle.law_faultless.proofs.Sites.{files_among, each_numbered}
use Rattle.law_faultless.proofs.Spellings.{name_spelled, text_is_string}
use Rattle.law_renamed_workspaces.proofs.Literals.{no_name}
use Rattle.law_renamed_workspaces.proofs.TokenKinds.{Fits, file_fits}

-- a string is no name

by_token : (c : CutText) (i : ℕ) (o : Option Piece) → slice_get (tokens_in c) i ≡ o → IsStringClass (token_at c i).class → IsNameToken o → ⊥
by_token c i None is string h = h
by_token c i (Some x) is string h =
    let same : token_at c i ≡ x = get_or_from_slice_get (tokens_in c) i x (semicolon 0) is in
    no_name x.class (subst (λ (y : Piece). IsStringClass y.class) same string) h

string_is_no_name : (c : CutText) (i : ℕ) → IsOfKind c i kind.Text → IsNameToken (slice_get (tokens_in c) i) → ⊥
string_is_no_name c i text h = by_token c i (slice_get (tokens_in c) i) refl (text_is_string c i text) h

unnamed_role : (r : Role) → is_unnamed_import r ≡ true → r ≡ NotLexical purpose.UnnamedImport
unnamed_role (NotLexical purpose.UnnamedImport) e = refl
unnamed_role r e = absurd (true≢false (sym e))

module _ (w : Workspace) (known : Verdicts) (path : List ℕ) (p : Package) (h : IsPackageIn w known path p) where
  all_fit : (s : SourceFile) → IsSourceFile s → (source : TokenSpellings) → AllByRecursion (λ x. Fits (OfKind s.cut) x.place.index x.role) (file_sites
      source s.tree)
  all_fit s is source = file_fits (OfKind s.cut) source s.tree (file_kinds s is)

  -- what is selected, a key or a member's name is called otherwise than `_`
  pub linked_not_blank : (u : ℕ) → IsInFiles p u → (s : SourceFile) → slice_get p.files (p.layout.place u).file ≡ Some s →
      (p.layout.role u ≡ NotLexical purpose.Selected) ⊎ ((p.layout.role u ≡ NotLexical purpose.Key) ⊎ (p.layout.role u ≡ NotLexical purpose.Member)) →
      spelling_of s (p.layout.place u).index ≡ 95 ∷ [] → ⊥
  linked_not_blank u stands s is role blank =
      let i = (p.layout.place u).index in
      let source = source_is w known path p h (p.layout.place u).file s is in
      let P : ℕ → Role → Type 0 = λ n r. Fits (OfKind s.cut) n r in
      name_spelled s i (elim role [
        | inl e ↦ at_number w known path p h P purpose.Selected refl (λ z. cc) u stands e s is (all_fit s source)
        | inr more ↦ elim more [
          | inl e ↦ at_number w known path p h P purpose.Key refl (λ z. cc) u stands e s is (all_fit s source)
          | inr e ↦ at_number w known path p h P purpose.Member refl (λ z. cc) u stands e s is (all_fit s source)
        ]
      ]) blank

  -- the literal of an import without a name is a string
  unnamed_is_string : (u : ℕ) → IsInFiles p u → is_unnamed_import (old_site w known path p h u).role ≡ true → (s : SourceFile) →
      slice_get p.files (p.layout.place u).file ≡ Some s → IsOfKind s.cut (p.layout.place u).index kind.Text
  unfolding package_sites
  unnamed_is_string u stands unnamed s is =
      let layout = same_layout w known path p h in
      let at = p.layout.place u in
      let fs = map spelled_file h.files in
      let sites = (scoped h.files).sites in
      let P : ℕ → Role → Type 0 = λ n r. Fits (OfKind s.cut) n r in
      let there : LiesAt (layout_in (laid_of w known path p h)) at u = subst (λ (l : Layout). LiesAt l at u) layout (stands.1, refl, refl) in
      let plain : LiesAt (layout_in (scoped h.files)) at u = plainly_stands (names_of w known path p h) (scoped h.files) at u there in
      let own : (or_blank (slice_get sites u)).role ≡ NotLexical purpose.UnnamedImport = unnamed_role (or_blank (slice_get sites u)).role unnamed in
      let t = part_at h.files at.file s (subst (λ xs. slice_get xs at.file ≡ Some s) (same_files w known path p h) is) in
      let tree : s.tree ≡ (spelled_file t.0).tree = ap (λ (z : SourceFile). z.tree) (sym t.1.1) in
      let got : slice_get fs at.file ≡ Some (spelled_file t.0) = slice_get-map spelled_file h.files at.file ∙ ap (option_map spelled_file) t.1.0 in
      let each = files_among at.file P 0 fs
      (λ i f has e.
      let same : i ≡ at.file = omega arith in
      let own_file : spelled_file t.0 ≡ f = same_Some (spelled_file t.0) f (sym got ∙ ap (slice_get fs) (sym same) ∙ has) in
      subst (λ z. AllByRecursion (λ x. P x.place.index x.role) (file_sites (record { rank = at.file; spell = f.spell }) z))
      (tree ∙ ap (λ (z : SpelledFile). z.tree) own_file)
      (all_fit s (source_is w known path p h at.file s is) (record { rank = at.file; spell = f.spell }))) in
      let found = each_numbered (λ (x : Site). x.place.file ≡ at.file → P x.place.index x.role) purpose.UnnamedImport (λ z. cc) universe (files_sites 0 fs)
      each u own in
      subst (λ r. P at.index r) own (subst (λ i. P i (or_blank (slice_get sites u)).role) plain.2 (found plain.1))

  -- an identifier at a name is spelled as its token
  pub named_as_spelled : (u : ℕ) → IsInFiles p u → (s : SourceFile) → slice_get p.files (p.layout.place u).file ≡ Some s →
      IsNameToken (slice_get (tokens_in s.cut) (p.layout.place u).index) → p.names u ≡ spelling_of s (p.layout.place u).index
  named_as_spelled u stands s is name = by_kind (kept w known path p h u stands.0)
    where
      by_kind : IsKept (IsTold 0 h.files) universe (given w known path p h u) (old_site w known path p h u) (new_site w known path p h u) →
          p.names u ≡ spelling_of s (p.layout.place u).index
      by_kind (universal r n) = absurd (true≢false (sym (ap is_implied (role_is w known path p h u ∙ r)) ∙ stands.1))
      by_kind (plain e t) =
          let new = new_site w known path p h u in
          let place = place_is w known path p h u in
          let file = ap (λ (q : Position). slice_get p.files q.file) (sym place) in
          let same : source_of t.file ≡ s = same_Some (source_of t.file) s (sym (file_of_told w known path p h new t) ∙ file ∙ is) in
          name_is w known path p h u ∙ t.named ∙ ap (λ (x : SourceFile). spelling_of x new.place.index) same ∙
          ap (λ (q : Position). spelling_of s q.index) (sym place)
      by_kind (laid r g l) = absurd (string_is_no_name s.cut (p.layout.place u).index (unnamed_is_string u stands r s is) name)
