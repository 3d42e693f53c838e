-- Selectors of qualified identifiers keep their names under a rename of a declaration that is not package-level.
use Rattle.std.proofs.Common.{ℕ, ◌≡◌, List, ap, sym, subst, refl, ◌∙◌}
use Rattle.std.specs.Prelude.{Option, Some, None, slice_get}
use Rattle.base_files.specs.Workspace.{Workspace}
use Rattle.base_files.specs.declared.place.Place.{Place}
use Rattle.base_edits.specs.EditSet.{FileChanges}
use Rattle.base_edits.specs.RevisionsOfEdits.{revision_of}
use Rattle.go_ast.specs.SourceFile.{SourceFile, spelling_of}
use Rattle.go_scope.specs.declared.model.Position.{Position}
use Rattle.go_scope.specs.declared.model.Purpose.TheVariants as purpose
use Rattle.go_scope.specs.Bindings as scopes
use Rattle.law_tokens.proofs.Lexical.{never_bound}
use Rattle.types_declared.specs.Package.{Package, spelled, spelled_at}
use Rattle.types_info.specs.QualifiedIdentifiers.{IsQualifiedByPath}
use Rattle.workspace_check.specs.Verdicts.{Verdicts}
use Rattle.refs_binding.specs.DeclaringPlaces.{TokenBegins}
use Rattle.refs_binding.specs.Identifiers.{BeginsAt, NameBegins, file_of}
use Rattle.refs_binding.specs.Uses.{IsCheckedPackage}
use Rattle.refs_lookup.proofs.OnePlace.{one_begins}
use Rattle.law_renamed_workspaces.specs.Layouts.{IsToken}
use Rattle.law_renamed_workspaces.proofs.NameTokens.{named_as_spelled}
use Rattle.law_renamed_workspaces.specs.OtherPackages.{SelectorsKeepNames}
use Rattle.law_renamed_workspaces.specs.LocalRenames.{IsLocalRename, IsApart}
use Rattle.law_renamed_workspaces.proofs.LocalRenamesKeptNames.{names_stay}
use Rattle.law_renamed_workspaces.proofs.Called.{file_at}

module _ (w : Workspace) (known : Verdicts) (p : Package) (n : ℕ) (name : List ℕ) (s : FileChanges) (h : IsLocalRename w known p n name s) (x : Package)
    (is : IsCheckedPackage w known x) (u : ℕ) (place : Place) (begins : BeginsAt x place.path place.offset u) where
  abbrev at : Position
  at = x.layout.place u

  token : IsToken x at place
  token =
      let f = file_at (file_of x u) at.index place.path place.offset begins.1 in
      let there : NameBegins (Some f.0) at.index place.path place.offset =
      subst (λ o. NameBegins o at.index place.path place.offset) f.1 begins.1 in
      record {
        file = f.0;
        of_rank = f.1;
        is_name = there.0;
        begins = subst (λ o. TokenBegins o at.index place) (sym f.1) (there.1, there.2);
      }

  abbrev used : List ℕ
  used = spelled x at.file at.index

  module _ (path : List ℕ) (q : IsQualifiedByPath x u path) where
    unbound : (v : ℕ) → v ≡ u → x ≡ p → scopes.IsBoundTo p.layout p.names v n → ⊥
    unbound v same one b =
        never_bound x.layout x.names u n purpose.Selected q.selected
        (subst (λ k. scopes.IsBoundTo x.layout x.names k n) same
        (subst (λ (y : Package). scopes.IsBoundTo y.layout y.names v n) (sym one) b))

    apart : IsApart p n x at
    apart v lt stands one b =
        let back : NameBegins (file_of x v) (x.layout.place v).index place.path place.offset =
        subst (λ k. NameBegins (slice_get x.files k) (x.layout.place v).index place.path place.offset) (sym stands.1)
        (subst (λ k. NameBegins (file_of x u) k place.path place.offset) (sym stands.2) begins.1) in
        let same : v ≡ u = one_begins w known x.path x is.is_checked place.path place.offset v u ((lt, stands.0), back) begins in
        unbound v same one b

    selector_stays : (revision_of w s).called place (x.names u) ≡ x.names u
    selector_stays =
        let t = token in
        let named : x.names u ≡ spelling_of t.file at.index = named_as_spelled w known x.path x is.is_checked u begins.0 t.file t.of_rank t.is_name in
        let same : x.names u ≡ used = named ∙ sym (ap (λ o. spelled_at o at.index) t.of_rank) in
        ap ((revision_of w s).called place) same ∙ names_stay w known p n name s h x is at place t apart ∙ sym same

pub selectors : SelectorsKeepNames
selectors w known p n name s h x is u place begins path q = selector_stays w known p n name s h x is u place begins path q
