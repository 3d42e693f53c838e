-- After a plain rename the fields, methods and exports of a package have the names that they had, unless one of them is renamed.
use Rattle.std.proofs.Common.{ℕ, ◌≡◌, inl, inr, false, List, ap, sym, subst, refl, ◌∙◌}
use Rattle.std.specs.Prelude.{Some, find, slice_get, Contains}
use Rattle.std.proofs.lemmas.Bool.{true≢false}
use Rattle.base_edits.specs.EditSet.{FileChanges, change_of}
use Rattle.base_edits.specs.Moved.{edits_by}
use Rattle.base_edits.specs.RevisionsOfEdits.{revision_of, replaces_at, text_or}
use Rattle.base_files.specs.declared.place.Place.{Place}
use Rattle.base_files.specs.Workspace.{Workspace}
use Rattle.go_ast.specs.SourceFile.{SourceFile, offset_of, spelling_of}
use Rattle.go_scanner.specs.CutText.{tokens_in}
use Rattle.go_scope.specs.declared.model.Position.{Position}
use Rattle.go_scope.specs.Bindings.{IsPackageLevel, own}
use Rattle.go_scope.specs.Table.{LiesAt}
use Rattle.go_scope.proofs.Nests.{nests}
use Rattle.go_scope.proofs.Uniqueness.{bound_once}
use Rattle.types_declared.proofs.ByteKeys.{cases_bytes}
use Rattle.types_declared.specs.Definitions.{PlacedField, IsFieldOf, IsMethodOf}
use Rattle.types_declared.specs.Files.{package_name}
use Rattle.types_declared.specs.Laid.{is_exported}
use Rattle.types_declared.specs.Package.{Package, PlacedFunction, function_place, symbol_in, spelled, spelled_at}
use Rattle.workspace_check.specs.Verdicts.{Verdicts}
use Rattle.workspace_check.proofs.OnePackage.{layout_formed}
use Rattle.refs_binding.specs.Binding.{by_name, field_place}
use Rattle.refs_binding.specs.declared.declaration.Declaration.{Declaration}
use Rattle.refs_binding.specs.declared.declaration.Declaration.TheVariants.{Predeclared, Declared, Field, Method}
use Rattle.refs_binding.specs.DeclaringPlaces.{TokenBegins}
use Rattle.refs_binding.specs.Identifiers.{IsInFiles, IsNameToken}
use Rattle.refs_binding.specs.Uses.{IsCheckedPackage, IsBoundToDeclaration}
use Rattle.refs_lookup.proofs.OneDeclaration.{one_declaration}
use Rattle.refs_places.specs.Outside.{declaring_path}
use Rattle.law_faultless.proofs.LinksBound.{source_is}
use Rattle.law_changed_types.proofs.Alike.{Alike}
use Rattle.law_renamed_workspaces.specs.Layouts.{IsToken, IsRelaid}
use Rattle.law_renamed_workspaces.specs.Renames.{IsMember, IsPlainRename, IsSetWith}
use Rattle.law_renamed_workspaces.proofs.RenamedSets.{own_alone}
use Rattle.law_renamed_workspaces.proofs.Replaced as replaced
use Rattle.law_renamed_workspaces.proofs.OwnNames.{own_renames}
use Rattle.law_renamed_workspaces.proofs.RenamedScopesRenamed.{others_stay}
use Rattle.law_renamed_workspaces.proofs.RenamedMembersNameTokens.{IsNamedIn, named_token, field_name, function_name}
use Rattle.law_renamed_workspaces.specs.KnownVerdicts.{IsHidden, IsHiddenIn, IsKeptRename, IsUnseen}
use Rattle.law_renamed_workspaces.proofs.Counting.{EachMemberCounts}
use Rattle.law_renamed_workspaces.proofs.Kept.{Kept, IsExportedInOne, KeepsLevels}

-- The set has no field and no method of the package.
pub record HasNoMemberOf (p : Package) (set : List Declaration) : Type 0 where
  pub no_field : (rank : ℕ) → Contains set (Field (symbol_in p rank)) → ⊥
  pub no_method : (rank : ℕ) → Contains set (Method (symbol_in p rank)) → ⊥

-- what is hidden is no member
hidden_no_member : (w : Workspace) (before : Verdicts) (d : Declaration) (name : List ℕ) → IsHidden w before d name → IsMember d → ⊥
hidden_no_member w before (Declared path n) name hidden m = m
hidden_no_member w before (Predeclared n) name hidden m = m
hidden_no_member w before (Field f) name hidden m = hidden
hidden_no_member w before (Method f) name hidden m = hidden

-- A set of declarations of other packages, and one of scopes, has no member of the package.
pub no_member : (w : Workspace) (before : Verdicts) (d : Declaration) (set : List Declaration) (name : List ℕ) (p : Package) →
    IsSetWith (IsCheckedPackage w before) d set → IsUnseen w before d set name p.path → HasNoMemberOf p set
no_member w before d set name p is_set (inl away) = record {
  no_field = λ rank h. away (record { declaration = Field (symbol_in p rank); among = h; declares = refl });
  no_method = λ rank h. away (record { declaration = Method (symbol_in p rank); among = h; declares = refl });
}
no_member w before d set name p is_set (inr hidden) =
    let alone : (e : Declaration) → Contains set e → e ≡ d =
    own_alone (IsCheckedPackage w before) d set is_set (hidden_no_member w before d name hidden) in
    record {
      no_field = λ rank h. hidden_no_member w before d name hidden (subst IsMember (alone (Field (symbol_in p rank)) h) tt);
      no_method = λ rank h. hidden_no_member w before d name hidden (subst IsMember (alone (Method (symbol_in p rank)) h) tt);
    }

module _ (w : Workspace) (before : Verdicts) (d : Declaration) (name : List ℕ) (s : FileChanges) (h : IsKeptRename w before d name s)
    (p q : Package) (is : IsCheckedPackage w before p) (relaid : IsRelaid (revision_of w s) p q) where
  -- Nothing that stands at the token is bound to a renamed declaration.
  abbrev IsOtherToken : (file i : ℕ) → Type 0
  IsOtherToken file i = (v : ℕ) → IsInFiles p v → LiesAt p.layout (record { file = file; index = i }) v → (e : Declaration) →
      Contains h.plain.rename.set e → IsBoundToDeclaration w before p v e → ⊥

  -- such a token is spelled as it was
  token_kept : (f : SourceFile) (file i : ℕ) (at : slice_get p.files file ≡ Some f) → IsNameToken (slice_get (tokens_in f.cut) i) → IsOtherToken file i →
      spelled q file i ≡ spelled p file i
  token_kept f file i at named other =
      let place : Place = record { path = f.path; offset = offset_of f i } in
      let here : Position = record { file = file; index = i } in
      let token : IsToken p here place = record {
        file = f;
        of_rank = at;
        is_name = named;
        begins = subst (λ o. TokenBegins o i place) (sym at) (refl, refl);
      } in
      let same : spelled p file i ≡ spelling_of f i = ap (λ o. spelled_at o i) at in
      relaid.tokens here place token
      ∙ ap (λ t. text_or t (find (replaces_at (offset_of f i)) (edits_by (change_of s f.path)))) same
      ∙ sym (replaced.called w before d name s h.plain p is file f at i named)
      ∙ replaced.old_spelled w before d name s h.plain p is file f at i
      (λ r. let t = replaced.token_bound w before d name s h.plain p is file f at i r in other t.identifier t.inside t.stands t.declaration t.among t.bound)
      ∙ sym same

  name_kept : (file i : ℕ) → IsNamedIn p file i → IsOtherToken file i → spelled q file i ≡ spelled p file i
  name_kept file i x other =
      token_kept x.source file i x.in_file
      (named_token x.source (source_is w before p.path p is.is_checked file x.source x.in_file) i x.named) other

  -- In a package without faults each member counts. So its name is kept, unless it is the renamed one.
  module _ (counts : EachMemberCounts p) where
    pub field_kept : (definition rank : ℕ) (called : List ℕ) (f : PlacedField) → IsFieldOf p definition called rank f →
        (Contains h.plain.rename.set (Field (symbol_in p rank)) → ⊥) → spelled q f.file f.name ≡ called
    field_kept definition rank called f x other =
        name_kept f.file f.name (field_name p rank f x.has_rank)
        (λ v inside stands e among bound. other (subst (Contains h.plain.rename.set)
        (one_declaration w before p is v inside e (Field (symbol_in p rank)) bound
        (by_name (
          refl,
          record {
            at = field_place f;
            is_at = record {
              counts = record { definition = definition; name = called; field = f; counting = counts.fields definition rank called f x };
              named_at = refl;
            };
            stands = stands;
          },
        ))) among))
        ∙ x.named

    pub method_kept : (definition rank : ℕ) (called : List ℕ) (f : PlacedFunction) → IsMethodOf p definition called rank f →
        (Contains h.plain.rename.set (Method (symbol_in p rank)) → ⊥) → spelled q f.file f.function.name ≡ called
    method_kept definition rank called f x other =
        name_kept f.file f.function.name (function_name p rank f x.has_rank)
        (λ v inside stands e among bound. other (subst (Contains h.plain.rename.set)
        (one_declaration w before p is v inside e (Method (symbol_in p rank)) bound
        (by_name (
          refl,
          record {
            at = function_place f;
            is_at = record {
              counts = record { definition = definition; name = called; method = f; counting = counts.methods definition rank called f x };
              named_at = refl;
            };
            stands = stands;
          },
        ))) among))
        ∙ x.named

  -- package-level declarations

  -- of a package that doesn't declare it
  pub level_elsewhere : ((n : ℕ) → d ≡ Declared p.path n → ⊥) → KeepsLevels p q
  level_elsewhere away u level counts one = others_stay w before d name s h.plain p q is away relaid u u (own refl counts)

  -- of the declaring package, where both names of the declaration are hidden
  not_in_one : (n u : ℕ) → u ≡ n → q.names n ≡ name → is_exported (p.names n) ≡ false → is_exported name ≡ false → IsExportedInOne p q u → ⊥
  not_in_one n u same now was_not is_not (inl was) = true≢false (sym was ∙ ap (λ m. is_exported (p.names m)) same ∙ was_not)
  not_in_one n u same now was_not is_not (inr called) =
      true≢false (sym called ∙ ap (λ m. is_exported (q.names m)) same ∙ ap is_exported now ∙ is_not)

  not_renamed : (n : ℕ) → q.names n ≡ name → IsHiddenIn p n name → (u : ℕ) → IsPackageLevel p.layout u → IsExportedInOne p q u → u ≡ n → ⊥
  not_renamed n now (inl inner) u level one same = inner (subst (IsPackageLevel p.layout) same level)
  not_renamed n now (inr names) u level one same = not_in_one n u same now names.0 names.1 one

  level_hidden : (n : ℕ) → d ≡ Declared p.path n → IsHiddenIn p n name → KeepsLevels p q
  level_hidden n e hidden u level counts one =
      let renames = own_renames w before p.path n name s (subst (λ x. IsPlainRename w before x name s) e h.plain) p q is refl relaid in
      let now : q.names n ≡ name = renames.renaming.renamed n (own refl (renames.all_count n renames.declared)) in
      renames.renaming.kept u
      (λ bound.
      let same : u ≡ n = bound_once p.layout (nests p.layout (layout_formed w before p.path p is.is_checked)) p.names u u n (own refl counts) bound in
      not_renamed n now hidden u level one same)

  pub levels_kept : IsUnseen w before d h.plain.rename.set name p.path → KeepsLevels p q
  levels_kept (inl away) =
      level_elsewhere (λ n e. away (record { declaration = d; among = h.plain.rename.is_set.has_it; declares = ap declaring_path e }))
  levels_kept (inr hidden) = by_declaration d refl
    where
      by_declaration : (x : Declaration) → d ≡ x → KeepsLevels p q
      by_declaration (Declared path n) e = elim (cases_bytes path p.path) [
        | inl same ↦ level_hidden n (e ∙ ap (λ o. Declared o n) same) (subst (λ x. IsHidden w before x name) e hidden p is (sym same))
        | inr apart ↦ level_elsewhere (λ m also. let z : Declared path n ≡ Declared p.path m = sym e ∙ also in apart cc)
      ]
      by_declaration (Predeclared n) e = absurd (subst (λ x. IsHidden w before x name) e hidden)
      by_declaration (Field f) e = absurd (subst (λ x. IsHidden w before x name) e hidden)
      by_declaration (Method f) e = absurd (subst (λ x. IsHidden w before x name) e hidden)

  pub names_kept : IsUnseen w before d h.plain.rename.set name p.path → Alike p q → package_name q.files ≡ package_name p.files → EachMemberCounts p →
      EachMemberCounts q →
      Kept p q
  names_kept unseen alike clause counts counts_after =
      let none = no_member w before d h.plain.rename.set name p h.plain.rename.is_set unseen in
      record {
        alike = alike;
        clause = clause;
        fields = λ definition rank called f x. field_kept counts definition rank called f x (none.no_field rank);
        methods = λ definition rank called f x. method_kept counts definition rank called f x (none.no_method rank);
        levels = levels_kept unseen;
        counts = counts;
        counts_after = counts_after;
      }
