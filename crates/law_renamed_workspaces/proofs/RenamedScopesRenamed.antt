-- The names of a package after a plain rename: just the identifiers that are bound to the renamed declaration have other names.
use Rattle.std.proofs.Common.{ℕ, ◌≡◌, ◌<◌, ◌⊎◌, inl, inr, List, length, ap, sym, subst, refl, ◌∙◌, arith}
use Rattle.std.specs.Prelude.{Contains, Option, Some, None, find, slice_get}
use Rattle.std.proofs.lemmas.Bool.{cases_lt}
use Rattle.base_files.specs.Workspace.{Workspace}
use Rattle.base_files.specs.declared.place.Place.{Place}
use Rattle.go_scanner.specs.declared.piece.Class.TheVariants.{Name}
use Rattle.go_scanner.specs.declared.piece.Piece.{Piece}
use Rattle.go_scanner.specs.CutText.{tokens_in}
use Rattle.go_ast.specs.SourceFile.{SourceFile, offset_at, offset_of, spelling_of}
use Rattle.base_edits.specs.EditSet.{FileChanges, change_of}
use Rattle.base_edits.specs.Moved.{edits_by}
use Rattle.base_edits.specs.RevisionsOfEdits.{revision_of, new_name_at, replaces_at, text_or}
use Rattle.base_edits.specs.declared.edit.Edit.{Edit}
use Rattle.go_scope.specs.Bindings as scopes
use Rattle.go_scope.specs.FileSites.{universe}
use Rattle.go_respelled.specs.Trees.{renamed_file}
use Rattle.law_rename.proofs.Exactness.{same_bytes}
use Rattle.types_declared.specs.Package.{Package}
use Rattle.workspace_check.specs.Verdicts.{Verdicts}
use Rattle.refs_binding.specs.declared.declaration.Declaration.{Declaration}
use Rattle.refs_binding.specs.declared.declaration.Declaration.TheVariants.{Predeclared, Declared}
use Rattle.refs_binding.specs.Binding.{BindsByScope, by_scope}
use Rattle.refs_binding.specs.Identifiers.{BeginsAt, IsInFiles, IsNameToken, NameBegins, file_of}
use Rattle.refs_binding.specs.Uses.{IsCheckedPackage, IsBoundToDeclaration, IsUseOf}
use Rattle.refs_binding.proofs.Folders.{some_file}
use Rattle.refs_binding.proofs.PlaceOrder.{place_is}
use Rattle.refs_lookup.proofs.OneDeclaration.{one_declaration}
use Rattle.refs_lookup.proofs.OnePlace.{one_begins}
use Rattle.refactor_rename.specs.FileEdits.{RenamesToken}
use Rattle.refactor_rename.specs.Naming.{IsFixed}
use Rattle.law_renamed_workspaces.specs.Layouts.{IsRelaid}
use Rattle.law_renamed_workspaces.specs.Renames.{IsPlainRename}
use Rattle.law_renamed_workspaces.proofs.NameTokens.{named_as_spelled}
use Rattle.law_renamed_workspaces.proofs.RenamedSets.{IsBoundToSome, is_own}
use Rattle.law_renamed_workspaces.proofs.NameEdits.{renamed, replaced_token}
use Rattle.law_renamed_workspaces.proofs.Replaced as replaced
use Rattle.law_renamed_workspaces.specs.Scopes.{OtherScopesStay}

named_token : (o : Option Piece) → IsNameToken o → (t : Piece) × ((o ≡ Some t) × (t.class ≡ Name))
named_token None h = absurd h
named_token (Some t) h = (t, (refl, h))

-- what scopes bind, by its number
pub scope_number : (p : Package) (u e : ℕ) → scopes.IsBoundTo p.layout p.names u e → BindsByScope p u (Predeclared e) ⊎ BindsByScope p u (Declared p.path e)
scope_number p u e b = elim (cases_lt e (length universe)) [
  | inl below ↦ inl (below, b)
  | inr ge ↦ inr (refl, (λ below. let less : e < length universe = below in absurd (omega arith)), b)
]

module _ (w : Workspace) (before : Verdicts) (d : Declaration) (name : List ℕ) (s : FileChanges) (h : IsPlainRename w before d name s) (p q : Package)
    (is : IsCheckedPackage w before p) (relaid : IsRelaid (revision_of w s) p q) where
  -- an identifier that begins at a place
  module _ (u : ℕ) (place : Place) (b : BeginsAt p place.path place.offset u) where
    abbrev rank : ℕ
    rank = (p.layout.place u).file

    abbrev i : ℕ
    i = (p.layout.place u).index

    source : (f : SourceFile) × ((slice_get p.files rank ≡ Some f) × (f.path ≡ place.path))
    source = some_file (file_of p u) i place.path place.offset b.1

    module _ (f : SourceFile) (at : slice_get p.files rank ≡ Some f) where
      begins : NameBegins (Some f) i place.path place.offset
      begins = subst (λ o. NameBegins o i place.path place.offset) at b.1

      abbrev edits : List Edit
      edits = edits_by (change_of s f.path)

      abbrev IsReplaced : Type 0
      IsReplaced = replaced.IsReplaced w before d name s h p is rank f at i

      spelled : p.names u ≡ spelling_of f i
      spelled = named_as_spelled w before p.path p is.is_checked u b.0 f at begins.0

      place_here : record { path = f.path; offset = offset_of f i } ≡ place
      place_here = place_is (record { path = f.path; offset = offset_of f i }) place begins.1 begins.2

      -- its name afterwards is the spelling of its token
      called : q.names u ≡ spelling_of (renamed_file edits f) i
      called =
          relaid.names u place b
          ∙ ap (λ (x : Place). new_name_at s x (p.names u)) (sym place_here)
          ∙ ap (λ n. text_or n (find (replaces_at (offset_of f i)) edits)) spelled
          ∙ sym (replaced.called w before d name s h p is rank f at i begins.0)

      new_name : IsReplaced → q.names u ≡ name
      new_name r = called ∙ replaced.new_spelled w before d name s h p is rank f at i r

      old_name : (IsReplaced → ⊥) → q.names u ≡ p.names u
      old_name none = called ∙ replaced.old_spelled w before d name s h p is rank f at i none ∙ sym spelled

      -- its token is replaced exactly if it is bound to the declaration

      replaced_bound : IsReplaced → IsBoundToSome w before h.rename.set p u
      replaced_bound r =
          let t = replaced.token_bound w before d name s h p is rank f at i r in
          let v = t.identifier in
          let there : NameBegins (slice_get p.files (p.layout.place v).file) (p.layout.place v).index place.path place.offset =
          subst (λ k. NameBegins (slice_get p.files k) (p.layout.place v).index place.path place.offset) (sym t.stands.1)
          (subst (λ n. NameBegins (slice_get p.files rank) n place.path place.offset) (sym t.stands.2) b.1) in
          let same : v ≡ u = one_begins w before p.path p is.is_checked place.path place.offset v u (t.inside, there) b in
          record { declaration = t.declaration; among = t.among; bound = subst (λ x. IsBoundToDeclaration w before p x t.declaration) same t.bound }

      bound_replaced : IsBoundToSome w before h.rename.set p u → IsReplaced
      bound_replaced some =
          let t = named_token (slice_get (tokens_in f.cut) i) begins.0 in
          let one : IsUseOf w before some.declaration place = record { used_in = p; is_package = is; user = u; begins = b; bound = some.bound } in
          let among =
          (h.rename.edits.is_renamed.uses.each place).1 (record { declaration = some.declaration; among = some.among; is_use = one }) in
          let start : offset_of f i ≡ t.0.span.start = ap (offset_at f.cut.text) t.1.0 in
          let here : place ≡ record { path = f.path; offset = t.0.span.start } =
          sym place_here ∙ ap (λ n. record { path = f.path; offset = n }) start in
          let e : Edit = record { span = t.0.span; text = (renamed w before d name s h).name } in
          let r : RenamesToken f (renamed w before d name s h) i e = record {
            token = t.0;
            at = t.1.0;
            is_name = t.1.1;
            among = subst (Contains (renamed w before d name s h).places) here among;
            is_edit = refl;
          } in
          record {
            edit = e;
            among = ((h.rename.edits.edits.each f (replaced.source w before d name s h p is rank f at)).each e).1 (i, inr r);
            token = replaced_token w before d name s h f i e r;
          }

      kept_or_bound : (q.names u ≡ p.names u → ⊥) → IsBoundToSome w before h.rename.set p u
      kept_or_bound ne = elim (replaced.replaced_or_not w before d name s h p is rank f at i) [
        | inl r ↦ replaced_bound r
        | inr none ↦ absurd (ne (old_name none))
      ]

    -- what is bound to a renamed declaration gets the name
    pub bound_is_called : IsBoundToSome w before h.rename.set p u → q.names u ≡ name
    bound_is_called bound = let f = source in new_name f.0 f.1.0 (bound_replaced f.0 f.1.0 bound)

    bound_if_other : (q.names u ≡ p.names u → ⊥) → IsBoundToSome w before h.rename.set p u
    bound_if_other ne = let f = source in kept_or_bound f.0 f.1.0 ne

  -- and nothing else gets another name
  pub others_are_kept : (u : ℕ) → (IsInFiles p u → IsBoundToSome w before h.rename.set p u → ⊥) → q.names u ≡ p.names u
  others_are_kept u other =
      same_bytes (q.names u) (p.names u) (λ ne. ne (relaid.other_names u (λ place b. other b.0 (bound_if_other u place b ne))))

not_predeclared : (w : Workspace) (before : Verdicts) (d : Declaration) (name : List ℕ) (s : FileChanges) → IsPlainRename w before d name s → (e : ℕ) →
    d ≡ Predeclared e → ⊥
not_predeclared w before d name s h e same = h.rename.renamable (subst (IsFixed (IsCheckedPackage w before)) (sym same) (inl tt))

pub others_stay : OtherScopesStay
others_stay w before d name s h p q is other relaid u e bound =
    others_are_kept w before d name s h p q is relaid u
    (λ inside some. elim (scope_number p u e bound) [
      | inl x ↦ not_predeclared w before d name s h e (is_own w before d name s h (Predeclared e) some.declaration some.among (λ m. m)
          (one_declaration w before p is u inside some.declaration (Predeclared e) some.bound (by_scope x)))
      | inr x ↦ other e (is_own w before d name s h (Declared p.path e) some.declaration some.among (λ m. m)
          (one_declaration w before p is u inside some.declaration (Declared p.path e) some.bound (by_scope x)))
    ])
