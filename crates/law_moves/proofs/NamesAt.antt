-- Names at tokens after a move: those bound to an import that follows get the new name, and all others but names in clauses stay.
use Rattle.std.proofs.Common.{ℕ, ◌≡◌, ◌<◌, inl, inr, List, [], Option, Some, None, refl, sym, ap, subst, ◌∙◌, arith}
use Rattle.std.specs.Prelude.{slice_get, unwrap_or}
use Rattle.base_files.specs.Workspace.{Workspace}
use Rattle.base_files.specs.declared.place.Place.{Place}
use Rattle.base_edits.specs.EditSet.{FileChanges}
use Rattle.base_edits.specs.RevisionsOfEdits.{new_name_at}
use Rattle.base_edits.specs.declared.edit.Edit.{Edit}
use Rattle.go_scanner.specs.declared.piece.Class.TheVariants.{Name}
use Rattle.go_scanner.specs.declared.piece.Piece.{Piece}
use Rattle.go_scanner.specs.CutText.{tokens_in}
use Rattle.go_ast.specs.SourceFile.{SourceFile, offset_at, offset_of, spelling_of}
use Rattle.go_scope.specs.declared.model.Position.{Position}
use Rattle.go_scope.specs.declared.model.Purpose.TheVariants as purpose
use Rattle.go_scope.specs.declared.model.Role.TheVariants.{NotLexical}
use Rattle.go_scope.specs.Bindings.{IsBoundTo}
use Rattle.go_scope.specs.Table.{IsFoundAt, LiesAt}
use Rattle.law_tokens.proofs.Ordered.{one_stands}
use Rattle.types_declared.specs.Package.{Package, spelled, spelled_at}
use Rattle.workspace_check.specs.Verdicts.{Verdicts}
use Rattle.refs_binding.specs.DeclaringPlaces.{TokenBegins}
use Rattle.refs_binding.specs.Identifiers.{BeginsAt, IsNameToken, NameBegins}
use Rattle.refs_binding.specs.Uses.{IsCheckedPackage}
use Rattle.refs_binding.proofs.PlaceOrder.{place_is}
use Rattle.refs_binding.proofs.Tokens.{Begins}
use Rattle.refs_lookup.proofs.OnePlace.{one_begins}
use Rattle.refs_uses.proofs.NameTokens.{name_at_token}
use Rattle.refactor_move.specs.declared.moved.Moved.{Moved}
use Rattle.refactor_move.specs.FileEdits.{IsImportUse, ReplacesPackageName}
use Rattle.law_faultless.proofs.Scoped.{in_order}
use Rattle.law_moves.specs.Moves.{IsMove}
use Rattle.law_moves.proofs.Clauses.{IsNameAt, after, clause_stands, es, file, good, here, name_kept, rank_there, use_here}
use Rattle.law_moves.proofs.MovedFiles.{m}
use Rattle.law_moves.proofs.MoveEdits.{edited_file}
use Rattle.law_moves.proofs.NewSpelled.{called, is_piece, spelled_put}
use Rattle.law_moves.specs.ThereMoved.{IsFollowingImport, NamesApartFromMoveStay, followed_name}

-- the name that follows
pub follows_so : (m : Moved) (name : List ℕ) → m.name ≡ Some name → followed_name m ≡ name
follows_so m name is = ap (λ o. unwrap_or o []) is

module _ (w : Workspace) (known : Verdicts) (from to : List ℕ) (s : FileChanges) (h : IsMove w known from to s) (p : Package) (is : IsCheckedPackage w known p)
    (rank : ℕ) (f : SourceFile) (at : slice_get p.files rank ≡ Some f) (path : List ℕ) where
  abbrev moved : Moved
  moved = m w known from to s h

  abbrev there : ℕ
  there = rank_there w known from to s h p is rank f at path

  abbrev NameAt : ℕ → Type 0
  NameAt i = IsNameAt w known from to s h p is rank f at path i

  abbrev pub now : SourceFile
  now = after w known from to s h p is rank f at path

  abbrev lies : ℕ → ℕ → Type 0
  lies i u = LiesAt p.layout (here w known from to s h p is rank f at path i) u

  module _ (i : ℕ) (n : NameAt i) (u : ℕ) (lt : u < p.size) (stands : lies i u) where
    only : (v : ℕ) → v < p.size → lies i v → v ≡ u
    only v less also =
        one_stands p.layout p.size (in_order w known p.path p is.is_checked) (here w known from to s h p is rank f at path i) v u less lt also stands

    -- what is replaced there is a use of an import that follows
    never : (p.layout.role u ≡ NotLexical purpose.PackageClause → ⊥) → ((d : ℕ) → IsFollowingImport moved p d → IsBoundTo p.layout p.names u d → ⊥) →
        (e : Edit) → ReplacesPackageName p there f moved i e → ⊥
    never no_clause unbound e r = elim r.names [
      | inl mine ↦
          let v = clause_stands w known from to s h p is rank f at path in
          let lies_there : lies i v.0 = subst (λ k. lies k v.0) mine.1 v.1.1.0 in
          no_clause (ap p.layout.role (sym (only v.0 v.1.0 lies_there)) ∙ v.1.1.1)
      | inr used ↦
          let same : used.binds.identifier ≡ u =
          only used.binds.identifier used.binds.found.within (use_here w known from to s h p is rank f at path i n used) in
          unbound used.import
          (record {
            follows = r.follows ∙ ap Some (sym (follows_so moved r.name r.follows));
            imports = used.imports;
            unnamed = used.unnamed;
          })
          (subst (λ v. IsBoundTo p.layout p.names v used.import) same used.binds.bound)
    ]

    pub name_stays : (p.layout.role u ≡ NotLexical purpose.PackageClause → ⊥) →
        ((d : ℕ) → IsFollowingImport moved p d → IsBoundTo p.layout p.names u d → ⊥) → spelling_of now i ≡ spelling_of f i
    name_stays no_clause unbound = name_kept w known from to s h p is rank f at path i n (never no_clause unbound)

    -- in the file as the edits know it
    abbrev also_here : Position
    also_here = record { file = there; index = i }

    lies_there : LiesAt p.layout also_here u
    lies_there =
        let place : Place = record { path = f.path; offset = n.piece.span.start } in
        let named : NameBegins (Some f) i f.path n.piece.span.start = (subst IsNameToken (sym n.held) n.is_name, refl, ap (offset_at f.cut.text) n.held) in
        let begins : Begins p also_here place =
        subst (λ o. NameBegins o i f.path n.piece.span.start) (sym (edited_file w known from to s h p is rank f at).at_there) named in
        let a = name_at_token w known p.path p is.is_checked also_here place begins in
        let own : BeginsAt p f.path n.piece.span.start u = (
          (lt, stands.0),
          subst (λ k. NameBegins (slice_get p.files k) (p.layout.place u).index f.path n.piece.span.start) (sym stands.1)
              (subst (λ j. NameBegins (slice_get p.files rank) j f.path n.piece.span.start) (sym stands.2)
              (subst (λ o. NameBegins o i f.path n.piece.span.start) (sym at) named)),
        ) in
        let same : a.0 ≡ u = one_begins w known p.path p is.is_checked f.path n.piece.span.start a.0 u a.1.0 own in
        subst (LiesAt p.layout also_here) same a.1.1

    found_there : IsFoundAt p.layout p.size also_here u
    found_there = record {
      within = lt;
      holds = lies_there;
      first = λ v less also.
          let same : v ≡ u = one_stands p.layout p.size (in_order w known p.path p is.is_checked) also_here v u (omega (arith, less, lt)) lt also lies_there in
          omega (arith, less, same);
    }

    pub name_put : (d : ℕ) → IsFollowingImport moved p d → IsBoundTo p.layout p.names u d → spelling_of now i ≡ followed_name moved
    name_put d follows bound =
        let e : Edit = record { span = n.piece.span; text = followed_name moved } in
        let used : IsImportUse p there moved i = record {
          import = d;
          binds = record { identifier = u; found = found_there; bound = bound };
          unnamed = follows.unnamed;
          imports = follows.imports;
        } in
        let r : ReplacesPackageName p there f moved i e = record {
          token = n.piece;
          at = n.held;
          is_name = n.is_name;
          names = inr used;
          name = followed_name moved;
          follows = follows.follows;
          is_edit = refl;
        } in
        spelled_put path f (es w known from to s h p is rank f at path) (file w known from to s h p is rank f at path)
        (good w known from to s h p is rank f at path) i n.piece n.held e
        (((edited_file w known from to s h p is rank f at).are.each e).1 (i, inr r)) refl

  -- a name is spelled afterwards as the change calls it
  pub called_so : (i : ℕ) → NameAt i → (place : Place) → TokenBegins (Some f) i place → new_name_at s place (spelling_of f i) ≡ spelling_of now i
  called_so i n place begins =
      let edits = es w known from to s h p is rank f at path in
      let is_file = file w known from to s h p is rank f at path in
      let are = good w known from to s h p is rank f at path in
      let here : record { path = f.path; offset = offset_of f i } ≡ place =
      place_is (record { path = f.path; offset = offset_of f i }) place begins.0 begins.1 in
      ap (λ (y : Place). new_name_at s y (spelling_of f i)) (sym here)
      ∙ sym (called path f edits is_file are i n.piece n.held (is_piece path f edits is_file are i n.piece n.held (inl n.is_name)))

-- a token that is a name
pub name_token : (o : Option Piece) → IsNameToken o → (t : Piece) × ((o ≡ Some t) × (t.class ≡ Name))
name_token None h = absurd h
name_token (Some t) h = (t, (refl, h))

pub names_apart : NamesApartFromMoveStay
names_apart w known from to s h p is at place u token a =
    let f = token.file in
    let i = at.index in
    let t = name_token (slice_get (tokens_in f.cut) i) token.is_name in
    let n : IsNameAt w known from to s h p is at.file f token.of_rank f.path i = record { piece = t.0; held = t.1.0; is_name = t.1.1 } in
    let spelling : spelled p at.file i ≡ spelling_of f i = ap (λ o. spelled_at o i) token.of_rank in
    let begins : TokenBegins (Some f) i place = subst (λ o. TokenBegins o i place) token.of_rank token.begins in
    ap (new_name_at s place) spelling ∙ called_so w known from to s h p is at.file f token.of_rank f.path i n place begins
    ∙ name_stays w known from to s h p is at.file f token.of_rank f.path i n u a.within a.stands a.no_clause a.unbound ∙ sym spelling
