-- The edits of a plain rename: each replaces a name, which is an identifier that is bound to the renamed declaration.
use Rattle.std.proofs.Common.{ℕ, ◌≡◌, ◌==◌, inl, inr, List, [], ◌∷◌, length, Some, cond, ap, sym, subst, refl, ◌∙◌}
use Rattle.std.specs.Prelude.{Contains, slice_get}
use Rattle.std.specs.Cmp.Lexicographic.{pointwise, bytes_decides}
use Rattle.std.specs.List.{slice_range}
use Rattle.std.proofs.lemmas.Bool.{false_from_ne_true}
use Rattle.std.proofs.lemmas.List.Elements.{All-from_recursion}
use Rattle.std.proofs.lemmas.Option.{slice_get_read}
use Rattle.base_lemmas.proofs.EachElement.{all_from_each}
use Rattle.base_files.specs.Workspace.{Workspace}
use Rattle.base_files.specs.declared.place.Place.{Place}
use Rattle.go_scanner.specs.declared.piece.Class.TheVariants.{Name}
use Rattle.go_scanner.specs.declared.piece.Piece.{Piece}
use Rattle.go_scanner.specs.Cuts.{bytes_of}
use Rattle.go_scanner.specs.CutText.{tokens_in}
use Rattle.go_scanner.specs.Pieces.{IsPiece}
use Rattle.go_ast.specs.declared.syntax.Kind.TheVariants as kind
use Rattle.go_ast.specs.Kinds.{kind_of_name}
use Rattle.go_ast.specs.SourceFile.{SourceFile, spelling_at, spelling_of, offset_at}
use Rattle.base_edits.specs.EditSet.{FileChanges, change_of}
use Rattle.base_edits.specs.Moved.{edits_by}
use Rattle.base_edits.specs.declared.edit.Edit.{Edit}
use Rattle.go_scope.specs.Table.{LiesAt}
use Rattle.go_respelled.specs.Renamings.{AreNameEdits, replaced_piece}
use Rattle.go_respelled.specs.Trees.{KeepKinds}
use Rattle.go_respelled.proofs.ByTokens.{edits_of_tokens}
use Rattle.types_declared.specs.Package.{Package}
use Rattle.workspace_check.specs.Verdicts.{Verdicts}
use Rattle.refs_binding.specs.declared.declaration.Declaration.{Declaration}
use Rattle.refs_binding.specs.Identifiers.{IsInFiles, IsNameToken, NameBegins, BeginsAt}
use Rattle.refs_binding.specs.Uses.{IsCheckedPackage, IsBoundToDeclaration, IsUseOf}
use Rattle.refs_binding.proofs.Folders.{begins_in_folder}
use Rattle.refs_binding.proofs.Tokens.{Begins}
use Rattle.refs_binding.proofs.Units.{one_package}
use Rattle.refs_lookup.proofs.OnePlace.{one_begins}
use Rattle.refs_uses.specs.UsesOfEach.{IsUseOfSome}
use Rattle.refs_uses.proofs.NameTokens.{name_at_token}
use Rattle.refactor_rename.specs.declared.renamed.Renamed.{Renamed}
use Rattle.refactor_rename.specs.FileEdits.{IsLiteralAt, RenamesToken, IsEditAt}
use Rattle.refactor_rename.specs.RenameEdits.{IsSourceIn}
use Rattle.law_renamed_workspaces.specs.Layouts.{RenamesAreNameEdits}
use Rattle.law_renamed_workspaces.specs.Renames.{IsPlainRename}
use Rattle.law_renamed_workspaces.proofs.Bound.{bound_not_blank}

-- an identifier of the package stands at the token, and is bound to a declaration of the set
pub record IsBoundToken (w : Workspace) (known : Verdicts) (set : List Declaration) (p : Package) (rank i : ℕ) : Type 0 where
  pub declaration : Declaration
  pub among : Contains set declaration
  pub identifier : ℕ
  pub inside : IsInFiles p identifier
  pub stands : LiesAt p.layout (record { file = rank; index = i }) identifier
  pub bound : IsBoundToDeclaration w known p identifier declaration

name_kind : (bytes : List ℕ) → (bytes ≡ 95 ∷ [] → ⊥) → kind_of_name bytes ≡ kind.Name
name_kind bytes other =
    ap (λ b. cond b kind.Blank kind.Name) (false_from_ne_true (pointwise ◌==◌ bytes (95 ∷ [])) (λ e. other ((bytes_decides bytes (95 ∷ [])).0 e)))

-- the rank of a file of a package
pub ranked : (files : List SourceFile) (f : SourceFile) → Contains files f → (rank : ℕ) × (slice_get files rank ≡ Some f)
ranked files f has = (has.0, slice_get_read files (length files) has.0 f refl has.1 (sym has.2))

module _ (w : Workspace) (known : Verdicts) (d : Declaration) (name : List ℕ) (s : FileChanges) (h : IsPlainRename w known d name s) where
  abbrev pub renamed : Renamed
  renamed = h.rename.edits.renamed

  abbrev pub edits_of : SourceFile → List Edit
  edits_of f = edits_by (change_of s f.path)

  by_kind : (f : SourceFile) (i : ℕ) (e : Edit) → IsEditAt f renamed i e → RenamesToken f renamed i e
  by_kind f i e a = elim a [ inl put ↦ absurd (subst (λ o. IsLiteralAt o f.path i) h.plain put.is_literal) | inr r ↦ r ]

  -- each edit replaces a name by the new one
  pub replaces : (f : SourceFile) → IsSourceIn w known f → (e : Edit) → Contains (edits_of f) e → (i : ℕ) × RenamesToken f renamed i e
  replaces f is e has = let a = ((h.rename.edits.edits.each f is).each e).0 has in (a.0, by_kind f a.0 e a.1)

  pub new_text : (f : SourceFile) (i : ℕ) (e : Edit) → RenamesToken f renamed i e → e.text ≡ name
  new_text f i e r = ap (λ (x : Edit). x.text) r.is_edit ∙ h.rename.edits.is_renamed.named

  -- the token that it replaces
  pub replaced_token : (f : SourceFile) (i : ℕ) (e : Edit) → RenamesToken f renamed i e → slice_get (tokens_in f.cut) i ≡ Some (replaced_piece e)
  replaced_token f i e r =
      let span : e.span ≡ r.token.span = ap (λ (x : Edit). x.span) r.is_edit in
      let same : Some r.token ≡ Some (replaced_piece e) = (λ j. Some (record { class = r.is_name j; span = sym span j })) in
      r.at ∙ same

  module _ (p : Package) (is : IsCheckedPackage w known p) (rank : ℕ) (f : SourceFile) (at : slice_get p.files rank ≡ Some f) where
    -- a name's token begins at its place
    pub begins_there : (i : ℕ) (token : Piece) → slice_get (tokens_in f.cut) i ≡ Some token → token.class ≡ Name →
        Begins p (record { file = rank; index = i }) (record { path = f.path; offset = token.span.start })
    begins_there i token has name =
        subst (λ o. NameBegins o i f.path token.span.start) (sym at) (subst IsNameToken (sym has) name, refl, ap (offset_at f.cut.text) has)

    -- two names that begin at one place are one
    pub same_token : (i j : ℕ) (one other : Piece) → slice_get (tokens_in f.cut) i ≡ Some one → one.class ≡ Name →
        slice_get (tokens_in f.cut) j ≡ Some other → other.class ≡ Name → one.span.start ≡ other.span.start → i ≡ j
    same_token i j one other has name also named start =
        let place : Place = record { path = f.path; offset = other.span.start } in
        let first : Begins p (record { file = rank; index = i }) place =
        subst (λ n. Begins p (record { file = rank; index = i }) (record { path = f.path; offset = n })) start (begins_there i one has name) in
        let a = name_at_token w known p.path p is.is_checked (record { file = rank; index = i }) place first in
        let b = name_at_token w known p.path p is.is_checked (record { file = rank; index = j }) place (begins_there j other also named) in
        let same : a.0 ≡ b.0 = one_begins w known p.path p is.is_checked place.path place.offset a.0 b.0 a.1.0 b.1.0 in
        sym a.1.1.2 ∙ ap (λ u. (p.layout.place u).index) same ∙ b.1.1.2

    pub bound_token : (i : ℕ) (e : Edit) → RenamesToken f renamed i e → IsBoundToken w known h.rename.set p rank i
    bound_token i e r =
        let place : Place = record { path = f.path; offset = r.token.span.start } in
        let one = name_at_token w known p.path p is.is_checked (record { file = rank; index = i }) place (begins_there i r.token r.at r.is_name) in
        let some_use : IsUseOfSome w known h.rename.set place = (h.rename.edits.is_renamed.uses.each place).0 r.among in
        let of : Declaration = some_use.declaration in
        let one_use : IsUseOf w known of place = some_use.is_use in
        let same : one_use.used_in ≡ p = one_package w known one_use.used_in p one_use.is_package is
        (begins_in_folder w known one_use.used_in one_use.is_package place.path place.offset one_use.user one_use.begins
        ∙ sym (begins_in_folder w known p is place.path place.offset one.0 one.1.0)) in
        let begins : BeginsAt p place.path place.offset one_use.user =
        subst (λ (x : Package). BeginsAt x place.path place.offset one_use.user) same one_use.begins in
        let user : one_use.user ≡ one.0 = one_begins w known p.path p is.is_checked place.path place.offset one_use.user one.0 begins one.1.0 in
        let bound : IsBoundToDeclaration w known p one_use.user of = subst (λ (x : Package). IsBoundToDeclaration w known x one_use.user of) same
        one_use.bound in
        record {
          declaration = of;
          among = some_use.among;
          identifier = one.0;
          inside = one.1.0.0;
          stands = one.1.1;
          bound = subst (λ u. IsBoundToDeclaration w known p u of) user bound;
        }

    -- and it is no `_`
    pub old_not_blank : (i : ℕ) (e : Edit) → RenamesToken f renamed i e → spelling_of f i ≡ 95 ∷ [] → ⊥
    old_not_blank i e r blank =
        let b = bound_token i e r in
        let u = b.identifier in
        let file : slice_get p.files (p.layout.place u).file ≡ Some f = ap (slice_get p.files) b.stands.1 ∙ at in
        let index : (p.layout.place u).index ≡ i = b.stands.2 in
        bound_not_blank w h.rename.sound known h.rename.right p is u b.declaration b.inside b.bound f file
        (subst (λ n. IsNameToken (slice_get (tokens_in f.cut) n)) (sym index) (subst IsNameToken (sym r.at) r.is_name)) (ap (spelling_of f) index ∙ blank)

  -- in each file names take the place of names

  pub name_edits : (f : SourceFile) → IsSourceIn w known f → AreNameEdits f.cut.pieces (edits_of f)
  name_edits f is =
      edits_of_tokens f.cut (edits_of f) (h.rename.edits.edits.each f is).end_by.in_order
      (λ e has. let r = replaces f is e has in (
        subst (IsPiece Name) (sym (new_text f r.0 e r.1)) h.rename.form.spelled,
        (r.0, replaced_token f r.0 e r.1),
      ))

  keep_kind : (f : SourceFile) → IsSourceIn w known f → (e : Edit) → Contains (edits_of f) e →
      kind_of_name e.text ≡ kind_of_name (slice_range f.cut.text e.span.start e.span.end)
  keep_kind f is e has =
      let r = replaces f is e has in
      let k = ranked is.inside.files f is.has in
      let old : spelling_of f r.0 ≡ bytes_of f.cut.text (replaced_piece e) = ap (spelling_at f.cut.text) (replaced_token f r.0 e r.1) in
      name_kind e.text (λ blank. h.rename.form.no_blank (sym (new_text f r.0 e r.1) ∙ blank))
      ∙ sym (name_kind (slice_range f.cut.text e.span.start e.span.end) (λ blank.
      old_not_blank is.inside is.is_package k.0 f k.1 r.0 e r.1 (old ∙ blank)))

  pub keep_kinds : (f : SourceFile) → IsSourceIn w known f → KeepKinds f.cut.text (edits_of f)
  keep_kinds f is =
      let P : Edit → Type 0 = λ e. kind_of_name e.text ≡ kind_of_name (slice_range f.cut.text e.span.start e.span.end) in
      All-from_recursion P (edits_of f) (all_from_each P (edits_of f) (keep_kind f is))

pub renames_are : RenamesAreNameEdits
renames_are w known d name s h f is = (name_edits w known d name s h f is, keep_kinds w known d name s h f is)
