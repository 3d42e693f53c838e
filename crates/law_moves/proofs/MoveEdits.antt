-- The edits of a move, by file: each replaces an import path, the name in a package clause, or the qualifier of an import without a name.
use Rattle.std.proofs.Common.{ℕ, cond, ◌≡◌, inl, inr, true, List, [], ◌∷◌, ◌++◌, length, length-append, Option, Some, refl, sym, ap, subst, ◌∙◌, arith}
use Rattle.std.specs.Prelude.{Contains, slice_get, MatchOption, ◌==◌}
use Rattle.std.specs.FinMap.{entries, get}
use Rattle.std.specs.List.{slice_range}
use Rattle.std.specs.Cmp.Lexicographic.{pointwise, bytes_decides}
use Rattle.std.proofs.lemmas.Bool.{and_parts, false_from_ne_true}
use Rattle.std.proofs.lemmas.List.Elements.{All-from_recursion}
use Rattle.std.proofs.lemmas.Option.{same_Some, get_or_from_slice_get}
use Rattle.base_lemmas.proofs.EachElement.{all_from_each}
use Rattle.base_files.specs.Path.{folder, IsPath}
use Rattle.base_files.specs.Packages.{is_go, is_of_package, package_files, package_paths}
use Rattle.base_files.specs.Workspace.{Workspace}
use Rattle.base_files.specs.declared.place.Span.{Span}
use Rattle.base_edits.specs.EditSet.{FileChanges, change_of}
use Rattle.base_edits.specs.Moved.{edits_by}
use Rattle.base_edits.specs.declared.edit.Edit.{Edit}
use Rattle.base_edits.proofs.Entries.{some_is}
use Rattle.go_scanner.specs.declared.piece.Class.TheVariants.{Name, InterpretedString}
use Rattle.go_scanner.specs.declared.piece.Piece.{Piece}
use Rattle.go_scanner.specs.Cuts.{bytes_of}
use Rattle.go_scanner.specs.CutText.{tokens_in, token_at}
use Rattle.go_scanner.specs.Pieces.{IsPiece}
use Rattle.go_scanner.specs.StringValues.{HasStringValue}
use Rattle.go_scanner.specs.TokenValues.{IsStringClass}
use Rattle.go_scanner.specs.Tokens.{semicolon}
use Rattle.go_scanner.proofs.OneCutLemmas.{same_class}
use Rattle.go_ast.specs.declared.syntax.Kind.TheVariants as kind
use Rattle.go_ast.specs.Kinds.{kind_of_name}
use Rattle.go_ast.specs.SourceFile.{SourceFile, IsSourceFile, spelling_at, spelling_of}
use Rattle.go_scope.specs.Bindings.{Counts, IsBoundTo, use_bound, own}
use Rattle.go_scope.specs.Table.{LiesAt}
use Rattle.law_rename.proofs.Folders.{folder_is_path}
use Rattle.law_rename.proofs.Quoting.{quoted_literal}
use Rattle.go_respelled.proofs.Spelled.{held_at}
use Rattle.go_respelled.proofs.Trees.{each_token}
use Rattle.law_tokens.proofs.OwnPaths.{part_at}
use Rattle.types_declared.specs.Package.{Package}
use Rattle.workspace_graph.specs.Packages.{IsParsed, PackageImports}
use Rattle.workspace_graph.proofs.OneFile.{one_file}
use Rattle.workspace_check.specs.Verdicts.{Verdicts}
use Rattle.workspace_check.proofs.Closed.{to_package}
use Rattle.workspace_check.proofs.Members.{cases_contains, passes}
use Rattle.workspace_check.proofs.PackageFiles.{entry_at, in_folder, package_file}
use Rattle.refs_binding.specs.Identifiers.{IsNameToken}
use Rattle.refs_binding.specs.Uses.{IsCheckedPackage}
use Rattle.refs_binding.proofs.Bound.{bound_named}
use Rattle.refs_binding.proofs.Folders.{file_in_folder}
use Rattle.refs_binding.proofs.Units.{one_package}
use Rattle.refs_lookup.proofs.OnePlace.{same_files}
use Rattle.refactor_move.specs.declared.moved.Moved.{Moved}
use Rattle.refactor_move.specs.FileEdits.{AreFileMoveEdits, IsMoveEditAt, IsImportUse, ReplacesPath, ReplacesPackageName}
use Rattle.refactor_move.specs.Following.{Follows}
use Rattle.refactor_move.specs.Paths.{HasMovedPackage, last_of}
use Rattle.refactor_move.proofs.GoFiles.{text_of_file}
use Rattle.refactor_move.proofs.PathParts.{one_moved_package}
use Rattle.law_faultless.proofs.Declared.{not_blank}
use Rattle.law_faultless.proofs.LinksBound.{source_is}
use Rattle.law_faultless.proofs.Numbers.{clause_named}
use Rattle.law_faultless.proofs.PackageWorlds.{own_package}
use Rattle.law_faultless.proofs.Spellings.{name_spelled}
use Rattle.law_renamed_workspaces.proofs.NameEdits.{ranked}
use Rattle.law_renamed_workspaces.proofs.NameTokens.{named_as_spelled}
use Rattle.law_renamed_workspaces.proofs.GoodImports.{imports_are_good}
use Rattle.law_moves.specs.Moves.{IsMove}
use Rattle.law_moves.specs.Replacements.{AreReplacedPieces, IsReplacement, KeepNameKinds, MayReplace, MovesAreReplacements}
use Rattle.law_moves.proofs.MovedFiles.{entry_goes, m}
use Rattle.law_moves.proofs.MovedFolders.{folder_moves, folder_stays}
use Rattle.law_moves.proofs.MovedPaths.{IsOutside, cases_joined, folder_alone, folder_joined}
use Rattle.law_moves.proofs.NewSpelled.{IsWordClass}

name_kind : (bytes : List ℕ) → (bytes ≡ 95 ∷ [] → ⊥) → kind_of_name bytes ≡ kind.Name
name_kind bytes other =
    ap (λ b. cond b kind.Blank kind.Name) (false_from_ne_true (pointwise ◌==◌ bytes (95 ∷ [])) (λ e. other ((bytes_decides bytes (95 ∷ [])).0 e)))

longer : (front behind : List ℕ) (c : ℕ) → [] ≡ front ++ c ∷ behind → ⊥
longer front behind c e = omega (arith, ap length e, length-append front (c ∷ behind))

counts_of : (p : Package) (u n : ℕ) → IsBoundTo p.layout p.names u n → Counts p.layout p.names n
counts_of p u n (use_bound i x) = x.counts
counts_of p u n (own e c) = c

-- a name or string literal among the tokens is a piece
word_piece : (f : SourceFile) (n : ℕ) (t : Piece) → slice_get (tokens_in f.cut) n ≡ Some t → IsWordClass t.class → Contains f.cut.pieces t
word_piece f n t at word =
    let P : Piece → Type 0 = λ x. IsWordClass x.class → Contains f.cut.pieces x in
    held_at P (tokens_in f.cut) n t (each_token P (λ place h. absurd (no_word h)) f.cut.text f.cut.pieces
    (all_from_each P f.cut.pieces (λ x has h. has))) at word
  where
    no_word : IsWordClass (semicolon 0).class → ⊥
    no_word (inl e) = cc
    no_word (inr h) = elim h [ inl e ↦ (let z : ⊥ = cc in z) | inr e ↦ (let z : ⊥ = cc in z) ]

module _ (w : Workspace) (known : Verdicts) (from to : List ℕ) (s : FileChanges) (h : IsMove w known from to s) where
  abbrev pub edits_of : SourceFile → List Edit
  edits_of f = edits_by (change_of s f.path)

  abbrev moved : Moved
  moved = m w known from to s h

  -- the new path of a package that moves is a path
  folder_path : (new folder_of : List ℕ) → IsPath 1 new → folder new ≡ folder_of → (folder_of ≡ [] → ⊥) → IsPath 1 folder_of
  folder_path new of is same some = elim (cases_joined new) [
    | inl found ↦ subst (IsPath 1) (sym (folder_joined new found.0 found.1.0 found.1.1) ∙ same)
        (folder_is_path 1 found.0 found.1.0 (subst (IsPath 1) found.1.1.whole is))
    | inr none ↦ absurd (some (sym same ∙ folder_alone new none))
  ]

  pub new_is_path : (old new : List ℕ) → Contains (package_paths w) old → HasMovedPackage from to old new → IsPath 1 new
  new_is_path old new has (inl e) = subst (IsPath 1) (sym e.1) h.target
  new_is_path old new has (inr moves) =
      let some = package_file w old has in
      let e = some.0 in
      let own = passes (λ (d : List ℕ × List ℕ). is_of_package old d.0) (entries w) e some.1 in
      let at : folder e.0 ≡ old = in_folder w old e some.1 in
      elim (entry_goes w known from to s h e own.1) [
        | inl a ↦
            let goes : HasMovedPackage from to old (folder a.0) =
            subst (λ q. HasMovedPackage from to q (folder a.0)) at (folder_moves from to e.0 a.0 a.1.0.moved) in
            folder_path a.0 new a.1.0.is_path
            (one_moved_package from to old (folder a.0) new goes (inr moves))
            (λ none. longer to moves.rest 47 (sym none ∙ moves.is))
        | inr b ↦ absurd ((subst (IsOutside from) at (folder_stays from e.0 h.source b.0)).outside
            (moves.rest, moves.was))
      ]

  -- the new name of the package
  pub new_name : (name : List ℕ) → moved.name ≡ Some name → Follows (IsCheckedPackage w known) from h.called × (name ≡ last_of h.called)
  new_name name is =
      subst (λ (o : Option (List ℕ)). MatchOption o (Follows (IsCheckedPackage w known) from h.called → ⊥)
      (λ n. Follows (IsCheckedPackage w known) from h.called × (n ≡ last_of h.called))) is h.edits.is_move.name

  module _ (p : Package) (is : IsCheckedPackage w known p) (rank : ℕ) (f : SourceFile) (at : slice_get p.files rank ≡ Some f) where
    pub is_file : IsSourceFile f
    is_file = source_is w known p.path p is.is_checked rank f at

    abbrev pub edits : List Edit
    edits = edits_of f

    entry : (e : List ℕ × List ℕ) × (Contains (package_files w p.path) e × IsParsed e.0 e.1 f)
    entry =
        let t = part_at is.is_checked.files rank f (subst (λ fs. slice_get fs rank ≡ Some f) (same_files w known p.path p is.is_checked) at) in
        let e = entry_at is.is_checked.parsed rank t.0 t.1.0 in
        (e.0, (e.1.0, subst (IsParsed e.0.0 e.0.1) t.1.1 e.1.1))

    go : is_go f.path ≡ true
    go =
        let e = entry in
        let test = (passes (λ (d : List ℕ × List ℕ). is_of_package p.path d.0) (entries w) e.0 e.1.0).0 in
        ap is_go e.1.1.of_path ∙ (and_parts (is_go e.0.0) (pointwise ◌==◌ (folder e.0.0) p.path) test).0

    -- the edits of the file
    pub record IsFileEdited : Type 0 where
      pub rank_there : ℕ
      pub at_there : slice_get p.files rank_there ≡ Some f
      pub are : AreFileMoveEdits p rank_there f moved edits

    pub edited_file : IsFileEdited
    edited_file =
        let text = text_of_file w known p is rank f at in
        let a = (h.edits.edits f.path (some_is (get w f.path) f.cut.text text)).go go in
        let inside : a.inside ≡ p = one_package w known a.inside p a.is_package is
        (sym (file_in_folder w known a.inside a.is_package a.rank a.source a.has_rank) ∙ ap folder a.of_path ∙ file_in_folder w known p is rank f at) in
        let other = text_of_file w known a.inside a.is_package a.rank a.source a.has_rank in
        let same_text : a.source.cut.text ≡ f.cut.text =
        same_Some a.source.cut.text f.cut.text (sym other ∙ ap (get w) a.of_path ∙ text) in
        let same : a.source ≡ f = one_file f.path f.cut.text a.source f
        (record {
          of_path = a.of_path;
          of_text = same_text;
          is_file = source_is w known a.inside.path a.inside a.is_package.is_checked a.rank a.source a.has_rank;
        })
        (record { of_path = refl; of_text = refl; is_file = is_file }) in
        record {
          rank_there = a.rank;
          at_there = ap (λ (x : Package). slice_get x.files a.rank) (sym inside) ∙ a.has_rank ∙ ap Some same;
          are = subst (λ (x : Package). AreFileMoveEdits x a.rank f moved edits) inside
              (subst (λ (x : SourceFile). AreFileMoveEdits a.inside a.rank x moved edits) same a.are);
        }

    abbrev pub k : ℕ
    k = edited_file.rank_there

    -- how an edit replaces a token
    pub replaces : (e : Edit) → Contains edits e → (i : ℕ) × IsMoveEditAt p k f moved i e
    replaces e has = (edited_file.are.each e).0 has

    -- the literal's package
    pub imported : (i : ℕ) (e : Edit) → (r : ReplacesPath f moved i e) → Contains (package_paths w) r.old
    imported i e r =
        let piece : token_at f.cut i ≡ r.token = get_or_from_slice_get (tokens_in f.cut) i r.token (semicolon 0) r.at in
        let i : PackageImports w p.path r.old = record {
          entry = entry.0;
          of_package = entry.1.0;
          file = f;
          parsed = entry.1.1;
          imports = record {
            token = i;
            literal = r.is_import;
            piece = r.token;
            at = r.at;
            is_string = subst (λ (x : Piece). IsStringClass x.class) piece r.stands_for.is_string;
            value = subst (λ (x : Piece). HasStringValue (bytes_of f.cut.text x) r.old) piece r.stands_for.stands_for;
          };
        } in
        elim (cases_contains (package_paths w) r.old) [
          | inl there ↦ there
          | inr none ↦ absurd (imports_are_good w h.sound known h.right p is r.old i (λ on. none (to_package w p.path r.old on.imported)))
        ]

    pub moves : (i : ℕ) (e : Edit) → (r : ReplacesPath f moved i e) → HasMovedPackage from to r.old r.new
    moves i e r =
        subst (λ q. HasMovedPackage q to r.old r.new) h.edits.is_move.source
        (subst (λ q. HasMovedPackage moved.from q r.old r.new) h.edits.is_move.target r.moves)

    -- the token that an edit replaces
    pub record IsEditOf (i : ℕ) (e : Edit) : Type 0 where
      pub token : Piece
      pub held : slice_get (tokens_in f.cut) i ≡ Some token
      pub span : e.span ≡ token.span
      pub may : MayReplace token.class e.text

    string_token : (i : ℕ) (e : Edit) → (r : ReplacesPath f moved i e) → IsStringClass r.token.class
    string_token i e r =
        subst (λ (x : Piece). IsStringClass x.class) (get_or_from_slice_get (tokens_in f.cut) i r.token (semicolon 0) r.at) r.stands_for.is_string

    pub edit_of : (i : ℕ) (e : Edit) → IsMoveEditAt p k f moved i e → IsEditOf i e
    edit_of i e (inl r) = record {
      token = r.token;
      held = r.at;
      span = ap (λ (x : Edit). x.span) r.is_edit;
      may = inr (
        string_token i e r,
        record {
          path = r.new;
          is_path = new_is_path r.old r.new (imported i e r) (moves i e r);
          spelled = ap (λ (x : Edit). x.text) r.is_edit;
        },
      );
    }
    edit_of i e (inr r) = record {
      token = r.token;
      held = r.at;
      span = ap (λ (x : Edit). x.span) r.is_edit;
      may = inl (
        r.is_name,
        subst (IsPiece Name) (sym (ap (λ (x : Edit). x.text) r.is_edit ∙ (new_name r.name r.follows).1)) (new_name r.name r.follows).0.form.spelled,
      );
    }

    pub word_of : (i : ℕ) (e : Edit) → (d : IsEditOf i e) → IsWordClass d.token.class
    word_of i e d = elim d.may [ inl n ↦ inl n.0 | inr z ↦ inr z.0 ]

    pub replacement : (e : Edit) → Contains edits e → IsReplacement f.cut.pieces e
    replacement e has =
        let r = replaces e has in
        let d = edit_of r.0 e r.1 in
        record { old = d.token; is_piece = word_piece f r.0 d.token d.held (word_of r.0 e d); span = d.span; may = d.may }

    pub replacements : AreReplacedPieces f.cut.pieces edits
    replacements = record {
      in_order = edited_file.are.end_by.in_order;
      each = All-from_recursion (IsReplacement f.cut.pieces) edits (all_from_each (IsReplacement f.cut.pieces) edits replacement);
    }

    -- names keep their kinds

    use_not_blank : (i : ℕ) (r : IsImportUse p k moved i) → IsNameToken (slice_get (tokens_in f.cut) i) → spelling_of f i ≡ 95 ∷ [] → ⊥
    use_not_blank i r named blank =
        let u = r.binds.identifier in
        let stands : LiesAt p.layout (record { file = k; index = i }) u = r.binds.found.holds in
        let there : slice_get p.files (p.layout.place u).file ≡ Some f = ap (slice_get p.files) stands.1 ∙ edited_file.at_there in
        let spelled = named_as_spelled w known p.path p is.is_checked u (r.binds.found.within, stands.0) f there
        (subst (λ n. IsNameToken (slice_get (tokens_in f.cut) n)) (sym stands.2) named) in
        not_blank w h.sound p.path p (own_package w h.sound known h.right p is).is_checked r.import
        (counts_of p u r.import r.binds.bound).declares.may
        (sym (bound_named p.layout p.names u r.import r.binds.bound) ∙ spelled ∙ ap (spelling_of f) stands.2 ∙ blank)

    old_not_blank : (i : ℕ) (e : Edit) → (r : ReplacesPackageName p k f moved i e) → spelling_of f i ≡ 95 ∷ [] → ⊥
    old_not_blank i e r blank = elim r.names [
      | inl clause ↦ name_spelled f f.tree.name (clause_named f is_file) (ap (spelling_of f) clause.1 ∙ blank)
      | inr used ↦ use_not_blank i used (subst IsNameToken (sym r.at) r.is_name) blank
    ]

    abbrev KeepsKind : Edit → Type 0
    KeepsKind e = IsPiece Name e.text → kind_of_name e.text ≡ kind_of_name (slice_range f.cut.text e.span.start e.span.end)

    keep_kind : (i : ℕ) (e : Edit) → IsMoveEditAt p k f moved i e → KeepsKind e
    keep_kind i e (inl r) word =
        let path = quoted_literal 1 r.new (new_is_path r.old r.new (imported i e r) (moves i e r)) in
        let string : IsPiece InterpretedString e.text = subst (IsPiece InterpretedString) (sym (ap (λ (x : Edit). x.text) r.is_edit)) path.piece in
        let z : ⊥ = not_both (same_class Name InterpretedString e.text word string) in absurd z
      where
        not_both : Name ≡ InterpretedString → ⊥
        not_both e = cc
    keep_kind i e (inr r) word =
        let span : e.span ≡ r.token.span = ap (λ (x : Edit). x.span) r.is_edit in
        let old : spelling_of f i ≡ bytes_of f.cut.text r.token = ap (spelling_at f.cut.text) r.at in
        let named = new_name r.name r.follows in
        name_kind e.text (λ blank. named.0.form.no_blank (sym named.1 ∙ sym (ap (λ (x : Edit). x.text) r.is_edit) ∙ blank))
        ∙ sym (name_kind (slice_range f.cut.text e.span.start e.span.end)
        (λ blank. old_not_blank i e r (old ∙ ap (λ (x : Span). slice_range f.cut.text x.start x.end) (sym span) ∙ blank)))

    pub keep_kinds : KeepNameKinds f.cut edits
    keep_kinds = All-from_recursion KeepsKind edits (all_from_each KeepsKind edits (λ e has. keep_kind (replaces e has).0 e (replaces e has).1))

pub moves_are : MovesAreReplacements
moves_are w known from to s h f is =
    let k = ranked is.inside.files f is.has in
    (replacements w known from to s h is.inside is.is_package k.0 f k.1, keep_kinds w known from to s h is.inside is.is_package k.0 f k.1)
