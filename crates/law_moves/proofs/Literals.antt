-- The string literals of imports after a move: each has the moved path as its value.
use Rattle.std.proofs.Common.{ℕ, ◌≡◌, inl, inr, Bool, List, Option, Some, None, refl, sym, ap, subst, ◌∙◌}
use Rattle.std.specs.Prelude.{Contains, slice_get, option_map}
use Rattle.std.proofs.lemmas.Option.{none-some, same_Some}
use Rattle.base_files.specs.Workspace.{Workspace}
use Rattle.base_files.specs.declared.place.Span.{Span}
use Rattle.base_edits.specs.EditSet.{FileChanges}
use Rattle.base_edits.specs.declared.edit.Edit.{Edit}
use Rattle.go_scanner.specs.declared.piece.Class.{Class}
use Rattle.go_scanner.specs.declared.piece.Class.TheVariants.{RawString}
use Rattle.go_scanner.specs.declared.piece.Piece.{Piece}
use Rattle.go_scanner.specs.Cuts.{bytes_of}
use Rattle.go_scanner.specs.CutText.{tokens_in, token_at}
use Rattle.go_scanner.specs.StringValues.{HasStringValue}
use Rattle.go_scanner.specs.TokenValues.{IsStringClass}
use Rattle.go_scanner.proofs.StringValueLemmas.{one_string_value}
use Rattle.go_ast.specs.SourceFile.{SourceFile, IsSourceFile, spelling_at, spelling_of}
use Rattle.law_rename.proofs.Quoting.{quoted_literal}
use Rattle.types_declared.specs.Files.{HasLiteral}
use Rattle.types_declared.specs.Package.{Package}
use Rattle.workspace_graph.specs.FileImports.{import_literals}
use Rattle.workspace_check.specs.Verdicts.{Verdicts}
use Rattle.refs_binding.specs.Uses.{IsCheckedPackage}
use Rattle.refactor_move.specs.declared.moved.Moved.{Moved}
use Rattle.refactor_move.specs.FileEdits.{IsMoveEditAt, ReplacesPath}
use Rattle.refactor_move.specs.Paths.{HasMovedPackage, quoted}
use Rattle.law_renamed_workspaces.proofs.Literals.{to_string, from_string, no_name}
use Rattle.law_moves.specs.Moves.{IsMove, moved_path}
use Rattle.law_moves.specs.Replacements.{AreReplacedPieces, class_by, is_replaced, new_piece, replaced_file}
use Rattle.law_moves.proofs.MovedPaths.{IsOutside, cases_moving, moves_to, stays_at}
use Rattle.law_moves.proofs.MovedFiles.{m}
use Rattle.law_moves.proofs.MoveEdits.{edits, edited_file, edit_of, imported, is_file, k, moves, new_is_path, replacements, replaces, word_of}
use Rattle.law_moves.proofs.NewSpelled.{found, found_edit, is_piece, none_found, one_number, spelled_kept, spelled_put, token_of}
use Rattle.law_moves.proofs.OneEdit.{string_kept}

string_was : (c : Class) (b : Bool) → IsStringClass (class_by c b) → IsStringClass c
string_was RawString b h = inr refl
string_was c b h = h

mapped_back : (g : Piece → Piece) (o : Option Piece) (y : Piece) → option_map g o ≡ Some y → (x : Piece) × ((o ≡ Some x) × (g x ≡ y))
mapped_back g None y e = absurd (none-some y e)
mapped_back g (Some x) y e = (x, (refl, same_Some (g x) y e))

module _ (w : Workspace) (known : Verdicts) (from to : List ℕ) (s : FileChanges) (h : IsMove w known from to s) (p : Package) (is : IsCheckedPackage w known p)
    (rank : ℕ) (f : SourceFile) (at : slice_get p.files rank ≡ Some f) (path : List ℕ) where
  abbrev pub goes : List ℕ → List ℕ
  goes = moved_path from to

  abbrev moved : Moved
  moved = m w known from to s h

  abbrev es : List Edit
  es = edits w known from to s h p is rank f at

  abbrev file : IsSourceFile f
  file = is_file w known from to s h p is rank f at

  pub are : AreReplacedPieces f.cut.pieces es
  are = replacements w known from to s h p is rank f at

  abbrev rank_there : ℕ
  rank_there = k w known from to s h p is rank f at

  abbrev pub new : SourceFile
  new = replaced_file path es f

  abbrev token : ℕ → Option Piece
  token n = slice_get (tokens_in f.cut) n

  -- how the edit with the span of a token replaces it
  pub how : (n : ℕ) (t : Piece) → token n ≡ Some t → (e : Edit) → Contains es e → e.span ≡ t.span → Contains f.cut.pieces t →
      IsMoveEditAt p rank_there f moved n e
  how n t has e among same piece =
      let r = replaces w known from to s h p is rank f at e among in
      let d = edit_of w known from to s h p is rank f at r.0 e r.1 in
      let there = is_piece path f es file are r.0 d.token d.held (word_of w known from to s h p is rank f at r.0 e d) in
      let number : r.0 ≡ n = one_number path f es file are r.0 n d.token t d.held has there piece (ap (λ (x : Span). x.start) (sym d.span ∙ same)) in
      subst (λ i. IsMoveEditAt p rank_there f moved i e) number r.1

  -- at a string an edit replaces a path
  pub string_edit : (n : ℕ) (t : Piece) → token n ≡ Some t → IsStringClass t.class → (e : Edit) → Contains es e → e.span ≡ t.span →
      ReplacesPath f moved n e
  string_edit n t has string e among same = elim (how n t has e among same (is_piece path f es file are n t has (inr string))) [
    | inl r ↦ r
    | inr r ↦
        let token : t ≡ r.token = same_Some t r.token (sym has ∙ r.at) in
        absurd (no_name t.class string (ap (λ (x : Piece). x.class) token ∙ r.is_name))
  ]

  -- literals

  new_at : (n : ℕ) (t : Piece) → token n ≡ Some t → slice_get (tokens_in new.cut) n ≡ Some (new_piece es t)
  new_at n t has = token_of path f es file are n ∙ ap (option_map (new_piece es)) has

  new_bytes : (n : ℕ) (t : Piece) → token n ≡ Some t → bytes_of new.cut.text (new_piece es t) ≡ spelling_of new n
  new_bytes n t has = sym (ap (spelling_at new.cut.text) (new_at n t has))

  put_value : (n : ℕ) (t : Piece) → token n ≡ Some t → IsStringClass t.class → (value : List ℕ) → HasStringValue (spelling_of new n) value →
      HasLiteral new n value
  put_value n t has string value stands =
      from_string new n value (record {
        piece = new_piece es t;
        at = new_at n t has;
        is_string = string_kept t.class (is_replaced es t) string;
        has_value = subst (λ b. HasStringValue b value) (sym (new_bytes n t has)) stands;
      })

  path_value : (n : ℕ) (e : Edit) → (r : ReplacesPath f moved n e) → HasStringValue e.text r.new
  path_value n e r =
      subst (λ b. HasStringValue b r.new) (sym (ap (λ (x : Edit). x.text) r.is_edit))
      (quoted_literal 1 r.new (new_is_path w known from to s h r.old r.new (imported w known from to s h p is rank f at n e r)
      (moves w known from to s h p is rank f at n e r))).stands_for

  one_value : (n : ℕ) (a b : List ℕ) → HasLiteral f n a → HasLiteral f n b → a ≡ b
  one_value n a b x y = one_string_value (bytes_of f.cut.text (token_at f.cut n)) a b x.stands_for y.stands_for

  pub one_new : (n : ℕ) (a b : List ℕ) → HasLiteral new n a → HasLiteral new n b → a ≡ b
  one_new n a b x y = one_string_value (bytes_of new.cut.text (token_at new.cut n)) a b x.stands_for y.stands_for

  -- the edit of an import of what moves
  pub path_edit : (n : ℕ) (old to_path : List ℕ) → Contains (import_literals f.tree) n → HasLiteral f n old → HasMovedPackage from to old to_path →
      (t : Piece) → token n ≡ Some t → (e : Edit) × (Contains es e × ((e.span ≡ t.span) × (e.text ≡ quoted to_path)))
  path_edit n old to_path among l goes_there t has =
      let e : Edit = record { span = t.span; text = quoted to_path } in
      let there : HasMovedPackage moved.from moved.to old to_path =
      subst (λ q. HasMovedPackage q moved.to old to_path) (sym h.edits.is_move.source)
      (subst (λ q. HasMovedPackage from q old to_path) (sym h.edits.is_move.target) goes_there) in
      let r : ReplacesPath f moved n e = record {
        token = t;
        at = has;
        is_import = among;
        old = old;
        stands_for = l;
        new = to_path;
        moves = there;
        is_edit = refl;
      } in
      (e, (((edited_file w known from to s h p is rank f at).are.each e).1 (n, inl r), (refl, refl)))

  pub literal_moves : (n : ℕ) (old : List ℕ) → Contains (import_literals f.tree) n → HasLiteral f n old → HasLiteral new n (goes old)
  literal_moves n old among l =
      let x = to_string f n old l in
      elim (cases_moving from to old) [
        | inl a ↦
            let e = path_edit n old a.0 among l a.1 x.piece x.at in
            let r = string_edit n x.piece x.at x.is_string e.0 e.1.0 e.1.1.0 in
            let spelled = spelled_put path f es file are n x.piece x.at e.0 e.1.0 e.1.1.0 in
            let same : r.old ≡ old = one_value n r.old old r.stands_for l in
            let moved_too = moves w known from to s h p is rank f at n e.0 r in
            put_value n x.piece x.at x.is_string (goes old)
            (subst (HasStringValue (spelling_of new n)) (sym (moves_to from to r.old r.new moved_too) ∙ ap goes same)
            (subst (λ b. HasStringValue b r.new) (sym spelled) (path_value n e.0 r)))
        | inr out ↦
            let piece = is_piece path f es file are n x.piece x.at (inr x.is_string) in
            let spelled = spelled_kept path f es file are n x.piece x.at piece (λ e has same.
            let r = string_edit n x.piece x.at x.is_string e has same in
            never old r.old r.new out (one_value n old r.old l r.stands_for) (moves w known from to s h p is rank f at n e r)) in
            put_value n x.piece x.at x.is_string (goes old)
            (subst (HasStringValue (spelling_of new n)) (sym (stays_at from to old out))
            (subst (λ b. HasStringValue b old) (ap (spelling_at f.cut.text) (sym x.at) ∙ sym spelled) x.has_value))
      ]
    where
      never : (old other new : List ℕ) → IsOutside from old → old ≡ other → HasMovedPackage from to other new → ⊥
      never old other after out same (inl e) = out.other (same ∙ e.0)
      never old other after out same (inr u) = out.outside (u.rest, same ∙ u.was)

  -- and back

  pub record WasLiteral (n : ℕ) (value : List ℕ) : Type 0 where
    pub old : List ℕ
    pub was : HasLiteral f n old
    pub goes_there : value ≡ goes old

  pub string_before : (n : ℕ) (value : List ℕ) → HasLiteral new n value → (t : Piece) × ((token n ≡ Some t) × IsStringClass t.class)
  string_before n value l =
      let x = to_string new n value l in
      let o = mapped_back (new_piece es) (token n) x.piece (sym (token_of path f es file are n) ∙ x.at) in
      (o.0, (o.1.0, string_was o.0.class (is_replaced es o.0) (subst (λ (y : Piece). IsStringClass y.class) (sym o.1.1) x.is_string)))

  put_back : (n : ℕ) (value old : List ℕ) → Contains (import_literals f.tree) n → HasLiteral new n value → HasLiteral f n old → WasLiteral n value
  put_back n value old among l was = record { old = old; was = was; goes_there = one_new n value (goes old) l (literal_moves n old among was) }

  by_found : (n : ℕ) (value : List ℕ) → Contains (import_literals f.tree) n → HasLiteral new n value → (t : Piece) → token n ≡ Some t →
      IsStringClass t.class → (x : Option Edit) → found path f es file are n ≡ x → WasLiteral n value
  by_found n value among l t has string (Some e) is_found =
      let d = found_edit path f es file are n t has (is_piece path f es file are n t has (inr string)) e is_found in
      let r = string_edit n t has string e d.0 d.1 in
      put_back n value r.old among l r.stands_for
  by_found n value among l t has string None is_found =
      let piece = is_piece path f es file are n t has (inr string) in
      let spelled = spelled_kept path f es file are n t has piece (none_found path f es file are n t has piece is_found) in
      let x = to_string new n value l in
      let bytes : spelling_of new n ≡ bytes_of f.cut.text t = spelled ∙ ap (spelling_at f.cut.text) has in
      let same : bytes_of new.cut.text x.piece ≡ spelling_of new n = sym (ap (spelling_at new.cut.text) x.at) in
      put_back n value value among l (from_string f n value (record {
        piece = t;
        at = has;
        is_string = string;
        has_value = subst (λ b. HasStringValue b value) (same ∙ bytes) x.has_value;
      }))

  pub literal_back : (n : ℕ) (value : List ℕ) → Contains (import_literals f.tree) n → HasLiteral new n value → WasLiteral n value
  literal_back n value among l =
      let o = string_before n value l in by_found n value among l o.0 o.1.0 o.1.1 (found path f es file are n) refl
