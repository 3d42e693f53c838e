-- The edits of a file, token by token. Q: the edits of each token.
use Rattle.std.proofs.Common.{◌≡◌, ℕ, ◌<◌, ◌≤◌, ◌+◌, inl, inr, List, [], ◌∷◌, ◌++◌, length, drop, get_or, Global, refl, sym, ap, subst, ◌∙◌, arith}
use Rattle.std.specs.Prelude.{Bool, Option, Some, None, Vec, Contains, MatchOption, slice_get}
use Rattle.std.specs.Global.{Vec as Row}
use Rattle.std.proofs.lemmas.List.{append-nil}
use Rattle.std.proofs.lemmas.Option.{same_Some, slice_get_within, get_or_from_slice_get}
use Rattle.base_files.specs.declared.place.Span.{Span}
use Rattle.go_scanner.specs.declared.piece.Piece.{Piece}
use Rattle.go_scanner.specs.declared.piece.Class.{Class}
use Rattle.go_scanner.specs.declared.piece.Class.TheVariants.{Name, InterpretedString, RawString}
use Rattle.go_scanner.specs.Cuts.{bytes_of}
use Rattle.go_scanner.specs.CutText.{tokens_in, token_at}
use Rattle.go_scanner.specs.Spans.{FollowFrom}
use Rattle.go_scanner.specs.TokenValues.{IsStringClass}
use Rattle.go_scanner.proofs.StringValueLemmas.{one_string_value}
use Rattle.go_ast.specs.SourceFile.{SourceFile}
use Rattle.workspace_graph.specs.FileImports.{import_literals}
use Rattle.types_declared.specs.Files.{HasLiteral}
use Rattle.base_edits.specs.declared.edit.Edit.{Edit}
use Rattle.types_declared.specs.Package.{Package}
use Rattle.refs_binding.specs.Bindings.{AddsAll}
use Rattle.refs_binding.proofs.AddingAll.{BelowAll, next_below, all_none, all_as}
use Rattle.refactor_rename.specs.FileEdits.{EndBy}
use Rattle.refactor_rename.proofs.Editing.{all_one, end_more, end_push, follow_at, at_end}
use Rattle.refactor_move.specs.declared.moved.Moved.{Moved}
use Rattle.refactor_move.specs.Paths.{quoted, HasMovedPackage}
use Rattle.refactor_move.specs.FileEdits.{ReplacesPath, ReplacesPackageName, IsMoveEditAt, AreFileMoveEdits}
use Rattle.refactor_move.specs.Steps.{IsNewLiteral, edits_with}
use Rattle.refactor_move.specs.Uses.{AreMarkedEdits, IsMarkedEditAt, IsRenamedToken, MarksUses, ReplacesMarkedName, mark_at}
use Rattle.refactor_move.proofs.PathParts.{one_moved_package}

-- one edit of each kind

abbrev pub edit_to : Piece → List ℕ → Edit
edit_to t text = record { span = t.span; text = text }

same_edit : (s t : Piece) (a b : List ℕ) → s ≡ t → a ≡ b → edit_to s a ≡ edit_to t b
same_edit s t a b e k = ap (λ x. edit_to x a) e ∙ ap (edit_to t) k

pub one_path : (f : SourceFile) (m : Moved) (i : ℕ) (d e : Edit) → ReplacesPath f m i d → ReplacesPath f m i e → d ≡ e
one_path f m i d e h k =
    let token : h.token ≡ k.token = same_Some h.token k.token (sym h.at ∙ k.at) in
    let old : h.old ≡ k.old = one_string_value (bytes_of f.cut.text (token_at f.cut i)) h.old k.old h.stands_for.stands_for k.stands_for.stands_for in
    let new : h.new ≡ k.new = one_moved_package m.from m.to k.old h.new k.new (subst (λ o. HasMovedPackage m.from m.to o h.new) old h.moves) k.moves in
    h.is_edit ∙ same_edit h.token k.token (quoted h.new) (quoted k.new) token (ap quoted new) ∙ sym k.is_edit

-- the literal at a token

abbrev IsRead : SourceFile → ℕ → Option (Vec ℕ Global) → Type 0
IsRead f i o = MatchOption o ((v : List ℕ) → HasLiteral f i v → ⊥) (λ v. HasLiteral f i v.items)

pub no_literal : (f : SourceFile) (i : ℕ) (o : Option (Vec ℕ Global)) → o ≡ None → IsRead f i o → (v : List ℕ) → HasLiteral f i v → ⊥
no_literal f i o e h = subst (IsRead f i) e h

pub the_literal : (f : SourceFile) (i : ℕ) (o : Option (Vec ℕ Global)) (v : Vec ℕ Global) → o ≡ Some v → IsRead f i o → HasLiteral f i v.items
the_literal f i o v e h = subst (IsRead f i) e h

abbrev IsMovedTo : Moved → List ℕ → Option (List ℕ) → Type 0
IsMovedTo m old t = MatchOption t ((new : List ℕ) → HasMovedPackage m.from m.to old new → ⊥)
    (λ text. (new : List ℕ) × (HasMovedPackage m.from m.to old new × (text ≡ quoted new)))

abbrev IsLiteralAfter : SourceFile → Moved → ℕ → Option (List ℕ) → Type 0
IsLiteralAfter f m i t = MatchOption t ((text : List ℕ) → IsNewLiteral f m i text → ⊥) (λ text. IsNewLiteral f m i text)

pub literal_told : (f : SourceFile) (m : Moved) (i : ℕ) (old : List ℕ) → HasLiteral f i old → (t : Option (List ℕ)) → IsMovedTo m old t → IsLiteralAfter f m i t
literal_told f m i old has None h = λ text k.
    let same : k.old ≡ old = one_string_value (bytes_of f.cut.text (token_at f.cut i)) k.old old k.stands_for.stands_for has.stands_for in
    h k.new (subst (λ o. HasMovedPackage m.from m.to o k.new) same k.moves)
literal_told f m i old has (Some text) h = record { old = old; stands_for = has; new = h.0; moves = h.1.0; is_text = h.1.1 }

pub path_edit : (f : SourceFile) (m : Moved) (i : ℕ) (t : Piece) (text : List ℕ) (o : Option (List ℕ)) → slice_get (tokens_in f.cut) i ≡ Some t →
    Contains (import_literals f.tree) i → o ≡ Some text → IsLiteralAfter f m i o → ReplacesPath f m i (edit_to t text)
path_edit f m i t text o at import e h =
    let n : IsNewLiteral f m i text = subst (IsLiteralAfter f m i) e h in
    record { token = t; at = at; is_import = import; old = n.old; stands_for = n.stands_for; new = n.new; moves = n.moves; is_edit = ap (edit_to t) n.is_text }

pub no_path_edit : (f : SourceFile) (m : Moved) (i : ℕ) (e : Edit) (o : Option (List ℕ)) → o ≡ None → IsLiteralAfter f m i o → ReplacesPath f m i e → ⊥
no_path_edit f m i e o none h k =
    let never : (text : List ℕ) → IsNewLiteral f m i text → ⊥ = subst (IsLiteralAfter f m i) none h in
    never (quoted k.new) (record { old = k.old; stands_for = k.stands_for; new = k.new; moves = k.moves; is_text = refl })

-- a text that may be there

pub end_with : (a b : List Edit) (span : Span) (o : Option (List ℕ)) → b ≡ a ++ edits_with span o → EndBy a span.start → span.start ≤ span.end →
    EndBy b span.end
end_with a b span None e h le = subst (λ l. EndBy l span.end) (sym (e ∙ append-nil a)) (end_more a span.start span.end le h)
end_with a b span (Some text) e h le =
    let d : Edit = record { span = span; text = text } in
    end_push a b d span.start span.end e h (omega arith) le (omega arith)

pub path_adds : (f : SourceFile) (m : Moved) (i : ℕ) (t : Piece) (o : Option (List ℕ)) → slice_get (tokens_in f.cut) i ≡ Some t →
    Contains (import_literals f.tree) i → IsLiteralAfter f m i o → (a b : List Edit) → b ≡ a ++ edits_with t.span o →
    AddsAll a b (ReplacesPath f m i)
path_adds f m i t None at import h a b e = subst (λ l. AddsAll a l (ReplacesPath f m i)) (sym (e ∙ append-nil a))
    (all_none a (ReplacesPath f m i) (λ d k. no_path_edit f m i d None refl h k))
path_adds f m i t (Some text) at import h a b e =
    let is : ReplacesPath f m i (edit_to t text) = path_edit f m i t text (Some text) at import refl h in
    all_one a b (edit_to t text) (ReplacesPath f m i) e is (λ d k. one_path f m i (edit_to t text) d is k)

-- a name that is replaced

one_name : (path : List ℕ) (rank : ℕ) (f : SourceFile) (m : Moved) (rows : List (Row Bool)) (i : ℕ) (t : Piece) (name : List ℕ) →
    slice_get (tokens_in f.cut) i ≡ Some t → m.name ≡ Some name → (d : Edit) → ReplacesMarkedName path rank f m rows i d → edit_to t name ≡ d
one_name path rank f m rows i t name at follows d k =
    same_edit t k.token name k.name (same_Some t k.token (sym at ∙ k.at)) (same_Some name k.name (sym follows ∙ k.follows)) ∙ sym k.is_edit

pub name_adds : (path : List ℕ) (rank : ℕ) (f : SourceFile) (m : Moved) (rows : List (Row Bool)) (i : ℕ) (t : Piece) (name : List ℕ) →
    slice_get (tokens_in f.cut) i ≡ Some t → t.class ≡ Name → IsRenamedToken path rank f m rows i → m.name ≡ Some name → (a b : List Edit) →
    b ≡ a ++ edit_to t name ∷ [] → AddsAll a b (ReplacesMarkedName path rank f m rows i)
name_adds path rank f m rows i t name at is_name names follows a b e =
    let is : ReplacesMarkedName path rank f m rows i (edit_to t name) =
    record { token = t; at = at; is_name = is_name; names = names; name = name; follows = follows; is_edit = refl } in
    all_one a b (edit_to t name) (ReplacesMarkedName path rank f m rows i) e is (one_name path rank f m rows i t name at follows)

-- a token is of one class

no_string : (c : Class) → c ≡ Name → IsStringClass c → ⊥
no_string c e (inl k) = let x : Name ≡ InterpretedString = sym e ∙ k in cc
no_string c e (inr k) = let x : Name ≡ RawString = sym e ∙ k in cc

pub no_path_at_name : (f : SourceFile) (m : Moved) (i : ℕ) (token : Piece) (e : Edit) → slice_get (tokens_in f.cut) i ≡ Some token → token.class ≡ Name →
    ReplacesPath f m i e → ⊥
no_path_at_name f m i token e at name h =
    let here : token_at f.cut i ≡ token = get_or_from_slice_get (tokens_in f.cut) i token _ at in
    no_string token.class name (subst (λ (t : Piece). IsStringClass t.class) here h.stands_for.is_string)

pub names_are_edits : (path : List ℕ) (rank : ℕ) (f : SourceFile) (m : Moved) (rows : List (Row Bool)) (i : ℕ) (a b : List Edit) →
    ((e : Edit) → ReplacesPath f m i e → ⊥) → AddsAll a b (ReplacesMarkedName path rank f m rows i) → AddsAll a b (IsMarkedEditAt path rank f m rows i)
names_are_edits path rank f m rows i a b never h =
    all_as a b (ReplacesMarkedName path rank f m rows i) (IsMarkedEditAt path rank f m rows i) (λ e n. inr n)
    (λ e x. elim x [ inl path ↦ absurd (never e path) | inr n ↦ n ]) h

-- the tokens so far

pub record Going (Q : ℕ → Edit → Type 0) (f : SourceFile) (ts : List Piece) (i : ℕ) (edits : List Edit) : Type 0 where
  pub at : ℕ
  pub end_by : EndBy edits at
  pub follow : FollowFrom at (drop i ts) (length f.cut.text)
  pub adds : AddsAll [] edits (BelowAll Q i)

pub going_next : (Q : ℕ → Edit → Type 0) (f : SourceFile) (ts : List Piece) (i : ℕ) (d : Piece) (old new : List Edit) → i < length ts → Going Q f ts i old →
    EndBy new (get_or ts i d).span.end → AddsAll old new (Q i) → Going Q f ts (i + 1) new
going_next Q f ts i d old new lt h ends added =
    record {
      at = (get_or ts i d).span.end;
      end_by = ends;
      follow = (follow_at ts i h.at (length f.cut.text) d lt h.follow).2;
      adds = next_below Q [] old
          new i h.adds added;
    }

-- all tokens

within_tokens : (path : List ℕ) (rank : ℕ) (f : SourceFile) (m : Moved) (rows : List (Row Bool)) (i : ℕ) (e : Edit) → IsMarkedEditAt path rank f m rows i e →
    i < length (tokens_in f.cut)
within_tokens path rank f m rows i e (inl h) = slice_get_within (tokens_in f.cut) i h.token h.at
within_tokens path rank f m rows i e (inr h) = slice_get_within (tokens_in f.cut) i h.token h.at

pub all_edits : (path : List ℕ) (rank : ℕ) (f : SourceFile) (m : Moved) (rows : List (Row Bool)) (ts : List Piece) (edits : List Edit) (n : ℕ) →
    ts ≡ tokens_in f.cut → n ≡ length ts → Going (IsMarkedEditAt path rank f m rows) f ts n edits → AreMarkedEdits path rank f m rows edits
all_edits path rank f m rows ts edits n e all h = record {
  end_by = end_more edits h.at (length f.cut.text) (at_end h.at (length f.cut.text) (drop n ts) h.follow) h.end_by;
  each = λ d. (
    (λ has. elim (h.adds.only d has) [
      | inl none ↦ let lt : none.0 < 0 = none.1 in let z : ⊥ = omega arith in absurd z
      | inr x ↦ (x.0, x.2)
    ]),
    (λ x. h.adds.holds d (x.0, (let lt = within_tokens path rank f m rows x.0 d x.1 in omega (arith, all, ap length e)), x.1)),
  );
}

-- the edits by right marks are those of the move

module _ (p : Package) (path : List ℕ) (same : p.path ≡ path) (rank : ℕ) (f : SourceFile) (file : slice_get p.files rank ≡ Some f) (m : Moved)
    (rows : List (Row Bool)) (marks : MarksUses p m rows) where
  by_mark : (i : ℕ) (e : Edit) → IsMarkedEditAt path rank f m rows i e → IsMoveEditAt p rank f m i e
  by_mark i e (inl h) = inl h
  by_mark i e (inr h) = inr (record {
    token = h.token;
    at = h.at;
    is_name = h.is_name;
    names = elim h.names [ inl clause ↦ inl (same ∙ clause.0, clause.1) | inr marked ↦ inr (marks.only rank i marked) ];
    name = h.name;
    follows = h.follows;
    is_edit = h.is_edit;
  })

  to_mark : (i : ℕ) (e : Edit) → IsMoveEditAt p rank f m i e → IsMarkedEditAt path rank f m rows i e
  to_mark i e (inl h) = inl h
  to_mark i e (inr h) = inr (record {
    token = h.token;
    at = h.at;
    is_name = h.is_name;
    names = elim h.names [
      | inl clause ↦ inl (sym same ∙ clause.0, clause.1)
      | inr bound ↦ inr (marks.all h.name h.follows rank i (record { source = f; of_rank = file; piece = h.token; at = h.at; is_name = h.is_name }) bound)
    ];
    name = h.name;
    follows = h.follows;
    is_edit = h.is_edit;
  })

  pub marked_edits : (edits : List Edit) → AreMarkedEdits path rank f m rows edits → AreFileMoveEdits p rank f m edits
  marked_edits edits h = record {
    end_by = h.end_by;
    each = λ e. (
      (λ has. let x = (h.each e).0 has in (x.0, by_mark x.0 e x.1)),
      (λ x. (h.each e).1 (x.0, to_mark x.0 e x.1)),
    );
  }
