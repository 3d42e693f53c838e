-- The kinds of tokens, and the tree, of a text in which names and strings are replaced.
use Rattle.std.proofs.Common.{ℕ, ◌≡◌, ◌+◌, List, [], ◌∷◌, ◌&&◌, Option, Some, None, map, refl, sym, ap, ◌∙◌, subst}
use Rattle.std.specs.Prelude.{slice_get, option_map}
use Rattle.std.specs.List.{AllByRecursion, Contains, slice_range}
use Rattle.std.proofs.lemmas.List.Elements.{All-contains}
use Rattle.std.proofs.lemmas.Option.{slice_get-map}
use Rattle.base_lemmas.proofs.EachElement.{all_from_each}
use Rattle.base_files.specs.declared.place.Span.{Span}
use Rattle.go_scanner.specs.declared.piece.Class.{Class}
use Rattle.go_scanner.specs.declared.piece.Class.TheVariants as class
use Rattle.go_scanner.specs.declared.piece.Piece.{Piece}
use Rattle.go_scanner.specs.Cuts.{IsCut, bytes_of}
use Rattle.go_scanner.specs.CutText.{CutText, tokens_in}
use Rattle.go_scanner.specs.Tokens.{ends_statement, is_trivia, line_ends, semicolon, tokens_of}
use Rattle.go_scanner.proofs.IntegerLemmas.{by_test}
use Rattle.base_edits.specs.Edits.{edited_text}
use Rattle.base_edits.specs.Moved.{moved_offset}
use Rattle.base_edits.specs.declared.edit.Edit.{Edit}
use Rattle.base_edits.proofs.MovedPlaces.{moves_end}
use Rattle.go_ast.specs.Kinds.{kind_of, kind_of_name, kinds_from, kinds_of}
use Rattle.go_ast.specs.SourceFile.{SourceFile, IsSourceFile, offset_at, offset_of}
use Rattle.go_ast.specs.Verdict.{IsWhole}
use Rattle.go_ast.specs.WellFormed.{IsTreeOf}
use Rattle.go_respelled.specs.PieceEdits.{ArePieceEdits}
use Rattle.go_respelled.specs.Renamings.{AreNameEdits, moved_piece, recut}
use Rattle.go_respelled.specs.Trees.{KeepKinds, renamed_file}
use Rattle.go_respelled.proofs.KeptBytes.{IsEdited, each_edit, edited_or_kept, kept, kept_bytes, put, put_bytes, within}
use Rattle.go_respelled.proofs.Many.{new_cut, piece_edits}
use Rattle.go_respelled.proofs.MovedTokens.{tokens_moved, tokens_stay}

-- A fact on each piece, and on semicolons, is one on each token.
pub each_token : (P : Piece → Type 0) → ((at : ℕ) → P (semicolon at)) → (text : List ℕ) (ps : List Piece) → AllByRecursion P ps →
    AllByRecursion P (tokens_of text ps)
unfolding tokens_of
each_token P inserted text [] all = tt
each_token P inserted text (p ∷ ps) all =
    let rest = each_token P inserted text ps all.1 in
    by_test (is_trivia p.class)
    (λ trivia. rw trivia rest)
    (λ token. by_test (ends_statement p.class && line_ends text ps)
    (λ ends. rw (token, ends) (all.0, (inserted p.span.end, rest)))
    (λ goes. rw (token, goes) (all.0, rest)))

-- kinds

kind_by : (c : Class) (a b : List ℕ) → (c ≡ class.Name → kind_of_name a ≡ kind_of_name b) → kind_of c a ≡ kind_of c b
kind_by class.Name a b same = same refl
kind_by _ a b same = refl

kinds_same : (n : ℕ) (edits : List Edit) (text new : List ℕ) (ts : List Piece) →
    AllByRecursion (λ t. kind_of t.class (bytes_of new (moved_piece edits t)) ≡ kind_of t.class (bytes_of text t)) ts →
    kinds_from n new (map (moved_piece edits) ts) ≡ kinds_from n text ts
unfolding kinds_from
kinds_same n edits text new [] same = refl
kinds_same n edits text new (t ∷ ts) same =
    let first : kind_of t.class (bytes_of new (moved_piece edits t)) ≡ kind_of t.class (bytes_of text t) = same.0 in
    let rest : kinds_from (n + 1) new (map (moved_piece edits) ts) ≡ kinds_from (n + 1) text ts = kinds_same (n + 1) edits text new ts same.1 in
    λ i. record { kind = first i; place = n } ∷ rest i

pub kinds_last : (c : CutText) (edits : List Edit) → IsCut c.text c.pieces → ArePieceEdits c.pieces edits → KeepKinds c.text edits →
    kinds_of (recut edits c) ≡ kinds_of c
kinds_last c edits cut are keep =
    let new : List ℕ = edited_text edits c.text in
    let P : Piece → Type 0 = λ t. kind_of t.class (bytes_of new (moved_piece edits t)) ≡ kind_of t.class (bytes_of c.text t) in
    let pieces : AllByRecursion P c.pieces = all_from_each P c.pieces (λ p has. kind_by p.class (bytes_of new (moved_piece edits p)) (bytes_of c.text p)
    (λ name. by_edit p has (edited_or_kept c.text c.pieces edits p cut (each_edit c edits cut are) has))) in
    ap (kinds_from 0 new) (tokens_stay c edits cut are)
    ∙ kinds_same 0 edits c.text new (tokens_in c) (each_token P (λ at. refl) c.text c.pieces pieces)
  where
    by_edit : (p : Piece) → Contains c.pieces p → IsEdited edits p →
        kind_of_name (bytes_of (edited_text edits c.text) (moved_piece edits p)) ≡ kind_of_name (bytes_of c.text p)
    by_edit p has (kept spared) = ap kind_of_name (kept_bytes c edits cut are p has spared)
    by_edit p has (put e at is) =
        ap kind_of_name (put_bytes c edits cut are e p at is)
        ∙ All-contains (λ (x : Edit). kind_of_name x.text ≡ kind_of_name (slice_range c.text x.span.start x.span.end)) edits e keep at
        ∙ ap (λ (x : Span). kind_of_name (slice_range c.text x.start x.end)) (sym is)

pub kinds_stay : (c : CutText) (edits : List Edit) → IsCut c.text c.pieces → AreNameEdits c.pieces edits → KeepKinds c.text edits →
    kinds_of (recut edits c) ≡ kinds_of c
kinds_stay c edits cut are keep = kinds_last c edits cut (piece_edits c.pieces edits are) keep

-- trees

pub tree_stays : (f : SourceFile) (edits : List Edit) → IsSourceFile f → ArePieceEdits f.cut.pieces edits → KeepKinds f.cut.text edits →
    IsSourceFile (renamed_file edits f)
tree_stays f edits is are keep =
    let same = sym (kinds_last f.cut edits is.is_cut are keep) in
    record {
      is_cut = new_cut f.cut edits is.is_cut are;
      is_tree = subst (IsTreeOf f.tree) same is.is_tree;
      whole = subst IsWhole same is.whole;
    }

pub file_stays : (f : SourceFile) (edits : List Edit) → IsSourceFile f → AreNameEdits f.cut.pieces edits → KeepKinds f.cut.text edits →
    IsSourceFile (renamed_file edits f)
file_stays f edits is are keep = tree_stays f edits is (piece_edits f.cut.pieces edits are) keep

-- The piece at a token.

pub offset_moved : (f : SourceFile) (edits : List Edit) (n : ℕ) → IsCut f.cut.text f.cut.pieces → AreNameEdits f.cut.pieces edits →
    offset_of (renamed_file edits f) n ≡ moved_offset edits (offset_of f n)
offset_moved f edits n cut are =
    let new : List ℕ = edited_text edits f.cut.text in
    ap (λ ts. offset_at new (slice_get ts n)) (tokens_moved f.cut edits cut are)
    ∙ ap (offset_at new) (slice_get-map (moved_piece edits) (tokens_in f.cut) n)
    ∙ by_token (slice_get (tokens_in f.cut) n)
  where
    by_token : (o : Option Piece) → offset_at (edited_text edits f.cut.text) (option_map (moved_piece edits) o) ≡ moved_offset edits (offset_at f.cut.text o)
    by_token None = moves_end edits f.cut.text are.in_order (within f.cut edits cut (piece_edits f.cut.pieces edits are))
    by_token (Some p) = refl
