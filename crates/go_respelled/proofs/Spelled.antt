-- How the tokens of a text in which names are replaced are spelled, by their numbers.
use Rattle.std.proofs.Common.{ℕ, zero, suc, ◌≡◌, ◌-◌, List, [], ◌∷◌, Option, Some, None, take, drop, refl, sym, ap, ◌∙◌, subst, arith}
use Rattle.std.specs.Prelude.{slice_get, option_map}
use Rattle.std.specs.List.{AllByRecursion, Contains}
use Rattle.std.proofs.lemmas.Option.{none-some, same_Some, slice_get-map}
use Rattle.base_lemmas.proofs.EachElement.{all_from_each}
use Rattle.go_scanner.specs.declared.piece.Piece.{Piece}
use Rattle.go_scanner.specs.Cuts.{IsCut, bytes_of}
use Rattle.go_scanner.specs.CutText.{tokens_in}
use Rattle.go_scanner.specs.Tokens.{semicolon}
use Rattle.base_edits.specs.Edits.{edited_text}
use Rattle.base_edits.specs.declared.edit.Edit.{Edit}
use Rattle.go_ast.specs.SourceFile.{SourceFile, spelling_at, spelling_of}
use Rattle.go_respelled.specs.Renamings.{AreNameEdits, moved_piece, replaced_piece}
use Rattle.go_respelled.specs.Trees.{renamed_file}
use Rattle.go_respelled.proofs.KeptBytes.{spelled_kept, spelled_put}
use Rattle.go_respelled.proofs.MovedTokens.{tokens_moved}
use Rattle.go_respelled.proofs.Trees.{each_token}

pub held_at : {X : Type 0} (P : X → Type 0) (xs : List X) (n : ℕ) (x : X) → AllByRecursion P xs → slice_get xs n ≡ Some x → P x
held_at P [] n x all at = absurd (none-some x at)
held_at P (y ∷ xs) zero x all at = subst P (same_Some y x at) all.0
held_at P (y ∷ xs) (suc n) x all at = held_at P xs n x all.1 at

empty : (text : List ℕ) (at : ℕ) → bytes_of text (semicolon at) ≡ []
empty text at = let none : at - at ≡ 0 = omega arith in ap (λ (k : ℕ). take k (drop at text)) none

module _ (f : SourceFile) (edits : List Edit) (cut : IsCut f.cut.text f.cut.pieces) (are : AreNameEdits f.cut.pieces edits) where
  abbrev new : List ℕ
  new = edited_text edits f.cut.text

  abbrev old_token : ℕ → Option Piece
  old_token n = slice_get (tokens_in f.cut) n

  spelled_as : (n : ℕ) → spelling_of (renamed_file edits f) n ≡ spelling_at new (option_map (moved_piece edits) (old_token n))
  spelled_as n = ap (λ ts. spelling_at new (slice_get ts n)) (tokens_moved f.cut edits cut are) ∙
      ap (spelling_at new) (slice_get-map (moved_piece edits) (tokens_in f.cut) n)

  -- a token that no edit replaces
  abbrev IsOther : Piece → Type 0
  IsOther t = (e : Edit) → Contains edits e → t ≡ replaced_piece e → ⊥

  abbrev StaysIfOther : Piece → Type 0
  StaysIfOther t = IsOther t → bytes_of new (moved_piece edits t) ≡ bytes_of f.cut.text t

  all_stay : AllByRecursion StaysIfOther (tokens_in f.cut)
  all_stay = each_token StaysIfOther (λ at other. empty new _ ∙ sym (empty f.cut.text at)) f.cut.text f.cut.pieces
      (all_from_each StaysIfOther f.cut.pieces (λ p has other. spelled_kept f.cut edits p cut are has other))

  by_token : (n : ℕ) (o : Option Piece) → old_token n ≡ o → ((e : Edit) → Contains edits e → old_token n ≡ Some (replaced_piece e) → ⊥) →
      spelling_at new (option_map (moved_piece edits) o) ≡ spelling_at f.cut.text o
  by_token n None is other = refl
  by_token n (Some p) is other = held_at StaysIfOther (tokens_in f.cut) n p all_stay is (λ e at same. other e at (is ∙ ap Some same))

pub token_put : (f : SourceFile) (edits : List Edit) (e : Edit) (n : ℕ) → IsCut f.cut.text f.cut.pieces → AreNameEdits f.cut.pieces edits →
    Contains edits e → slice_get (tokens_in f.cut) n ≡ Some (replaced_piece e) → spelling_of (renamed_file edits f) n ≡ e.text
token_put f edits e n cut are has at =
    spelled_as f edits cut are n ∙ ap (λ o. spelling_at (edited_text edits f.cut.text) (option_map (moved_piece edits) o)) at
    ∙ spelled_put f.cut edits e cut are has

pub token_kept : (f : SourceFile) (edits : List Edit) (n : ℕ) → IsCut f.cut.text f.cut.pieces → AreNameEdits f.cut.pieces edits →
    ((e : Edit) → Contains edits e → slice_get (tokens_in f.cut) n ≡ Some (replaced_piece e) → ⊥) → spelling_of (renamed_file edits f) n ≡ spelling_of f n
token_kept f edits n cut are other =
    spelled_as f edits cut are n ∙ by_token f edits cut are n (slice_get (tokens_in f.cut) n) refl other
