-- The fault of a text in which names are replaced.
use Rattle.std.proofs.Common.{ℕ, ◌≡◌, ◌-◌, List, [], ◌∷◌, length, drop, map, refl, sym, ap, ◌∙◌, subst}
use Rattle.std.proofs.lemmas.List.{drop-map, length-map}
use Rattle.go_scanner.specs.declared.piece.Piece.{Piece}
use Rattle.go_scanner.specs.declared.refusal.TextFault.{TextFault}
use Rattle.go_scanner.specs.Cuts.{IsCut}
use Rattle.go_scanner.specs.CutText.{CutText, tokens_in}
use Rattle.base_edits.specs.Edits.{edited_text}
use Rattle.base_edits.specs.Moved.{moved_offset}
use Rattle.base_edits.specs.declared.edit.Edit.{Edit}
use Rattle.base_edits.proofs.MovedPlaces.{moves_end}
use Rattle.go_ast.specs.Faults.{IsParseFault}
use Rattle.go_ast.specs.Kinds.{begins_at, place_of}
use Rattle.go_ast.specs.Verdict.{Faulty, IsFileVerdict}
use Rattle.go_respelled.specs.Renamings.{AreNameEdits, moved_piece, recut}
use Rattle.go_respelled.specs.Trees.{KeepKinds, moved_fault}
use Rattle.go_respelled.proofs.KeptBytes.{within}
use Rattle.go_respelled.proofs.Many.{piece_edits}
use Rattle.go_respelled.proofs.MovedTokens.{tokens_moved}
use Rattle.go_respelled.proofs.Trees.{kinds_stay}

module _ (c : CutText) (edits : List Edit) (cut : IsCut c.text c.pieces) (are : AreNameEdits c.pieces edits) where
  begins_moved : (ts : List Piece) → begins_at (edited_text edits c.text) (map (moved_piece edits) ts) ≡ moved_offset edits (begins_at c.text ts)
  begins_moved [] = moves_end edits c.text are.in_order (within c edits cut (piece_edits c.pieces edits are))
  begins_moved (t ∷ ts) = refl

  place_moved : (left : ℕ) → place_of (recut edits c) left ≡ moved_offset edits (place_of c left)
  place_moved left =
      let new : List ℕ = edited_text edits c.text in
      let move : Piece → Piece = moved_piece edits in
      let old : List Piece = tokens_in c in
      ap (λ ts. begins_at new (drop (length ts - left) ts)) (tokens_moved c edits cut are)
      ∙ ap (λ n. begins_at new (drop (n - left) (map move old))) (length-map old move)
      ∙ ap (begins_at new) (drop-map move (length old - left) old)
      ∙ begins_moved (drop (length old - left) old)

pub fault_moves : (c : CutText) (edits : List Edit) (fault : TextFault) → IsCut c.text c.pieces → AreNameEdits c.pieces edits → KeepKinds c.text edits →
    IsParseFault c fault → IsParseFault (recut edits c) (moved_fault edits fault)
fault_moves c edits fault cut are keep is = record {
  kind = is.kind;
  left = is.left;
  verdict = subst (λ ts. IsFileVerdict ts (Faulty is.kind is.left)) (sym (kinds_stay c edits cut are keep)) is.verdict;
  kind_is = is.kind_is;
  offset_is = ap (moved_offset edits) is.offset_is ∙ sym (place_moved c edits cut are is.left);
}
