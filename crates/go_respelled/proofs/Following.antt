-- What is behind each piece of a text in which names are replaced.
use Rattle.std.proofs.Common.{ℕ, ◌≡◌, ◌-◌, List, drop, subst}
use Rattle.std.specs.List.{Contains}
use Rattle.go_scanner.specs.declared.piece.Class.TheVariants.{ByteOrderMark}
use Rattle.go_scanner.specs.declared.piece.Piece.{Piece}
use Rattle.go_scanner.specs.Contexts.{MayFollow}
use Rattle.go_scanner.specs.Cuts.{IsCut, bytes_of}
use Rattle.go_scanner.specs.CutText.{CutText}
use Rattle.go_scanner.proofs.ContextLemmas.{may_follow}
use Rattle.base_edits.specs.declared.edit.Edit.{Edit}
use Rattle.base_edits.proofs.EditedText.{drop_on}
use Rattle.go_respelled.specs.Renamings.{AreNameEdits, recut}
use Rattle.go_respelled.proofs.Leading.{stands_behind}
use Rattle.go_respelled.proofs.Many.{recut_cut}
use Rattle.go_respelled.proofs.Places.{parts}

pub follows_in_cut : (text : List ℕ) (pieces : List Piece) (p : Piece) → IsCut text pieces → Contains pieces p → (p.class ≡ ByteOrderMark → ⊥) →
    MayFollow p.class (bytes_of text p) (drop p.span.end text)
follows_in_cut text pieces p cut has other =
    let found = parts pieces p has in
    let here = stands_behind text found.before found.after p other (subst (IsCut text) found.whole cut) in
    subst (MayFollow p.class (bytes_of text p)) (drop_on p.span.start p.span.end text here.order)
    (may_follow p.class (drop p.span.start text) (p.span.end - p.span.start) here.stands)

pub follows_still : (c : CutText) (edits : List Edit) (p : Piece) → IsCut c.text c.pieces → AreNameEdits c.pieces edits →
    (let new = recut edits c in Contains new.pieces p → (p.class ≡ ByteOrderMark → ⊥) → MayFollow p.class (bytes_of new.text p) (drop p.span.end new.text))
follows_still c edits p cut are has other =
    let new = recut edits c in follows_in_cut new.text new.pieces p (recut_cut c edits cut are) has other
