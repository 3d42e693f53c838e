-- Cuts that grow by a piece.
use Rattle.std.proofs.Common.{◌≡◌, ℕ, ◌+◌, ◌-◌, ◌≤◌, List, [], ◌∷◌, ◌++◌, refl, ap, ◌∙◌, drop, arith, append_assoc}
use Rattle.go_scanner.specs.declared.piece.Class.{Class}
use Rattle.go_scanner.specs.declared.piece.Piece.{Piece}
use Rattle.go_scanner.specs.Pieces.{Stands}
use Rattle.go_scanner.specs.Cuts.{CutsTo, CutsUpTo, mark_of, mark_len}

CutsTo-push : (text : List ℕ) (from to : ℕ) (ps : List Piece) (p : Piece) → CutsTo text from ps to → p.span.start ≡ to → to ≤ p.span.end →
    Stands (drop to text) p.class (p.span.end - to) → CutsTo text from (ps ++ p ∷ []) p.span.end
CutsTo-push text from to [] p cut start end stands = rw cut (start, end, stands, refl)
CutsTo-push text from to (q ∷ ps) p cut start end stands = (cut.0, cut.1, cut.2, CutsTo-push text q.span.end to ps p cut.3 start end stands)

-- a cut continues with a piece
pub CutsUpTo-push : (text : List ℕ) (ps : List Piece) (to : ℕ) (class : Class) (size : ℕ) (rest : List ℕ) → CutsUpTo text ps to → rest ≡ drop to text →
    Stands rest class size → CutsUpTo text (ps ++ (record { class = class; span = record { start = to; end = to + size } }) ∷ []) (to + size)
CutsUpTo-push text ps to class size rest cut rest_is stands =
    let p : Piece = record { class = class; span = record { start = to; end = to + size } } in
    let size_is : to + size - to ≡ size = omega arith in
    let stands' : Stands (drop to text) class (to + size - to) = rw (size_is, ← rest_is) stands in (
      cut.0 ++ p ∷ [],
      ap (λ l. l ++ p ∷ []) cut.1 ∙ append_assoc (mark_of text) cut.0 (p ∷ []),
      CutsTo-push text (mark_len text) to cut.0 p cut.2 refl (omega arith) stands',
    )
