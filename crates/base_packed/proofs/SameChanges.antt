-- Packed changes stand for equal changes just where they have equal files, and where their edits stand for equal edits.
use Rattle.std.proofs.Common.{◌≡◌, ℕ, ◌+◌, ◌<◌, List, [], ◌∷◌, ◌++◌, length, take, drop, map, get_or, refl, sym, ap, ◌∙◌, arith}
use Rattle.std.proofs.lemmas.List.{drop-map, length-drop, length-map, length-take, take-append-drop, take-map, take_more, get_or-map, nil_from_length}
use Rattle.base_edits.specs.declared.edit.Edit.{Edit}
use Rattle.base_edits.specs.declared.change.FileChange.{FileChange}
use Rattle.base_packed.specs.declared.packed.EditKind.{EditKind}
use Rattle.base_packed.specs.declared.packed.PackedEdit.{PackedEdit}
use Rattle.base_packed.specs.declared.packed.PackedFile.{PackedFile}
use Rattle.base_packed.specs.Packed.{ArePacked, edits_counted, packed_changes, unpacked_edit}

-- the change of a file with these edits
abbrev dealt_change : PackedFile → List Edit → FileChange
dealt_change f edits = record { path = f.path; edits = edits; fate = f.fate }

-- the changes of the files, of which each takes its edits from the front of the list
dealt : List PackedFile → List Edit → List FileChange
dealt [] edits = []
dealt (f ∷ files) edits = dealt_change f (take f.count edits) ∷ dealt files (drop f.count edits)

packed_dealt : (kinds : List EditKind) (files : List PackedFile) (edits : List PackedEdit) →
    packed_changes kinds files edits ≡ dealt files (map (unpacked_edit kinds) edits)
unfolding dealt
packed_dealt kinds [] edits = refl
packed_dealt kinds (f ∷ files) edits =
    let u = unpacked_edit kinds in
    ap (λ (es : List Edit). dealt_change f es ∷ packed_changes kinds files (drop f.count edits))
    (sym (take-map u f.count edits))
    ∙ ap (λ (cs : List FileChange). dealt_change f (take f.count (map u edits)) ∷ cs)
    (packed_dealt kinds files (drop f.count edits) ∙ ap (dealt files) (sym (drop-map u f.count edits)))

-- dealt changes tell the files and the edits that they were made of
dealt_same : (files others : List PackedFile) (edits more : List Edit) → edits_counted files ≡ length edits → edits_counted others ≡ length more →
    dealt files edits ≡ dealt others more → (files ≡ others) × (edits ≡ more)
unfolding dealt
dealt_same [] [] edits more counted other same = (refl, nil_from_length edits (sym counted) ∙ sym (nil_from_length more (sym other)))
dealt_same [] (g ∷ others) edits more counted other same = absurd (let no : ⊥ = cc in no)
dealt_same (f ∷ files) [] edits more counted other same = absurd (let no : ⊥ = cc in no)
dealt_same (f ∷ files) (g ∷ others) edits more counted other same =
    let first : dealt_change f (take f.count edits) ≡ dealt_change g (take g.count more) = cc in
    let rest : dealt files (drop f.count edits) ≡ dealt others (drop g.count more) = cc in
    let taken = ap (λ (c : FileChange). c.edits) first in
    let long = ap length taken in
    let one = length-take f.count edits in
    let two = length-take g.count more in
    let one_left = length-drop f.count edits in
    let two_left = length-drop g.count more in
    let count : f.count ≡ g.count = omega (arith, counted, other, long, one, two) in
    let left = dealt_same files others (drop f.count edits) (drop g.count more) (omega (arith, counted, one_left)) (omega (arith, other, two_left)) rest in
    let file : f ≡ g = ap (λ (c : FileChange). record { path = c.path; fate = c.fate; count = f.count }) first
    ∙ ap (λ (n : ℕ). record { path = g.path; fate = g.fate; count = n }) count in (
      ap (λ (h : PackedFile). h ∷ files) file ∙ ap (λ (fs : List PackedFile). g ∷ fs) left.0,
      sym (take-append-drop f.count edits) ∙ ap (λ (es : List Edit). es ++ drop f.count edits) taken ∙ ap (λ (es : List Edit). take g.count more ++ es) left.1
          ∙ take-append-drop g.count more,
    )

module _ (kinds for : List EditKind) (files others : List PackedFile) (edits more : List PackedEdit) where
  -- changes with equal files
  pub changes_equal : files ≡ others → map (unpacked_edit kinds) edits ≡ map (unpacked_edit for) more →
      packed_changes kinds files edits ≡ packed_changes for others more
  changes_equal same equal =
      packed_dealt kinds files edits ∙ ap (λ (fs : List PackedFile). dealt fs (map (unpacked_edit kinds) edits)) same
      ∙ ap (dealt others) equal ∙ sym (packed_dealt for others more)

  pub parts_equal : ArePacked kinds files edits → ArePacked for others more → packed_changes kinds files edits ≡ packed_changes for others more →
      (files ≡ others) × (map (unpacked_edit kinds) edits ≡ map (unpacked_edit for) more)
  parts_equal packed other same =
      dealt_same files others (map (unpacked_edit kinds) edits) (map (unpacked_edit for) more)
      (packed.counted ∙ sym (length-map edits (unpacked_edit kinds))) (other.counted ∙ sym (length-map more (unpacked_edit for)))
      (sym (packed_dealt kinds files edits) ∙ same ∙ packed_dealt for others more)

module _ {X Y Z : Type 0} (f : X → Z) (g : Y → Z) (xs : List X) (ys : List Y) (i : ℕ) (x : X) (y : Y) (lt : i < length xs) (le : i < length ys) where
  -- the items of two lists stand for equal ones at each place
  pub mapped_at : map f xs ≡ map g ys → f (get_or xs i x) ≡ g (get_or ys i y)
  mapped_at same = sym (get_or-map f xs i x (f x) lt) ∙ ap (λ (zs : List Z). get_or zs i (f x)) same ∙ get_or-map g ys i y (f x) le

  -- one place further
  pub mapped_more : take i (map f xs) ≡ take i (map g ys) → f (get_or xs i x) ≡ g (get_or ys i y) → take (i + 1) (map f xs) ≡ take (i + 1) (map g ys)
  mapped_more same item =
      let long = length-map xs f in
      let wide = length-map ys g in
      take_more (map f xs) i (f x) (omega (arith, lt, long)) ∙ ap (λ (zs : List Z). zs ++ get_or (map f xs) i (f x) ∷ []) same
      ∙ ap (λ (z : Z). take i (map g ys) ++ z ∷ []) (get_or-map f xs i x (f x) lt ∙ item ∙ sym (get_or-map g ys i y (f x) le))
      ∙ sym (take_more (map g ys) i (f x) (omega (arith, le, wide)))

-- the same edits of the same kinds
pub same_kinded : (kinds for : List EditKind) (edits more : List PackedEdit) → kinds ≡ for → edits ≡ more →
    map (unpacked_edit kinds) edits ≡ map (unpacked_edit for) more
same_kinded kinds for edits more kind edit =
    ap (λ (ks : List EditKind). map (unpacked_edit ks) edits) kind ∙ ap (λ (es : List PackedEdit). map (unpacked_edit for) es) edit
