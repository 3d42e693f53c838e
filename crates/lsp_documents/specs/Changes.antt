-- The texts that content changes make.
use Rattle.std.specs.Prelude.{ℕ, ◌≡◌, ◌<◌, ◌≤◌, List, [], ◌∷◌, ◌++◌, Option, None, Some, option_map, drop, take}
use Rattle.std.specs.Borrow.{Bor}
use Rattle.std.specs.Global.{Vec}
use Rattle.lsp_position.specs.Offsets.{IsOffsetAt}
use Rattle.lsp_position.specs.declared.units.PositionEncoding.{PositionEncoding}
use Rattle.lsp_documents.specs.declared.changes.ChangedPart.{ChangedPart}
use Rattle.lsp_documents.specs.declared.changes.TextChange.{TextChange}
use Rattle.lsp_documents.specs.declared.changes.TextChange.TheVariants.{Part, Whole}

-- The bytes of a text that was made, if one was.
abbrev pub text_made : Option (Vec ℕ) → Option (List ℕ)
text_made (Some text) = Some text.items
text_made None = None

-- The bytes of a text, if there is one.
abbrev pub shown_bytes : Option (Bor (List ℕ)) → Option (List ℕ)
shown_bytes = option_map (λ (text : Bor (List ℕ)). text.now)

-- What stands between the offsets of the part's positions becomes its text. No text is made where the end lies before the start.
abbrev pub PartMakes : PositionEncoding → List ℕ → ChangedPart → Option (List ℕ) → Type 0
PartMakes encoding text part (Some made) =
    (low high : ℕ) × IsOffsetAt encoding text part.start low × IsOffsetAt encoding text part.end high × (low ≤ high)
    × (made ≡ take low text ++ (part.text.now ++ drop high text))
PartMakes encoding text part None =
    (low high : ℕ) × IsOffsetAt encoding text part.start low × IsOffsetAt encoding text part.end high × (high < low)

-- What a content change makes of a text. A whole text needs no text before it, and a change of a part makes none without one.
abbrev pub ChangeMakes : PositionEncoding → Option (List ℕ) → TextChange → Option (List ℕ) → Type 0
ChangeMakes encoding text (Whole new) made = made ≡ Some new.now
ChangeMakes encoding (Some text) (Part part) made = PartMakes encoding text part made
ChangeMakes encoding None (Part part) made = made ≡ None

-- What content changes make of a text, each of the text that those before it made.
abbrev pub ChangesMake : PositionEncoding → Option (List ℕ) → List TextChange → Option (List ℕ) → Type 0
ChangesMake encoding text [] made = made ≡ text
ChangesMake encoding text (change ∷ changes) made =
    (next : Option (List ℕ)) × ChangeMakes encoding text change next × ChangesMake encoding next changes made
