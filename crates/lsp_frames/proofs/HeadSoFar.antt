-- The lines of a header that were read.
use Rattle.std.proofs.Common.{ℕ, ◌≡◌, ◌≢◌, ◌<◌, ◌≤◌, length, arith, List, [], ◌∷◌, ◌++◌, Option, None, Some, Ok, Err, refl, sym, ap, subst, ◌∙◌}
use Rattle.server_read.specs.FirstLine.{after_line, first_line}
use Rattle.server_read.specs.Incoming.{ReadsLine}
use Rattle.server_read.specs.Stops.{StopsInLine}
use Rattle.server_read.specs.declared.input.InputFault.{InputFault}
use Rattle.server_read.specs.declared.input.ReadLine.TheVariants.{Whole}
use Rattle.lsp_message.specs.Headers.{HeaderSays}
use Rattle.lsp_message.specs.declared.header.HeaderField.{HeaderField}
use Rattle.lsp_message.specs.declared.header.HeaderField.TheVariants.{End}
use Rattle.std.specs.Prelude.{IfSome}
use Rattle.lsp_frames.specs.Heads.{BeginsWithField, HasFields, IsCutHead, ReadsField, ReadsHead, ReadsSaid, StopsInHead, head_with, size_behind, size_said}
use Rattle.lsp_frames.specs.declared.heads.Head.TheVariants as head

-- a line that was read whole
pub whole_field : (before after : Option (List ℕ)) (line : List ℕ) (field : HeaderField) → ReadsLine 1024 before after line (Ok Whole) → HeaderSays line field
    → ReadsField before after (Ok (Some field))
whole_field None after line field h k = tt
whole_field (Some input) after line field h k =
    let short : length (first_line input) ≤ 1024 = subst (λ l. length l ≤ 1024) h.2 h.1 in
    ((h.0, ((λ _. subst (λ l. HeaderSays l field) h.2 k), (λ long. absurd (omega (arith, long, short))))), h.3)

-- of the input these lines were read, none of which ends a header, and this is the size that they say
abbrev pub HeadSoFar : (before now : Option (List ℕ)) → Option ℕ → Type 0
HeadSoFar before now size = IfSome before (λ input.
    (fields : List HeaderField) × (mid : List ℕ) × HasFields input fields mid × (now ≡ Some mid) × (size ≡ size_said None fields))

-- one more line
fields_push : (input : List ℕ) (fields : List HeaderField) (mid : List ℕ) (field : HeaderField) → HasFields input fields mid
    → BeginsWithField mid field → field ≢ End → HasFields input (fields ++ field ∷ []) (after_line mid)
fields_push input [] mid field h k n = (subst (λ i. BeginsWithField i field) (sym h) k, n, ap after_line h)
fields_push input (first ∷ fields) mid field h k n = (h.0, h.1, fields_push (after_line input) fields mid field h.2 k n)

size_push : (before : Option ℕ) (fields : List HeaderField) (field : HeaderField)
    → size_behind field (size_said before fields) ≡ size_said before (fields ++ field ∷ [])
size_push before [] field = refl
size_push before (first ∷ fields) field = size_push (size_behind first before) fields field

pub nothing_so_far : (before : Option (List ℕ)) → HeadSoFar before before None
nothing_so_far None = tt
nothing_so_far (Some input) = ([], input, refl, refl, refl)

module _ (now after : Option (List ℕ)) where
  field_read : (mid : List ℕ) (field : HeaderField) → now ≡ Some mid → ReadsField now after (Ok (Some field))
      → BeginsWithField mid field × (after ≡ Some (after_line mid))
  field_read mid field e h = subst (λ n. ReadsField n after (Ok (Some field))) e h

  none_read : (mid : List ℕ) → now ≡ Some mid → ReadsField now after (Ok None) → (mid ≡ []) × (after ≡ Some [])
  none_read mid e h = subst (λ n. ReadsField n after (Ok None)) e h

  pub one_more : (before : Option (List ℕ)) (size : Option ℕ) (field : HeaderField) → HeadSoFar before now size
      → ReadsField now after (Ok (Some field)) → field ≢ End → HeadSoFar before after (size_behind field size)
  one_more None size field h k n = tt
  one_more (Some input) size field h k n =
      let read : BeginsWithField h.1 field × (after ≡ Some (after_line h.1)) = field_read h.1 field h.3 k in (
        h.0 ++ field ∷ [],
        after_line h.1,
        fields_push input h.0 h.1 field h.2 read.0 n,
        read.1,
        ap (size_behind field) h.4 ∙ size_push None h.0 field,
      )

  said : (before : Option (List ℕ)) (size : Option ℕ) → HeadSoFar before now size → ReadsField now after (Ok (Some End)) → ReadsSaid size before after
  said None size h k = tt
  said (Some input) size h k =
      let read : BeginsWithField h.1 End × (after ≡ Some (after_line h.1)) = field_read h.1 End h.3 k in
      (after_line h.1, (h.0, (h.1, h.2, read.0, refl), h.4), read.1)

  pub head_ends : (before : Option (List ℕ)) (size : Option ℕ) → HeadSoFar before now size → ReadsField now after (Ok (Some End))
      → ReadsHead before after (Ok (head_with size))
  head_ends before None h k = said before None h k
  head_ends before (Some size) h k = said before (Some size) h k

  pub head_over : (before : Option (List ℕ)) (size : Option ℕ) → HeadSoFar before now size → ReadsField now after (Ok None)
      → ReadsHead before after (Ok head.Over)
  head_over None size h k = tt
  head_over (Some input) size h k =
      let read : (h.1 ≡ []) × (after ≡ Some []) = none_read h.1 h.3 k in
      ((h.0, subst (λ m. HasFields input h.0 m) read.0 h.2), read.1)

  pub head_stops : (before : Option (List ℕ)) (size : Option ℕ) → HeadSoFar before now size → StopsInLine now after → StopsInHead before after
  head_stops None size h k = tt
  head_stops (Some input) size h k = (h.0, h.1, h.2, subst (λ n. StopsInLine n after) h.3 k)
