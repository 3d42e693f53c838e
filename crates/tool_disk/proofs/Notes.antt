-- What a run has noted, where it fails and where it does not.
use Rattle.std.proofs.Common.{◌≡◌, ◌∙◌, ◌++◌, ℕ, List, Result, Ok, Err, append-nil, ap, length, subst, sym, take}
use Rattle.std.specs.Borrow.{Bor}
use Rattle.std.specs.Result.{IsErrAnd}
use Rattle.std.proofs.Math.Seq.{take-length}
use Rattle.tool_disk.specs.Writes.{NotesNothing, NotesPlaced}
use Rattle.tool_disk.specs.declared.fault.ToolFault.{ToolFault}
use Rattle.tool_disk.specs.declared.fault.ToolFault.TheVariants.{Memory, Told}
use Rattle.tool_text.specs.Journal.{lines_text}

module _ (paths : List (Bor (List ℕ))) (old : List ℕ) where
  -- at a file whose new text is not put in place
  pub placed_some : (number : ℕ) (so_far new : List ℕ) (fault : ToolFault) (r : Result (Unit {0}) ToolFault)
      → IsErrAnd r (λ x. x ≡ fault) → so_far ≡ old ++ lines_text (take number paths) → NotesNothing so_far new fault
      → NotesPlaced paths old new r
  placed_some number so_far new fault (Ok done) same so h = absurd same
  placed_some number so_far new fault (Err Memory) same so h = tt
  placed_some number so_far new fault (Err (Told why)) same so h =
      (number, subst (λ f. NotesNothing so_far new f) (sym same) h ∙ so)

  -- behind all files
  pub placed_all : (new : List ℕ) (r : Result (Unit {0}) ToolFault) → new ≡ old ++ lines_text paths → NotesPlaced paths old new r
  placed_all new (Ok done) h = h
  placed_all new (Err Memory) h = tt
  placed_all new (Err (Told why)) h = (length paths, h ∙ ap (λ l. old ++ lines_text l) (sym (take-length paths)))

  -- before all files
  pub placed_none : (new : List ℕ) (r : Result (Unit {0}) ToolFault) (fault : ToolFault) → IsErrAnd r (λ x. x ≡ fault) → new ≡ old
      → NotesPlaced paths old new r
  placed_none new (Ok done) fault same h = absurd same
  placed_none new (Err Memory) fault same h = tt
  placed_none new (Err (Told why)) fault same h = (0, h ∙ sym (append-nil old))
