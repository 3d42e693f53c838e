-- The basis is the current number, and the states are those that the change needs.
use Rattle.std.proofs.Common.{◌≡◌, ◌↔◌, Bool, ℕ, IsTrue, sym, ap, subst, ◌∙◌}
use Rattle.std.proofs.lemmas.Bool.{false≢true}
use Rattle.history_machine.specs.Machine.{Machine, content}
use Rattle.history_records.specs.Asked.{basis_of, kept_of}
use Rattle.history_records.specs.declared.change.AskedChange.{AskedChange}
use Rattle.law_changes.specs.Changes.{states_kept}
use Rattle.server_journal.specs.Recovered.{IsPossible}
use Rattle.server_journal.proofs.Repeated.{commit_possible, possible_basis, redo_possible, undo_possible}
use Rattle.server_journal.proofs.keeping.is_possible.Goals as goal

-- the test says whether the change is possible
abbrev Tests : Machine → Bool → AskedChange → Type 0
Tests m test change = IsTrue test ↔ IsPossible (kept_of change) (states_kept (content m))

-- the basis of the change is the number of the current state
basis_is : (m : Machine) (change arm : AskedChange) (basis number : ℕ) → change ≡ arm → basis ≡ basis_of (kept_of change) → basis ≡ number →
    number ≡ m.current.number → basis_of (kept_of arm) ≡ m.current.number
basis_is m change arm basis number is of same current = sym (ap (λ (x : AskedChange). basis_of (kept_of x)) is) ∙ sym of ∙ same ∙ current

pub returns-then-basis-number : goal.returns-then-basis-number
returns-then-basis-number c = (
  λ e. absurd (false≢true e),
  λ possible.
      absurd (c.if-basis-number.true (c.basis.ensures
      ∙ possible_basis (kept_of c.args.change.now) (states_kept (content c.args.book.now)) possible ∙ sym c.number.ensures)),
)

pub returns-in-Commit : goal.returns-in-Commit
returns-in-Commit c =
    let m = c.args.book.now in
    subst (Tests m c.fits.result) (sym c.in-Commit.is)
    (commit_possible m c.in-Commit.field-0 c.in-Commit.edits.now c.fits.result
    (basis_is m c.args.change.now _ c.basis.result c.number.result c.in-Commit.is c.basis.ensures c.if-basis-number.false c.number.ensures) c.fits.ensures)

pub returns-in-Undo : goal.returns-in-Undo
returns-in-Undo c =
    let m = c.args.book.now in
    subst (Tests m c.can_undo.result) (sym c.in-Undo.is)
    (undo_possible m c.in-Undo.field-0 c.can_undo.result
    (basis_is m c.args.change.now _ c.basis.result c.number.result c.in-Undo.is c.basis.ensures c.if-basis-number.false c.number.ensures) c.can_undo.ensures)

pub returns-in-Redo : goal.returns-in-Redo
returns-in-Redo c =
    let m = c.args.book.now in
    subst (Tests m c.can_redo.result) (sym c.in-Redo.is)
    (redo_possible m c.in-Redo.field-0 c.can_redo.result
    (basis_is m c.args.change.now _ c.basis.result c.number.result c.in-Redo.is c.basis.ensures c.if-basis-number.false c.number.ensures) c.can_redo.ensures)
