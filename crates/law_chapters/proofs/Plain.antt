-- What an entry makes of a content does not depend on how many entries were closed.
use Rattle.std.proofs.Common.{◌≡◌, ℕ, List, [], ◌∷◌, refl, ap}
use Rattle.history_machine.specs.Machine.{Content, BeginsVisit, IsOneBefore}
use Rattle.history_machine.specs.declared.entry.Entry.{Entry}
use Rattle.history_machine.specs.declared.entry.EntryKind.{EntryKind}
use Rattle.history_machine.specs.declared.entry.EntryKind.TheVariants.{Look, Log, Commit, Undo, Redo, Take, Deliver, GiveBack}
use Rattle.history_machine.specs.declared.entry.Reason.TheVariants.{Moved, NothingToUndo, NothingToRedo, Stale, Already, NoJob}
use Rattle.history_machine.specs.declared.entry.Told.{Told}
use Rattle.history_machine.specs.declared.entry.Told.TheVariants.{Done, Refused}
use Rattle.law_history.specs.Replays.{CommitsEdits, FinishesTicket, HasEffect, LosesTicket, TakesNext}
use Rattle.law_history.proofs.Runs.{Replayed}

-- the content, with no closed entries
abbrev pub plain : Content → Content
plain c = record c { begun = 0 }

plain_visit : (old new : Content) → BeginsVisit old new → BeginsVisit (plain old) (plain new)
plain_visit old new is = record { visit = is.visit; out = is.out }

plain_before : (n m : Content) → IsOneBefore n m → IsOneBefore (plain n) (plain m)
plain_before n m is = record { limits = is.limits; earlier = is.earlier; later = is.later; next = is.next; begun = refl }

plain_lost : (old new : Content) (entry : Entry) → LosesTicket old entry.subject new → LosesTicket (plain old) entry.subject (plain new)
plain_lost old new entry is = record { label = is.label; out = is.out; returns = is.returns; is_lost = ap plain is.is_lost }

plain_effects : (kind : EntryKind) (told : Told) (old : Content) (entry : Entry) (new : Content) → HasEffect kind told old entry new →
    HasEffect kind told (plain old) entry (plain new)
plain_effects Look told old entry new is = ap plain is
plain_effects Log told old entry new is = ap plain is
plain_effects Commit (Done number) old entry new is = record {
  edits = is.edits;
  has_edits = is.has_edits;
  finished = is.finished;
  carried = is.carried;
  is_changed = ap plain is.is_changed;
}
plain_effects Commit (Refused reason) old entry new is = ap plain is
plain_effects Undo (Done number) old entry new is = (plain_visit old new is.0, plain_before new old is.1)
plain_effects Undo (Refused reason) old entry new is = ap plain is
plain_effects Redo (Done number) old entry new is = (plain_visit old new is.0, plain_before old new is.1)
plain_effects Redo (Refused reason) old entry new is = ap plain is
plain_effects Take (Done number) old entry new is = record {
  label = is.label;
  ticket = is.ticket;
  number = is.number;
  visit = is.visit;
  first = is.first;
  is_out = ap plain is.is_out;
}
plain_effects Take (Refused reason) old entry new is = ap plain is
plain_effects Deliver (Done number) old entry new is = record {
  label = is.label;
  out = is.out;
  returns = is.returns;
  unit = is.unit;
  finished = is.finished;
  gains = is.gains;
  is_finished = ap plain is.is_finished;
}
plain_effects Deliver (Refused NoJob) old entry new is = ap plain is
plain_effects Deliver (Refused (Moved current)) old entry new is = plain_lost old new entry is
plain_effects Deliver (Refused NothingToUndo) old entry new is = plain_lost old new entry is
plain_effects Deliver (Refused NothingToRedo) old entry new is = plain_lost old new entry is
plain_effects Deliver (Refused (Stale current)) old entry new is = plain_lost old new entry is
plain_effects Deliver (Refused Already) old entry new is = plain_lost old new entry is
plain_effects GiveBack (Done number) old entry new is = plain_lost old new entry is
plain_effects GiveBack (Refused reason) old entry new is = ap plain is

pub plain_replayed : (c : Content) (entries : List Entry) (d : Content) → Replayed c entries d → Replayed (plain c) entries (plain d)
plain_replayed c [] d is = ap plain is
plain_replayed c (entry ∷ entries) d is =
    (plain is.0, plain_effects entry.line.kind entry.line.out c entry is.0 is.1, plain_replayed is.0 entries d is.2)
