-- The journal of a run: the entries of its events, in their order.
use Rattle.std.proofs.Common.{◌≡◌, ℕ, List, [], ◌∷◌, ◌++◌, Option, MatchOption, Some, None, sym, ap, subst}
use Rattle.base_files.specs.declared.refusal.Refusal.TheVariants.{Memory, JournalFull}
use Rattle.history_machine.specs.declared.entry.Entry.{Entry}
use Rattle.history_machine.specs.declared.entry.Told.{Told}
use Rattle.history_machine.specs.declared.event.Event.{Event}
use Rattle.history_machine.specs.declared.event.Reply.{Reply}
use Rattle.history_machine.specs.declared.event.Reply.TheVariants.{Refused, Back}
use Rattle.history_machine.specs.Journal.{Records, entry_of, told_of}
use Rattle.history_machine.specs.Machine.{Machine}
use Rattle.history_machine.specs.Run.{AppendsEntries, RunsAddEntries}
use Rattle.history_machine.specs.Step.{Step}

-- the journal after one event
abbrev After : Machine → Event → Reply → Machine → Type 0
After old event reply new = MatchOption (told_of reply) (new.journal ≡ old.journal)
    (λ told. new.journal ≡ old.journal ++ entry_of old.current.number event reply told ∷ [])

matches : (o : Option Told) (x : Told) (P : Type 0) (Q : Told → Type 0) → o ≡ Some x → Q x → MatchOption o P Q
matches o x P Q e q = subst (λ (y : Option Told). MatchOption y P Q) (sym e) q

recorded_after : (old : Machine) (event : Event) (reply : Reply) (new : Machine) → Records old.current.number old.begun old.journal event reply new.journal →
    After old event reply new
recorded_after old event reply new r = matches (told_of reply) r.out (new.journal ≡ old.journal)
    (λ told. new.journal ≡ old.journal ++ entry_of old.current.number event reply told ∷ []) r.tells r.journal

after_step : (old : Machine) (event : Event) (reply : Reply) (new : Machine) → Step old event reply new → After old event reply new
after_step old event (Refused Memory) new s = ap (λ (m : Machine). m.journal) s.1
after_step old event (Refused JournalFull) new s = ap (λ (m : Machine). m.journal) s.2
after_step old event (Back Memory job unit) new s = ap (λ (m : Machine). m.journal) s.2
after_step old event (Back JournalFull job unit) new s = ap (λ (m : Machine). m.journal) s.2
after_step old event reply new s = recorded_after old event reply new s.2

goes_by : (o : Option Told) (current : ℕ) (old mid new : List Entry) (event : Event) (reply : Reply) (es : List (Event × Reply))
    → MatchOption o (mid ≡ old) (λ told. mid ≡ old ++ entry_of current event reply told ∷ []) → AppendsEntries mid es new
    → MatchOption o (AppendsEntries old es new) (λ told. (number : ℕ) × AppendsEntries (old ++ entry_of number event reply told ∷ []) es new)
goes_by None current old mid new event reply es is rest = subst (λ (x : List Entry). AppendsEntries x es new) is rest
goes_by (Some told) current old mid new event reply es is rest = (current, subst (λ (x : List Entry). AppendsEntries x es new) is rest)

pub has_entries : RunsAddEntries
has_entries old [] new run = ap (λ (m : Machine). m.journal) run
has_entries old (e ∷ es) new run =
    goes_by (told_of e.1) old.current.number old.journal run.0.journal new.journal e.0 e.1 es (after_step old e.0 e.1 run.0 run.1)
    (has_entries run.0 es new run.2)
