-- A step adds the entry of its event and its reply, or changes nothing.
use Rattle.std.proofs.Common.{◌≡◌, ◌∷◌, [], ◌++◌, Option, Some, None, inl, inr, refl, sym, ap, subst, ◌∙◌}
use Rattle.std.proofs.lemmas.Option.{none-some, same_Some}
use Rattle.base_files.specs.declared.refusal.Refusal.{Refusal}
use Rattle.base_files.specs.declared.refusal.Refusal.TheVariants.{Memory, JournalFull}
use Rattle.build_unit.specs.declared.built.Built.{Built}
use Rattle.build_unit.specs.declared.job.JobRecord.{JobRecord}
use Rattle.history_machine.specs.declared.entry.Entry.{Entry}
use Rattle.history_machine.specs.declared.entry.Told.{Told}
use Rattle.history_machine.specs.declared.event.Event.{Event}
use Rattle.history_machine.specs.declared.event.Event.TheVariants.{Look, Log, Commit, Undo, Redo, Take, Deliver, GiveBack}
use Rattle.history_machine.specs.declared.event.Reply.{Reply}
use Rattle.history_machine.specs.declared.event.Reply.TheVariants.{Refused, Back}
use Rattle.history_machine.specs.Journal.{entry_of, told_of}
use Rattle.history_machine.specs.JournalSteps.{LeavesEntry, IsTurnedAway, JournalStep}
use Rattle.history_machine.specs.Machine.{Machine}
use Rattle.history_machine.specs.Step.{BringsJob, BringsOut, HasRoom, HandsOver, Step, refused}
use Rattle.history_machine.proofs.Stepped.{full_step, lacking_step}

-- the reply that refuses an event that brings no Job
refused_is : (event : Event) (refusal : Refusal) → ¬ (BringsJob event) → Refused refusal ≡ refused event refusal
refused_is Look refusal none = refl
refused_is (Log asked) refusal none = refl
refused_is (Commit basis change) refusal none = refl
refused_is (Undo basis) refusal none = refl
refused_is (Redo basis) refusal none = refl
refused_is Take refusal none = refl
refused_is (Deliver job built) refusal none = absurd (none tt)
refused_is (GiveBack job) refusal none = absurd (none tt)

-- the reply that refuses an event and brings back its Job
back_is : (event : Event) (refusal : Refusal) (job : JobRecord) (unit : Option Built) → HandsOver event job unit → Back refusal job unit ≡ refused event refusal
back_is (Deliver of built) refusal job unit is = ap (λ x. Back refusal x unit) is.0 ∙ ap (λ x. Back refusal of x) is.1
back_is (GiveBack of) refusal job unit is = ap (λ x. Back refusal x unit) is.0 ∙ ap (λ x. Back refusal of x) is.1
back_is event refusal job unit is = absurd is

-- a reply that leaves no entry turns its event away
turned_away : (old : Machine) (event : Event) (reply : Reply) (new : Machine) → Step old event reply new → told_of reply ≡ None → IsTurnedAway event reply ×
    (new ≡ old)
turned_away old event (Refused Memory) new s none = (inl (refused_is event Memory s.0), s.1)
turned_away old event (Refused JournalFull) new s none = (inr (refused_is event JournalFull s.0), s.2)
turned_away old event (Back Memory job unit) new s none = (inl (back_is event Memory job unit s.0), s.2)
turned_away old event (Back JournalFull job unit) new s none = (inr (back_is event JournalFull job unit s.0), s.2)
turned_away old event reply new s none = absurd (none-some s.2.out (sym none ∙ s.2.tells))

-- the entry that a step adds
added : (old : Machine) (event : Event) (reply : Reply) (new : Machine) (told : Told) → Step old event reply new → told_of reply ≡ Some told
    → new.journal ≡ old.journal ++ entry_of old.current.number event reply told ∷ []
added old event (Refused Memory) new told s is = absurd (none-some told is)
added old event (Refused JournalFull) new told s is = absurd (none-some told is)
added old event (Back Memory job unit) new told s is = absurd (none-some told is)
added old event (Back JournalFull job unit) new told s is = absurd (none-some told is)
added old event reply new told s is =
    subst (λ (x : Told). new.journal ≡ old.journal ++ entry_of old.current.number event reply x ∷ []) (same_Some s.2.out told (sym s.2.tells ∙ is)) s.2.journal

pub journal_step : (old : Machine) (event : Event) (reply : Reply) (kept : Option Entry) (new : Machine) → Step old event reply new →
    LeavesEntry old.current.number event reply kept → JournalStep old event reply kept new
journal_step old event reply None new s is = (s, turned_away old event reply new s is)
journal_step old event reply (Some entry) new s is =
    (s, (is, added old event reply new is.0 s is.1 ∙ ap (λ (x : Entry). old.journal ++ x ∷ []) (sym is.2)))

-- a refusal for want of memory, or of room in the journal, is a step that keeps no entry
pub full_kept : (m : Machine) (event : Event) (reply : Reply) → reply ≡ refused event JournalFull → (HasRoom m event → ⊥) → JournalStep m event reply None m
full_kept m event reply is none = subst (λ (x : Reply). JournalStep m event x None m) (sym is) (full_step m event none, (inr refl, refl))

pub lacking_kept : (m : Machine) (event : Event) (reply : Reply) → reply ≡ refused event Memory → (BringsOut m.out event → ⊥) → JournalStep m event reply None m
lacking_kept m event reply is none = subst (λ (x : Reply). JournalStep m event x None m) (sym is) (lacking_step m event none, (inl refl, refl))
