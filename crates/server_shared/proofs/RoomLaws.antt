-- Events for whose receipts there is no memory.
use Rattle.std.proofs.Common.{◌≡◌, None, inl, refl, subst}
use Rattle.base_files.specs.declared.refusal.Refusal.TheVariants.{Memory}
use Rattle.history_machine.specs.declared.entry.EntryKind.{EntryKind}
use Rattle.history_machine.specs.declared.event.Event.{Event}
use Rattle.history_machine.specs.declared.event.Event.TheVariants.{Look, Log, Commit, Undo, Redo, Take, Deliver, GiveBack}
use Rattle.history_machine.specs.Journal.{event_kind}
use Rattle.history_machine.specs.JournalSteps.{JournalStep}
use Rattle.history_machine.specs.Machine.{Machine}
use Rattle.history_machine.specs.Step.{BringsJob, refused}
use Rattle.server_shared.specs.Reserved.{IsHandingIn}

by_kind : (event : Event) → (IsHandingIn (event_kind event) → ⊥) → BringsJob event → ⊥
by_kind Look other h = h
by_kind (Log number) other h = h
by_kind (Commit basis change) other h = h
by_kind (Undo basis) other h = h
by_kind (Redo basis) other h = h
by_kind Take other h = h
by_kind (Deliver job built) other h = other tt
by_kind (GiveBack job) other h = other tt

-- an event of another kind brings no Job
pub brings_none : (event : Event) (kind : EntryKind) → kind ≡ event_kind event → (IsHandingIn kind → ⊥) → BringsJob event → ⊥
brings_none event kind is other = by_kind event (subst (λ (k : EntryKind). IsHandingIn k → ⊥) is other)

-- each event that brings no Job may be refused for want of memory
pub lacks_memory : (old : Machine) (event : Event) → (BringsJob event → ⊥) → JournalStep old event (refused event Memory) None old
lacks_memory old Look none = ((none, refl), (inl refl, refl))
lacks_memory old (Log number) none = ((none, refl), (inl refl, refl))
lacks_memory old (Commit basis change) none = ((none, refl), (inl refl, refl))
lacks_memory old (Undo basis) none = ((none, refl), (inl refl, refl))
lacks_memory old (Redo basis) none = ((none, refl), (inl refl, refl))
lacks_memory old Take none = ((none, refl), (inl refl, refl))
lacks_memory old (Deliver job built) none = absurd (none tt)
lacks_memory old (GiveBack job) none = absurd (none tt)
