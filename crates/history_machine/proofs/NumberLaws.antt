-- The next number never falls, and refused events keep the states.
use Rattle.std.proofs.Common.{◌≡◌, ◌+◌, ◌≤◌, List, [], ◌∷◌, refl, sym, ap, ◌∙◌, arith}
use Rattle.base_files.specs.declared.refusal.Refusal.TheVariants.{Memory, Moved, NothingToUndo, NothingToRedo, JournalFull, Stale, Already, NoJob}
use Rattle.history_machine.specs.declared.event.Event.{Event}
use Rattle.history_machine.specs.declared.event.Event.TheVariants.{Look, Log, Commit, Undo, Redo, Take, Deliver, GiveBack}
use Rattle.history_machine.specs.declared.event.Reply.{Reply}
use Rattle.history_machine.specs.declared.event.Reply.TheVariants.{Looked, Logged, Done, Taken, Refused, Back}
use Rattle.history_machine.specs.Journal.{Records}
use Rattle.history_machine.specs.Machine.{Content, Machine, content, with_journal}
use Rattle.history_machine.specs.Step.{Step, Answers}
use Rattle.history_machine.specs.Run.{AddsEntry, Run, KeepsIfRefused, NumbersRise, NumbersArePositive, RefusalsKeepAll}

next_kept : (m n : Content) → n.next ≡ m.next → m.next ≤ n.next
next_kept m n e = omega (arith, e)

next_by : (m n k : Content) → n ≡ k → k.next ≡ m.next → m.next ≤ n.next
next_by m n k e same = next_kept m n (ap (λ (x : Content). x.next) e ∙ same)

answer_next : (old : Content) (event : Event) (reply : Reply) (new : Content) → Answers old event reply new → old.next ≤ new.next
answer_next old Look (Looked view) new a = next_by old new _ a.1 refl
answer_next old (Log asked) (Logged number line) new a = next_by old new _ a.1 refl
answer_next old (Commit basis change) (Done number) new a =
    let e : new.next ≡ old.next + 1 = ap (λ (k : Content). k.next) a.2.2 in omega (arith, e)
answer_next old (Commit basis change) (Refused (Moved current)) new a = next_by old new _ a.2 refl
answer_next old (Undo basis) (Done number) new a = next_kept old new a.3.next
answer_next old (Undo basis) (Refused (Moved current)) new a = next_by old new _ a.2 refl
answer_next old (Undo basis) (Refused NothingToUndo) new a = next_by old new _ a.2 refl
answer_next old (Redo basis) (Done number) new a = next_kept old new (sym a.3.next)
answer_next old (Redo basis) (Refused (Moved current)) new a = next_by old new _ a.2 refl
answer_next old (Redo basis) (Refused NothingToRedo) new a = next_by old new _ a.2 refl
answer_next old Take (Taken job) new a = next_by old new _ a.1 refl
answer_next old Take (Refused NoJob) new a = next_by old new _ a.1 refl
answer_next old (Deliver job built) (Back NoJob back unit) new a = next_by old new _ a.2 refl
answer_next old (Deliver job built) (Refused (Stale current)) new a = next_by old new _ a.2.2 refl
answer_next old (Deliver job built) (Refused Already) new a = next_by old new _ a.2.2 refl
answer_next old (Deliver job built) (Done number) new a = next_by old new _ a.3.4 refl
answer_next old (GiveBack job) (Back NoJob back unit) new a = next_by old new _ a.2 refl
answer_next old (GiveBack job) (Done number) new a = next_by old new _ a.1.2 refl
answer_next old event reply new a = absurd a

machine_next : (old new : Machine) → new ≡ old → old.next ≤ new.next
machine_next old new e = next_by (content old) (content new) (content old) (ap content e) refl

step_next : (old : Machine) (event : Event) (reply : Reply) (new : Machine) → Step old event reply new → old.next ≤ new.next
step_next old event (Refused Memory) new s = machine_next old new s.1
step_next old event (Refused JournalFull) new s = machine_next old new s.2
step_next old event (Back Memory job unit) new s = machine_next old new s.2
step_next old event (Back JournalFull job unit) new s = machine_next old new s.2
step_next old event reply new s = answer_next (content old) event reply (content new) s.1

pub run_next : (old : Machine) (es : List (Event × Reply)) (new : Machine) → Run old es new → old.next ≤ new.next
run_next old [] new r = machine_next old new r
run_next old (e ∷ es) new r =
    let first = step_next old e.0 e.1 r.0 r.1 in
    let rest = run_next r.0 es new r.2 in
    omega (arith, first, rest)

pub numbers_rise : NumbersRise
numbers_rise start changed settled end basis next_basis first second change next_change between committed run again =
    let after : changed.next ≡ start.next + 1 = ap (λ (k : Content). k.next) committed.1.2.2 in
    let one : first ≡ start.next = committed.1.1 in
    let two : second ≡ settled.next = again.1.1 in
    let along = run_next changed between settled run in
    omega (arith, after, one, two, along)

pub numbers_are_new : NumbersArePositive
numbers_are_new limits settled end before basis number change run committed =
    let is : number ≡ settled.next = committed.1.1 in
    let along : 1 ≤ settled.next = run_next _ before settled run in
    omega (arith, is, along)

-- the machine is what its states are, with its journal
one_more : (old : Machine) (event : Event) (reply : Reply) (new : Machine) (c : Content) → content new ≡ c →
    Records old.current.number old.begun old.journal event reply new.journal
    → AddsEntry old event reply (with_journal c old.journal) new
one_more old event reply new c is r = (r.out, r.tells, ap (λ (x : Content). with_journal x new.journal) is ∙ ap (λ entries. with_journal c entries) r.journal)

answer_kept : (old : Machine) (event : Event) (reply : Reply) (new : Machine) → Answers (content old) event reply (content new) →
    Records old.current.number old.begun old.journal event reply new.journal → KeepsIfRefused old event reply new
answer_kept old Look (Looked view) new a r = tt
answer_kept old (Log asked) (Logged number line) new a r = tt
answer_kept old (Commit basis change) (Done number) new a r = tt
answer_kept old (Commit basis change) (Refused (Moved current)) new a r = one_more old (Commit basis change) (Refused (Moved current)) new (content old) a.2 r
answer_kept old (Undo basis) (Done number) new a r = tt
answer_kept old (Undo basis) (Refused (Moved current)) new a r = one_more old (Undo basis) (Refused (Moved current)) new (content old) a.2 r
answer_kept old (Undo basis) (Refused NothingToUndo) new a r = one_more old (Undo basis) (Refused NothingToUndo) new (content old) a.2 r
answer_kept old (Redo basis) (Done number) new a r = tt
answer_kept old (Redo basis) (Refused (Moved current)) new a r = one_more old (Redo basis) (Refused (Moved current)) new (content old) a.2 r
answer_kept old (Redo basis) (Refused NothingToRedo) new a r = one_more old (Redo basis) (Refused NothingToRedo) new (content old) a.2 r
answer_kept old Take (Taken job) new a r = tt
answer_kept old Take (Refused NoJob) new a r = one_more old Take (Refused NoJob) new (content old) a.1 r
answer_kept old (Deliver job built) (Back NoJob back unit) new a r = one_more old (Deliver job built) (Back NoJob back unit) new (content old) a.2 r
answer_kept old (Deliver job built) (Refused (Stale current)) new a r = (a.2.0, a.2.1, one_more old (Deliver job built) (Refused (Stale current)) new _ a.2.2 r)
answer_kept old (Deliver job built) (Refused Already) new a r = (a.2.0, a.2.1, one_more old (Deliver job built) (Refused Already) new _ a.2.2 r)
answer_kept old (Deliver job built) (Done number) new a r = tt
answer_kept old (GiveBack job) (Back NoJob back unit) new a r = one_more old (GiveBack job) (Back NoJob back unit) new (content old) a.2 r
answer_kept old (GiveBack job) (Done number) new a r = tt
answer_kept old event reply new a r = absurd a

pub refusals_keep_all : RefusalsKeepAll
refusals_keep_all old new event (Refused Memory) s = s.1
refusals_keep_all old new event (Refused JournalFull) s = s.2
refusals_keep_all old new event (Back Memory job unit) s = s.2
refusals_keep_all old new event (Back JournalFull job unit) s = s.2
refusals_keep_all old new event reply s = answer_kept old event reply new s.1 s.2
