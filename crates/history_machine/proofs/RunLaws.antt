-- Undo and redo after a run that admits no change: the run keeps the cursor and the states that undo and redo reach. Deliveries of the run
-- change the current state alone.
use Rattle.std.proofs.Common.{◌≡◌, ℕ, ◌-◌, ◌≤◌, List, [], ◌∷◌, ◌++◌, length, drop, refl, sym, ap, ◌∙◌, arith, length-append, reverse, append_assoc}
use Rattle.std.proofs.lemmas.List.{drop-append-le, reverse-append}
use Rattle.base_files.specs.declared.refusal.Refusal.TheVariants.{Memory, Moved, NothingToUndo, NothingToRedo, JournalFull, Stale, Already, NoJob}
use Rattle.history_machine.specs.declared.event.Event.{Event}
use Rattle.history_machine.specs.declared.event.Event.TheVariants.{Look, Log, Commit, Undo, Redo, Take, Deliver, GiveBack}
use Rattle.history_machine.specs.declared.event.Reply.{Reply}
use Rattle.history_machine.specs.declared.event.Reply.TheVariants.{Looked, Logged, Done, Taken, Refused, Back}
use Rattle.history_machine.specs.State.{State}
use Rattle.history_machine.specs.Machine.{Content, Machine, content, newest}
use Rattle.history_machine.specs.Step.{Step, Answers}
use Rattle.history_machine.specs.Run.{Run, IsAdmitted, AdmitsNoChange, Restores, UndoRestores, RedoRestores, MovesCursor}

-- the last element of a list, or `d` where it is empty
last_or : State → List State → State
last_or d [] = d
last_or d (x ∷ xs) = last_or x xs

last_or-push : (d : State) (xs : List State) (x : State) → last_or d (xs ++ x ∷ []) ≡ x
unfolding last_or
last_or-push d [] x = refl
last_or-push d (y ∷ ys) x = last_or-push y ys x

same_last : (xs ys : List State) (x y : State) → xs ++ x ∷ [] ≡ ys ++ y ∷ [] → x ≡ y
same_last xs ys x y e = sym (last_or-push x xs x) ∙ ap (last_or x) e ∙ last_or-push x ys y

push_not_empty : (xs : List State) (x : State) → xs ++ x ∷ [] ≡ [] → ⊥
push_not_empty xs x e = absurd (omega (arith, sym (length-append xs (x ∷ [])) ∙ ap length e))

-- the newest states end with the last
pub newest-push : (depth : ℕ) (xs : List State) (x : State) → 1 ≤ depth → (kept : List State) × (newest depth (xs ++ x ∷ []) ≡ kept ++ x ∷ [])
newest-push depth xs x h =
    let n = length (xs ++ x ∷ []) - depth in
    let within : n ≤ length xs = omega (arith, length-append xs (x ∷ [])) in
    (drop n xs, drop-append-le n xs (x ∷ []) within)

-- undo and redo reach the same states from n as from m
pub record SameReach (m n : Content) : Type 0 where
  pub earlier : n.earlier ≡ m.earlier
  pub later : n.later ≡ m.later

same_reach : (m n k : Content) → n ≡ k → k.earlier ≡ m.earlier → k.later ≡ m.later → SameReach m n
same_reach m n k e earlier later = record { earlier = ap (λ (x : Content). x.earlier) e ∙ earlier; later = ap (λ (x : Content). x.later) e ∙ later }

quiet_answer : (old : Content) (event : Event) (reply : Reply) (new : Content) → ¬ (IsAdmitted event reply) → Answers old event reply new → SameReach old new
quiet_answer old Look (Looked view) new quiet a = same_reach old new _ a.1 refl refl
quiet_answer old (Log asked) (Logged number line) new quiet a = same_reach old new _ a.1 refl refl
quiet_answer old (Commit basis change) (Done number) new quiet a = absurd (quiet tt)
quiet_answer old (Commit basis change) (Refused (Moved current)) new quiet a = same_reach old new _ a.2 refl refl
quiet_answer old (Undo basis) (Done number) new quiet a = absurd (quiet tt)
quiet_answer old (Undo basis) (Refused (Moved current)) new quiet a = same_reach old new _ a.2 refl refl
quiet_answer old (Undo basis) (Refused NothingToUndo) new quiet a = same_reach old new _ a.2 refl refl
quiet_answer old (Redo basis) (Done number) new quiet a = absurd (quiet tt)
quiet_answer old (Redo basis) (Refused (Moved current)) new quiet a = same_reach old new _ a.2 refl refl
quiet_answer old (Redo basis) (Refused NothingToRedo) new quiet a = same_reach old new _ a.2 refl refl
quiet_answer old Take (Taken job) new quiet a = same_reach old new _ a.1 refl refl
quiet_answer old Take (Refused NoJob) new quiet a = same_reach old new _ a.1 refl refl
quiet_answer old (Deliver job built) (Back NoJob back unit) new quiet a = same_reach old new _ a.2 refl refl
quiet_answer old (Deliver job built) (Refused (Stale current)) new quiet a = same_reach old new _ a.2.2 refl refl
quiet_answer old (Deliver job built) (Refused Already) new quiet a = same_reach old new _ a.2.2 refl refl
quiet_answer old (Deliver job built) (Done number) new quiet a = same_reach old new _ a.3.4 refl refl
quiet_answer old (GiveBack job) (Back NoJob back unit) new quiet a = same_reach old new _ a.2 refl refl
quiet_answer old (GiveBack job) (Done number) new quiet a = same_reach old new _ a.1.2 refl refl
quiet_answer old event reply new quiet a = absurd a

same_machine : (old new : Machine) → new ≡ old → SameReach (content old) (content new)
same_machine old new e = same_reach (content old) (content new) (content old) (ap content e) refl refl

quiet_step : (old : Machine) (event : Event) (reply : Reply) (new : Machine) → ¬ (IsAdmitted event reply) → Step old event reply new →
    SameReach (content old) (content new)
quiet_step old event (Refused Memory) new quiet s = same_machine old new s.1
quiet_step old event (Refused JournalFull) new quiet s = same_machine old new s.2
quiet_step old event (Back Memory job unit) new quiet s = same_machine old new s.2
quiet_step old event (Back JournalFull job unit) new quiet s = same_machine old new s.2
quiet_step old event reply new quiet s = quiet_answer (content old) event reply (content new) quiet s.1

pub quiet_run : (old : Machine) (es : List (Event × Reply)) (new : Machine) → Run old es new → AdmitsNoChange es → SameReach (content old) (content new)
quiet_run old [] new r quiet = same_machine old new r
quiet_run old (e ∷ es) new r quiet =
    let first = quiet_step old e.0 e.1 r.0 quiet.0 r.1 in
    let rest = quiet_run r.0 es new r.2 quiet.1 in
    record { earlier = rest.earlier ∙ first.earlier; later = rest.later ∙ first.later }

-- undo, where the nearest earlier state is the given one
undo_reply : (state : State) (kept : List State) (old : Machine) (reply : Reply) (new : Machine) → old.earlier ≡ kept ++ state ∷ [] →
    Step old (Undo old.current.number) reply new → Restores state old reply new
undo_reply state kept old (Refused Memory) new e s = s.1
undo_reply state kept old (Refused JournalFull) new e s = s.2
undo_reply state kept old (Done number) new e s =
    let back = same_last new.earlier kept new.current state (sym s.1.3.earlier ∙ e) in
    (s.1.1 ∙ ap (λ (k : State). k.number) back, back)
undo_reply state kept old (Refused (Moved current)) new e s = absurd (s.1.0 refl)
undo_reply state kept old (Refused NothingToUndo) new e s = absurd (push_not_empty kept state (sym e ∙ s.1.1))
undo_reply state kept old (Back Memory job unit) new e s = absurd s.0
undo_reply state kept old (Back JournalFull job unit) new e s = absurd s.0
undo_reply state kept old reply new e s = absurd s.1

redo_reply : (state : State) (kept : List State) (old : Machine) (reply : Reply) (new : Machine) → old.later ≡ kept ++ state ∷ [] →
    Step old (Redo old.current.number) reply new → Restores state old reply new
redo_reply state kept old (Refused Memory) new e s = s.1
redo_reply state kept old (Refused JournalFull) new e s = s.2
redo_reply state kept old (Done number) new e s =
    let back = same_last new.later kept new.current state (sym s.1.3.later ∙ e) in
    (s.1.1 ∙ ap (λ (k : State). k.number) back, back)
redo_reply state kept old (Refused (Moved current)) new e s = absurd (s.1.0 refl)
redo_reply state kept old (Refused NothingToRedo) new e s = absurd (push_not_empty kept state (sym e ∙ s.1.1))
redo_reply state kept old (Back Memory job unit) new e s = absurd s.0
redo_reply state kept old (Back JournalFull job unit) new e s = absurd s.0
redo_reply state kept old reply new e s = absurd s.1

pub undo_restores : UndoRestores
undo_restores start changed settled end basis number change between reply committed run quiet undone =
    let same = quiet_run changed between settled run quiet in
    let kept = newest-push start.limits.undo_depth start.earlier start.current start.limits.undo_depth_positive in
    undo_reply start.current kept.0 settled reply end (same.earlier ∙ ap (λ (k : Content). k.earlier) committed.1.2.2 ∙ kept.1) undone

pub redo_restores : RedoRestores
redo_restores start undone settled end basis number between reply left run quiet redone =
    let same = quiet_run undone between settled run quiet in
    redo_reply start.current start.later settled reply end (same.later ∙ left.1.3.later) redone

pub moves_cursor : MovesCursor
moves_cursor before after moved = (
  ap (λ later. before.earlier ++ before.current ∷ reverse later) moved.later
      ∙ ap (λ back. before.earlier ++ before.current ∷ back) (reverse-append after.later (after.current ∷ []))
      ∙ sym (append_assoc before.earlier (before.current ∷ []) (after.current ∷ reverse after.later))
      ∙ ap (λ earlier. earlier ++ after.current ∷ reverse after.later) (sym moved.earlier),
  sym (ap length moved.earlier ∙ length-append before.earlier (before.current ∷ [])),
)
