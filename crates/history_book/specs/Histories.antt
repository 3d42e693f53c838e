-- The content of the machine that the states of a book are part of.
use Rattle.std.specs.Prelude.{◌≡◌, ◌+◌, ◌≤◌, ⊤, List, [], ◌∷◌, ◌++◌, length}
use Rattle.base_files.specs.Workspace.{Workspace}
use Rattle.base_files.specs.declared.limits.Limits.{Limits}
use Rattle.base_edits.specs.EditSet.{FileChanges, edited}
use Rattle.base_edits.specs.Inverse.{IsInverse}
use Rattle.workspace_check.specs.Found.{KnowsVerdicts}
use Rattle.build_unit.specs.Jobs.{JobsOut}
use Rattle.history_inverses.specs.Inverses.{IsLast, StandsAt, walked}
use Rattle.history_machine.specs.declared.event.Event.{Event}
use Rattle.history_machine.specs.declared.event.Reply.{Reply}
use Rattle.history_machine.specs.declared.resting.Resting.{Resting}
use Rattle.history_machine.specs.Machine.{BeginsVisit, Content, IsOneBefore, changed}
use Rattle.history_machine.specs.Resting.{IsRestOf, RestsOn, woken}
use Rattle.history_machine.specs.State.{State}
use Rattle.history_machine.specs.Step.{AnswersOrLacks}
use Rattle.history_book.specs.declared.states.Moving.{Moving}
use Rattle.history_book.specs.declared.states.States.{States}

-- The states at rest on one side of the current files, the nearest last. The files of each are those to which the inverses up to its own
-- lead.
abbrev pub resting_states : Workspace → List FileChanges → List Resting → List State
resting_states w [] rests = []
resting_states w (way ∷ ways) [] = []
resting_states w (way ∷ ways) (rest ∷ rests) = woken (walked w (way ∷ ways)) rest ∷ resting_states w ways rests

-- each state at rest has its inverse, and what it keeps is of the files to which this leads
abbrev pub AreAtRest : Workspace → List FileChanges → List Resting → Type 0
AreAtRest w [] [] = ⊤
AreAtRest w [] (rest ∷ rests) = ⊥
AreAtRest w (way ∷ ways) [] = ⊥
AreAtRest w (way ∷ ways) (rest ∷ rests) = RestsOn (walked w (way ∷ ways)) rest × AreAtRest w ways rests

-- the inverses lead from the current files to those of the states at rest, which are at most as many as the history keeps
pub record KeepStates (s : States) : Type 0 where
  pub stands : StandsAt s.ways s.current.files
  pub earlier : AreAtRest s.current.files s.ways.behind s.earlier.items
  pub later : AreAtRest s.current.files s.ways.ahead s.later.items
  pub count : length s.earlier.items + length s.later.items ≤ s.ways.depth

-- the content with these states, these limits and these Jobs out
abbrev pub content_of : States → Limits → JobsOut → Content
content_of s limits out = record {
  limits = limits;
  earlier = resting_states s.current.files s.ways.behind s.earlier.items;
  current = s.current;
  later = resting_states s.current.files s.ways.ahead s.later.items;
  next = s.next;
  visit = s.visit;
  begun = s.begun;
  out = out;
}

-- the event gets this reply and leaves the new states, whatever the limits are and whichever Jobs are out
abbrev pub AnswersAmongStates : States → Event → Reply → States → Type 0
AnswersAmongStates old event reply new = (limits : Limits) (out : JobsOut) → AnswersOrLacks (content_of old limits out) event reply (content_of new limits out)

-- the new states have `next` as their current state, and no state for redo, whichever Jobs are out
abbrev pub GainsState : Limits → States → State → States → Type 0
GainsState limits old next new = (out : JobsOut) → content_of new limits out ≡ changed (content_of old limits out) next.files next.finished

-- both give the same content, whatever the limits are and whichever Jobs are out
abbrev pub IsSameHistory : States → States → Type 0
IsSameHistory old new = (limits : Limits) (out : JobsOut) → content_of new limits out ≡ content_of old limits out

-- the states of `after` are those of `before` with the cursor one state further; from `old` to `new` a visit begins
abbrev pub IsOneStepOn : (before after old new : States) → Type 0
IsOneStepOn before after old new =
    (limits : Limits) (out : JobsOut) → BeginsVisit (content_of old limits out) (content_of new limits out)
    × IsOneBefore (content_of before limits out) (content_of after limits out)

-- this state rests nearest to the current one
abbrev pub IsNearestState : List Resting → Resting → Type 0
IsNearestState rests rest = (farther : List Resting) × (rests ≡ farther ++ rest ∷ [])

-- what the move from the state along the inverse needs: the files that the inverse makes, right verdicts on their packages, what leads back,
-- and what the state keeps at rest
pub record IsMoving (state : State) (way : FileChanges) (moving : Moving) : Type 0 where
  pub files : moving.files ≡ edited way state.files
  pub known : KnowsVerdicts moving.files moving.known
  pub turned : IsInverse moving.turned moving.files state.files
  pub rest : IsRestOf state moving.rest

-- what the move from the state along the nearest of these inverses needs
abbrev pub HasMove : List FileChanges → State → Moving → Type 0
HasMove ways state moving = (way : FileChanges) × IsLast ways way × IsMoving state way moving
