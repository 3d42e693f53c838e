-- A session at a desk, seen as a session of what the desk shows. The desk D shows an E, and has a name that no step changes. Where each
-- step and each wait is one of E, so is the whole session.
use Rattle.std.proofs.Common.{◌≡◌, ℕ, Bool, true, false, List, [], ◌∷◌, ◌++◌, Option, Some, None, Result, Ok, Err, inl, inr, ap, ◌∙◌, sym, subst, ⊎_elim}
use Rattle.base_files.specs.declared.refusal.Refusal.{Refusal}
use Rattle.base_files.specs.declared.limits.Limits.{Limits}
use Rattle.build_unit.specs.declared.built.Built.{Built}
use Rattle.build_unit.specs.declared.job.JobRecord.{JobRecord}
use Rattle.workspace_snapshot.specs.declared.change.Change.{Change}
use Rattle.history_machine.specs.declared.view.View.{View}
use Rattle.history_machine.specs.declared.event.Event.{Event}
use Rattle.history_machine.specs.declared.event.Event.TheVariants as event
use Rattle.history_machine.specs.declared.event.Reply.{Reply}
use Rattle.history_machine.specs.declared.event.Reply.TheVariants.{Looked, Logged, Done, Taken, Refused, Back}
use Rattle.server_read.specs.declared.command.Command.{Command}
use Rattle.server_read.specs.declared.command.Command.TheVariants as command
use Rattle.server_read.specs.declared.command.StateCommand.{StateCommand}
use Rattle.server_read.specs.declared.command.StateCommand.TheVariants as state
use Rattle.server_commands.specs.declared.response.Response.{Response}
use Rattle.server_read.specs.declared.message.Message.{Message}
use Rattle.server_read.specs.declared.message.Message.TheVariants.{Ask, Unknown, CutShort}
use Rattle.server_commands.specs.Wait.{Aside, SaysNumbers, SaysWait, WaitLaw}
use Rattle.server_commands.specs.Act.{Acts, ActsOn, Commits, AfterLook, Sends}
use Rattle.server_commands.specs.Work.{Works, AfterTake, AfterDelivery, Builds, Delivers, GivesBack}
use Rattle.server_session.specs.declared.exchange.SessionFault.{SessionFault}
use Rattle.server_session.specs.declared.exchange.SessionFault.TheVariants.{Memory, Read, Write, Turns}
use Rattle.server_session.specs.Answers.{AnswersMessage, AnswersAll, AnswersOneAtMost, AnswersSome}
use Rattle.server_session.specs.Conversing.{Converses}
use Rattle.server_session.specs.Sending.{AnswersNext}
use Rattle.server_session.specs.declared.outgoing.Outgoing.{Outgoing}
use Rattle.server_session.specs.declared.outgoing.Outgoing.TheVariants as outgoing
use Rattle.server_session.specs.Transcript.{Exchange, BreaksOff, CutsOff, SessionEnds, StepEnds}

module _ {D E : Type 0} (steps : D → Event → Reply → D → Type 0) (waits : WaitLaw D) (shown : E → Event → Reply → E → Type 0) (awaited : WaitLaw E)
    (name : D → ℕ) (show : D → E)
    (step : (old : D) (asked : Event) (reply : Reply) (new : D) → steps old asked reply new → (name new ≡ name old) × shown (show old) asked reply (show new))
    (wait : (old : D) (told : Aside) (new : D) → waits old told new → (name new ≡ name old) × awaited (show old) told (show new)) where
  -- the name stays, and P holds of what is shown
  abbrev Lifts : D → D → (E → E → Type 0) → Type 0
  Lifts old new P = (name new ≡ name old) × P (show old) (show new)

  same : (old new : D) → new ≡ old → Lifts old new (λ a b. b ≡ a)
  same old new e = (ap name e, ap show e)

  sent : (old new : D) (asked : Event) (answer : Response) → Sends steps old asked answer new → Lifts old new (λ a b. Sends shown a asked answer b)
  sent old new asked answer h = let k = step old asked h.0 new h.1 in (k.0, (h.0, k.1, h.2))

  committed : (old new : D) (basis : ℕ) (planned : Result Change Refusal) (answer : Response) → Commits steps old basis planned answer new
      → Lifts old new (λ a b. Commits shown a basis planned answer b)
  committed old new basis (Ok change) answer h = sent old new (event.Commit basis change) answer h
  committed old new basis (Err refusal) answer h = let k = same old new h.1 in (k.0, (h.0, k.1))

  given_back : (old new : D) (job : JobRecord) → GivesBack steps old job new → Lifts old new (λ a b. GivesBack shown a job b)
  given_back old new job h = let k = step old (event.GiveBack job) h.0 new h.1 in (k.0, (h.0, k.1))

  after_delivery : (old new : D) (path : List ℕ) (reply : Reply) (answer : Response) → AfterDelivery steps old path reply answer new
      → Lifts old new (λ a b. AfterDelivery shown a path reply answer b)
  after_delivery old new path (Done number) answer h = let k = same old new h.1 in (k.0, (h.0, k.1))
  after_delivery old new path (Refused refusal) answer h = let k = same old new h.1 in (k.0, (h.0, k.1))
  after_delivery old new path (Back refusal job unit) answer h = let k = given_back old new job h.1 in (k.0, (h.0, k.1))
  after_delivery old new path reply answer h = absurd h

  delivered : (old new : D) (job : JobRecord) (built : Built) (answer : Response) → Delivers steps old job built answer new
      → Lifts old new (λ a b. Delivers shown a job built answer b)
  delivered old new job built answer h =
      let k = step old (event.Deliver job built) h.0 h.1 h.2 in
      let l = after_delivery h.1 new job.package h.0 answer h.3 in
      (l.0 ∙ k.0, (h.0, show h.1, k.1, l.1))

  built_in : (old new : D) (job : JobRecord) (answer : Response) → Builds steps old job answer new → Lifts old new (λ a b. Builds shown a job answer b)
  built_in old new job answer h = elim h [
    | inl k ↦ let l = delivered old new job k.0 answer k.2 in (l.0, inl (k.0, k.1, l.1))
    | inr k ↦ let l = given_back old new job k.1 in (l.0, inr (k.0, l.1))
  ]

  after_take : (old new : D) (reply : Reply) (answer : Response) → AfterTake steps old reply answer new
      → Lifts old new (λ a b. AfterTake shown a reply answer b)
  after_take old new (Taken job) answer h = built_in old new job answer h
  after_take old new (Refused refusal) answer h = let k = same old new h.1 in (k.0, (h.0, k.1))
  after_take old new reply answer h = absurd h

  worked : (old new : D) (answer : Response) → Works steps old answer new → Lifts old new (λ a b. Works shown a answer b)
  worked old new answer h =
      let k = step old event.Take h.0 h.1 h.2 in
      let l = after_take h.1 new h.0 answer h.3 in
      (l.0 ∙ k.0, (h.0, show h.1, k.1, l.1))

  acted_on : (old new : D) (view : View) (asked : StateCommand) (answer : Response) → ActsOn steps old view asked answer new
      → Lifts old new (λ a b. ActsOn shown a view asked answer b)
  acted_on old new view state.Look answer h = let k = same old new h.1 in (k.0, (h.0, k.1))
  acted_on old new view (state.Put basis path size body) answer h = let k = committed old new basis h.0 answer h.2 in (k.0, (h.0, h.1, k.1))
  acted_on old new view (state.Del basis path) answer h = let k = committed old new basis h.0 answer h.2 in (k.0, (h.0, h.1, k.1))
  acted_on old new view (state.Rename basis path offset word) answer h = let k = committed old new basis h.0 answer h.2 in (k.0, (h.0, h.1, k.1))
  acted_on old new view (state.Move basis from to) answer h = let k = committed old new basis h.0 answer h.2 in (k.0, (h.0, h.1, k.1))
  acted_on old new view (state.Undo basis) answer h = sent old new (event.Undo basis) answer h
  acted_on old new view (state.Redo basis) answer h = sent old new (event.Redo basis) answer h
  acted_on old new view (state.Cat path) answer h = let k = same old new h.1 in (k.0, (h.0, k.1))
  acted_on old new view (state.Uses path offset) answer h = let k = same old new h.1 in (k.0, (h.0, k.1))
  acted_on old new view state.List answer h = let k = same old new h.1 in (k.0, (h.0, k.1))
  acted_on old new view state.Faults answer h = let k = same old new h.1 in (k.0, (h.0, k.1))
  acted_on old new view (state.Object path) answer h = let k = same old new h.1 in (k.0, (h.0, k.1))
  acted_on old new view (state.Objects basis) answer h = let k = same old new h.1 in (k.0, (h.0, k.1))
  acted_on old new view state.Work answer h = worked old new answer h

  continued : (old new : D) (reply : Reply) (asked : StateCommand) (answer : Response) → AfterLook steps old reply asked answer new
      → Lifts old new (λ a b. AfterLook shown a reply asked answer b)
  continued old new (Looked view) asked answer h = elim h [
    | inl k ↦ let l = same old new k.2 in (l.0, inl (k.0, k.1, l.1))
    | inr k ↦ let l = acted_on old new view asked answer k.1 in (l.0, inr (k.0, l.1))
  ]
  continued old new (Logged current line) asked answer h = let k = same old new h.1 in (k.0, (h.0, k.1))
  continued old new (Done number) asked answer h = let k = same old new h.1 in (k.0, (h.0, k.1))
  continued old new (Taken job) asked answer h = absurd h.0
  continued old new (Refused refusal) asked answer h = let k = same old new h.1 in (k.0, (h.0, k.1))
  continued old new (Back refusal job unit) asked answer h = absurd h.0

  acted : (old new : D) (asked : Command) (answer : Response) → Acts steps waits old asked answer new
      → Lifts old new (λ a b. Acts shown awaited a asked answer b)
  acted old new (command.Log number) answer h = sent old new (event.Log number) answer h
  acted old new command.Wait answer h = let k = wait old (SaysWait h.0) new h.1 in (k.0, (h.0, k.1, h.2))
  acted old new command.Status answer h = let k = wait old (SaysNumbers h.0) new h.1 in (k.0, (h.0, k.1, h.2))
  acted old new (command.OnState asked) answer h =
      let k = step old event.Look h.0 h.1 h.2 in
      let l = continued h.1 new h.0 asked answer h.3 in
      (l.0 ∙ k.0, (h.0, show h.1, k.1, l.1))

  answered : (old new : D) (message : Message) (reply : Response) → AnswersMessage steps waits old message reply new
      → Lifts old new (λ a b. AnswersMessage shown awaited a message reply b)
  answered old new (Ask asked) reply h = elim h [
    | inl k ↦ let l = acted old new asked k.0 k.1 in (l.0, inl (k.0, l.1, k.2))
    | inr k ↦ let l = same old new k.1 in (l.0, inr (k.0, l.1))
  ]
  answered old new Unknown reply h = let k = same old new h.1 in (k.0, (h.0, k.1))
  answered old new CutShort reply h = let k = same old new h.1 in (k.0, (h.0, k.1))

  all_answered : (old new : D) (ms : List Message) (rs : List Response) → AnswersAll steps waits old ms rs new
      → Lifts old new (λ a b. AnswersAll shown awaited a ms rs b)
  all_answered old new [] [] h = same old new h
  all_answered old new [] (r ∷ rs) h = absurd h
  all_answered old new (m ∷ ms) [] h = absurd h
  all_answered old new (m ∷ ms) (r ∷ rs) h =
      let k = answered old h.0 m r h.1 in
      let l = all_answered h.0 new ms rs h.2 in
      (l.0 ∙ k.0, (show h.0, k.1, l.1))

  some_answered : (old new : D) (last : E) → (name new ≡ name old → last ≡ show new) → AnswersSome steps waits old new
      → AnswersSome shown awaited (show old) last
  some_answered old new last is h =
      let k = all_answered old new h.0 h.1 h.2 in
      (h.0, h.1, subst (λ (b : E). AnswersAll shown awaited (show old) h.0 h.1 b) (sym (is k.0)) k.1)

  -- one message is answered
  message_lifted : (old new : D) (first last : E) → first ≡ show old → (name new ≡ name old → last ≡ show new) → (message : Message) (reply : Response) →
      AnswersMessage steps waits old message reply new → AnswersMessage shown awaited first message reply last
  message_lifted old new first last from is message reply a =
      let k = answered old new message reply a in
      subst (λ (x : E). AnswersMessage shown awaited x message reply last) (sym from)
      (subst (λ (y : E). AnswersMessage shown awaited (show old) message reply y) (sym (is k.0)) k.1)

  module _ (limits : Limits) where
    exchanged : (input rest : List ℕ) (old new : D) (text : List ℕ) → Exchange steps waits limits input rest old new text
        → Lifts old new (λ a b. Exchange shown awaited limits input rest a b text)
    exchanged input rest old new text h =
        let k = all_answered old new h.messages h.replies h.run in
        (k.0, record { messages = h.messages; replies = h.replies; read = h.read; run = k.1; written = h.written })

    broken : (input rest : List ℕ) (old new : D) (text : List ℕ) → BreaksOff steps waits limits input rest old new text
        → Lifts old new (λ a b. BreaksOff shown awaited limits input rest a b text)
    broken input rest old new text h =
        let k = all_answered old new h.messages (h.earlier ++ h.last ∷ []) h.run in (
          k.0,
          record {
            messages = h.messages;
            earlier = h.earlier;
            last = h.last;
            read = h.read;
            run = k.1;
            written = h.written;
            unwritten = h.unwritten;
            cut = h.cut;
            joined = h.joined;
          },
        )

    cut : (input rest : List ℕ) (old new : D) (text : List ℕ) → CutsOff steps waits limits input rest old new text
        → Lifts old new (λ a b. CutsOff shown awaited limits input rest a b text)
    cut input rest old new text h = elim h [
      | inl k ↦ let l = exchanged input rest old new text k in (l.0, inl l.1)
      | inr k ↦ let l = broken input rest old new text k in (l.0, inr l.1)
    ]

    -- at most one message is answered
    pub one_lifted : (old new : D) (first last : E) → first ≡ show old → (name new ≡ name old → last ≡ show new) → AnswersOneAtMost steps waits old new →
        AnswersOneAtMost shown awaited first last
    one_lifted old new first last from is answers = ⊎_elim
        (λ (e : new ≡ old). let k = same old new e in inl (is k.0 ∙ (k.1 ∙ sym from)))
        (λ (a : (message : Message) × (reply : Response) × AnswersMessage steps waits old message reply new).
        inr (a.0, a.1, message_lifted old new first last from is a.0 a.1 a.2)) answers

    -- how a session ends, where what is shown at last is that of a desk that kept its name
    ended : (before after held holds : Option (List ℕ)) (old new : D) (last : E) (result : Result (Unit {0}) SessionFault)
        → (name new ≡ name old → last ≡ show new) → SessionEnds steps waits limits before after held holds old new result
        → SessionEnds shown awaited limits before after held holds (show old) last result
    ended None after held holds old new last (Ok done) is h = h
    ended (Some input) after held holds old new last (Ok done) is h =
        let k = exchanged input h.0 old new h.2 h.3 in
        (h.0, h.1, h.2, subst (λ (b : E). Exchange shown awaited limits input h.0 (show old) b h.2) (sym (is k.0)) k.1, h.4, h.5, h.6)
    ended before after held holds old new last (Err Memory) is h = let k = same old new h.1 in (h.0, is k.0 ∙ k.1, h.2)
    ended None after held holds old new last (Err Read) is h = h
    ended (Some input) after held holds old new last (Err Read) is h =
        let k = exchanged input (h.0 ++ h.1) old new h.2 h.3 in
        (h.0, h.1, h.2, subst (λ (b : E). Exchange shown awaited limits input (h.0 ++ h.1) (show old) b h.2) (sym (is k.0)) k.1, h.4, h.5, h.6)
    ended None after held holds old new last (Err Turns) is h = h
    ended (Some input) after held holds old new last (Err Turns) is h =
        let k = exchanged input (h.0 ++ h.1) old new h.2 h.3 in
        (h.0, h.1, h.2, subst (λ (b : E). Exchange shown awaited limits input (h.0 ++ h.1) (show old) b h.2) (sym (is k.0)) k.1, h.4, h.5, h.6)
    ended None after held holds old new last (Err Write) is h = h
    ended (Some input) after held holds old new last (Err Write) is h =
        let k = cut input h.0 old new h.1 h.2 in
        (h.0, h.1, subst (λ (b : E). CutsOff shown awaited limits input h.0 (show old) b h.1) (sym (is k.0)) k.1, h.3, h.4)

    step_shown : (before after held holds : Option (List ℕ)) (old new : D) (last : E) (result : Result Bool SessionFault)
        → (name new ≡ name old → last ≡ show new) → StepEnds steps waits limits before after held holds old new result
        → StepEnds shown awaited limits before after held holds (show old) last result
    step_shown None after held holds old new last (Ok true) is h = h
    step_shown (Some input) after held holds old new last (Ok true) is h =
        let k = exchanged input h.0 old new h.1 h.2 in
        (h.0, h.1, subst (λ (b : E). Exchange shown awaited limits input h.0 (show old) b h.1) (sym (is k.0)) k.1, h.3, h.4)
    step_shown before after held holds old new last (Ok false) is h = ended before after held holds old new last (Ok tt) is h
    step_shown before after held holds old new last (Err Memory) is h = absurd h
    step_shown before after held holds old new last (Err Read) is h = ended before after held holds old new last (Err Read) is h
    step_shown before after held holds old new last (Err Turns) is h = ended before after held holds old new last (Err Turns) is h
    step_shown before after held holds old new last (Err Write) is h = ended before after held holds old new last (Err Write) is h

    -- one step of a session
    pub step_lifted : (before after held holds : Option (List ℕ)) (old new : D) (first last : E) (result : Result Bool SessionFault)
        → first ≡ show old → (name new ≡ name old → last ≡ show new) → StepEnds steps waits limits before after held holds old new result
        → StepEnds shown awaited limits before after held holds first last result
    step_lifted before after held holds old new first last result from is s =
        subst (λ (a : E). StepEnds shown awaited limits before after held holds a last result) (sym from)
        (step_shown before after held holds old new last result is s)

    -- the first part of a step
    pub next_lifted : (before after held holds : Option (List ℕ)) (old new : D) (first last : E) (result : Result Outgoing SessionFault)
        → first ≡ show old → (name new ≡ name old → last ≡ show new) → AnswersNext steps waits limits before after held holds old new result
        → AnswersNext shown awaited limits before after held holds first last result
    next_lifted before after held holds old new first last (Ok outgoing.End) from is s =
        step_lifted before after held holds old new first last (Ok false) from is s
    next_lifted None after held holds old new first last (Ok (outgoing.Reply reply behind)) from is s = s
    next_lifted (Some input) after held holds old new first last (Ok (outgoing.Reply reply behind)) from is s =
        let m = s.1 in (s.0, (m.0, m.1, m.2, message_lifted old new first last from is m.0 reply m.3, m.4, m.5))
    next_lifted before after held holds old new first last (Err fault) from is s =
        step_lifted before after held holds old new first last (Err fault) from is s

    -- a session
    pub conversed : (before held holds : Option (List ℕ)) (old new : D) (result : Result (Unit {0}) SessionFault)
        → Converses steps waits limits before held holds old new result
        → (first last : E) → first ≡ show old → (name new ≡ name old → last ≡ show new)
        → Converses shown awaited limits before held holds first last result
    conversed before held holds old new result h first last from is = subst (λ (a : E). Converses shown awaited limits before held holds a last result)
        (sym from) (h.0, ended before h.0 held holds old new last result is h.1, some_answered old new last is h.2)
