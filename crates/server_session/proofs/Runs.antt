-- A session over a book is a run of its machine, by the events that its messages send.
use Rattle.std.proofs.Common.{◌≡◌, ℕ, List, [], ◌∷◌, ◌++◌, Result, Ok, Err, inl, inr, refl, sym, ◌∙◌, append-nil, append_assoc}
use Rattle.base_files.specs.declared.refusal.Refusal.{Refusal}
use Rattle.base_files.specs.declared.limits.Limits.{Limits}
use Rattle.build_unit.specs.declared.built.Built.{Built}
use Rattle.build_unit.specs.declared.job.JobRecord.{JobRecord}
use Rattle.history_machine.specs.declared.view.View.{View}
use Rattle.workspace_snapshot.specs.declared.change.Change.{Change}
use Rattle.history_machine.specs.declared.event.Event.{Event}
use Rattle.history_machine.specs.declared.event.Event.TheVariants as event
use Rattle.history_machine.specs.declared.event.Reply.{Reply}
use Rattle.history_machine.specs.declared.event.Reply.TheVariants.{Looked, Logged, Done, Taken, Refused, Back}
use Rattle.history_machine.specs.Machine.{Machine}
use Rattle.history_machine.specs.Step.{Step}
use Rattle.history_machine.specs.Run.{Run}
use Rattle.history_machine.proofs.Legal.{Run-append}
use Rattle.server_commands.specs.Wait.{RefusesWait, SoloWaits}
use Rattle.server_read.specs.declared.command.Command.{Command}
use Rattle.server_read.specs.declared.command.Command.TheVariants as command
use Rattle.server_read.specs.declared.command.StateCommand.{StateCommand}
use Rattle.server_read.specs.declared.command.StateCommand.TheVariants as state
use Rattle.server_commands.specs.declared.response.Response.{Response}
use Rattle.server_commands.specs.Act.{Acts, ActsOn, Commits, AfterLook, Sends}
use Rattle.server_commands.specs.Work.{Works, AfterTake, AfterDelivery, Builds, Delivers, GivesBack}
use Rattle.server_read.specs.declared.message.Message.{Message}
use Rattle.server_read.specs.declared.message.Message.TheVariants.{Ask, Unknown, CutShort}
use Rattle.server_session.specs.Answers.{AnswersMessage, AnswersAll}
use Rattle.server_session.specs.Transcript.{BreaksOff}
use Rattle.server_session.specs.Laws.{GainsEvent, RunsTheMachine, RunsUntilCutOff}

abbrev Events : Type 0
Events = List (Event × Reply)

-- A run from old to new by some events. P relates each list of events to the list with these events appended.
abbrev IsRun : Machine → Machine → (Events → Events → Type 0) → Type 0
IsRun old new P = (events : Events) × Run old events new × ((before after : Events) → after ≡ before ++ events → P before after)

-- a list to which no event is appended
nothing : (before after : Events) → after ≡ before ++ [] → after ≡ before
nothing before after e = e ∙ append-nil before

sent : (old new : Machine) (asked : Event) (answer : Response) → Sends Step old asked answer new → IsRun old new (λ a b. Sends GainsEvent a asked answer b)
sent old new asked answer h = ((asked, h.0) ∷ [], (new, h.1, refl), λ before after e. (h.0, e, h.2))

committed : (old new : Machine) (basis : ℕ) (planned : Result Change Refusal) (answer : Response) → Commits Step old basis planned answer new
    → IsRun old new (λ a b. Commits GainsEvent a basis planned answer b)
committed old new basis (Ok change) answer h = sent old new (event.Commit basis change) answer h
committed old new basis (Err refusal) answer h = ([], h.1, λ before after n. (h.0, nothing before after n))

-- one step, and a run after it
led_on : (old mid new : Machine) (asked : Event) (reply : Reply) (P : Events → Events → Type 0) → Step old asked reply mid → IsRun mid new P
    → IsRun old new (λ a b. (c : Events) × GainsEvent a asked reply c × P c b)
led_on old mid new asked reply P s rest = (
  (asked, reply) ∷ rest.0,
  (mid, s, rest.1),
  λ before after e.
      (before ++ (asked, reply) ∷ [], refl, rest.2 (before ++ (asked, reply) ∷ []) after (e ∙ sym (append_assoc before ((asked, reply) ∷ []) rest.0))),
)

given_back : (old new : Machine) (job : JobRecord) → GivesBack Step old job new → IsRun old new (λ a b. GivesBack GainsEvent a job b)
given_back old new job h = ((event.GiveBack job, h.0) ∷ [], (new, h.1, refl), λ before after e. (h.0, e))

after_delivery : (old new : Machine) (path : List ℕ) (reply : Reply) (answer : Response) → AfterDelivery Step old path reply answer new
    → IsRun old new (λ a b. AfterDelivery GainsEvent a path reply answer b)
after_delivery old new path (Done number) answer h = ([], h.1, λ before after n. (h.0, nothing before after n))
after_delivery old new path (Refused refusal) answer h = ([], h.1, λ before after n. (h.0, nothing before after n))
after_delivery old new path (Back refusal job unit) answer h =
    let g = given_back old new job h.1 in
    (g.0, g.1, λ before after e. (h.0, g.2 before after e))
after_delivery old new path reply answer h = absurd h

delivered : (old new : Machine) (job : JobRecord) (built : Built) (answer : Response) → Delivers Step old job built answer new
    → IsRun old new (λ a b. Delivers GainsEvent a job built answer b)
delivered old new job built answer h =
    let g = led_on old h.1 new (event.Deliver job built) h.0 (λ (a b : Events). AfterDelivery GainsEvent a job.package h.0 answer b) h.2
    (after_delivery h.1 new job.package h.0 answer h.3) in
    (g.0, g.1, λ before after e. let n = g.2 before after e in (h.0, n.0, n.1, n.2))

built_in : (old new : Machine) (job : JobRecord) (answer : Response) → Builds Step old job answer new → IsRun old new (λ a b. Builds GainsEvent a job answer b)
built_in old new job answer h = elim h [
  | inl k ↦ let g = delivered old new job k.0 answer k.2 in (g.0, g.1, λ before after e. inl (k.0, k.1, g.2 before after e))
  | inr k ↦ let g = given_back old new job k.1 in (g.0, g.1, λ before after e. inr (k.0, g.2 before after e))
]

after_take : (old new : Machine) (reply : Reply) (answer : Response) → AfterTake Step old reply answer new
    → IsRun old new (λ a b. AfterTake GainsEvent a reply answer b)
after_take old new (Taken job) answer h = built_in old new job answer h
after_take old new (Refused refusal) answer h = ([], h.1, λ before after n. (h.0, nothing before after n))
after_take old new reply answer h = absurd h

worked : (old new : Machine) (answer : Response) → Works Step old answer new → IsRun old new (λ a b. Works GainsEvent a answer b)
worked old new answer h =
    let g = led_on old h.1 new event.Take h.0 (λ (a b : Events). AfterTake GainsEvent a h.0 answer b) h.2 (after_take h.1 new h.0 answer h.3) in
    (g.0, g.1, λ before after e. let n = g.2 before after e in (h.0, n.0, n.1, n.2))

acted_on : (old new : Machine) (view : View) (asked : StateCommand) (answer : Response) → ActsOn Step old view asked answer new
    → IsRun old new (λ a b. ActsOn GainsEvent a view asked answer b)
acted_on old new view state.Look answer h = ([], h.1, λ before after n. (h.0, nothing before after n))
acted_on old new view (state.Put basis path size body) answer h =
    let g = committed old new basis h.0 answer h.2 in
    (g.0, g.1, λ before after e. (h.0, h.1, g.2 before after e))
acted_on old new view (state.Del basis path) answer h =
    let g = committed old new basis h.0 answer h.2 in
    (g.0, g.1, λ before after e. (h.0, h.1, g.2 before after e))
acted_on old new view (state.Rename basis path offset name) answer h =
    let g = committed old new basis h.0 answer h.2 in
    (g.0, g.1, λ before after e. (h.0, h.1, g.2 before after e))
acted_on old new view (state.Move basis from to) answer h =
    let g = committed old new basis h.0 answer h.2 in
    (g.0, g.1, λ before after e. (h.0, h.1, g.2 before after e))
acted_on old new view (state.Undo basis) answer h = sent old new (event.Undo basis) answer h
acted_on old new view (state.Redo basis) answer h = sent old new (event.Redo basis) answer h
acted_on old new view (state.Cat path) answer h = ([], h.1, λ before after n. (h.0, nothing before after n))
acted_on old new view (state.Uses path offset) answer h = ([], h.1, λ before after n. (h.0, nothing before after n))
acted_on old new view state.List answer h = ([], h.1, λ before after n. (h.0, nothing before after n))
acted_on old new view state.Faults answer h = ([], h.1, λ before after n. (h.0, nothing before after n))
acted_on old new view (state.Object path) answer h = ([], h.1, λ before after n. (h.0, nothing before after n))
acted_on old new view (state.Objects basis) answer h = ([], h.1, λ before after n. (h.0, nothing before after n))
acted_on old new view state.Work answer h = worked old new answer h

continued : (old new : Machine) (reply : Reply) (asked : StateCommand) (answer : Response) → AfterLook Step old reply asked answer new
    → IsRun old new (λ a b. AfterLook GainsEvent a reply asked answer b)
continued old new (Looked view) asked answer h = elim h [
  | inl k ↦ ([], k.2, λ before after n. inl (k.0, k.1, nothing before after n))
  | inr k ↦ let g = acted_on old new view asked answer k.1 in (g.0, g.1, λ before after e. inr (k.0, g.2 before after e))
]
continued old new (Logged current line) asked answer h = ([], h.1, λ before after n. (h.0, nothing before after n))
continued old new (Done number) asked answer h = ([], h.1, λ before after n. (h.0, nothing before after n))
continued old new (Taken job) asked answer h = absurd h.0
continued old new (Refused refusal) asked answer h = ([], h.1, λ before after n. (h.0, nothing before after n))
continued old new (Back refusal job unit) asked answer h = absurd h.0

acted : (old new : Machine) (asked : Command) (answer : Response) → Acts Step SoloWaits old asked answer new
    → IsRun old new (λ a b. Acts GainsEvent RefusesWait a asked answer b)
acted old new (command.Log number) answer h = sent old new (event.Log number) answer h
acted old new command.Wait answer h = ([], h.1.1, λ before after n. (h.0, (h.1.0, nothing before after n), h.2))
acted old new command.Status answer h = ([], h.1.1, λ before after n. (h.0, nothing before after n, h.2))
acted old new (command.OnState asked) answer h =
    let g = led_on old h.1 new event.Look h.0 (λ (a b : Events). AfterLook GainsEvent a h.0 asked answer b) h.2 (continued h.1 new h.0 asked answer h.3) in
    (g.0, g.1, λ before after e. let n = g.2 before after e in (h.0, n.0, n.1, n.2))

answered : (old new : Machine) (message : Message) (reply : Response) → AnswersMessage Step SoloWaits old message reply new
    → IsRun old new (λ a b. AnswersMessage GainsEvent RefusesWait a message reply b)
answered old new (Ask asked) reply h = elim h [
  | inl k ↦ let g = acted old new asked k.0 k.1 in (g.0, g.1, λ before after e. inl (k.0, g.2 before after e, k.2))
  | inr k ↦ ([], k.1, λ before after n. inr (k.0, nothing before after n))
]
answered old new Unknown reply h = ([], h.1, λ before after n. (h.0, nothing before after n))
answered old new CutShort reply h = ([], h.1, λ before after n. (h.0, nothing before after n))

all_answered : (old new : Machine) (ms : List Message) (rs : List Response) → AnswersAll Step SoloWaits old ms rs new
    → IsRun old new (λ a b. AnswersAll GainsEvent RefusesWait a ms rs b)
all_answered old new [] [] h = ([], h, nothing)
all_answered old new [] (r ∷ rs) h = absurd h
all_answered old new (m ∷ ms) [] h = absurd h
all_answered old new (m ∷ ms) (r ∷ rs) h =
    let first = answered old h.0 m r h.1 in
    let others = all_answered h.0 new ms rs h.2 in (
      first.0 ++ others.0,
      Run-append old h.0 new first.0 others.0 first.1 others.1,
      λ before after e. (
        before ++ first.0,
        first.2 before (before ++ first.0) refl,
        others.2 (before ++ first.0) after (e ∙ sym (append_assoc before first.0 others.0)),
      ),
    )

pub exchange_runs : RunsTheMachine
exchange_runs limits input rest old new text h =
    let g = all_answered old new h.messages h.replies h.run in
    (g.0, g.1, record { messages = h.messages; replies = h.replies; read = h.read; run = g.2 [] g.0 refl; written = h.written })

broken_runs : (limits : Limits) (input rest : List ℕ) (old new : Machine) (text : List ℕ) → BreaksOff Step SoloWaits limits input rest old new text
    → (events : Events) × Run old events new × BreaksOff GainsEvent RefusesWait limits input rest [] events text
broken_runs limits input rest old new text h =
    let g = all_answered old new h.messages (h.earlier ++ h.last ∷ []) h.run in (
      g.0,
      g.1,
      record {
        messages = h.messages;
        earlier = h.earlier;
        last = h.last;
        read = h.read;
        run = g.2 [] g.0 refl;
        written = h.written;
        unwritten = h.unwritten;
        cut = h.cut;
        joined = h.joined;
      },
    )

pub cut_runs : RunsUntilCutOff
cut_runs limits input rest old new text h = elim h [
  | inl whole ↦ let g = exchange_runs limits input rest old new text whole in (g.0, g.1, inl g.2)
  | inr broken ↦ let g = broken_runs limits input rest old new text broken in (g.0, g.1, inr g.2)
]
