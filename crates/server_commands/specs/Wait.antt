-- The commands `wait` and `status`: a desk says how the wait ended, or numbers, and the command makes no event of its own.
use Rattle.std.specs.Prelude.{◌≡◌, ℕ, MatchResult, Result, Ok, Err}
use Rattle.base_files.specs.declared.refusal.Refusal.{Refusal}
use Rattle.base_files.specs.declared.refusal.Refusal.TheVariants.{BadCommand, Memory}
use Rattle.history_machine.specs.Machine.{Machine}
use Rattle.server_commands.specs.Numbers.{AreSoloNumbers}
use Rattle.server_commands.specs.declared.numbers.ServerNumbers.{ServerNumbers}
use Rattle.server_commands.specs.declared.response.Response.{Response}
use Rattle.server_commands.specs.declared.response.Response.TheVariants as response

-- What a desk says: the outcome of a wait, which is the number of the state whose packages are all finished, or a refusal. Or the numbers that it
-- tells, or why it tells none.
pub data Aside : Type 0 where
  SaysWait : Result ℕ Refusal → Aside
  SaysNumbers : Result ServerNumbers Refusal → Aside

-- What desks say: the desk before it, what it says, and the desk after it.
abbrev pub WaitLaw : Type 0 → Type 1
WaitLaw D = D → Aside → D → Type 0

-- A wait is refused as no command, and is no event. Nothing is said of the numbers, which are no event either.
abbrev pub RefusesWait : {D : Type 0} → WaitLaw D
RefusesWait old (SaysWait outcome) new = (outcome ≡ Err BadCommand) × (new ≡ old)
RefusesWait old (SaysNumbers outcome) new = new ≡ old

-- At a desk of its own no one else builds, so a wait is refused as no command. The numbers are those of its book, unless memory is wanting. Neither
-- is an event.
abbrev pub SoloWaits : WaitLaw Machine
SoloWaits old (SaysWait outcome) new = (outcome ≡ Err BadCommand) × (new ≡ old)
SoloWaits old (SaysNumbers outcome) new = MatchResult outcome (AreSoloNumbers old) (λ refusal. refusal ≡ Memory) × (new ≡ old)

-- the answer to a wait with this outcome
abbrev pub wait_response : Result ℕ Refusal → Response
wait_response (Ok number) = response.Done number
wait_response (Err refusal) = response.Refused refusal

-- one wait, and its answer
abbrev pub Waits : {D : Type 0} → WaitLaw D → D → Response → D → Type 0
Waits waits old answer new = (outcome : Result ℕ Refusal) × waits old (SaysWait outcome) new × (answer ≡ wait_response outcome)

-- the answer with these numbers, or without
abbrev pub status_response : Result ServerNumbers Refusal → Response
status_response (Ok numbers) = response.Status numbers
status_response (Err refusal) = response.Refused refusal

-- the numbers are told once, and answered
abbrev pub TellsNumbers : {D : Type 0} → WaitLaw D → D → Response → D → Type 0
TellsNumbers waits old answer new = (outcome : Result ServerNumbers Refusal) × waits old (SaysNumbers outcome) new × (answer ≡ status_response outcome)
