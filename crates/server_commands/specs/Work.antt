-- The command `work`: takes a Job, builds its package, and delivers what was built.
use Rattle.std.specs.Prelude.{◌≡◌, ◌⊎◌, ℕ, List}
use Rattle.base_files.specs.declared.refusal.Refusal.TheVariants.{Memory}
use Rattle.build_unit.specs.Builds.{IsBuiltOf}
use Rattle.build_unit.specs.declared.built.Built.{Built}
use Rattle.build_unit.specs.declared.job.JobRecord.{JobRecord}
use Rattle.history_machine.specs.declared.event.Event.{Event}
use Rattle.history_machine.specs.declared.event.Event.TheVariants.{Take, Deliver, GiveBack}
use Rattle.history_machine.specs.declared.event.Reply.{Reply}
use Rattle.history_machine.specs.declared.event.Reply.TheVariants.{Done, Taken, Refused, Back}
use Rattle.server_commands.specs.declared.response.Response.{Response}
use Rattle.server_commands.specs.declared.response.Response.TheVariants as response

module _ {D : Type 0} (steps : D → Event → Reply → D → Type 0) where
  -- the Job is given back, whatever the reply
  abbrev pub GivesBack : D → JobRecord → D → Type 0
  GivesBack old job new = (reply : Reply) × steps old (GiveBack job) reply new

  -- the answer after this reply to a delivery; a Job that comes back is given back
  abbrev pub AfterDelivery : D → List ℕ → Reply → Response → D → Type 0
  AfterDelivery old path (Done number) answer new = (answer ≡ response.Built number path) × (new ≡ old)
  AfterDelivery old path (Refused refusal) answer new = (answer ≡ response.Refused refusal) × (new ≡ old)
  AfterDelivery old path (Back refusal job unit) answer new = (answer ≡ response.Refused refusal) × GivesBack old job new
  AfterDelivery old path reply answer new = ⊥

  -- what was built is delivered, and the reply answered
  abbrev pub Delivers : D → JobRecord → Built → Response → D → Type 0
  Delivers old job built answer new =
      (reply : Reply) × (mid : D) × steps old (Deliver job built) reply mid × AfterDelivery mid job.package reply answer new

  -- the package is built and delivered; or memory is wanting, and the Job is given back
  abbrev pub Builds : D → JobRecord → Response → D → Type 0
  Builds old job answer new =
      ((built : Built) × IsBuiltOf job built × Delivers old job built answer new)
      ⊎ ((answer ≡ response.Refused Memory) × GivesBack old job new)

  -- the answer after this reply to a Take: a Job is built, a refusal answered
  abbrev pub AfterTake : D → Reply → Response → D → Type 0
  AfterTake old (Taken job) answer new = Builds old job answer new
  AfterTake old (Refused refusal) answer new = (answer ≡ response.Refused refusal) × (new ≡ old)
  AfterTake old reply answer new = ⊥

  -- a Job is taken, and what comes after it
  abbrev pub Works : D → Response → D → Type 0
  Works old answer new = (reply : Reply) × (mid : D) × steps old Take reply mid × AfterTake mid reply answer new
