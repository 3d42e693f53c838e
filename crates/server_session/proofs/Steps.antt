-- Steps of a session, one after another.
use Rattle.std.proofs.Common.{◌≡◌, ℕ, List, [], ◌++◌, Option, None, Some, Result, Ok, Err, Bool, true, false, refl}
use Rattle.std.proofs.KnownBytes.{Appends-trans, Appends-nil}
use Rattle.base_files.specs.declared.limits.Limits.{Limits}
use Rattle.history_machine.specs.declared.event.Event.{Event}
use Rattle.history_machine.specs.declared.event.Reply.{Reply}
use Rattle.server_commands.specs.Wait.{WaitLaw}
use Rattle.server_session.specs.declared.exchange.SessionFault.{SessionFault}
use Rattle.server_session.specs.declared.exchange.SessionFault.TheVariants.{Memory, Read, Write, Turns}
use Rattle.server_session.specs.Transcript.{SessionEnds, StepEnds}
use Rattle.server_session.proofs.Exchanges.{Exchange-none, Exchange-append, CutsOff-after}

module _ {D : Type 0} (steps : D → Event → Reply → D → Type 0) (waits : WaitLaw D) (limits : Limits) where
  -- before any step
  pub StepEnds-none : (before held : Option (List ℕ)) (old : D) → StepEnds steps waits limits before before held held old old (Ok true)
  StepEnds-none None held old = tt
  StepEnds-none (Some input) held old = (input, [], Exchange-none steps waits limits input old, refl, Appends-nil held)

  -- a step that goes on, and then another step
  pub StepEnds-append : (a b c x y z : Option (List ℕ)) (old now new : D) (r : Result Bool SessionFault)
      → StepEnds steps waits limits a b x y old now (Ok true) → StepEnds steps waits limits b c y z now new r
      → StepEnds steps waits limits a c x z old new r
  StepEnds-append None b c x y z old now new (Ok true) p q = tt
  StepEnds-append None b c x y z old now new (Ok false) p q = tt
  StepEnds-append None b c x y z old now new (Err Read) p q = tt
  StepEnds-append None b c x y z old now new (Err Write) p q = tt
  StepEnds-append None b c x y z old now new (Err Turns) p q = tt
  StepEnds-append a b c x y z old now new (Err Memory) p q = absurd q
  StepEnds-append (Some input) b c x y z old now new (Ok true) p q =
      let q' = rw p.3 at q in
      (q'.0, p.1 ++ q'.1, Exchange-append steps waits limits input p.0 q'.0 old now new p.1 q'.1 p.2 q'.2, q'.3, Appends-trans x y z p.1 q'.1 p.4 q'.4)
  StepEnds-append (Some input) b c x y z old now new (Ok false) p q =
      let q' = rw p.3 at q in (
        q'.0,
        q'.1,
        p.1 ++ q'.2,
        Exchange-append steps waits limits input p.0 q'.0 old now new p.1 q'.2 p.2 q'.3,
        q'.4,
        q'.5,
        Appends-trans x y z p.1 q'.2 p.4 q'.6,
      )
  StepEnds-append (Some input) b c x y z old now new (Err Read) p q =
      let q' = rw p.3 at q in (
        q'.0,
        q'.1,
        p.1 ++ q'.2,
        Exchange-append steps waits limits input p.0 (q'.0 ++ q'.1) old now new p.1 q'.2 p.2 q'.3,
        q'.4,
        Appends-trans x y z p.1 q'.2 p.4 q'.5,
        q'.6,
      )
  StepEnds-append (Some input) b c x y z old now new (Err Turns) p q =
      let q' = rw p.3 at q in (
        q'.0,
        q'.1,
        p.1 ++ q'.2,
        Exchange-append steps waits limits input p.0 (q'.0 ++ q'.1) old now new p.1 q'.2 p.2 q'.3,
        q'.4,
        Appends-trans x y z p.1 q'.2 p.4 q'.5,
        q'.6,
      )
  StepEnds-append (Some input) b c x y z old now new (Err Write) p q =
      let q' = rw p.3 at q in
      (q'.0, p.1 ++ q'.1, CutsOff-after steps waits limits input p.0 q'.0 old now new p.1 q'.1 p.2 q'.2, q'.3, Appends-trans x y z p.1 q'.1 p.4 q'.4)

  -- a fault of a step is a fault of the session
  pub SessionEnds-from_step : (a c x z : Option (List ℕ)) (old new : D) (fault : SessionFault) (r : Result (Unit {0}) SessionFault)
      → StepEnds steps waits limits a c x z old new (Err fault) → r ≡ Err fault → SessionEnds steps waits limits a c x z old new r
  SessionEnds-from_step a c x z old new Memory r p e = absurd p
  SessionEnds-from_step a c x z old new Read r p e = rw e p
  SessionEnds-from_step a c x z old new Write r p e = rw e p
  SessionEnds-from_step a c x z old new Turns r p e = rw e p
