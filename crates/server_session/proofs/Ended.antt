-- The early end of a session in memory.
use Rattle.std.proofs.Common.{◌≡◌, ℕ, List, [], Option, None, Some, Result, Err, subst}
use Rattle.base_files.specs.declared.limits.Limits.{Limits}
use Rattle.history_machine.specs.declared.event.Event.{Event}
use Rattle.history_machine.specs.declared.event.Reply.{Reply}
use Rattle.server_commands.specs.Wait.{WaitLaw}
use Rattle.server_session.specs.declared.exchange.SessionFault.{SessionFault}
use Rattle.server_session.specs.declared.exchange.SessionFault.TheVariants.{Memory, Read, Write, Turns}
use Rattle.server_session.specs.Conversing.{Converses}
use Rattle.server_session.specs.Transcript.{SessionEnds, EndsEarly}

none_is_no_list : (P : Type 0) (xs : List ℕ) → None ≡ Some xs → P
none_is_no_list P xs e = cc

module _ {D : Type 0} (steps : D → Event → Reply → D → Type 0) (waits : WaitLaw D) (limits : Limits) (input : List ℕ) (old new : D) where
  -- a reader that tells its bytes goes on to tell them, and so does a writer
  early : (after holds : Option (List ℕ)) (fault : SessionFault) → SessionEnds steps waits limits (Some input) after (Some []) holds old new (Err fault)
      → EndsEarly steps waits limits input old new fault
  early (Some rest) (Some text) fault h = (rest, text, h)
  early None holds Memory h = absurd h.0
  early None holds Read h = none_is_no_list (EndsEarly steps waits limits input old new Read) h.1 h.4
  early None holds Turns h = none_is_no_list (EndsEarly steps waits limits input old new Turns) h.1 h.4
  early None holds Write h = none_is_no_list (EndsEarly steps waits limits input old new Write) h.0 h.3
  early (Some rest) None Memory h = absurd h.2
  early (Some rest) None Read h = absurd h.5
  early (Some rest) None Turns h = absurd h.5
  early (Some rest) None Write h = absurd h.4

  pub ended_early : (held text : List ℕ) (result : Result (Unit {0}) SessionFault) (fault : SessionFault) → held ≡ [] → result ≡ Err fault
      → Converses steps waits limits (Some input) (Some held) (Some text) old new result → EndsEarly steps waits limits input old new fault
  ended_early held text result fault e f h =
      let ends : SessionEnds steps waits limits (Some input) h.0 (Some held) (Some text) old new (Err fault) =
      subst (λ (r : Result (Unit {0}) SessionFault). SessionEnds steps waits limits (Some input) h.0 (Some held) (Some text) old new r) f h.1 in
      early h.0 (Some text) fault (subst (λ (x : List ℕ). SessionEnds steps waits limits (Some input) h.0 (Some x) (Some text) old new (Err fault)) e ends)
