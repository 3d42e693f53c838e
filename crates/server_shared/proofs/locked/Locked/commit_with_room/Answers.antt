-- There is memory for the receipt, or the commit is turned away for want of it.
use mathlib.Core.Logic.{∥∥₁_map}
use Rattle.std.proofs.Common.{◌≡◌, inl, sym, subst}
use Rattle.history_machine.specs.Machine.{Machine}
use Rattle.history_machine.specs.declared.event.Event.TheVariants.{Commit}
use Rattle.server_shared.specs.Past.{HasPast}
use Rattle.server_shared.proofs.PastLaws.{past_reached}
use Rattle.server_shared.proofs.RoomLaws.{lacks_memory}
use Rattle.server_shared.proofs.locked.Locked.commit_with_room.Goals as goal

pub commit_on_current-requires-clause-base : goal.commit_on_current-requires-clause-base
commit_on_current-requires-clause-base g c =
    subst (λ (m : Machine). c.args.change.base ≡ m.current.files) (sym c.make_room.ensures.book) c.requires.base

pub returns-in-Ok-clause-step : goal.returns-in-Ok-clause-step
returns-in-Ok-clause-step g c =
    rw (c.make_room.ensures.records, c.make_room.ensures.book) at c.commit_on_current.ensures.step

pub returns-in-Err-clause-step : goal.returns-in-Err-clause-step
returns-in-Err-clause-step g c =
    let old = c.args.self.now.book in
    let event = Commit c.args.basis c.args.change in
    let away = lacks_memory old event (λ brings. brings) in inl (
      ∥∥₁_map c.args.self.now.past (λ (p : HasPast g.L.Opening.accounts g.L.Opening.begun g.L.Opening.from c.args.self.now.from old).
          past_reached g.L.Opening.accounts g.L.Opening.begun g.L.Opening.from c.args.self.now.from old p),
      rw (c.turn_away.ensures.turned, c.make_room.ensures.book) away,
    )
