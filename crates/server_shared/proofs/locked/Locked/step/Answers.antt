-- There is memory for the receipt, or the event is turned away for want of it.
use mathlib.Core.Logic.{∥∥₁_map}
use Rattle.std.proofs.Common.{◌≡◌, ℕ, MatchOption, inl, subst}
use Rattle.server_shared.specs.Past.{HasPast}
use Rattle.server_shared.specs.Waking.{CountsNews}
use Rattle.server_shared.proofs.PastLaws.{past_reached}
use Rattle.server_shared.proofs.RoomLaws.{brings_none, lacks_memory}
use Rattle.server_shared.proofs.locked.Locked.step.Goals as goal

pub returns-in-Ok-clause-step : goal.returns-in-Ok-clause-step
returns-in-Ok-clause-step g c =
    rw (c.make_room.ensures.records, c.make_room.ensures.book) at c.make_step.ensures.step

pub returns-in-Ok-clause-news : goal.returns-in-Ok-clause-news
returns-in-Ok-clause-news g c =
    subst (λ (n : ℕ). MatchOption c.make_step.result.1 (c.make_step.new.self.news ≡ n)
    (λ receipt. CountsNews receipt.entry.line n c.make_step.new.self.news)) c.make_room.ensures.news c.make_step.ensures.news

pub returns-in-Err-clause-step : goal.returns-in-Err-clause-step
returns-in-Err-clause-step g c =
    let old = c.args.self.now.book in
    let event = g.Q.Question.event c.args.question in
    let away = lacks_memory old event (brings_none event c.kind.result c.kind.ensures c.in-Err.ensures.why) in inl (
      ∥∥₁_map c.args.self.now.past (λ (p : HasPast g.L.Opening.accounts g.L.Opening.begun g.L.Opening.from c.args.self.now.from old).
          past_reached g.L.Opening.accounts g.L.Opening.begun g.L.Opening.from c.args.self.now.from old p),
      rw (c.turn_away.ensures.turned, c.make_room.ensures.book) away,
    )
