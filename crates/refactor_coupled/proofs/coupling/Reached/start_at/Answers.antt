-- The answers to the goals of `coupling::Reached::start_at`.
use Rattle.std.proofs.Common.{sym, ◌∙◌}
use Rattle.std.proofs.lemmas.Bool.{false≢true}
use Rattle.std.proofs.lemmas.Result.{on_ok_weaker}
use Rattle.refactor_coupled.proofs.ReachedMore.{started_not, started_one}
use Rattle.refactor_coupled.proofs.coupling.Reached.start_at.Goals as goal

pub returns-then-not-asks_at : goal.returns-then-not-asks_at
returns-then-not-asks_at c =
    started_not c.args.types.now c.args.symbol.now c.args.index c.args.self.now
    (λ k. false≢true (sym c.if-not-asks_at.true ∙ c.asks_at.ensures.1 k))

pub returns : goal.returns
returns c =
    on_ok_weaker c.reach.result (λ one. started_one c.args.types.now c.args.symbol.now c.args.index c.args.self.now c.reach.new.self
    (c.asks_at.ensures.0 c.if-not-asks_at.false) one) c.reach.ensures
