-- The answers to the goals of `coupling::Reached::reach_if_coupled`.
use Rattle.std.proofs.Common.{arith, inr, refl, sym, ◌∙◌}
use Rattle.std.proofs.lemmas.Bool.{false≢true}
use Rattle.std.proofs.lemmas.Result.{on_ok_weaker}
use Rattle.refactor_coupled.specs.Reached.{AreCoupledAt}
use Rattle.refactor_coupled.proofs.ReachedMore.{reached_next, reached_same}
use Rattle.refactor_coupled.proofs.coupling.Reached.reach_if_coupled.Goals as goal

pub is_reached-requires : goal.is_reached-requires
is_reached-requires c = omega (arith, c.requires.order.size, c.requires.within)

pub returns-then-is_reached : goal.returns-then-is_reached
returns-then-is_reached c =
    let r = c.args.self.now in
    record { more = reached_same (AreCoupledAt c.args.types.now r c.args.index) r; all = λ k. c.is_reached.ensures.0 c.if-is_reached.true }

pub returns-then-not-are_coupled_at : goal.returns-then-not-are_coupled_at
returns-then-not-are_coupled_at c =
    let r = c.args.self.now in
    record {
      more = reached_same (AreCoupledAt c.args.types.now r c.args.index) r;
      all = λ k. absurd (false≢true (sym c.if-not-are_coupled_at.true ∙ c.are_coupled_at.ensures.1 k));
    }

pub reach-requires : goal.reach-requires
reach-requires c = omega (arith, c.requires.order.size, c.requires.within)

pub returns : goal.returns
returns c =
    let r = c.args.self.now in
    on_ok_weaker c.reach.result (λ one. record {
      more =
          reached_next (AreCoupledAt c.args.types.now r c.args.index) c.args.other r c.reach.new.self one
          (λ m. false≢true (sym c.if-is_reached.false ∙ c.is_reached.ensures.1 m)) c.requires.within
          (c.are_coupled_at.ensures.0 c.if-not-are_coupled_at.false);
      all = λ k. (one.each c.args.other).1 (inr refl);
    }) c.reach.ensures
