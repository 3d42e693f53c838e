-- One seat more was gathered.
use Rattle.std.proofs.Common.{◌≡◌, List, [], Some, ◌∙◌, arith}
use Rattle.std.proofs.lemmas.List.Elements.{All-pop}
use Rattle.server_shared.specs.declared.receipt.Receipt.{Receipt}
use Rattle.server_shared.proofs.GatheredLaws.{count_popped}
use Rattle.server_shared.proofs.comparing.gathered.Goals as goal

pub gather-requires-clause-known : goal.gather-requires-clause-known
gather-requires-clause-known g c =
    (All-pop (λ (seat : List Receipt). ∥ g.L.Opening.accounts seat ∥₁) c.loop-seat.seats.items c.pop.new.self.items (Some c.in-Some.seat)
    c.in-Some.ensures.items c.loop-seat.invariant.known).1

pub loop-seat-preserved : goal.loop-seat-preserved
loop-seat-preserved g c =
    let i = c.loop-seat.invariant in
    let count = count_popped c.loop-seat.seats.items c.pop.new.self.items c.in-Some.seat c.in-Some.ensures.items in
    record {
      known = (All-pop (λ (seat : List Receipt). ∥ g.L.Opening.accounts seat ∥₁) c.loop-seat.seats.items c.pop.new.self.items (Some c.in-Some.seat)
          c.in-Some.ensures.items i.known).0;
      handed = c.gather.ensures.handed;
      parts = omega (arith, i.parts, c.gather.ensures.parts, c.in-Some.ensures.cases);
      amount = omega (arith, i.amount, c.gather.ensures.amount, count);
      apart = c.gather.ensures.apart;
      bound = omega (arith, i.bound, c.gather.ensures.bound, count);
      whole = λ none.
          let w = i.whole none in
          let p = All-pop (λ (seat : List Receipt). seat ≡ []) c.loop-seat.seats.items c.pop.new.self.items (Some c.in-Some.seat)
          c.in-Some.ensures.items w.0 in
          (p.0, c.gather.ensures.whole p.1 ∙ w.1);
    }
