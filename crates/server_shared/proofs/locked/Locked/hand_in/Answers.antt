-- What a seat hands in together is accounted for.
use Rattle.std.proofs.Common.{List, length, length-append, sym, ap, subst, arith}
use Rattle.server_shared.specs.Past.{IsHandedIn}
use Rattle.server_shared.specs.declared.receipt.Receipt.{Receipt}
use Rattle.server_shared.proofs.GatheredLaws.{both_handed}
use Rattle.server_shared.proofs.locked.Locked.hand_in.Goals as goal

pub invariant_of-self-clause-counted : goal.invariant_of-self-clause-counted
invariant_of-self-clause-counted g c = omega (arith, ap length (c.take_in.ensures.kept c.if-not-take_in.true).0, c.args.self.now.counted)

pub invariant_of-self-clause-known : goal.invariant_of-self-clause-known
invariant_of-self-clause-known g c =
    subst (λ (xs : List Receipt). ∥ IsHandedIn g.L.Opening.accounts xs ∥₁) (sym (c.take_in.ensures.kept c.if-not-take_in.true).0) c.args.self.now.known

pub invariant_of-self-2-clause-counted : goal.invariant_of-self-2-clause-counted
invariant_of-self-2-clause-counted g c =
    let taken = (c.take_in.ensures.taken c.if-not-take_in.false).0 in
    omega (
      arith,
      ap length taken,
      length-append c.args.self.now.handed.items c.args.receipts.now.items,
      c.args.self.now.counted,
      c.sub.ensures.total,
      c.len-held.ensures,
    )

pub invariant_of-self-2-clause-known : goal.invariant_of-self-2-clause-known
invariant_of-self-2-clause-known g c =
    subst (λ (xs : List Receipt). ∥ IsHandedIn g.L.Opening.accounts xs ∥₁) (sym (c.take_in.ensures.taken c.if-not-take_in.false).0)
    (both_handed g.L.Opening.accounts c.args.self.now.handed.items c.args.receipts.now.items c.args.self.now.known c.requires.known)
