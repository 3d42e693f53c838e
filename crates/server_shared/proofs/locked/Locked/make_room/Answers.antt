-- Room that is asked for changes no receipt, and fails for no event that hands a Job in.
use Rattle.std.proofs.Common.{List, length, ◌∙◌, ap, arith, sym, subst}
use Rattle.std.proofs.lemmas.Bool.{false≢true}
use Rattle.server_shared.specs.Past.{IsHandedIn}
use Rattle.server_shared.specs.declared.receipt.Receipt.{Receipt}
use Rattle.server_journal.proofs.KeptLaws.{if_err}
use Rattle.server_shared.proofs.locked.Locked.make_room.Goals as goal

pub returns-clause-why : goal.returns-clause-why
returns-clause-why g c = if_err c.reserve.result (λ hands. false≢true (sym c.if-is_handing_in.false ∙ c.is_handing_in.ensures.1 hands))

pub invariant_of-self-clause-counted : goal.invariant_of-self-clause-counted
invariant_of-self-clause-counted g c = omega (arith, ap length c.reserve.ensures.items, c.args.self.now.counted)

pub invariant_of-self-clause-known : goal.invariant_of-self-clause-known
invariant_of-self-clause-known g c =
    subst (λ (xs : List Receipt). ∥ IsHandedIn g.L.Opening.accounts xs ∥₁) (sym c.reserve.ensures.items) c.args.self.now.known
