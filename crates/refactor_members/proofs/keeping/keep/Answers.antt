-- The answers to the goals of `keeping::keep`.
use Rattle.std.proofs.Common.{inl, inr, refl, sym, ◌∙◌}
use Rattle.std.proofs.lemmas.Bool.{false≢true}
use Rattle.refactor_conflict.proofs.Firsts.{itself}
use Rattle.refactor_members.proofs.keeping.keep.Goals as goal

pub returns-then-not-is_before-clause-takes : goal.returns-then-not-is_before-clause-takes
returns-then-not-is_before-clause-takes c = inl refl

pub returns-then-not-is_before-clause-behind : goal.returns-then-not-is_before-clause-behind
returns-then-not-is_before-clause-behind c = λ ahead. false≢true (sym c.if-not-is_before.true ∙ c.is_before.ensures.1 ahead)

pub returns-clause-takes : goal.returns-clause-takes
returns-clause-takes c = inr (record { used = c.args.used; by = c.args.by }, (refl, ((refl, refl), c.is_before.ensures.0 c.if-not-is_before.false)))

pub returns-clause-behind : goal.returns-clause-behind
returns-clause-behind c = itself c.args.used
