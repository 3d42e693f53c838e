-- The answers to the goals of `interfaces_turned::keep_first`.
use Rattle.std.proofs.Common.{◌∙◌, sym}
use Rattle.std.proofs.lemmas.Bool.{false≢true}
use Rattle.refactor_coupled.proofs.FirstKept.{earlier_kept, later_kept}
use Rattle.refactor_coupled.proofs.interfaces_turned.keep_first.Goals as goal

pub returns-then-not-is_earlier : goal.returns-then-not-is_earlier
returns-then-not-is_earlier c = later_kept c.args.place c.args.first.now (λ before. false≢true (sym c.if-not-is_earlier.true ∙ c.is_earlier.ensures.1 before))

pub returns : goal.returns
returns c = earlier_kept c.args.place c.args.first.now (c.is_earlier.ensures.0 c.if-not-is_earlier.false)
