-- The answers to the goals of `underlying::note_step`.
use Rattle.std.proofs.Common.{ℕ, ◌≡◌, ap, sym, ◌∙◌}
use Rattle.std.proofs.lemmas.Result.{on_ok_weaker}
use Rattle.types_members.specs.declared.underlying.NameStep.{NameStep}
use Rattle.types_members.specs.declared.underlying.NameStep.TheVariants.{Continues}
use Rattle.types_declared.proofs.Mentioning.{adds_as}
use Rattle.types_members.proofs.underlying.note_step.Goals as goal

same_target : (s : NameStep) (to a : ℕ) → s ≡ Continues to → s ≡ Continues a → a ≡ to
same_target s to a e h = let k : Continues a ≡ Continues to = sym h ∙ e in cc

pub returns-in-Continues : goal.returns-in-Continues
returns-in-Continues c =
    on_ok_weaker c.note.result
    (λ h. adds_as c.args.links.now.items c.note.new.links.items c.args.rank (λ a. a ≡ c.in-Continues.to) (λ a. c.args.step.now ≡ Continues a)
    (λ a e. c.in-Continues.is ∙ ap Continues (sym e))
    (λ a e. same_target c.args.step.now c.in-Continues.to a c.in-Continues.is e) h) c.note.ensures
