-- The answers to the goals of `ranks::note_free`.
use Rattle.std.proofs.Common.{◌∙◌, ap, refl, sym}
use Rattle.go_scope.specs.ByToken.{row_number}
use Rattle.types_declared.specs.RanksView.{free, taken}
use Rattle.types_declared.proofs.ranks.note_free.Goals as goal

pub returns-in-Some : goal.returns-in-Some
returns-in-Some c =
    taken {r = c.in-Some.field-0} (ap (λ z. row_number z c.args.u) (sym c.deref.ensures.value) ∙ sym c.rank_at.ensures ∙ c.in-Some.is) refl

pub returns-in-None : goal.returns-in-None
returns-in-None c = free (ap (λ z. row_number z c.args.u) (sym c.deref.ensures.value) ∙ sym c.rank_at.ensures ∙ c.in-None.is) refl
