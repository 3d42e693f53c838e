-- The answers to the goals of `may_use::is_any_spelled`.
use Rattle.std.proofs.Common.{ap, subst, sym, ◌∙◌, inl, inr, length, below_more, refl, arith}
use Rattle.std.specs.Prelude.{Contains}
use Rattle.std.proofs.lemmas.Bool.{cases_lt}
use Rattle.std.proofs.lemmas.Option.{slice_get_past, slice_get_read}
use Rattle.base_lemmas.proofs.Elements.{nothing_in}
use Rattle.refs_binding.specs.Members.{uses_or_none}
use Rattle.refs_uses.proofs.may_use.is_any_spelled.Goals as goal

pub loop-file-preserved : goal.loop-file-preserved
loop-file-preserved c =
    let members = c.args.members.now in
    let v = c.index-members-file.result in
    let at = slice_get_read members (length members) c.loop-file.file v refl (omega arith) c.index-members-file.is in
    below_more _ _ c.loop-file.invariant
    (λ u has spelled. c.is_one_spelled.ensures c.if-is_one_spelled.false u
    (subst (λ l. Contains l u) (ap uses_or_none at ∙ sym c.deref.ensures.value) has) spelled)

pub returns : goal.returns
returns c = λ e file u has spelled.
    let members = c.args.members.now in
    elim (cases_lt file (length members)) [
      | inl lt ↦ c.loop-file.invariant file (omega arith) u has spelled
      | inr ge ↦ nothing_in u (subst (λ l. Contains l u) (ap uses_or_none (slice_get_past members file ge)) has)
    ]
