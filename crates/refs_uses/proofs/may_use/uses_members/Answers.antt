-- The answers to the goals of `may_use::uses_members`.
use Rattle.std.proofs.Common.{refl, ap, ◌∙◌, inl, inr, length, below_more, arith}
use Rattle.std.proofs.lemmas.Bool.{cases_lt}
use Rattle.std.proofs.lemmas.Option.{slice_get_past, slice_get_read}
use Rattle.workspace_check.proofs.Members.{vec_empty}
use Rattle.refs_binding.specs.Members.{uses_or_none}
use Rattle.refs_uses.proofs.may_use.uses_members.Goals as goal

pub loop-uses-preserved : goal.loop-uses-preserved
loop-uses-preserved c =
    let members = c.args.members.now in
    let x = c.uses-item.result in
    below_more _ _ c.loop-uses.invariant
    (ap uses_or_none (slice_get_read members (length members) c.loop-uses.uses-index x refl c.loop-uses-test.true c.uses-item.is) ∙
    vec_empty x c.is_empty.result c.is_empty.ensures c.if-not-is_empty.false)

pub returns : goal.returns
returns c = λ e file.
    let members = c.args.members.now in
    elim (cases_lt file (length members)) [
      | inl lt ↦ c.loop-uses.invariant file (omega arith)
      | inr ge ↦ ap uses_or_none (slice_get_past members file ge)
    ]
