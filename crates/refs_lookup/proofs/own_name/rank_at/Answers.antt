-- The answers to the goals of `own_name::rank_at`.
use Rattle.std.proofs.Common.{◌≡◌, ◌≤◌, ◌∙◌, inl, inr, length, ap, sym, arith}
use Rattle.std.specs.Prelude.{None, slice_index_or}
use Rattle.std.proofs.lemmas.Bool.{cases_lt, false≢true}
use Rattle.std.proofs.lemmas.List.{get_or_past}
use Rattle.std.proofs.lemmas.Option.{none-some}
use Rattle.refs_lookup.proofs.own_name.rank_at.Goals as goal

pub loop-rank-preserved : goal.loop-rank-preserved
loop-rank-preserved c = λ r lt e. elim (cases_lt r c.loop-rank.rank) [
  | inl below ↦ c.loop-rank.invariant r below e
  | inr ge ↦ (
      let same : r ≡ c.loop-rank.rank = omega arith in
      false≢true (sym c.if-is_place.false ∙ c.is_place.ensures.1 (c.place_of.ensures ∙ ap (λ n. slice_index_or c.args.places.now n None) (sym same) ∙ e)))
]

pub returns-then-is_place : goal.returns-then-is_place
returns-then-is_place c = sym c.place_of.ensures ∙ c.is_place.ensures.0 c.if-is_place.true

pub returns : goal.returns
returns c = λ r e. elim (cases_lt r c.loop-rank.rank) [
  | inl below ↦ c.loop-rank.invariant r below e
  | inr ge ↦ (let past : length c.args.places.now ≤ r = omega arith in absurd (none-some c.args.at (sym (get_or_past c.args.places.now r None past) ∙ e)))
]
