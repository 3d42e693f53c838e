-- What was finished before is finished still, and so is one more.
use Rattle.std.proofs.Common.{◌≡◌, Some, slice_get, sym, subst, ◌∙◌}
use Rattle.std.proofs.Math.ListN.{set}
use Rattle.std.proofs.lemmas.Bool.{false≢true}
use Rattle.build_carry.specs.Finished.{Table, AreFinishedBelow}
use Rattle.build_carry.proofs.FinishedUnits.{finished_here, finished_still}
use Rattle.build_carry.proofs.finished.Finished.with_unit.Goals as goal

pub front_from-front-requires : goal.front_from-front-requires
front_from-front-requires c =
    let n = c.args.number in
    let u = c.args.unit in
    let front = c.self.inside.front in
    let is : c.in_ok-units.units ≡ c.args.self.now = c.in_ok-units.ensures ∙ c.deref.ensures ∙ c.self.view_is in
    let held : AreFinishedBelow c.args.self.now front = subst (λ (t : Table). AreFinishedBelow t front) c.self.view_is c.self.invariant.0 in
    subst (λ (t : Table). AreFinishedBelow t front) (sym c.in_ok-set.ensures.ok)
    (subst (λ (t : Table). AreFinishedBelow (set t n (Some u)) front) (sym is)
    (finished_still c.args.self.now n front u c.requires held))

pub shared-requires-clause-empty : goal.shared-requires-clause-empty
shared-requires-clause-empty c =
    let n = c.args.number in
    let u = c.args.unit in
    let is : c.in_ok-units.units ≡ c.args.self.now = c.in_ok-units.ensures ∙ c.deref.ensures ∙ c.self.view_is in
    let there = subst (λ (t : Table). slice_get t n ≡ Some (Some u)) (sym c.in_ok-set.ensures.ok)
    (subst (λ (t : Table). slice_get (set t n (Some u)) n ≡ Some (Some u)) (sym is) (finished_here c.args.self.now n u c.requires)) in (
      λ t. absurd (false≢true t),
      λ none. absurd (none n u there),
    )
