-- The answers to the goals of `judged_names::lose`.
use Rattle.std.proofs.Common.{◌≡◌, sym, subst}
use Rattle.std.specs.Prelude.{None}
use Rattle.base_files.specs.declared.place.Place.{Place}
use Rattle.refactor_conflict.specs.Conflicts.{IsConflictBy, IsPlaceBefore}
use Rattle.refactor_conflict.specs.declared.conflict.Conflict.{Conflict}
use Rattle.refactor_conflict.proofs.KeepingFirst.{takes_as, takes_none}
use Rattle.refs_places.specs.DeclaredPlaces.{IsChoice}
use Rattle.refactor_members.specs.Judging.{IsNamedAt}
use Rattle.refactor_members.proofs.Homes.{named_once}
use Rattle.refactor_members.proofs.judged_names.lose.Goals as goal

pub returns-in-None-clause-takes : goal.returns-in-None-clause-takes
returns-in-None-clause-takes c = λ p is home. takes_none (λ (x : Conflict). IsNamedAt p c.args.member.now x.used × (x.by ≡ None)) c.args.first.now

pub returns-in-None-clause-behind : goal.returns-in-None-clause-behind
returns-in-None-clause-behind c = λ p is home place ahead at.
    subst (IsChoice (IsNamedAt p c.args.member.now)) c.in-None.is (c.in_ok-name_place.ensures p is home) place at

pub returns-in-Some-clause-takes : goal.returns-in-Some-clause-takes
returns-in-Some-clause-takes c = λ p is home.
    let d = c.args.member.now in
    let place = c.in-Some.place in
    let named : IsNamedAt p d place = subst (IsChoice (IsNamedAt p d)) c.in-Some.is (c.in_ok-name_place.ensures p is home) in
    takes_as (IsConflictBy place None) (λ (x : Conflict). IsNamedAt p d x.used × (x.by ≡ None)) c.args.first.now c.keep.new.first
    (λ x h. (subst (λ (y : Place). IsNamedAt p d y) (sym h.0) named, h.1)) c.keep.ensures.takes

pub returns-in-Some-clause-behind : goal.returns-in-Some-clause-behind
returns-in-Some-clause-behind c = λ p is home other ahead at.
    let d = c.args.member.now in
    let place = c.in-Some.place in
    let named : IsNamedAt p d place = subst (IsChoice (IsNamedAt p d)) c.in-Some.is (c.in_ok-name_place.ensures p is home) in
    c.keep.ensures.behind (subst (IsPlaceBefore c.keep.new.first) (named_once p d other place at named) ahead)
