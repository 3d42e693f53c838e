-- What declarations have become by two revisions, one after the other.
use Rattle.std.proofs.Common.{◌≡◌, sym, subst}
use Rattle.base_files.specs.Workspace.{Workspace}
use Rattle.base_files.specs.declared.place.Place.{Place}
use Rattle.base_edits.specs.Revisions.{Revision}
use Rattle.workspace_check.specs.Verdicts.{Verdicts}
use Rattle.refs_binding.specs.declared.declaration.Declaration.{Declaration}
use Rattle.refs_binding.specs.DeclaringPlaces.{IsDeclaredAt}
use Rattle.refs_binding.specs.Uses.{IsCheckedPackage}
use Rattle.refactor_conflict.specs.Corresponding.{Corresponds, predeclared, stands}
use Rattle.refs_places.proofs.Declared.{one_place}
use Rattle.law_renumbered.specs.TwoRevisions.{AreInTurn}

module _ (w : Workspace) (before between after : Verdicts) (one two r : Revision) (turn : AreInTurn one two r) where
  abbrev pub First : Declaration → Declaration → Type 0
  First d e = Corresponds (IsCheckedPackage w before) (IsCheckedPackage one.after between) one.moved d e

  abbrev pub Second : Declaration → Declaration → Type 0
  Second d e = Corresponds (IsCheckedPackage one.after between) (IsCheckedPackage two.after after) two.moved d e

  abbrev pub Both : Declaration → Declaration → Type 0
  Both d e = Corresponds (IsCheckedPackage w before) (IsCheckedPackage r.after after) r.moved d e

  -- a declaration of the last workspace, by both ways
  to_last : (e : Declaration) (place : Place) → IsDeclaredAt (IsCheckedPackage two.after after) e (two.moved (one.moved place)) →
      IsDeclaredAt (IsCheckedPackage r.after after) e (r.moved place)
  to_last e place h =
      subst (λ x. IsDeclaredAt (IsCheckedPackage x after) e (r.moved place)) (sym turn.after)
      (subst (IsDeclaredAt (IsCheckedPackage two.after after) e) (sym (turn.moved place)) h)

  from_last : (e : Declaration) (place : Place) → IsDeclaredAt (IsCheckedPackage r.after after) e (r.moved place) →
      IsDeclaredAt (IsCheckedPackage two.after after) e (two.moved (one.moved place))
  from_last e place h =
      subst (λ x. IsDeclaredAt (IsCheckedPackage x after) e (two.moved (one.moved place))) turn.after
      (subst (IsDeclaredAt (IsCheckedPackage r.after after) e) (turn.moved place) h)

  pub composed : (d c e : Declaration) → First d c → Second c e → Both d e
  composed d c e (predeclared {n = n}) (predeclared) = predeclared
  composed d c e (predeclared {n = n}) (stands place h k) = absurd h
  composed d c e (stands place h k) (predeclared {n = n}) = absurd k
  composed d c e (stands place h k) (stands other i j) =
      let same : other ≡ one.moved place = one_place one.after between c other (one.moved place) i k in
      stands place h (to_last e place (subst (λ p. IsDeclaredAt (IsCheckedPackage two.after after) e (two.moved p)) same j))

  pub second : (d c e : Declaration) → First d c → Both d e → Second c e
  second d c e (predeclared {n = n}) (predeclared) = predeclared
  second d c e (predeclared {n = n}) (stands place h k) = absurd h
  second d c e (stands place h k) (predeclared {n = n}) = absurd h
  second d c e (stands place h k) (stands other i j) =
      let same : other ≡ place = one_place w before d other place i h in
      stands (one.moved place) k (from_last e place (subst (λ p. IsDeclaredAt (IsCheckedPackage r.after after) e (r.moved p)) same j))
