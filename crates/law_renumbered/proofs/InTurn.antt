-- Two revisions, one after the other, preserve bindings.
use Rattle.std.proofs.Common.{inl, inr, [], sym, subst}
use Rattle.base_files.specs.Workspace.{Workspace}
use Rattle.base_files.specs.declared.place.Place.{Place}
use Rattle.base_edits.specs.Revisions.{Revision}
use Rattle.workspace_check.specs.FaultLists.{ListsFaults}
use Rattle.workspace_check.specs.Verdicts.{Verdicts, AreVerdicts}
use Rattle.refs_binding.specs.declared.declaration.Declaration.{Declaration}
use Rattle.refs_binding.specs.Uses.{IsUseOf}
use Rattle.refs_places.specs.Identified.{IsIdentifierAt}
use Rattle.refactor_preserve.specs.Preserved.{KeepsBindings}
use Rattle.refactor_preserve.proofs.Deciding.{same_kept}
use Rattle.law_renumbered.specs.TwoRevisions.{AreInTurn, KeepsAdded, KeepsAt, MovesIdentifiers}
use Rattle.law_renumbered.specs.TwoRevisions.{RevisionsInTurnPreserve, SecondRevisionsPreserve}
use Rattle.law_renumbered.proofs.Corresponding.{composed, second}

-- an identifier that is bound
identified : (w : Workspace) (known : Verdicts) (d : Declaration) (place : Place) → IsUseOf w known d place → IsIdentifierAt w known place
identified w known d place h = record { used_in = h.used_in; is_package = h.is_package; user = h.user; begins = h.begins }

module _ (w : Workspace) (before between after : Verdicts) (one two r : Revision) (turn : AreInTurn one two r) (kept : KeepsBindings w before one between)
    (identifiers : MovesIdentifiers w before one between) where
  abbrev Last : Declaration → Place → Type 0
  Last e place = IsUseOf two.after after e (two.moved (one.moved place))

  to_last : (e : Declaration) (place : Place) → Last e place → IsUseOf r.after after e (r.moved place)
  to_last e place h =
      subst (λ x. IsUseOf x after e (r.moved place)) (sym turn.after) (subst (IsUseOf two.after after e) (sym (turn.moved place)) h)

  from_last : (e : Declaration) (place : Place) → IsUseOf r.after after e (r.moved place) → Last e place
  from_last e place h =
      subst (λ x. IsUseOf x after e (two.moved (one.moved place))) turn.after (subst (IsUseOf r.after after e) (turn.moved place) h)

  pub both_keep : KeepsBindings one.after between two after → KeepsBindings w before r after
  both_keep then = record {
    keeps = λ place d is.
        let first = kept.keeps place d is in
        let last = then.keeps (one.moved place) first.declaration first.is_use in
        record {
          declaration = last.declaration;
          is_use = to_last last.declaration place last.is_use;
          holds = composed w before between after one two r turn d first.declaration last.declaration first.holds last.holds;
        };
    adds_none = λ place e here is.
        let last = then.adds_none (one.moved place) e (identifiers place here) (from_last e place is) in
        let first = kept.adds_none place last.declaration here last.is_use in
        record {
          declaration = first.declaration;
          is_use = first.is_use;
          holds = composed w before between after one two r turn first.declaration last.declaration e first.holds last.holds;
        };
  }

  -- at a moved place

  moved_at : KeepsBindings w before r after → (place : Place) → IsIdentifierAt w before place → KeepsAt one.after between two after (one.moved place)
  moved_at whole place here = record {
    keeps = λ c is.
        let first = kept.adds_none place c here is in
        let last = whole.keeps place first.declaration first.is_use in
        record {
          declaration = last.declaration;
          is_use = from_last last.declaration place last.is_use;
          holds = second w before between after one two r turn first.declaration c last.declaration first.holds last.holds;
        };
    adds_none = λ e is.
        let last = whole.adds_none place e here (to_last e place is) in
        let first = kept.keeps place last.declaration last.is_use in
        record {
          declaration = first.declaration;
          is_use = first.is_use;
          holds = second w before between after one two r turn last.declaration first.declaration e first.holds last.holds;
        };
  }

  module _ (whole : KeepsBindings w before r after) (added : KeepsAdded w before one between two after) where
    each_at : (place : Place) → IsIdentifierAt one.after between place → KeepsAt one.after between two after place
    each_at place here = elim (added place here) [
      | inl from ↦ subst (KeepsAt one.after between two after) from.goes (moved_at whole from.old from.is_identifier)
      | inr own ↦ own
    ]

    pub second_keeps : KeepsBindings one.after between two after
    second_keeps = record {
      keeps = λ place d is. (each_at place (identified one.after between d place is)).keeps d is;
      adds_none = λ place e here is. (each_at place here).adds_none e is;
    }

pub revisions_in_turn_preserve : RevisionsInTurnPreserve
revisions_in_turn_preserve w before between one two r turn step p = record {
  before = before;
  right = step.right;
  after = p.after;
  right_after = subst (λ x. AreVerdicts x p.after) (sym turn.after) p.right_after;
  sound = subst (λ x. ListsFaults x []) (sym turn.after) p.sound;
  kept = both_keep w before between p.after one two r turn step.kept step.identifiers
      (same_kept one.after two p.before between p.after p.after p.right step.right_between p.right_after p.right_after p.kept);
}

pub second_revisions_preserve : SecondRevisionsPreserve
second_revisions_preserve w before between one two r turn step p added = record {
  before = between;
  right = step.right_between;
  after = p.after;
  right_after = subst (λ x. AreVerdicts x p.after) turn.after p.right_after;
  sound = subst (λ x. ListsFaults x []) turn.after p.sound;
  kept = second_keeps w before between p.after one two r turn step.kept step.identifiers
      (same_kept w r p.before before p.after p.after p.right step.right p.right_after p.right_after p.kept) added;
}
