-- What stands against a plain rename decides whether it preserves bindings and implementing types.
use Rattle.std.proofs.Common.{ℕ, ◌≡◌, Bool, true, false, List, [], ap, refl, sym, subst, ◌∙◌}
use Rattle.std.specs.Prelude.{◌↔◌}
use Rattle.base_edits.specs.EditSet.{FileChanges, edited}
use Rattle.base_edits.specs.Revisions.{Revision}
use Rattle.base_edits.specs.RevisionsOfEdits.{revision_of}
use Rattle.base_files.specs.Workspace.{Workspace}
use Rattle.types_expr.specs.declared.symbol.Symbol.{Symbol}
use Rattle.types_expr.specs.World.{Definition, Implements}
use Rattle.workspace_check.specs.FaultLists.{ListsFaults}
use Rattle.workspace_check.specs.Verdicts.{Verdicts, AreVerdicts}
use Rattle.refs_binding.specs.declared.declaration.Declaration.{Declaration}
use Rattle.refs_binding.specs.Uses.{IsCheckedPackage}
use Rattle.refs_binding.proofs.Alike.{package_for}
use Rattle.refactor_coupled.specs.Coupling.{type_through}
use Rattle.refactor_coupled.specs.Implementing.{AreAllDefinitions, AreDefinitionsAfter, IsTypeSymbol}
use Rattle.refactor_coupled.specs.Obstacles.{BecomesType, HasNoObstacle, KeepsImplementing, NoneChanges, PreservesAll}
use Rattle.refactor_preserve.specs.Preserved.{KeepsBindings, Preserves}
use Rattle.law_renamed_workspaces.specs.Harmless.{IsHarmless}
use Rattle.law_renamed_workspaces.specs.Renames.{IsPlainRename}
use Rattle.law_renamed_workspaces.proofs.Harmless.{all_same, harmless}
use Rattle.law_renamed_workspaces.proofs.SeenLookups.{HasTypeAt, all_after, all_before}
use Rattle.law_renamed_workspaces.proofs.SetLookups.{type_behind}
use Rattle.law_agreement.proofs.Laws.{preserved_loses_none}
use Rattle.law_agreement.proofs.PlainRenames.{preserves}
use Rattle.law_agreement.proofs.Premises.{IsKeptRename}
use Rattle.law_agreement.proofs.Preserved.{kept_for}
use Rattle.law_implementing.specs.Definitions.{HasOneOfEach}
use Rattle.law_implementing.specs.Obstacles.{ChangesDecide, NoObstacleIsHarmless, ObstaclesDecide, ScopeRenamesTurnNone}
use Rattle.law_implementing.proofs.AllAfter.{are_moved}
use Rattle.law_implementing.proofs.AllDefinitions.{are_before, after_alike, all_alike, definitions_given}
use Rattle.law_implementing.proofs.EditedDefinitions.{are_after}
use Rattle.law_implementing.proofs.NoneTurns.{implement_alike, none_changes}
use Rattle.law_implementing.proofs.SeenImplementing.{keeps_seen}
use Rattle.law_implementing.proofs.TypesBecome.{keeps_symbols}

-- Implementing types are kept whichever right verdicts they are found with.
module _ (w : Workspace) (a b : Verdicts) (right : AreVerdicts w a) (also : AreVerdicts w b) where
  type_for : (s : Symbol) → IsTypeSymbol (IsCheckedPackage w a) s → IsTypeSymbol (IsCheckedPackage w b) s
  type_for s h = record {
    inside = h.inside;
    is_package = package_for w a b right also h.inside h.is_package;
    rank = h.rank;
    definition = h.definition;
    has_rank = h.has_rank;
    is_symbol = h.is_symbol;
  }

module _ (w : Workspace) (a b : Verdicts) (right : AreVerdicts w a) (also : AreVerdicts w b) where
  all_for : (ds : Symbol → Definition) → AreAllDefinitions (IsCheckedPackage w a) ds → AreAllDefinitions (IsCheckedPackage w b) ds
  all_for ds h = record {
    each = λ p is rank d at. h.each p (package_for w b a also right p is) rank d at;
    others = λ s none. h.others s (λ t. none (type_for w a b right also s t));
  }

module _ (w : Workspace) (a b : Verdicts) (right : AreVerdicts w a) (also : AreVerdicts w b) (r : Revision) (after : Verdicts) where
  becomes_for : (s t : Symbol) → BecomesType (IsCheckedPackage w b) (IsCheckedPackage r.after after) r.moved s t →
      BecomesType (IsCheckedPackage w a) (IsCheckedPackage r.after after) r.moved s t
  unfolding type_for
  becomes_for s t h = record { place = h.place; old = type_for w b a also right s h.old; is_old = h.is_old; new = h.new; is_new = h.is_new }

  pub implementing_for : KeepsImplementing w a r after → KeepsImplementing w b r after
  implementing_for k = record {
    old = k.old;
    are_old = all_for w a b right also k.old k.are_old;
    new = k.new;
    are_new = k.are_new;
    keeps = λ star s t i j h of. k.keeps star s t i j (becomes_for s t h) (becomes_for i j of);
  }

-- So it is afterwards.
module _ (w : Workspace) (known : Verdicts) (r : Revision) (a b : Verdicts) (right : AreVerdicts r.after a) (also : AreVerdicts r.after b) where
  becomes_after : (s t : Symbol) → BecomesType (IsCheckedPackage w known) (IsCheckedPackage r.after b) r.moved s t →
      BecomesType (IsCheckedPackage w known) (IsCheckedPackage r.after a) r.moved s t
  unfolding type_for
  becomes_after s t h = record { place = h.place; old = h.old; is_old = h.is_old; new = type_for r.after b a also right t h.new; is_new = h.is_new }

  pub implementing_after : KeepsImplementing w known r a → KeepsImplementing w known r b
  implementing_after k = record {
    old = k.old;
    are_old = k.are_old;
    new = k.new;
    are_new = all_for r.after a b right also k.new k.are_new;
    keeps = λ star s t i j h of. k.keeps star s t i j (becomes_after s t h) (becomes_after i j of);
  }

module _ (w : Workspace) (known : Verdicts) (d : Declaration) (name : List ℕ) (s : FileChanges) (after : Verdicts)
    (kept : IsKeptRename w known d name s after) where
  abbrev r : Revision
  r = revision_of w s

  abbrev sound : ListsFaults w []
  sound = kept.rename.rename.sound

  abbrev right : AreVerdicts w known
  right = kept.rename.rename.right

  keeps : NoneChanges w known r → KeepsImplementing w known r after
  keeps none =
      let now : HasOneOfEach (edited s w) after = definitions_given (edited s w) after kept.right kept.sound in
      let old = all_before w sound known right in
      let moved : AreDefinitionsAfter (IsCheckedPackage w known) r now.definition = are_after w known d name s after kept now.definition now.gives in
      let same = keeps_symbols w known d name s after kept in
      record {
        old = old;
        are_old = are_before w sound known right;
        new = now.definition;
        are_new = now.gives;
        keeps = λ star t u i j of interface.
            subst (λ z. Implements old (type_through star t) i ↔ Implements now.definition (type_through star u) z) (sym (same.only i j interface))
            (subst (λ z. Implements old (type_through star t) i ↔ Implements now.definition (type_through star z) i) (sym (same.only t u of))
            (implement_alike w sound known right old (are_before w sound known right) r now.definition moved i interface.old none star t of.old));
      }

  kept_none : KeepsImplementing w known r after → NoneChanges w known r
  kept_none k =
      let moved : AreDefinitionsAfter (IsCheckedPackage w known) r k.new = are_after w known d name s after kept k.new k.are_new in
      let same = keeps_symbols w known d name s after kept in
      none_changes w sound known right k.old k.are_old r k.new moved
      (λ star t i of interface. k.keeps star t t i i (same.itself t of) (same.itself i interface))

  pub decide : NoneChanges w known r ↔ KeepsImplementing w known r after
  decide = (keeps, kept_none)

pub changes_decide : ChangesDecide
changes_decide w known after d name s plain right_after sound_after kept =
    decide w known d name s after (record { rename = plain; right = right_after; sound = sound_after; kept = kept })

module _ (w : Workspace) (known : Verdicts) (d : Declaration) (name : List ℕ) (s : FileChanges) (plain : IsPlainRename w known d name s) where
  abbrev change : Revision
  change = revision_of w s

  abbrev faultless : ListsFaults w []
  faultless = plain.rename.sound

  abbrev verdicts : AreVerdicts w known
  verdicts = plain.rename.right

  -- A plain rename against which nothing stands is harmless.

  has_type : (t : Symbol) → HasTypeAt w faultless known verdicts t → IsTypeSymbol (IsCheckedPackage w known) t
  has_type t h = record {
    inside = h.inside;
    is_package = h.is_package;
    rank = t.rank;
    definition = h.holds.0;
    has_rank = h.holds.1;
    is_symbol = ap (λ (q : List ℕ). record { «package» = q; rank = t.rank }) (sym h.of_path);
  }

  through : (star : Bool) (t : Symbol) → type_through star t ≡ type_behind star t
  through false t = refl
  through true t = refl

  pub none_harmless : HasNoObstacle w known change → IsHarmless w known change
  none_harmless h =
      let old = all_before w faultless known verdicts in
      let new = all_after w faultless known verdicts change in
      harmless w known d name s plain h.0 (λ star t i of interface.
      subst (λ z. Implements old z i ↔ Implements new z i) (through star t)
      (implement_alike w faultless known verdicts old (are_before w faultless known verdicts) change new (are_moved w faultless known verdicts change h.0) i
      (has_type i interface) h.1 star t (has_type t of)))

  -- It preserves bindings and implementing types.

  kept_by : (k : Preserves w change) → KeepsBindings w known change k.after
  kept_by k = kept_for w k.before known k.right verdicts change k.after k.kept

  told : (k : Preserves w change) → NoneChanges w known change ↔ KeepsImplementing w known change k.after
  told k = changes_decide w known k.after d name s plain k.right_after k.sound (kept_by k)

  preserves_all : HasNoObstacle w known change → PreservesAll w change
  preserves_all h =
      let k = preserves w known d name s plain (none_harmless h) in
      record { bindings = k; implementing = implementing_for w known k.before verdicts k.right change k.after ((told k).0 h.1) }

  pub has_none : PreservesAll w change → HasNoObstacle w known change
  has_none h =
      let k = h.bindings in
      let same : KeepsImplementing w known change k.after = implementing_for w k.before known k.right verdicts change k.after h.implementing in
      let kept : IsKeptRename w known d name s k.after = record { rename = plain; right = k.right_after; sound = k.sound; kept = kept_by k } in
      (preserved_loses_none w known d name s plain k (keeps_seen w known d name s k.after kept same), (told k).1 same)

  pub obstacles : HasNoObstacle w known change ↔ PreservesAll w change
  obstacles = (preserves_all, has_none)

pub no_obstacle_is_harmless : NoObstacleIsHarmless
no_obstacle_is_harmless w known d name s plain h = none_harmless w known d name s plain h

pub obstacles_decide : ObstaclesDecide
obstacles_decide w known d name s plain = obstacles w known d name s plain

-- A plain rename of a declaration of scopes changes no interface's implementing types.
pub scope_renames_turn_none : ScopeRenamesTurnNone
scope_renames_turn_none w known p n name s h none_lost place t =
    let plain = h.rename in
    let sound = plain.rename.sound in
    let right = plain.rename.right in
    let r = revision_of w s in
    let x = t.turns in
    let was = all_alike w sound known right x.before (all_before w sound known right) x.are_before (are_before w sound known right) in
    let is = after_alike w sound known right r x.after (all_after w sound known right r) x.are_after (are_moved w sound known right r none_lost) in
    let same : x.before ≡ x.after = was ∙ all_same w known p.path n name s plain ∙ sym is in
    x.turned
    (subst (λ (ds : Symbol → Definition). Implements x.before x.of t.interface ↔ Implements ds x.of t.interface) same ((λ k. k), (λ k. k)))
