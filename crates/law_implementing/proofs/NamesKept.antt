-- Where names other than those of imports are kept, no interface's implementing types change.
use Rattle.std.proofs.Common.{ℕ, ◌≡◌, List, [], refl, sym, subst, ◌∙◌}
use Rattle.std.specs.Prelude.{◌↔◌, Option, Some, None}
use Rattle.base_edits.specs.Revisions.{Revision}
use Rattle.base_edits.specs.RevisionsOfEdits.{revision_of}
use Rattle.base_files.specs.Workspace.{Workspace}
use Rattle.types_expr.specs.declared.symbol.Symbol.{Symbol}
use Rattle.types_expr.specs.World.{Definition, Field as Written, Implements, Method as Received}
use Rattle.types_declared.specs.Definitions.{IsCountingField, IsCountingMethod, IsDefinition, IsFoundField, IsFoundMethod}
use Rattle.types_declared.specs.Package.{Package, symbol_in}
use Rattle.workspace_check.specs.FaultLists.{ListsFaults}
use Rattle.workspace_check.specs.Verdicts.{Verdicts, AreVerdicts}
use Rattle.refs_binding.specs.Uses.{IsCheckedPackage}
use Rattle.refactor_conflict.specs.NamesAfter.{IsFieldAfter, IsMethodAfter}
use Rattle.refactor_conflict.specs.Staying.{NoneIsLost}
use Rattle.refactor_coupled.specs.Implementing.{AreAllDefinitions, AreDefinitionsAfter, HasMembersAfter, IsMethodFoundAfter, IsWrittenAfter}
use Rattle.refactor_coupled.specs.Obstacles.{NoneChanges}
use Rattle.law_moves.specs.KeptNames.{KeepsOtherNames}
use Rattle.law_moves.proofs.MembersStay.{field_called, method_called}
use Rattle.law_moves.proofs.Laws.{moves_keep_names}
use Rattle.law_renamed_workspaces.proofs.NewLookups.{field_was, method_was}
use Rattle.law_renamed_workspaces.proofs.SeenLookups.{all_before}
use Rattle.law_gained_names.proofs.UnnamedRenamesMembers.{keeps_names}
use Rattle.law_implementing.specs.UnnamedObstacles.{MovesTurnNone, UnnamedRenamesTurnNone}
use Rattle.law_implementing.proofs.AllAfter.{received_now, written_now}
use Rattle.law_implementing.proofs.AllDefinitions.{after_alike, all_alike, are_before}

module _ (w : Workspace) (sound : ListsFaults w []) (known : Verdicts) (right : AreVerdicts w known) (r : Revision) (kept : KeepsOtherNames w known r)
    (none_lost : NoneIsLost w known r) where
  module _ (p : Package) (is : IsCheckedPackage w known p) (rank : ℕ) (a : Definition) (isd : IsDefinition p rank a) where
    written_by : (name : List ℕ) (o : Option Written) → a.field name ≡ o → IsFoundField p rank name o → IsWrittenAfter r p rank name o
    written_by name None e none = λ k first form typed.
        let h = first.has in
        let called = (field_called w known r kept p is k h.field h.has_rank name).0 h.called in
        none k h.field form
        (subst (λ n. IsCountingField p rank n k h.field) called (field_was w sound known right p is r rank name k h)) typed
    written_by name (Some x) e found =
        let f = found.1.0.is_field in
        let h : IsFieldAfter r p rank name x.symbol.rank = record {
          field = found.0;
          has_rank = f.has_rank;
          of_struct = f.of_struct;
          called = (field_called w known r kept p is x.symbol.rank found.0 f.has_rank name).1 f.named;
        } in
        let now = written_now w sound known right r none_lost p is rank a isd name name x e h in
        (now.0, (now.1.0, now.1.1, found.1.3))

    received_by : (name : List ℕ) (o : Option Received) → a.method name ≡ o → IsFoundMethod p rank name o →
        IsMethodFoundAfter (IsCheckedPackage w known) r p rank name o
    received_by name None e none = λ k first.
        let h = first.has.has in
        let called = (method_called w known r kept p is k h.method h.of_type.receiver h.has_rank h.of_type.received name).0 h.called in
        none k h.method (subst (λ n. IsCountingMethod p rank n k h.method) called (method_was w sound known right p is r rank name k h))
    received_by name (Some x) e found =
        let m = found.1.is_method in
        let h : IsMethodAfter r p rank name x.symbol.rank = record {
          method = found.0;
          has_rank = m.has_rank;
          of_type = record { receiver = m.receiver; received = m.received; declaration = m.declaration; binds = m.binds; of_type = m.of_type };
          called = (method_called w known r kept p is x.symbol.rank found.0 m.receiver m.has_rank m.received name).1 m.named;
        } in
        let now = received_now w sound known right r none_lost p is rank a isd name name x e h in
        (now.0, (now.1.0, now.1.1, now.1.2, found.5))

    kept_members : HasMembersAfter (IsCheckedPackage w known) r p rank a
    kept_members = record {
      underlying = isd.underlying;
      written = λ name. written_by name (a.field name) refl (isd.fields name);
      methods = λ name. received_by name (a.method name) refl (isd.methods name);
    }

  pub are_kept : (definition : Symbol → Definition) → AreAllDefinitions (IsCheckedPackage w known) definition →
      AreDefinitionsAfter (IsCheckedPackage w known) r definition
  are_kept definition are = record {
    each = λ p is rank t at. kept_members p is rank (definition (symbol_in p rank)) (are.each p is rank t at);
    others = are.others;
  }

  pub none_turns : NoneChanges w known r
  none_turns place t =
      let x = t.turns in
      let one = all_before w sound known right in
      let are = are_before w sound known right in
      let was = all_alike w sound known right x.before one x.are_before are in
      let is = after_alike w sound known right r x.after one x.are_after (are_kept one are) in
      let same : x.before ≡ x.after = was ∙ sym is in
      x.turned
      (subst (λ (ds : Symbol → Definition). Implements x.before x.of t.interface ↔ Implements ds x.of t.interface) same ((λ k. k), (λ k. k)))

pub unnamed_renames_turn_none : UnnamedRenamesTurnNone
unnamed_renames_turn_none w known p n name s h f none_lost =
    none_turns w h.rename.sound known h.rename.right (revision_of w s) (keeps_names w known p n name s h) none_lost

pub moves_turn_none : MovesTurnNone
moves_turn_none w known from to s h none_lost = none_turns w h.sound known h.right (revision_of w s) (moves_keep_names w known from to s h) none_lost
