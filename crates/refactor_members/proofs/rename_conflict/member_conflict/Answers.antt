-- The answers to the goals of `rename_conflict::member_conflict`.
use Rattle.std.proofs.Common.{List, subst, sym}
use Rattle.std.specs.Prelude.{Contains}
use Rattle.std.proofs.lemmas.Result.{IfOk-weaker}
use Rattle.go_scope.specs.Named.{name_value}
use Rattle.workspace_graph.specs.Search.{IsMarked}
use Rattle.base_edits.specs.RevisionsOfEdits.{revision_of}
use Rattle.refs_binding.specs.declared.declaration.Declaration.{Declaration}
use Rattle.refs_binding.specs.Uses.{IsCheckedPackage}
use Rattle.refs_binding.specs.Workspaces.{known_in}
use Rattle.refs_uses.specs.MemberNames.{IsNameFound}
use Rattle.refactor_members.specs.Renames.{RenamesMember, StandApart}
use Rattle.refactor_members.proofs.MemberLists.{members_passed, same_set}
use Rattle.refactor_members.proofs.SetsApart.{stand_apart}
use Rattle.refactor_members.proofs.Telling.{renames_member, first_told}
use Rattle.refactor_members.proofs.Unreached.{stay_out_of_reach}
use Rattle.refactor_members.proofs.rename_conflict.member_conflict.Goals as goal

pub returns : goal.returns
returns c =
    let w = c.args.workspace.now.graph in
    let found = c.args.workspace.now.findings in
    let known = known_in found in
    let asked = c.args.renaming.now in
    let d = asked.declaration.now in
    let set = asked.set.now in
    let name = asked.name.now in
    let called = name_value c.name_of_all-called.result in
    let listed = c.as_slice-listed.result.now in
    let Known = IsCheckedPackage w known in
    let same = same_set Known set c.in_ok-members.members.items listed c.as_slice-listed.ensures.value c.in_ok-members.ensures in
    IfOk-weaker c.first_turned.result _ _
    (λ told h s rename.
    let laws = c.members_are_called.ensures in
    let renames = renames_member w known d set name s rename laws.identifiers laws.fields laws.methods c.first_member_conflict.ensures.others in
    let x = h s (record {
      others = λ number unmarked place p is.
          let out = c.in_ok-reaching.ensures number p is (λ marked. unmarked (subst (λ l. IsMarked l number) (sym c.deref.ensures.value) marked)) in
          stay_out_of_reach w known d set name s rename c.other_packages_keep_members.ensures c.unexported_names_stay_at_home.ensures called
          c.name_of_all-called.ensures p is.is_package out place;
      members = members_passed Known set c.in_ok-members.members.items listed c.as_slice-listed.ensures.value c.in_ok-members.ensures;
      apart = subst (StandApart Known) (sym same) (stand_apart w found c.has_no_faults.ensures d set name s rename);
      called = subst (λ (l : List Declaration). (e : Declaration) → Contains l e → IsNameFound w known e called) (sym same) c.name_of_all-called.ensures;
      renames = subst (λ (l : List Declaration). RenamesMember w known (revision_of w s) l name) (sym same) renames;
    }) in
    first_told w known d set name s rename c.member_renames_keep_scopes.ensures.decide told x.0 x.1) c.first_turned.ensures
