-- The worlds of a file before and after a rename that is harmless.
use Rattle.std.proofs.Common.{ℕ, ◌≡◌, [], ap, sym, subst, refl, ◌∙◌}
use Rattle.std.specs.Prelude.{Some, Contains, slice_get}
use Rattle.std.proofs.Math.Path.{fun_ext}
use Rattle.base_files.specs.Workspace.{Workspace}
use Rattle.base_edits.specs.Revisions.{Revision}
use Rattle.base_edits.specs.RevisionsOfEdits.{revision_of}
use Rattle.go_ast.specs.SourceFile.{SourceFile, spelling_of}
use Rattle.go_scope.specs.declared.model.Position.{Position}
use Rattle.types_expr.specs.declared.symbol.Symbol.{Symbol}
use Rattle.types_expr.specs.Judge.{MemberUse, members_of}
use Rattle.types_expr.specs.Types.{Underlying}
use Rattle.types_expr.specs.World.{World, member_by}
use Rattle.types_stmt.specs.Declarations.{check_file}
use Rattle.types_expr.proofs.NoteLists.{member_noted}
use Rattle.types_declared.specs.Package.{Package, spelled, spelled_at}
use Rattle.types_info.specs.Worlds.{IsWorldOf, is_init}
use Rattle.types_info.proofs.OneWorld.{same_tests}
use Rattle.workspace_check.specs.FaultLists.{ListsFaults}
use Rattle.workspace_check.specs.Verdicts.{Verdicts, AreVerdicts}
use Rattle.refs_binding.specs.Binding.{BindsByMember, declaration_of}
use Rattle.refs_binding.specs.DeclaringPlaces.{TokenBegins}
use Rattle.refs_binding.specs.Identifiers.{NameBegins}
use Rattle.refs_binding.specs.Uses.{IsCheckedPackage}
use Rattle.refactor_conflict.specs.MembersAfter.{IsMemberAfter}
use Rattle.refactor_conflict.specs.Staying.{NoneIsLost}
use Rattle.law_changed_types.proofs.Alike.{Alike, of_bound}
use Rattle.law_changed_types.proofs.Worlds.{bind_alike}
use Rattle.law_renamed_workspaces.specs.Layouts.{IsRelaid}
use Rattle.law_renamed_workspaces.specs.MembersMoved.{AreSeenAfter}
use Rattle.law_renamed_workspaces.specs.SameWorlds.{WorldsStay}
use Rattle.law_renamed_workspaces.proofs.DefinitionsAfter.{definition_after}
use Rattle.law_renamed_workspaces.proofs.MembersAfterwards.{member_stays}
use Rattle.law_renamed_workspaces.proofs.UsesOfMembers.{IsUseAt, is_use_at}

module _ (w : Workspace) (sound : ListsFaults w []) (known : Verdicts) (right : AreVerdicts w known) (r : Revision)
    (kept : NoneIsLost w known r) (p q : Package) (is : IsCheckedPackage w known p) (relaid : IsRelaid r p q) (alike : Alike p q)
    (seen : AreSeenAfter (IsCheckedPackage w known) r p q) (file : ℕ) (f g : SourceFile) (v x : World) (in_p : slice_get p.files file ≡ Some f)
    (in_q : slice_get q.files file ≡ Some g) (judged : IsWorldOf p file f v) (after : IsWorldOf q file g x) where
  -- the new name of a use
  spelled_after : (u : MemberUse) (a : IsUseAt p file v u) → spelling_of g u.place ≡ r.called a.place (spelled p file u.place)
  spelled_after u a =
      let at : Position = record { file = file; index = u.place } in
      let begins = subst (λ o. NameBegins o u.place a.place.path a.place.offset) in_p a.begins_there in
      ap (λ o. spelled_at o u.place) (sym in_q)
      ∙ relaid.tokens at a.place (record {
        file = f;
        of_rank = in_p;
        is_name = begins.0;
        begins = subst (λ o. TokenBegins o u.place a.place) (sym in_p) (begins.1, begins.2);
      })

  -- what it selects by the old types and the new names
  selected : (u : MemberUse) → Contains (members_of (check_file v (is_init f) f.tree).uses) u → (a : IsUseAt p file v u) →
      IsMemberAfter (IsCheckedPackage w known) r p.path (r.called a.place (spelled p file u.place)) v.definition u.before (declaration_of a.member)
  selected u has a =
      let n = a.number in
      let was : BindsByMember p n (declaration_of a.member) = record {
        uses = members_of (check_file v (is_init f) f.tree).uses;
        judged = record {
          source = f;
          in_file = subst (λ k. slice_get p.files k ≡ Some f) (sym a.stands.1) in_p;
          world = v;
          judged_by = subst (λ k. IsWorldOf p k f v) (sym a.stands.1) judged;
          found = refl;
        };
        found = u;
        is_use = has;
        at = sym a.stands.2;
        member = a.member;
        is_member = ap (λ i. v.member i u.before) a.stands.2 ∙ a.is_member;
        declares = refl;
      } in
      let now = (kept a.place p is n a.begins).by_member (declaration_of a.member) was in
      subst (λ k. IsMemberAfter (IsCheckedPackage w known) r p.path (r.called a.place (spelled p k u.place)) v.definition u.before
      (declaration_of a.member)) a.stands.1
      (subst (λ i. IsMemberAfter (IsCheckedPackage w known) r p.path (r.called a.place (spelled p (p.layout.place n).file i)) v.definition u.before
      (declaration_of a.member)) a.stands.2 now)

  -- it selects the same afterwards
  pub same_member : (u : MemberUse) → Contains (members_of (check_file v (is_init f) f.tree).uses) u → x.member u.place u.before ≡ v.member u.place u.before
  same_member u has =
      let a = is_use_at w sound known right p is file f in_p v judged u has in
      let ds = judged.definitions in
      let es = after.definitions in
      let new = r.called a.place (spelled p file u.place) in
      let moved = definition_after w known r p q is relaid alike seen ds es judged.are_definitions after.are_definitions in
      let types : v.definition ≡ (λ s. (ds s).underlying) = fun_ext judged.definition in
      let before : member_by ds p.path (spelling_of f u.place) u.before ≡ Some a.member = sym (judged.member u.place u.before) ∙ a.is_member in
      let selects = subst (λ (d : Symbol → Underlying). IsMemberAfter (IsCheckedPackage w known) r p.path new d u.before (declaration_of a.member)) types
      (selected u has a) in
      let there : member_by es p.path new u.before ≡ Some a.member =
      member_stays (IsCheckedPackage w known) r ds es moved p.path (spelling_of f u.place) new u.before a.member before selects in
      after.member u.place u.before ∙ ap (λ path. member_by es path (spelling_of g u.place) u.before) relaid.path
      ∙ ap (λ name. member_by es p.path name u.before) (spelled_after u a) ∙ there ∙ sym a.is_member

pub worlds_stay : WorldsStay
worlds_stay w before after d name s plain kept p q here file f g v x in_p in_q judged now =
    let alike = of_bound p q here.bound in
    let both = bind_alike p q alike here.bound.parsed file f g v x judged now in
    let rename = plain.rename in
    let same =
    kept.implementing after p q here.was here.is here.relaid here.bound here.seen judged.definitions now.definitions judged.are_definitions
    now.are_definitions in
    record {
      bound = both.0;
      definition = both.1;
      implements = λ t i. same_tests (x.implements t i) (v.implements t i) (λ e. (judged.implements t i).1 ((same t i).1 ((now.implements t i).0 e)))
          (λ e. (now.implements t i).1 ((same t i).0 ((judged.implements t i).0 e)));
      members = λ u has. same_member w rename.sound before rename.right (revision_of w s) kept.none_lost p q here.was here.relaid alike here.seen file f g v x
          in_p in_q judged now u (member_noted (check_file v (is_init f) f.tree).uses u has);
    }
