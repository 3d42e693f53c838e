-- A name is used as a member of one type, in one world.
use Rattle.std.proofs.Common.{ℕ, ◌≡◌, sym, subst, ◌∙◌}
use Rattle.std.specs.Prelude.{Contains, Some, slice_get}
use Rattle.std.proofs.lemmas.Option.{same_Some}
use Rattle.base_files.specs.Workspace.{Workspace}
use Rattle.go_ast.specs.SourceFile.{SourceFile, IsSourceFile}
use Rattle.law_tokens.proofs.HeldBytes.{source_file_at}
use Rattle.law_tokens.proofs.OwnPaths.{package_sources, part_at}
use Rattle.types_expr.specs.Judge.{MemberUse, members_of}
use Rattle.types_expr.specs.World.{World}
use Rattle.types_stmt.specs.Declarations.{check_file}
use Rattle.types_declared.specs.Package.{Package, spelled}
use Rattle.types_info.specs.Uniqueness.{HasOneWorld}
use Rattle.types_info.specs.Worlds.{IsWorldOf, is_init}
use Rattle.types_info.proofs.OneWorld.{has_one_world}
use Rattle.workspace_check.specs.Verdicts.{Verdicts}
use Rattle.workspace_check.proofs.OnePackage.{layout_formed, files_in_order}
use Rattle.base_files.specs.declared.place.Place.{Place}
use Rattle.base_edits.specs.Revisions.{Revision}
use Rattle.refs_binding.specs.declared.declaration.Declaration.{Declaration}
use Rattle.refs_binding.specs.Binding.{BindsByMember, UsesMemberAt}
use Rattle.refs_binding.specs.Uses.{IsCheckedPackage}
use Rattle.refs_binding.proofs.MemberParts.{one_list}
use Rattle.refs_lookup.proofs.LinkPlaces.{one_at_token}
use Rattle.refs_lookup.proofs.OnePlace.{same_files}
use Rattle.refactor_conflict.specs.MembersAfter.{IsMemberAfter}
use Rattle.refactor_conflict.specs.BoundAfter.{IsBoundByMember}

module _ (w : Workspace) (known : Verdicts) (p : Package) (is : IsCheckedPackage w known p) where
  is_source : (file : ℕ) (s : SourceFile) → slice_get p.files file ≡ Some s → IsSourceFile s
  is_source file s at =
      let h = is.is_checked in
      let t = part_at h.files file s (subst (λ fs. slice_get fs file ≡ Some s) (same_files w known p.path p h) at) in
      subst IsSourceFile t.1.1 (source_file_at h.files (package_sources w p.path h.files h.parsed) file t.0 t.1.0)

  one_world_each : HasOneWorld p
  one_world_each = has_one_world p (layout_formed w known p.path p is.is_checked) (files_in_order w known p.path p is.is_checked)

  -- two member uses at a token are one, and stand in one world
  one_world : (file token : ℕ) (d e : Declaration) (a : UsesMemberAt p file token d) (b : UsesMemberAt p file token e) → b.judged.world ≡ a.judged.world
  one_world file token d e a b =
      let sources : b.judged.source ≡ a.judged.source = same_Some b.judged.source a.judged.source (sym b.judged.in_file ∙ a.judged.in_file) in
      one_world_each file a.judged.source b.judged.world a.judged.world (subst (λ z. IsWorldOf p file z b.judged.world) sources b.judged.judged_by)
      a.judged.judged_by

  one_found : (file token : ℕ) (d e : Declaration) (a : UsesMemberAt p file token d) (b : UsesMemberAt p file token e) → a.found ≡ b.found
  one_found file token d e a b =
      let s = a.judged.source in
      let lists : b.uses ≡ a.uses = one_list p one_world_each file b.uses a.uses b.judged a.judged in
      let here : Contains (members_of (check_file a.judged.world (is_init s) s.tree).uses) a.found =
      subst (λ us. Contains us a.found) a.judged.found a.is_use in
      let other : Contains (members_of (check_file a.judged.world (is_init s) s.tree).uses) b.found =
      subst (λ us. Contains us b.found) (lists ∙ a.judged.found) b.is_use in
      one_at_token a.judged.world (is_init s) s (is_source file s a.judged.in_file) a.found b.found here other (a.at ∙ sym b.at)

  -- so what a new name selects doesn't depend on how it is found that the name was a member
  pub selects_alike : (r : Revision) (place : Place) (u : ℕ) (d e : Declaration) (a : BindsByMember p u d) (b : BindsByMember p u e) (x : Declaration) →
      IsBoundByMember (IsCheckedPackage w known) r place p u d a x → IsBoundByMember (IsCheckedPackage w known) r place p u e b x
  selects_alike r place u d e a b x h =
      let at = p.layout.place u in
      let name = r.called place (spelled p at.file at.index) in
      subst (λ (v : World). IsMemberAfter (IsCheckedPackage w known) r p.path name v.definition b.found.before x)
      (sym (one_world at.file at.index d e a b))
      (subst (λ (f : MemberUse). IsMemberAfter (IsCheckedPackage w known) r p.path name a.judged.world.definition f.before x)
      (one_found at.file at.index d e a b) h)
