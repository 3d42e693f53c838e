-- A use of a member is bound to at most one declaration as such. No scope binds it, and it is no declaring identifier of a member.
use Rattle.std.proofs.Common.{ℕ, ◌≡◌, ◌<◌, ◌⊎◌, inl, inr, List, ap, sym, subst, ◌∙◌}
use Rattle.std.specs.Prelude.{Contains, Some, slice_get}
use Rattle.std.proofs.lemmas.Option.{same_Some}
use Rattle.base_files.specs.Workspace.{Workspace}
use Rattle.go_ast.specs.SourceFile.{SourceFile, FileParts, IsSourceFile, source_of}
use Rattle.go_scope.specs.declared.model.Purpose.TheVariants as purpose
use Rattle.go_scope.specs.declared.model.Role.TheVariants.{NotLexical}
use Rattle.go_scope.specs.Bindings.{IsIdentifier}
use Rattle.law_tokens.specs.Roles.{FitsTokens}
use Rattle.law_tokens.proofs.HeldBytes.{source_file_at}
use Rattle.law_tokens.proofs.Lexical.{never_bound}
use Rattle.law_tokens.proofs.OwnPaths.{package_sources, part_at}
use Rattle.law_tokens.proofs.Roles.{named_role_told}
use Rattle.types_expr.specs.Judge.{MemberUse, members_of}
use Rattle.types_expr.specs.World.{World}
use Rattle.types_stmt.specs.Declarations.{check_file}
use Rattle.refs_lookup.specs.Places.{IsMemberToken, as_key, as_selected}
use Rattle.refs_lookup.proofs.LinkPlaces.{one_at_token, stands_at_link}
use Rattle.types_declared.specs.Package.{Package}
use Rattle.types_info.specs.Uniqueness.{HasOneWorld}
use Rattle.types_info.specs.Worlds.{IsWorldOf, is_init}
use Rattle.types_info.proofs.OneWorld.{has_one_world}
use Rattle.workspace_check.specs.Verdicts.{Verdicts, IsPackageIn}
use Rattle.workspace_check.proofs.OnePackage.{layout_formed, files_in_order}
use Rattle.refs_binding.specs.declared.declaration.Declaration.{Declaration}
use Rattle.refs_binding.specs.Binding.{BindsByScope, BindsByMember, DeclaresMember, UsesMemberAt, declaration_of}
use Rattle.refs_binding.specs.Identifiers.{IsInFiles}
use Rattle.refs_binding.proofs.Excluding.{number_bound}
use Rattle.refs_binding.proofs.MemberParts.{one_list}
use Rattle.refs_lookup.proofs.NamedMembers.{name_member}
use Rattle.refs_lookup.proofs.OnePlace.{names_of, same_layout, same_size, same_files}

module _ (w : Workspace) (known : Verdicts) (path : List ℕ) (p : Package) (h : IsPackageIn w known path p) where
  -- the tree of a file of the package
  part_of : (file : ℕ) (s : SourceFile) → slice_get p.files file ≡ Some s → (t : FileParts) × ((slice_get h.files file ≡ Some t) × (source_of t ≡ s))
  part_of file s is = part_at h.files file s (subst (λ fs. slice_get fs file ≡ Some s) (same_files w known path p h) is)

  is_source : (file : ℕ) (s : SourceFile) → slice_get p.files file ≡ Some s → IsSourceFile s
  is_source file s is =
      let t = part_of file s is in
      subst IsSourceFile t.1.1 (source_file_at h.files (package_sources w path h.files h.parsed) file t.0 t.1.0)

  is_one_world : HasOneWorld p
  is_one_world = has_one_world p (layout_formed w known path p h) (files_in_order w known path p h)

  -- one use, and so one member

  pub one_member : (file token : ℕ) (d e : Declaration) → UsesMemberAt p file token d → UsesMemberAt p file token e → d ≡ e
  one_member file token d e a b =
      let s = a.judged.source in
      let lists : b.uses ≡ a.uses = one_list p is_one_world file b.uses a.uses b.judged a.judged in
      let sources : b.judged.source ≡ s = same_Some b.judged.source s (sym b.judged.in_file ∙ a.judged.in_file) in
      let worlds : b.judged.world ≡ a.judged.world =
      is_one_world file s b.judged.world a.judged.world (subst (λ z. IsWorldOf p file z b.judged.world) sources b.judged.judged_by) a.judged.judged_by in
      let own : Contains (members_of (check_file a.judged.world (is_init s) s.tree).uses) a.found = subst (λ us. Contains us a.found) a.judged.found a.is_use in
      let other : Contains (members_of (check_file a.judged.world (is_init s) s.tree).uses) b.found =
      subst (λ us. Contains us b.found) (lists ∙ a.judged.found) b.is_use in
      let same : a.found ≡ b.found =
      one_at_token a.judged.world (is_init s) s (is_source file s a.judged.in_file) a.found b.found own other (a.at ∙ sym b.at) in
      let members : Some a.member ≡ Some b.member =
      sym a.is_member ∙ ap (λ (u : MemberUse). a.judged.world.member token u.before) same
      ∙ ap (λ (v : World). v.member token b.found.before) (sym worlds) ∙ b.is_member in
      sym a.declares ∙ ap declaration_of (same_Some a.member b.member members) ∙ b.declares

  -- what the tokens tell of an identifier

  told : (u : ℕ) → IsInFiles p u → (t : FileParts) → slice_get h.files (p.layout.place u).file ≡ Some t →
      FitsTokens t.cut (p.layout.place u).index (p.layout.role u)
  told u stands t =
      let layout = same_layout w known path p h in
      subst (λ l. slice_get h.files (l.place u).file ≡ Some t → FitsTokens t.cut (l.place u).index (l.role u)) (sym layout)
      (named_role_told (names_of w known path p h) h.files (package_sources w path h.files h.parsed) u
      (subst (λ n. u < n) (same_size w known path p h) stands.0) (subst (λ l. IsIdentifier l u) layout stands.1) t)

  -- the roles of a name that is used as a member
  abbrev HasLinkRole : ℕ → Type 0
  HasLinkRole u = (p.layout.role u ≡ NotLexical purpose.Key) ⊎ (p.layout.role u ≡ NotLexical purpose.Selected)

  by_link : (v : World) (u : ℕ) → IsInFiles p u → (t : FileParts) → slice_get h.files (p.layout.place u).file ≡ Some t →
      IsMemberToken v t.cut (p.layout.place u).index → HasLinkRole u
  by_link v u stands t is (as_key colon) = inl ((told u stands t is).key.1 colon)
  by_link v u stands t is (as_selected dot other) = inr ((told u stands t is).selected.1 dot)

  pub link_role : (u : ℕ) (d : Declaration) → IsInFiles p u → BindsByMember p u d → HasLinkRole u
  link_role u d stands a =
      let s = a.judged.source in
      let t = part_of (p.layout.place u).file s a.judged.in_file in
      let own : Contains (members_of (check_file a.judged.world (is_init s) s.tree).uses) a.found = subst (λ us. Contains us a.found) a.judged.found a.is_use in
      let link = stands_at_link a.judged.world (is_init s) s (is_source (p.layout.place u).file s a.judged.in_file) a.found own in
      by_link a.judged.world u stands t.0 t.1.0
      (subst (λ n. IsMemberToken a.judged.world t.0.cut n) a.at
      (subst (λ (z : SourceFile). IsMemberToken a.judged.world z.cut a.found.place) (sym t.1.1) link))

  pub member_not_scope : (u : ℕ) (d e : Declaration) → IsInFiles p u → BindsByMember p u d → BindsByScope p u e → ⊥
  member_not_scope u d e stands a k =
      let n = number_bound p u e k in
      elim (link_role u d stands a) [
        | inl key ↦ never_bound p.layout p.names u n.0 purpose.Key key n.1
        | inr selected ↦ never_bound p.layout p.names u n.0 purpose.Selected selected n.1
      ]

  pub member_not_name : (u : ℕ) (d e : Declaration) → IsInFiles p u → BindsByMember p u d → DeclaresMember p u e → ⊥
  member_not_name u d e stands a k =
      let name = name_member w known path p h u e stands.0 k in
      elim (link_role u d stands a) [
        | inl key ↦ (let same : NotLexical purpose.Member ≡ NotLexical purpose.Key = sym name ∙ key in let z : ⊥ = cc in z)
        | inr selected ↦ (let same : NotLexical purpose.Member ≡ NotLexical purpose.Selected = sym name ∙ selected in let z : ⊥ = cc in z)
      ]
