-- Each use of a member is an identifier of the package, and names a member of the type before it. The workspace has no faults.
use Rattle.std.proofs.Common.{ℕ, suc, ◌≡◌, inl, inr, List, [], ap, sym, subst, refl, ◌∙◌, arith}
use Rattle.std.specs.Prelude.{Some, Contains, slice_get}
use Rattle.std.proofs.lemmas.Option.{same_Some}
use Rattle.base_files.specs.declared.place.Place.{Place}
use Rattle.base_files.specs.Workspace.{Workspace}
use Rattle.go_scanner.specs.CutText.{tokens_in}
use Rattle.go_ast.specs.declared.syntax.Kind.TheVariants as kind
use Rattle.go_ast.specs.SourceFile.{SourceFile, FileParts, IsSourceFile, source_of, offset_of}
use Rattle.go_scope.specs.declared.model.Position.{Position}
use Rattle.go_scope.specs.declared.model.Purpose.TheVariants as purpose
use Rattle.go_scope.specs.Table.{LiesAt}
use Rattle.law_tokens.specs.Roles.{IsOfKind, FitsTokens}
use Rattle.law_tokens.proofs.Lexical.{never_bound}
use Rattle.law_tokens.proofs.OwnPaths.{part_at}
use Rattle.types_expr.specs.Judge.{MemberUse, members_of}
use Rattle.types_expr.specs.Types.{Package as PackageName}
use Rattle.types_expr.specs.World.{World, Member, Means}
use Rattle.types_stmt.specs.Declarations.{check_file}
use Rattle.types_declared.specs.MeaningOf.{import_name}
use Rattle.types_declared.specs.Package.{Package}
use Rattle.types_info.proofs.OneMeaning.{one_name}
use Rattle.types_info.proofs.OneWorld.{has_one_world}
use Rattle.types_info.specs.MemberUses.{AreUsesIn}
use Rattle.types_info.specs.QualifiedIdentifiers.{NamesPackage}
use Rattle.types_info.specs.Uniqueness.{HasOneWorld}
use Rattle.types_info.specs.Worlds.{IsWorldOf, is_bound, by_scope, is_init}
use Rattle.workspace_check.specs.FaultLists.{ListsFaults}
use Rattle.workspace_check.specs.Verdicts.{Verdicts, AreVerdicts, IsPackageIn}
use Rattle.workspace_check.proofs.OnePackage.{layout_formed, files_in_order}
use Rattle.refs_binding.specs.Binding.{BindsByMember}
use Rattle.refs_binding.specs.Identifiers.{IsNameToken, NameBegins, BeginsAt}
use Rattle.refs_binding.specs.Uses.{IsCheckedPackage}
use Rattle.refs_binding.proofs.MemberParts.{one_list}
use Rattle.refs_binding.proofs.Tokens.{Begins}
use Rattle.refs_lookup.specs.Places.{IsBoundToPackage, IsMemberToken, as_key, as_selected}
use Rattle.refs_lookup.proofs.BoundUsedMembers.{marks_at, told_at}
use Rattle.refs_lookup.proofs.Headers.{name_before_dot}
use Rattle.refs_lookup.proofs.LinkPlaces.{one_at_token, stands_at_link}
use Rattle.refs_lookup.proofs.OnePlace.{same_files}
use Rattle.refs_uses.proofs.NameTokens.{name_at_token}
use Rattle.law_faultless.proofs.Bound.{file_typed}
use Rattle.law_faultless.proofs.LinksBound.{source_is, member_bound}
use Rattle.law_faultless.specs.MemberNames.{IsMemberName, a_selected, a_key}
use Rattle.law_renamed_workspaces.proofs.RenamedMembersNameTokens.{linked_token}

-- The use is the identifier of this number, which begins at the place, and the type before it has this member.
pub record IsUseAt (p : Package) (file : ℕ) (v : World) (u : MemberUse) : Type 0 where
  pub place : Place
  pub number : ℕ
  pub begins : BeginsAt p place.path place.offset number
  pub stands : LiesAt p.layout (record { file = file; index = u.place }) number
  pub begins_there : Begins p (record { file = file; index = u.place }) place
  pub member : Member
  pub is_member : v.member u.place u.before ≡ Some member

module _ (w : Workspace) (sound : ListsFaults w []) (known : Verdicts) (right : AreVerdicts w known) (p : Package) (is : IsCheckedPackage w known p) (file : ℕ)
    (f : SourceFile) (at_file : slice_get p.files file ≡ Some f) (v : World) (judged : IsWorldOf p file f v) (u : MemberUse)
    (has : Contains (members_of (check_file v (is_init f) f.tree).uses) u) where
  h : IsPackageIn w known p.path p
  h = is.is_checked

  source : IsSourceFile f
  unfolding h
  source = source_is w known p.path p is.is_checked file f at_file

  at : Position
  at = record { file = file; index = u.place }

  link : IsMemberToken v f.cut u.place
  link = stands_at_link v (is_init f) f source u has

  by_link : IsMemberToken v f.cut u.place → IsNameToken (slice_get (tokens_in f.cut) u.place)
  by_link (as_key colon) = linked_token f source u.place (inr colon)
  by_link (as_selected dot other) = linked_token f source u.place (inl dot)

  place : Place
  place = record { path = f.path; offset = offset_of f u.place }

  begins : Begins p at place
  unfolding at place
  begins = subst (λ o. NameBegins o u.place f.path (offset_of f u.place)) (sym at_file) (by_link link, refl, refl)

  -- the identifier there

  record IsNumber : Type 0 where
    number : ℕ
    begins_at : BeginsAt p f.path (offset_of f u.place) number
    stands : LiesAt p.layout (record { file = file; index = u.place }) number

  numbered : IsNumber
  unfolding at place
  numbered =
      let n = name_at_token w known p.path p is.is_checked at place begins in record { number = n.0; begins_at = n.1.0; stands = n.1.1 }

  part : (t : FileParts) × ((slice_get is.is_checked.files file ≡ Some t) × (source_of t ≡ f))
  part = part_at is.is_checked.files file f (subst (λ fs. slice_get fs file ≡ Some f) (same_files w known p.path p is.is_checked) at_file)

  told : (n : IsNumber) → FitsTokens f.cut u.place (p.layout.role n.number)
  told n =
      subst (λ (z : SourceFile). FitsTokens z.cut u.place (p.layout.role n.number)) part.1.1
      (told_at w known p.path p is.is_checked (record { file = file; index = u.place }) n.number n.begins_at.0.0 n.stands part.0 part.1.0)

  -- what stands before a dot and names a package is the name of one to the world

  package_named : (before : ℕ) (path : List ℕ) → NamesPackage p file before path → IsOfKind f.cut (suc before) kind.Dot → IsBoundToPackage v f.cut before
  package_named before path n dot =
      let b : Position = record { file = file; index = before } in
      let k = n.binds.identifier in
      let found = n.binds.found in
      let t = part.0 in
      let dotted : IsOfKind t.cut (suc before) kind.Dot = subst (λ (z : SourceFile). IsOfKind z.cut (suc before) kind.Dot) (sym part.1.1) dot in
      let name = name_before_dot (source_of t) (subst IsSourceFile (sym part.1.1) source) before
      (marks_at w known p.path p is.is_checked b k found.within found.holds t part.1.0) dotted in
      subst (λ (z : SourceFile). IsBoundToPackage v z.cut before) part.1.1 (record {
        kind = name.0;
        of_kind = name.1.0;
        named = name.1.1;
        undotted =
            (λ d. never_bound p.layout p.names k n.import purpose.Selected
            ((told_at w known p.path p is.is_checked b k found.within found.holds t part.1.0).selected.1 d) n.binds.bound);
        names =
            one_name p (layout_formed w known p.path p is.is_checked) (files_in_order w known p.path p is.is_checked) file before (v.bound before)
            (Means PackageName) (judged.names before) (is_bound (by_scope n.binds (import_name n.imports)));
      })

  member_name : (n : IsNumber) → IsMemberToken v f.cut u.place → IsMemberName p n.number
  member_name n (as_key colon) = a_key ((told n).key.1 colon)
  member_name n (as_selected dot other) = a_selected ((told n).selected.1 dot) (λ path q.
      let index : (p.layout.place n.number).index ≡ suc (suc q.before) = q.behind_dot in
      let here : (p.layout.place n.number).index ≡ u.place = n.stands.2 in
      let back : suc (suc q.before) ≡ u.place = omega (arith, index, here) in
      let from : suc dot.0 ≡ u.place = dot.1.0 in
      let there : dot.0 ≡ suc q.before = omega (arith, back, from) in
      other q.before back
      (package_named q.before path (subst (λ k. NamesPackage p k q.before path) n.stands.1 q.named) (subst (λ i. IsOfKind f.cut i kind.Dot) there dot.1.1)))

  -- its member

  uses_there : (n : IsNumber) → AreUsesIn p (p.layout.place n.number).file (members_of (check_file v (is_init f) f.tree).uses)
  uses_there n = record {
    source = f;
    in_file = subst (λ k. slice_get p.files k ≡ Some f) (sym n.stands.1) at_file;
    world = v;
    judged_by = subst (λ k. IsWorldOf p k f v) (sym n.stands.1) judged;
    found = refl;
  }

  one : HasOneWorld p
  one = has_one_world p (layout_formed w known p.path p is.is_checked) (files_in_order w known p.path p is.is_checked)

  member_there : (n : IsNumber) (d : _) → BindsByMember p n.number d → (m : Member) × (v.member u.place u.before ≡ Some m)
  member_there n d b =
      let file_at = (p.layout.place n.number).file in
      let index = (p.layout.place n.number).index in
      let uses = members_of (check_file v (is_init f) f.tree).uses in
      let in_file : slice_get p.files file_at ≡ Some f = subst (λ k. slice_get p.files k ≡ Some f) (sym n.stands.1) at_file in
      let own_world : IsWorldOf p file_at f v = subst (λ k. IsWorldOf p k f v) (sym n.stands.1) judged in
      let lists : b.uses ≡ uses = one_list p one file_at b.uses uses b.judged (uses_there n) in
      let sources : b.judged.source ≡ f = same_Some b.judged.source f (sym b.judged.in_file ∙ in_file) in
      let worlds : b.judged.world ≡ v =
      one file_at f b.judged.world v (subst (λ z. IsWorldOf p file_at z b.judged.world) sources b.judged.judged_by) own_world in
      let among : Contains uses b.found = subst (λ us. Contains us b.found) lists b.is_use in
      let same : b.found ≡ u = one_at_token v (is_init f) f source b.found u among has (b.at ∙ n.stands.2) in (
        b.member,
        ap (λ i. v.member i u.before) (sym n.stands.2) ∙ ap (λ (x : MemberUse). v.member index x.before) (sym same)
            ∙ ap (λ (x : World). x.member index b.found.before) (sym worlds) ∙ b.is_member,
      )

  pub is_use_at : IsUseAt p file v u
  unfolding at place
  is_use_at =
      let n = numbered in
      let typed = file_typed w sound known right p is file f at_file v judged in
      let b = member_bound w known p.path p is.is_checked n.number n.begins_at.0 (members_of (check_file v (is_init f) f.tree).uses) (record {
        source = f;
        in_file = subst (λ k. slice_get p.files k ≡ Some f) (sym n.stands.1) at_file;
        world = v;
        judged_by = subst (λ k. IsWorldOf p k f v) (sym n.stands.1) judged;
        found = refl;
      }) typed (member_name n link) in
      let m = member_there n b.0 b.1 in
      record {
        place = place;
        number = n.number;
        begins = n.begins_at;
        stands = n.stands;
        begins_there = begins;
        member = m.0;
        is_member = m.1;
      }
