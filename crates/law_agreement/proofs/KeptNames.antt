-- A plain rename that keeps all bindings, and brings no fault: members correspond to themselves, and selectors of qualified identifiers stay
-- such.
use Rattle.std.proofs.Common.{ℕ, ◌≡◌, ◌<◌, inl, inr, List, ap, sym, subst, ◌∙◌}
use Rattle.std.specs.Prelude.{slice_get}
use Rattle.base_files.specs.Workspace.{Workspace}
use Rattle.base_files.specs.declared.place.Place.{Place}
use Rattle.base_edits.specs.EditSet.{FileChanges, edited}
use Rattle.base_edits.specs.Revisions.{Revision}
use Rattle.base_edits.specs.RevisionsOfEdits.{revision_of}
use Rattle.go_scope.specs.declared.model.Purpose.TheVariants as purpose
use Rattle.go_scope.specs.declared.model.Role.TheVariants.{NotLexical}
use Rattle.go_scope.specs.Bindings.{Layout, IsIdentifier, is_implied}
use Rattle.types_declared.specs.Laid.{literal_of}
use Rattle.types_declared.specs.Package.{Package}
use Rattle.workspace_check.specs.Verdicts.{Verdicts}
use Rattle.workspace_check.proofs.OnePackage.{files_in_order}
use Rattle.refs_binding.specs.declared.declaration.Declaration.{Declaration}
use Rattle.refs_binding.specs.declared.declaration.Declaration.TheVariants.{Predeclared, Declared}
use Rattle.refs_binding.specs.Binding.{BindsByMember, DeclaresMember, by_member}
use Rattle.refs_binding.specs.DeclaringPlaces.{TokenAt}
use Rattle.refs_binding.specs.Identifiers.{BeginsAt, IsInFiles}
use Rattle.refs_binding.specs.Uses.{IsCheckedPackage, IsBoundToDeclaration, IsUseOf}
use Rattle.refs_binding.proofs.Folders.{begins_in_folder}
use Rattle.refs_binding.proofs.Units.{one_package}
use Rattle.refs_lookup.proofs.BoundNamedMembers.{one_by_name}
use Rattle.refs_lookup.proofs.ExportedNames.{bound_behind}
use Rattle.refs_lookup.proofs.NamedMembers.{name_member}
use Rattle.refs_lookup.proofs.OneDeclaration.{one_declaration, same_package}
use Rattle.refs_lookup.proofs.OnePlace.{one_begins}
use Rattle.refactor_conflict.specs.Corresponding.{Corresponds}
use Rattle.refactor_conflict.proofs.Becoming.{StandBoth, by_cases}
use Rattle.law_renamed_workspaces.specs.Layouts.{IsRelaid}
use Rattle.law_renamed_workspaces.proofs.Relaid.{packages_are}
use Rattle.law_renamed_workspaces.proofs.Apart.{literal_stands, name_token, one_stands}
use Rattle.law_renamed_workspaces.proofs.FilesAfter.{token_moves}
use Rattle.law_renamed_workspaces.proofs.RenamedScopesNameTokens.{is_named}
use Rattle.law_renamed_workspaces.proofs.Standing.{begins_there, named_stands}
use Rattle.law_agreement.proofs.Followed.{moved_tokens}
use Rattle.law_agreement.proofs.Moving.{kept_below}
use Rattle.law_agreement.proofs.Premises.{IsKeptRename, SelectorsStayQualified}
use Rattle.law_agreement.proofs.UnboundStay.{declared_before}
use Rattle.law_agreement.proofs.MemberPlaces.{IsMember, named_there, token_folder, literal_no_member, used_member, selected_within}

module _ (w : Workspace) (known : Verdicts) (d : Declaration) (name : List ℕ) (s : FileChanges) (after : Verdicts)
    (kept : IsKeptRename w known d name s after) where
  abbrev r : Revision
  r = revision_of w s

  abbrev x : Workspace
  x = edited s w

  -- each package is there afterwards, relaid
  pub there : (p : Package) → IsCheckedPackage w known p → (q : Package) × (IsCheckedPackage x after q × IsRelaid r p q)
  there p is = packages_are w known after d name s kept.rename kept.right p is (kept_below w known d name s after kept p.path)

  pub begins_moved : (p : Package) (is : IsCheckedPackage w known p) (u : ℕ) (place : Place) → BeginsAt p place.path place.offset u →
      BeginsAt (there p is).0 (r.moved place).path (r.moved place).offset u
  begins_moved p is u place b =
      let q = there p is in (moved_tokens w known after d name s kept.rename p q.0 is q.1.0 q.1.1).names u place b

  -- an identifier and what it is bound to afterwards
  pub bound_after : (p : Package) (is : IsCheckedPackage w known p) (u : ℕ) (place : Place) → BeginsAt p place.path place.offset u → (e : Declaration) →
      IsUseOf x after e (r.moved place) → IsBoundToDeclaration x after (there p is).0 u e
  bound_after p is u place b e now =
      let q = there p is in
      let to = r.moved place in
      let begins = begins_moved p is u place b in
      let same : now.used_in ≡ q.0 = same_package x after to now.used_in q.0 now.is_package q.1.0 now.user u now.begins begins in
      let own : BeginsAt q.0 to.path to.offset now.user = subst (λ (z : Package). BeginsAt z to.path to.offset now.user) same now.begins in
      let user : now.user ≡ u = one_begins x after q.0.path q.0 q.1.0.is_checked to.path to.offset now.user u own begins in
      subst (λ v. IsBoundToDeclaration x after q.0 v e) user (subst (λ (z : Package). IsBoundToDeclaration x after z now.user e) same now.bound)

  abbrev Goes : Declaration → Declaration → Type 0
  Goes old e = Corresponds (IsCheckedPackage w known) (IsCheckedPackage x after) r.moved old e

  predeclared_no_member : (old : Declaration) (n : ℕ) → old ≡ Predeclared n → IsMember old → ⊥
  predeclared_no_member old n same m = subst IsMember same m

  -- members that correspond are one
  members_stand : (old e : Declaration) → IsMember old → IsMember e → StandBoth (IsCheckedPackage w known) (IsCheckedPackage x after) r.moved old e → e ≡ old
  members_stand old e m n t =
      let to = r.moved t.place in
      let a = named_there w known old m t.place t.old in
      let b = named_there x after e n to t.new in
      let p = a.inside in
      let q = there p a.is_package in
      let begins = begins_moved p a.is_package a.user t.place a.begins in
      let same : b.inside ≡ q.0 = same_package x after to b.inside q.0 b.is_package q.1.0 b.user a.user b.begins begins in
      let own : BeginsAt q.0 to.path to.offset b.user = subst (λ (z : Package). BeginsAt z to.path to.offset b.user) same b.begins in
      let user : b.user ≡ a.user = one_begins x after q.0.path q.0 q.1.0.is_checked to.path to.offset b.user a.user own begins in
      let there_too : DeclaresMember q.0 a.user e =
      subst (λ v. DeclaresMember q.0 v e) user (subst (λ (z : Package). DeclaresMember z b.user e) same b.declares) in
      let was : DeclaresMember p a.user e =
      declared_before w kept.rename.rename.sound known kept.rename.rename.right p a.is_package r q.0 q.1.1 a.user e there_too in
      one_by_name p (files_in_order w known p.path p a.is_package.is_checked) a.user e old was a.declares

  pub same_member : (old e : Declaration) → IsMember old → IsMember e → Goes old e → e ≡ old
  same_member old e m n h = elim (by_cases (IsCheckedPackage w known) (IsCheckedPackage x after) r.moved old e h) [
    | inl names ↦ absurd (predeclared_no_member old names.number names.one m)
    | inr t ↦ members_stand old e m n t
  ]

  -- what scopes declare corresponds to no member
  scopes_apart : (path : List ℕ) (n : ℕ) (e : Declaration) → IsMember e →
      StandBoth (IsCheckedPackage w known) (IsCheckedPackage x after) r.moved (Declared path n) e → ⊥
  scopes_apart path n e m t =
      let to = r.moved t.place in
      let c = t.old.inside in
      let is = t.old.is_package in
      let h = t.old.holds in
      let q = there c is in
      let b = named_there x after e m to t.new in
      let l = literal_of c.layout n in
      let old_token : TokenAt c (c.layout.place l) t.place = subst (λ a. TokenAt c a t.place) (sym h.is_at.stands) h.begins in
      let old_moved : TokenAt q.0 (c.layout.place l) to =
      token_moves w known after d name s kept.rename c q.0 is q.1.0 q.1.1.path (c.layout.place l) t.place old_token in
      let token : TokenAt q.0 (q.0.layout.place l) to = subst (λ (k : Layout). TokenAt q.0 (k.place l) to) (sym q.1.1.layout) old_moved in
      let paths : b.inside.path ≡ q.0.path =
      begins_in_folder x after b.inside b.is_package to.path to.offset b.user b.begins
      ∙ token_folder x after q.0 q.1.0 (q.0.layout.place l) to token in
      let same : b.inside ≡ q.0 = one_package x after b.inside q.0 b.is_package q.1.0 paths in
      let begins : BeginsAt q.0 to.path to.offset b.user = subst (λ (z : Package). BeginsAt z to.path to.offset b.user) same b.begins in
      let declares : DeclaresMember q.0 b.user e = subst (λ (z : Package). DeclaresMember z b.user e) same b.declares in
      let stands = literal_stands w known c.path c is.is_checked n h.is_at.counts h.is_at.own in
      let within : l < q.0.size = subst (λ k. l < k) (sym q.1.1.size) stands.0 in
      let identifies : IsIdentifier q.0.layout l = subst (λ (k : Layout). IsIdentifier k l) (sym q.1.1.layout) stands.1 in
      let at = q.0.layout.place b.user in
      let own : TokenAt q.0 at to = name_token (slice_get q.0.files at.file) at.index to begins.1 in
      let one : l ≡ b.user =
      one_stands x after q.0.path q.0 q.1.0.is_checked l b.user to within begins.0.0 identifies begins.0.1 token own in
      let role : q.0.layout.role b.user ≡ NotLexical purpose.Member = name_member x after q.0.path q.0 q.1.0.is_checked b.user e begins.0.0 declares in
      literal_no_member c.layout n h.is_at.counts.declares.may
      (ap (λ (k : Layout). k.role l) (sym q.1.1.layout) ∙ ap q.0.layout.role one ∙ role)

  pub declared_no_member : (path : List ℕ) (n : ℕ) (e : Declaration) → Goes (Declared path n) e → IsMember e → ⊥
  declared_no_member path n e h m = elim (by_cases (IsCheckedPackage w known) (IsCheckedPackage x after) r.moved (Declared path n) e h) [
    | inl names ↦ (let z : Declared path n ≡ Predeclared names.number = names.one in let no : ⊥ = cc in no)
    | inr t ↦ scopes_apart path n e m t
  ]

-- The selector of a qualified identifier does not become a use of a member.
pub selectors_stay : SelectorsStayQualified
selectors_stay w known d name s after kept p q is also paths u path behind e b =
    let x = edited s w in
    let rename = kept.rename.rename in
    let lt = selected_within w known p.path p is.is_checked u behind.selected in
    let at = begins_there p u lt (ap is_implied behind.selected) (named_stands w known p.path p is.is_checked u lt (ap is_named behind.selected)) in
    let k = bound_behind w rename.sound known rename.right p is u at.1.0 path behind in
    let one = kept.kept.keeps at.0 (Declared path k.0) (record { used_in = p; is_package = is; user = u; begins = at.1; bound = k.1 }) in
    let t = there w known d name s after kept p is in
    let bound = bound_after w known d name s after kept p is u at.0 at.1 one.declaration one.is_use in
    let same : q ≡ t.0 = one_package x after q t.0 also t.1.0 (paths ∙ sym t.1.1.path) in
    let member : BindsByMember t.0 u e = subst (λ (z : Package). BindsByMember z u e) same b in
    let inside : IsInFiles t.0 u = (begins_moved w known d name s after kept p is u at.0 at.1).0 in
    let e_is : one.declaration ≡ e = one_declaration x after t.0 t.1.0 u inside one.declaration e bound (by_member member) in
    declared_no_member w known d name s after kept path k.0 one.declaration one.holds (subst IsMember (sym e_is) (used_member q u e b))
