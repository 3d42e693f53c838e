-- A package that uses a member is the one that declares it, or builds on that one.
use Rattle.std.proofs.Common.{ℕ, ◌≡◌, inl, inr, Bool, true, false, List, [], if◌then◌else◌, ap, sym, subst, refl, ◌∙◌}
use Rattle.std.specs.Prelude.{Option, Some, None}
use Rattle.std.proofs.lemmas.Option.{none-some, same_Some}
use Rattle.base_files.specs.Workspace.{Workspace}
use Rattle.go_ast.specs.SourceFile.{spelling_of}
use Rattle.types_expr.specs.declared.symbol.Symbol.{Symbol}
use Rattle.types_expr.specs.Types.{PlainType}
use Rattle.types_expr.specs.World.{Definition, Field as StructField, Method as TypeMethod, Member, AField, a_method, field_owner, owner, is_seen}
use Rattle.types_expr.specs.World.{seen_field, seen_method, field_of, method_of, first_member, member_by}
use Rattle.types_declared.proofs.ByteKeys.{cases_bytes}
use Rattle.types_declared.specs.Package.{Package, ExportData}
use Rattle.types_declared.specs.Definitions.{IsFoundField, IsFoundMethod, AreDefinitions}
use Rattle.workspace_check.specs.FaultLists.{ListsFaults}
use Rattle.workspace_check.specs.Verdicts.{Verdicts, AreVerdicts, BuildsOn, IsSeenAs, seen, unseen}
use Rattle.refs_binding.specs.declared.declaration.Declaration.{Declaration}
use Rattle.refs_binding.specs.declared.declaration.Declaration.TheVariants.{Field, Method}
use Rattle.refs_binding.specs.Binding.{BindsByMember, declaration_of}
use Rattle.refs_binding.specs.Uses.{IsCheckedPackage}
use Rattle.refs_binding.proofs.MemberParts.{method_declared}
use Rattle.law_renamed_workspaces.proofs.SeenDefinitions.{definition_at}
use Rattle.law_renamed_workspaces.specs.Reaching.{ReachesPath, home_of, UsersReachMembers}
use Rattle.law_renamed_workspaces.proofs.SeenStructs.{sight}

-- a seen member

chosen : {X : Type 0} (b : Bool) (g f : X) → (if b then Some g else None) ≡ Some f → (g ≡ f) × (b ≡ true)
chosen true g f e = (same_Some g f e, refl)
chosen false g f e = absurd (none-some f e)

pub field_there : (own : List ℕ) (o : Option StructField) (f : StructField) → seen_field own o ≡ Some f →
    (o ≡ Some f) × (is_seen own f.symbol f.exported ≡ true)
field_there own None f e = absurd (none-some f e)
field_there own (Some g) f e =
    let k = chosen (is_seen own g.symbol g.exported) g f e in
    (ap Some k.0, subst (λ (x : StructField). is_seen own x.symbol x.exported ≡ true) k.0 k.1)

pub method_there : (own : List ℕ) (o : Option TypeMethod) (f : TypeMethod) → seen_method own o ≡ Some f →
    (o ≡ Some f) × (is_seen own f.symbol f.exported ≡ true)
method_there own None f e = absurd (none-some f e)
method_there own (Some g) f e =
    let k = chosen (is_seen own g.symbol g.exported) g f e in
    (ap Some k.0, subst (λ (x : TypeMethod). is_seen own x.symbol x.exported ≡ true) k.0 k.1)

-- which kind of member is the first
pub data FirstIs (f : Option StructField) (n : Option TypeMethod) (m : Member) : Type 0 where
  a_field : (x : StructField) → f ≡ Some x → declaration_of m ≡ Field x.symbol → FirstIs f n m
  no_field : (x : TypeMethod) → f ≡ None → n ≡ Some x → declaration_of m ≡ Method x.symbol → FirstIs f n m

pub first_is : (f : Option StructField) (n : Option TypeMethod) (m : Member) → first_member f n ≡ Some m → FirstIs f n m
first_is (Some x) n m e = a_field x refl (sym (ap declaration_of (same_Some (AField x.symbol x.form) m e)))
first_is None None m e = absurd (none-some m e)
first_is None (Some x) m e =
    no_field x refl refl
    (sym (ap declaration_of (same_Some (a_method x.symbol x.on_pointer x.signature) m e)) ∙ method_declared x.symbol x.on_pointer x.signature)

-- a definition that is seen to have a method is one of a package that is seen
method_of_seen : (w : Workspace) (known : Verdicts) (p q : List ℕ) (n : Option (List ℕ)) (i : ExportData) → IsSeenAs w known p q n i → (rank : ℕ)
    (m : List ℕ) (f : TypeMethod) → (i.definition rank).method m ≡ Some f → BuildsOn w p q
method_of_seen w known p q _ _ (seen on sees) rank m f e = on
method_of_seen w known p q _ _ (unseen none) rank m f e = absurd (none-some f e)

-- so is one that is seen to have a field
field_of_seen : (w : Workspace) (known : Verdicts) (p q : List ℕ) (n : Option (List ℕ)) (i : ExportData) → IsSeenAs w known p q n i → (rank : ℕ)
    (m : List ℕ) (f : StructField) → (i.definition rank).field m ≡ Some f → BuildsOn w p q
field_of_seen w known p q _ _ (seen on sees) rank m f e = on
field_of_seen w known p q _ _ (unseen none) rank m f e = absurd (none-some f e)

module _ (w : Workspace) (sound : ListsFaults w []) (known : Verdicts) (right : AreVerdicts w known) (x : Package) (is : IsCheckedPackage w known x) where
  module _ (definitions : Symbol → Definition) (are : AreDefinitions x definitions) (m : List ℕ) where
    -- the type of which a method is selected is at home
    pub owner_reached : (s : Symbol) (f : TypeMethod) → (definitions s).method m ≡ Some f → ReachesPath w x.path s.package
    owner_reached s f e = elim (cases_bytes s.package x.path) [
      | inl own ↦ inl own
      | inr other ↦
          (let v = sight w sound known right x is s.package in
          let there : ((x.export_data_of s.package).definition s.rank).method m ≡ Some f =
          sym (ap (λ (d : Definition). d.method m) (are.imported s.package s.rank other)) ∙ e in
          inr (method_of_seen w known x.path s.package v.0 (x.export_data_of s.package) v.1 s.rank m f there))
    ]

    -- so is the struct of which a field is selected
    pub struct_reached_by : (st : Symbol) (f : StructField) → (definitions st).field m ≡ Some f → ReachesPath w x.path st.package
    struct_reached_by st f e = elim (cases_bytes st.package x.path) [
      | inl own ↦ inl own
      | inr other ↦
          (let v = sight w sound known right x is st.package in
          let there : ((x.export_data_of st.package).definition st.rank).field m ≡ Some f =
          sym (ap (λ (d : Definition). d.field m) (are.imported st.package st.rank other)) ∙ e in
          inr (field_of_seen w known x.path st.package v.0 (x.export_data_of st.package) v.1 st.rank m f there))
    ]

    -- so the package reaches that of the field or method
    field_home : (st : Symbol) (f : StructField) → (definitions st).field m ≡ Some f → ReachesPath w x.path f.symbol.package
    field_home st f e = elim (definition_at w known right x is definitions are st) [
      | inl i ↦
          (let k = subst (IsFoundField i.inside st.rank m) e (i.is_definition.fields m) in
          subst (ReachesPath w x.path) (sym (ap (λ (y : Symbol). y.package) k.1.2 ∙ i.of_path)) (struct_reached_by st f e))
      | inr nothing ↦ absurd (none-some f (sym (ap (λ (d : Definition). d.field m) nothing) ∙ e))
    ]

    method_home : (s : Symbol) (f : TypeMethod) → (definitions s).method m ≡ Some f → ReachesPath w x.path f.symbol.package
    method_home s f e = elim (definition_at w known right x is definitions are s) [
      | inl i ↦
          (let k = subst (IsFoundMethod i.inside s.rank m) e (i.is_definition.methods m) in
          subst (ReachesPath w x.path) (sym (ap (λ (y : Symbol). y.package) k.4 ∙ i.of_path)) (owner_reached s f e))
      | inr nothing ↦ absurd (none-some f (sym (ap (λ (d : Definition). d.method m) nothing) ∙ e))
    ]

    field_by : (o : Option Symbol) (f : StructField) → field_of definitions x.path m o ≡ Some f → ReachesPath w x.path f.symbol.package
    field_by None f e = absurd (none-some f e)
    field_by (Some st) f e = field_home st f (field_there x.path ((definitions st).field m) f e).0

    method_by : (o : Option Symbol) (f : TypeMethod) → method_of definitions x.path m o ≡ Some f → ReachesPath w x.path f.symbol.package
    method_by None f e = absurd (none-some f e)
    method_by (Some s) f e = method_home s f (method_there x.path ((definitions s).method m) f e).0

    by_first : (a b : Option Symbol) (found : Member) → FirstIs (field_of definitions x.path m a) (method_of definitions x.path m b) found →
        ReachesPath w x.path (home_of (declaration_of found))
    by_first a b found (a_field f there of) = subst (λ e. ReachesPath w x.path (home_of e)) (sym of) (field_by a f there)
    by_first a b found (no_field f none there of) = subst (λ e. ReachesPath w x.path (home_of e)) (sym of) (method_by b f there)

    member_home : (t : PlainType) (found : Member) → member_by definitions x.path m t ≡ Some found → ReachesPath w x.path (home_of (declaration_of found))
    unfolding member_by
    member_home t found e =
        let o = field_owner (λ y. (definitions y).underlying) t in
        by_first o (owner t) found (first_is (field_of definitions x.path m o) (method_of definitions x.path m (owner t)) found e)

  pub reached : (u : ℕ) (e : Declaration) → BindsByMember x u e → ReachesPath w x.path (home_of e)
  reached u e was =
      let j = was.judged in
      let v = j.judged_by in
      let i = (x.layout.place u).index in
      subst (λ k. ReachesPath w x.path (home_of k)) was.declares
      (member_home v.definitions v.are_definitions (spelling_of j.source i) was.found.before was.member
      (sym (v.member i was.found.before) ∙ was.is_member))

pub users_reach : UsersReachMembers
users_reach w known sound right x is u e was = reached w sound known right x is u e was
