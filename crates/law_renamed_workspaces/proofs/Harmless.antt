-- Which types implement which interfaces stays in what each package sees, where it stays in the whole workspace. In a rename of a declaration of
-- scopes it does.
use Rattle.std.proofs.Common.{ℕ, ◌≡◌, ◌⊎◌, inl, inr, Bool, true, false, List, [], ap, sym, subst, refl, ◌∙◌}
use Rattle.std.specs.Prelude.{◌↔◌, Option, Some, None, option_map, slice_get}
use Rattle.std.proofs.Math.Path.{fun_ext}
use Rattle.std.proofs.lemmas.Bool.{true≢false}
use Rattle.std.proofs.lemmas.Option.{same_Some}
use Rattle.base_edits.specs.EditSet.{FileChanges, edited}
use Rattle.base_edits.specs.Revisions.{Revision}
use Rattle.base_edits.specs.RevisionsOfEdits.{revision_of}
use Rattle.base_files.specs.Packages.{package_paths}
use Rattle.base_files.specs.Workspace.{Workspace}
use Rattle.types_expr.specs.declared.symbol.Symbol.{Symbol}
use Rattle.types_expr.specs.Types.{PlainType, BasicType, Defined, Pointer, Slice, is_interface}
use Rattle.types_expr.specs.World.{Definition, Field, Method, Implements}
use Rattle.types_expr.specs.WorldView.{no_definition}
use Rattle.types_declared.specs.Package.{Package, PlacedType, PlacedFunction, package_types, spelled}
use Rattle.types_declared.specs.Definitions.{IsFoundField, IsFoundMethod, IsDefinition, AreDefinitions, PlacedField}
use Rattle.workspace_check.specs.FaultLists.{ListsFaults}
use Rattle.workspace_check.specs.Verdicts.{Verdicts, AreVerdicts, BuildsOn}
use Rattle.workspace_check.proofs.SameImports.{imports_back, builds_by}
use Rattle.refs_binding.specs.declared.declaration.Declaration.{Declaration}
use Rattle.refs_binding.specs.declared.declaration.Declaration.TheVariants.{Declared}
use Rattle.refs_binding.specs.Uses.{IsCheckedPackage}
use Rattle.refactor_conflict.specs.Staying.{NoneIsLost}
use Rattle.law_changed_types.proofs.Alike.{Alike, of_bound}
use Rattle.law_renamed_workspaces.specs.Harmless.{IsHarmless, ScopeRenamesAreHarmless}
use Rattle.law_renamed_workspaces.specs.Layouts.{IsRelaid}
use Rattle.law_renamed_workspaces.specs.MembersMoved.{AreSeenAfter}
use Rattle.law_renamed_workspaces.specs.MovedExports.{field_called, method_called}
use Rattle.law_renamed_workspaces.specs.Renames.{IsPlainRename}
use Rattle.law_renamed_workspaces.proofs.NewMembers.{new_definition, SomeField, SomeMethod, field_by, method_by, find_field, find_method}
use Rattle.law_renamed_workspaces.proofs.NewLookups.{same_definition, moved_field, old_field}
use Rattle.law_renamed_workspaces.proofs.Packages.{same_imports}
use Rattle.law_renamed_workspaces.proofs.ScopeRenames.{field_names_stay, method_names_stay}
use Rattle.law_renamed_workspaces.proofs.SeenLookups.{listed_or_not, IsListed, home_there, before_by, built_of, after_by, all_before, all_after, HasTypeAt}
use Rattle.law_renamed_workspaces.proofs.SeenLookups.{Reached, agree_old, agree_new, home_old, home_new, IsReachedType, IsUnknown, known_or_not, type_at}
use Rattle.law_renamed_workspaces.proofs.SeenStructs as structs
use Rattle.law_renamed_workspaces.proofs.SetLookups.{type_behind, implements_there, implements_here, HasNoMethods, none_of_unknown, none_of_basic}
use Rattle.law_renamed_workspaces.proofs.SetLookups.{none_of_slice, none_of_basic_pointer, none_of_slice_pointer, none_of_two_pointers, nothing_implements}

-- In the whole workspace the same types implement the same interfaces after the change.
abbrev pub AllImplementAlike : (w : Workspace) → ListsFaults w [] → (known : Verdicts) → AreVerdicts w known → Revision → Type 0
AllImplementAlike w sound known right r = (star : Bool) (s i : Symbol) → HasTypeAt w sound known right s → HasTypeAt w sound known right i →
    Implements (all_before w sound known right) (type_behind star s) i ↔ Implements (all_after w sound known right r) (type_behind star s) i

-- what is not known is no interface
no_interface : (o : Symbol → Definition) (t : PlainType) (i : Symbol) → o i ≡ no_definition i → Implements o t i → ⊥
no_interface o t i e h = true≢false (sym h.writes_one ∙ ap (λ (d : Definition). is_interface d.underlying) e)

module _ (w : Workspace) (sound : ListsFaults w []) (known : Verdicts) (right : AreVerdicts w known) (r : Revision) (none_lost : NoneIsLost w known r)
    (all_alike : AllImplementAlike w sound known right r) (after : Verdicts) (p q : Package) (is : IsCheckedPackage w known p)
    (also : IsCheckedPackage r.after after q) (relaid : IsRelaid r p q) (alike : Alike p q) (seen_after : AreSeenAfter (IsCheckedPackage w known) r p q)
    (builds : (o : List ℕ) → BuildsOn r.after q.path o → BuildsOn w p.path o) (old new : Symbol → Definition) (olds : AreDefinitions p old)
    (news : AreDefinitions q new) where
  abbrev IsReached : Symbol → Type 0
  IsReached s = Reached w sound known right r none_lost after p q is also relaid alike seen_after builds old new olds news s

  abbrev IsThere : Symbol → Type 0
  IsThere s = IsReachedType w sound known right r none_lost after p q is also relaid alike seen_after builds old new olds news s

  abbrev IsNowhere : Symbol → Type 0
  IsNowhere s = IsUnknown w sound known right r none_lost after p q is also relaid alike seen_after builds old new olds news s

  agrees : (s : Symbol) → IsReached s → old s ≡ all_before w sound known right s
  agrees s reach = agree_old w sound known right r none_lost after p q is also relaid alike seen_after builds old new olds news s reach

  agrees_now : (s : Symbol) → IsReached s → new s ≡ all_after w sound known right r s
  agrees_now s reach = agree_new w sound known right r none_lost after p q is also relaid alike seen_after builds old new olds news s reach

  there_or_nowhere : (s : Symbol) → IsThere s ⊎ IsNowhere s
  there_or_nowhere s = known_or_not w sound known right r none_lost after p q is also relaid alike seen_after builds old new olds news s

  at : (s : Symbol) → IsThere s → HasTypeAt w sound known right s
  at s h = type_at w sound known right r none_lost after p q is also relaid alike seen_after builds old new olds news s h

  -- a type without methods

  written_before : (i : Symbol) → IsThere i → (name : List ℕ) (g : Field) → (new i).field name ≡ Some g →
      (before : List ℕ) × ((f : Field) × (((old i).field before ≡ Some f) × (g.form ≡ f.form)))
  written_before i h name g e =
      let x = old_field w sound known right h.inside h.is_inside r none_lost i.rank (old i) (new i) h.was h.is_moved name g e in
      (x.old, (x.field, (x.stood, ap (λ (z : Field). z.form) x.same)))

  written_after : (i : Symbol) → IsThere i → (name : List ℕ) (f : Field) → (old i).field name ≡ Some f →
      (afterwards : List ℕ) × ((g : Field) × (((new i).field afterwards ≡ Some g) × (f.form ≡ g.form)))
  written_after i h name f e =
      let x = moved_field w sound known right h.inside h.is_inside r none_lost i.rank (old i) (new i) h.was h.is_moved name f e in
      (x.name, (field_called x.name f, (x.stands, refl)))

  without_methods : (t : PlainType) (i : Symbol) → IsThere i → HasNoMethods old t → HasNoMethods new t → Implements old t i ↔ Implements new t i
  without_methods t i h none none_now = (
    nothing_implements old new t i none none_now h.is_moved.underlying (written_before i h),
    nothing_implements new old t i none_now none (sym h.is_moved.underlying) (written_after i h),
  )

  -- a type definition, or a pointer to it
  of_symbol : (star : Bool) (s i : Symbol) → IsThere i → IsThere s ⊎ IsNowhere s → Implements old (type_behind star s) i ↔ Implements new (type_behind star s) i
  of_symbol star s i h (inr n) =
      without_methods (type_behind star s) i h (none_of_unknown old star s n.before) (none_of_unknown new star s n.afterwards)
  of_symbol star s i h (inl t) =
      let home = home_old w sound known right r none_lost after p q is also relaid alike seen_after builds old new olds news in
      let home_now = home_new w sound known right r none_lost after p q is also relaid alike seen_after builds old new olds news in
      let before = all_before w sound known right in
      let afterwards = all_after w sound known right r in
      let both = all_alike star s i (at s t) (at i h) in (
        (λ k. implements_here new afterwards IsReached agrees_now home_now star s i t.reach h.reach
            (both.0 (implements_there old before IsReached agrees home star s i t.reach h.reach k))),
        (λ k. implements_here old before IsReached agrees home star s i t.reach h.reach
            (both.1 (implements_there new afterwards IsReached agrees_now home_now star s i t.reach h.reach k))),
      )

  of_type : (t : PlainType) (i : Symbol) → IsThere i → Implements old t i ↔ Implements new t i
  of_type (BasicType b) i h = without_methods (BasicType b) i h (none_of_basic old b) (none_of_basic new b)
  of_type (Slice t) i h = without_methods (Slice t) i h (none_of_slice old t) (none_of_slice new t)
  of_type (Defined s) i h = of_symbol false s i h (there_or_nowhere s)
  of_type (Pointer (Defined s)) i h = of_symbol true s i h (there_or_nowhere s)
  of_type (Pointer (BasicType b)) i h = without_methods (Pointer (BasicType b)) i h (none_of_basic_pointer old b) (none_of_basic_pointer new b)
  of_type (Pointer (Slice t)) i h = without_methods (Pointer (Slice t)) i h (none_of_slice_pointer old t) (none_of_slice_pointer new t)
  of_type (Pointer (Pointer t)) i h = without_methods (Pointer (Pointer t)) i h (none_of_two_pointers old t) (none_of_two_pointers new t)

  by_interface : (t : PlainType) (i : Symbol) → IsThere i ⊎ IsNowhere i → Implements old t i ↔ Implements new t i
  by_interface t i (inl h) = of_type t i h
  by_interface t i (inr n) = ((λ k. absurd (no_interface old t i n.before k)), (λ k. absurd (no_interface new t i n.afterwards k)))

  implement_alike : (t : PlainType) (i : Symbol) → Implements old t i ↔ Implements new t i
  implement_alike t i = by_interface t i (there_or_nowhere i)

-- So a plain rename that loses and captures no identifier is harmless where the same types implement the same interfaces.
pub harmless : (w : Workspace) (known : Verdicts) (d : Declaration) (name : List ℕ) (s : FileChanges) (plain : IsPlainRename w known d name s) →
    NoneIsLost w known (revision_of w s) → AllImplementAlike w plain.rename.sound known plain.rename.right (revision_of w s) →
    IsHarmless w known (revision_of w s)
harmless w known d name s plain none_lost all_alike = record {
  none_lost = none_lost;
  implementing = λ after p q is also relaid bound seen old new olds news t i.
      implement_alike w plain.rename.sound known plain.rename.right (revision_of w s) none_lost all_alike after p q is also relaid (of_bound p q bound) seen
      (builds q p relaid.path) old new olds news t i;
}
  where
    builds : (q p : Package) → q.path ≡ p.path → (o : List ℕ) → BuildsOn (edited s w) q.path o → BuildsOn w p.path o
    builds q p same o on =
        builds_by (edited s w) w (imports_back w (edited s w) (same_imports w known d name s plain)) p.path o
        (subst (λ path. BuildsOn (edited s w) path o) same on)

-- A rename of a declaration of scopes

-- a member under the name that it has
called_as : (y : Package) (d : ℕ) (name : List ℕ) (o : Option Field) → IsFoundField y d name o → option_map (field_called name) o ≡ o
called_as y d name None none = refl
called_as y d name (Some x) found =
    let made : Bool → Option Field = λ e. Some (record { symbol = x.symbol; exported = e; form = x.form }) in ap made (sym found.1.3)

method_called_as : (y : Package) (d : ℕ) (name : List ℕ) (o : Option Method) → IsFoundMethod y d name o → option_map (method_called name) o ≡ o
method_called_as y d name None none = refl
method_called_as y d name (Some x) found =
    let made : Bool → Option Method = λ e. Some (record { symbol = x.symbol; exported = e; on_pointer = x.on_pointer; signature = x.signature }) in
    ap made (sym found.5)

module _ (w : Workspace) (known : Verdicts) (path : List ℕ) (n : ℕ) (name : List ℕ) (s : FileChanges)
    (plain : IsPlainRename w known (Declared path n) name s) where
  abbrev r : Revision
  r = revision_of w s

  module _ (y : Package) (also : IsCheckedPackage w known y) (d : ℕ) (a : Definition) (is : IsDefinition y d a) where
    field_stays : (called : List ℕ) (o : SomeField w known r y also d called) → field_by w known r y also a d called o ≡ a.field called
    field_stays called (inl h) =
        let c = (field_names_stay w known path n name s plain y also d called h.0).0 h.1 in
        let same : h.1.field ≡ c.0 = same_Some h.1.field c.0 (sym h.1.has_rank ∙ c.1.has_rank) in
        let spelled_so : spelled y h.1.field.file h.1.field.name ≡ called = ap (λ (f : PlacedField). spelled y f.file f.name) same ∙ c.1.named in
        ap (λ (old : List ℕ). option_map (field_called called) (a.field old)) spelled_so ∙ called_as y d called (a.field called) (is.fields called)
    field_stays called (inr none) = by_field (a.field called) refl (is.fields called)
      where
        by_field : (o : Option Field) → a.field called ≡ o → IsFoundField y d called o → None ≡ a.field called
        by_field None e found = sym e
        by_field (Some x) e found =
            absurd (none x.symbol.rank ((field_names_stay w known path n name s plain y also d called x.symbol.rank).1 (found.0, found.1.0.is_field)))

    method_stays : (called : List ℕ) (o : SomeMethod w known r y also d called) → method_by w known r y also a d called o ≡ a.method called
    method_stays called (inl h) =
        let c = (method_names_stay w known path n name s plain y also d called h.0).0 h.1 in
        let same : h.1.method ≡ c.0 = same_Some h.1.method c.0 (sym h.1.has_rank ∙ c.1.has_rank) in
        let spelled_so : spelled y h.1.method.file h.1.method.function.name ≡ called =
        ap (λ (f : PlacedFunction). spelled y f.file f.function.name) same ∙ c.1.named in
        ap (λ (old : List ℕ). option_map (method_called called) (a.method old)) spelled_so
        ∙ method_called_as y d called (a.method called) (is.methods called)
    method_stays called (inr none) = by_method (a.method called) refl (is.methods called)
      where
        by_method : (o : Option Method) → a.method called ≡ o → IsFoundMethod y d called o → None ≡ a.method called
        by_method None e found = sym e
        by_method (Some x) e found =
            absurd (none x.symbol.rank ((method_names_stay w known path n name s plain y also d called x.symbol.rank).1 (found.0, found.1.is_method)))

    stays : new_definition w known r y also a d ≡ a
    stays = same_definition (new_definition w known r y also a d) a refl (λ called. field_stays called (find_field w known r y also d called))
        (λ called. method_stays called (find_method w known r y also d called))

  abbrev sound : ListsFaults w []
  sound = plain.rename.sound

  abbrev right : AreVerdicts w known
  right = plain.rename.right

  module _ (t : Symbol) (has : IsListed w sound known right t) where
    abbrev y : structs.IsThere w sound known right t.package
    y = home_there w sound known right t has

    by_type : (o : Option PlacedType) → slice_get (package_types y.checked) t.rank ≡ o →
        built_of w sound known right r y.checked y.is_package t o ≡ (known t.package).export_data.definition t.rank
    by_type None at =
        ap (λ (q : List ℕ). no_definition (record { «package» = q; rank = t.rank })) (sym y.of_path) ∙ sym (y.export_data.beyond t.rank at)
    by_type (Some d) at =
        stays y.checked y.is_package t.rank ((known t.package).export_data.definition t.rank) (y.export_data.definitions t.rank d at)

  all_stay : (t : Symbol) (o : IsListed w sound known right t ⊎ (IsListed w sound known right t → ⊥)) →
      after_by w sound known right r t o ≡ before_by w sound known right t o
  all_stay t (inr none) = refl
  all_stay t (inl has) = by_type t has (slice_get (package_types (home_there w sound known right t has).checked) t.rank) refl

  pub all_same : all_before w sound known right ≡ all_after w sound known right r
  all_same = fun_ext (λ t. sym (all_stay t (listed_or_not (package_paths w) t.package)))

  -- Such a rename is harmless where it loses and captures no identifier.
  pub declared_harmless : NoneIsLost w known r → IsHarmless w known r
  declared_harmless none_lost =
      harmless w known (Declared path n) name s plain none_lost
      (λ star t i of of_interface. (
        subst (λ (ds : Symbol → Definition). Implements ds (type_behind star t) i) all_same,
        subst (λ (ds : Symbol → Definition). Implements ds (type_behind star t) i) (sym all_same),
      ))

pub scopes_harmless : ScopeRenamesAreHarmless
scopes_harmless w known path n name s plain none_lost = declared_harmless w known path n name s plain none_lost
