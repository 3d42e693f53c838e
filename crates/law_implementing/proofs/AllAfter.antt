-- The type definitions of a workspace as a change moves them, that loses and captures no identifier: they have their members under the new
-- names.
use Rattle.std.proofs.Common.{ℕ, ◌≡◌, ◌⊎◌, inl, inr, List, [], ap, sym, subst, refl, ◌∙◌}
use Rattle.std.specs.Prelude.{Contains, Option, Some, None, option_map, slice_get}
use Rattle.std.proofs.lemmas.Option.{none-some, same_Some}
use Rattle.base_edits.specs.Revisions.{Revision}
use Rattle.base_files.specs.Packages.{package_paths}
use Rattle.base_files.specs.Workspace.{Workspace}
use Rattle.types_expr.specs.declared.symbol.Symbol.{Symbol}
use Rattle.types_expr.specs.World.{Definition, Field, Method}
use Rattle.types_expr.specs.WorldView.{no_definition}
use Rattle.types_declared.specs.Definitions.{PlacedField, IsFoundField, IsFoundMethod, IsFoundSignature, HasForm, IsDefinition, is_on_pointer}
use Rattle.types_declared.specs.Package.{Package, PlacedFunction, PlacedType, package_types, spelled, symbol_in}
use Rattle.workspace_check.specs.FaultLists.{ListsFaults}
use Rattle.workspace_check.specs.Verdicts.{Verdicts, AreVerdicts}
use Rattle.refs_binding.specs.Uses.{IsCheckedPackage}
use Rattle.refs_binding.proofs.Units.{one_package}
use Rattle.refactor_conflict.specs.MembersAfter.{IsFirstField, IsFirstMethod}
use Rattle.refactor_conflict.specs.NamesAfter.{IsFieldAfter, IsMethodAfter, field_called, method_called}
use Rattle.refactor_conflict.specs.Staying.{NoneIsLost}
use Rattle.refactor_coupled.specs.Implementing.{AreDefinitionsAfter, HasMembersAfter, IsMethodFoundAfter, IsTypeSymbol, IsWrittenAfter}
use Rattle.law_renamed_workspaces.proofs.NewLookups.{field_first, had_field, had_method, method_first}
use Rattle.law_renamed_workspaces.proofs.NewMembers.{SomeField, SomeMethod, field_by, find_field, find_method, method_by, new_definition}
use Rattle.law_renamed_workspaces.proofs.SeenLookups.{after_by, all_after, built_of, home_there, listed_or_not}
use Rattle.law_renamed_workspaces.proofs.SeenStructs as structs

module _ (w : Workspace) (sound : ListsFaults w []) (known : Verdicts) (right : AreVerdicts w known) (r : Revision) (none_lost : NoneIsLost w known r) where
  abbrev Known : Package → Type 0
  Known = IsCheckedPackage w known

  -- of one package

  module _ (y : Package) (also : IsCheckedPackage w known y) (rank : ℕ) (a : Definition) (is : IsDefinition y rank a) where
    -- a written member of the old definition, that has a name after the change
    pub written_now : (old name : List ℕ) (x : Field) → a.field old ≡ Some x → IsFieldAfter r y rank name x.symbol.rank →
        IsWrittenAfter r y rank name (Some (field_called name x))
    written_now old name x at h =
        let first : IsFirstField r y rank name x.symbol.rank = field_first w sound known right y also r none_lost rank name x.symbol.rank h in
        let found = subst (IsFoundField y rank old) at (is.fields old) in
        let same : found.0 ≡ first.has.field = same_Some found.0 first.has.field (sym found.1.0.is_field.has_rank ∙ first.has.has_rank) in
        (first, (subst (λ (f : PlacedField). HasForm y f.file f.form x.form) same found.1.1, found.1.2, refl))

    pub received_now : (old name : List ℕ) (x : Method) → a.method old ≡ Some x → IsMethodAfter r y rank name x.symbol.rank →
        IsMethodFoundAfter (IsCheckedPackage w known) r y rank name (Some (method_called name x))
    received_now old name x at h =
        let first : IsFirstMethod (IsCheckedPackage w known) r y rank name x.symbol.rank =
        method_first w sound known right y also r none_lost rank name x.symbol.rank h in
        let found = subst (IsFoundMethod y rank old) at (is.methods old) in
        let m = first.has.has in
        let same : found.0 ≡ m.method = same_Some found.0 m.method (sym found.1.is_method.has_rank ∙ m.has_rank) in
        let received : m.method.function.receiver ≡ Some found.1.is_method.receiver =
        subst (λ (f : PlacedFunction). f.function.receiver ≡ Some found.1.is_method.receiver) same found.1.is_method.received in
        let receivers : found.1.is_method.receiver ≡ m.of_type.receiver =
        same_Some found.1.is_method.receiver m.of_type.receiver (sym received ∙ m.of_type.received) in (
          first,
          (
            subst (λ (f : PlacedFunction). IsFoundSignature y f x.signature) same found.2,
            found.3 ∙ ap is_on_pointer receivers,
            found.4,
            refl,
          ),
        )

    written_by : (name : List ℕ) (o : SomeField w known r y also rank name) → IsWrittenAfter r y rank name (field_by w known r y also a rank name o)
    written_by name (inl h) =
        let x = had_field w sound known right y also r a rank is name h.0 h.1 in
        subst (λ (o : Option Field). IsWrittenAfter r y rank name (option_map (field_called name) o)) (sym x.stands)
        (written_now (spelled y h.1.field.file h.1.field.name) name x.field x.stands (subst (IsFieldAfter r y rank name) (sym x.of_rank) h.1))
    written_by name (inr none) = λ k first form has. none k first.has

    received_by : (name : List ℕ) (o : SomeMethod w known r y also rank name) →
        IsMethodFoundAfter (IsCheckedPackage w known) r y rank name (method_by w known r y also a rank name o)
    received_by name (inl h) =
        let x = had_method w sound known right y also r a rank is name h.0 h.1 in
        subst (λ (o : Option Method). IsMethodFoundAfter (IsCheckedPackage w known) r y rank name (option_map (method_called name) o)) (sym x.stands)
        (received_now (spelled y h.1.method.file h.1.method.function.name) name x.method x.stands (subst (IsMethodAfter r y rank name) (sym x.of_rank) h.1))
    received_by name (inr none) = λ k first. none k first.has.has

    has_members : HasMembersAfter (IsCheckedPackage w known) r y rank (new_definition w known r y also a rank)
    has_members = record {
      underlying = is.underlying;
      written = λ name. written_by name (find_field w known r y also rank name);
      methods = λ name. received_by name (find_method w known r y also rank name);
    }

  -- of all packages

  symbol_at : (s : Symbol) (p : Package) → p.path ≡ s.package → s ≡ symbol_in p s.rank
  symbol_at s p path = ap (λ (q : List ℕ). record { «package» = q; rank = s.rank }) (sym path)

  module _ (p : Package) (is : IsCheckedPackage w known p) (rank : ℕ) (d : PlacedType) (at : slice_get (package_types p) rank ≡ Some d) where
    module _ (has : Contains (package_paths w) p.path) where
      abbrev home : structs.IsThere w sound known right p.path
      home = home_there w sound known right (symbol_in p rank) has

      one : home.checked ≡ p
      one = one_package w known home.checked p home.is_package is home.of_path

      at_home : slice_get (package_types home.checked) rank ≡ Some d
      at_home = subst (λ (z : Package). slice_get (package_types z) rank ≡ Some d) (sym one) at

      by_type : (o : Option PlacedType) → slice_get (package_types home.checked) rank ≡ o →
          HasMembersAfter (IsCheckedPackage w known) r home.checked rank
          (built_of w sound known right r home.checked home.is_package (symbol_in p rank) o)
      by_type None e = absurd (none-some d (sym e ∙ at_home))
      by_type (Some t) e =
          has_members home.checked home.is_package rank ((known p.path).export_data.definition rank) (home.export_data.definitions rank t e)

      listed_members : HasMembersAfter (IsCheckedPackage w known) r p rank (after_by w sound known right r (symbol_in p rank) (inl has))
      listed_members =
          subst (λ (z : Package). HasMembersAfter (IsCheckedPackage w known) r z rank (after_by w sound known right r (symbol_in p rank) (inl has))) one
          (by_type (slice_get (package_types home.checked) rank) refl)

    each_after : (o : Contains (package_paths w) p.path ⊎ (Contains (package_paths w) p.path → ⊥)) →
        HasMembersAfter (IsCheckedPackage w known) r p rank (after_by w sound known right r (symbol_in p rank) o)
    each_after (inl has) = listed_members has
    each_after (inr none) = absurd (none is.of_workspace)

  module _ (s : Symbol) (never : IsTypeSymbol (IsCheckedPackage w known) s → ⊥) where
    no_type : (has : Contains (package_paths w) s.package) (o : Option PlacedType) →
        slice_get (package_types (home_there w sound known right s has).checked) s.rank ≡ o →
        built_of w sound known right r (home_there w sound known right s has).checked (home_there w sound known right s has).is_package s o
        ≡ no_definition s
    no_type has None e = refl
    no_type has (Some d) e = absurd (never (record {
      inside = (home_there w sound known right s has).checked;
      is_package = (home_there w sound known right s has).is_package;
      rank = s.rank;
      definition = d;
      has_rank = e;
      is_symbol = symbol_at s (home_there w sound known right s has).checked (home_there w sound known right s has).of_path;
    }))

    other_after : (o : Contains (package_paths w) s.package ⊎ (Contains (package_paths w) s.package → ⊥)) →
        after_by w sound known right r s o ≡ no_definition s
    other_after (inl has) = no_type has (slice_get (package_types (home_there w sound known right s has).checked) s.rank) refl
    other_after (inr none) = refl

  pub are_moved : AreDefinitionsAfter (IsCheckedPackage w known) r (all_after w sound known right r)
  are_moved = record {
    each = λ p is rank d at. each_after p is rank d at (listed_or_not (package_paths w) p.path);
    others = λ s never. other_after s never (listed_or_not (package_paths w) s.package);
  }
