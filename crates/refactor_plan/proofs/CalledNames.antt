-- The name of a field or method, as it is found among the type definitions of its package.
use Rattle.std.proofs.Common.{ℕ, suc, ◌≡◌, ◌⊎◌, inl, inr, true, false, List, [], ◌∷◌, ap, map, sym, subst, refl, ◌∙◌}
use Rattle.std.specs.Prelude.{Option, Some, None, option_map, slice_get}
use Rattle.std.specs.BTreeMap.{is_at}
use Rattle.std.specs.Borrow.{Bor}
use Rattle.std.specs.Cmp.Lexicographic.{slice_cmp}
use Rattle.std.specs.Global.{Vec}
use Rattle.std.specs.List.{list_any}
use Rattle.std.specs.Map.{lookup}
use Rattle.std.specs.Ordering.{nat_cmp}
use Rattle.std.proofs.lemmas.Bool.{cases_Bool, false≢true, or_cases}
use Rattle.std.proofs.lemmas.Map.Entries.{lookup_tail}
use Rattle.std.proofs.lemmas.Map.Keys.{any_passes_from_place}
use Rattle.std.proofs.lemmas.Option.{none-some}
use Rattle.types_expr.specs.declared.symbol.Symbol.{Symbol}
use Rattle.types_expr.specs.declared.world.Definition.{Definition as Held}
use Rattle.types_expr.specs.declared.world.Definitions.{Definitions}
use Rattle.types_expr.specs.declared.world.Method.{Method as HeldMethod}
use Rattle.types_expr.specs.Types.{same_symbol}
use Rattle.types_expr.specs.World.{Definition, Field as Written, Method as Received}
use Rattle.types_expr.specs.WorldView.{definition_of, definition_or_none, definitions_at, imported_at, names_written, no_definition, plain_method_of, ranked}
use Rattle.types_declared.proofs.ByteKeys.{same_bytes}
use Rattle.types_declared.specs.Package.{Package, PlacedType, function_place, package_types, symbol_in}
use Rattle.types_declared.specs.Definitions.{IsFoundField, IsFoundMethod}
use Rattle.types_info.proofs.DeclKinds.{Holds}
use Rattle.types_info.proofs.Implementing.{cover}
use Rattle.types_members.specs.MembersView.{CountsAsField, CountsAsMethod}
use Rattle.refs_binding.specs.Binding.{field_place}
use Rattle.refs_binding.specs.declared.declaration.Declaration.{Declaration}
use Rattle.refs_binding.specs.declared.declaration.Declaration.TheVariants.{Predeclared, Declared, Field, Method}
use Rattle.refs_binding.specs.DeclaredNames.{HasDeclaredName}
use Rattle.refs_binding.specs.Uses.{IsCheckedPackage}
use Rattle.refs_binding.specs.WorkspaceFindings.{WorkspaceFindings}
use Rattle.refs_binding.specs.Workspaces.{IsFaultless, known_in}
use Rattle.refs_places.specs.Outside.{declaring_path}
use Rattle.refactor_coupled.specs.Reached.{IsCalledName, IsNameAmong, IsNameAtHome, has_declaration, is_named_by, is_received_of, is_written_of, names_received}
use Rattle.refactor_coupled.specs.RenamedTypesView.{definitions_in, types_of}
use Rattle.refactor_coupled.proofs.AllDefinitions.{all_definitions, type_or_none}
use Rattle.refactor_coupled.proofs.Asked.{any_held}
use Rattle.refactor_coupled.proofs.CoupledTypes.{same_itself}
use Rattle.refactor_coupled.proofs.Listed.{symbol_told}
use Rattle.refactor_coupled.proofs.MethodOwners.{received_by, written_by}
use Rattle.refactor_members.proofs.Faultless.{all_count}
use Rattle.refactor_members.proofs.OldMembers.{no_field_beyond}
use Rattle.refactor_members.proofs.SetsApart.{field_once, method_once}
use Rattle.law_renamed_workspaces.specs.Renames.{IsMember}

-- one of a list of definitions

named_rank : (d : Declaration) (name : List ℕ) (own : List Held) → list_any (λ x. is_named_by (definition_of x) d name) own ≡ true → (k : ℕ) × ((x : Held)
    × ((slice_get own k ≡ Some x) × (is_named_by (definition_of x) d name ≡ true)))
named_rank d name [] h = absurd (false≢true h)
named_rank d name (x ∷ own) h = elim (or_cases (is_named_by (definition_of x) d name) (list_any (λ y. is_named_by (definition_of y) d name) own) h) [
  | inl here ↦ (0, (x, (refl, here)))
  | inr later ↦ let r = named_rank d name own later in (suc r.0, r.1)
]

-- what stands under a name has the symbol

written_of : (o : Option Written) (s : Symbol) → is_written_of o s ≡ true → (f : Written) × ((o ≡ Some f) × (f.symbol ≡ s))
written_of None s h = absurd (false≢true h)
written_of (Some f) s h = (f, (refl, symbol_told f.symbol s h))

received_of : (o : Option Received) (s : Symbol) → is_received_of o s ≡ true → (m : Received) × ((o ≡ Some m) × (m.symbol ≡ s))
received_of None s h = absurd (false≢true h)
received_of (Some m) s h = (m, (refl, symbol_told m.symbol s h))

-- a definition has the names of all its methods

none_or_received : (name : List ℕ) (es : List (Vec ℕ × HeldMethod)) →
    (option_map plain_method_of (lookup (is_at (λ (key : Vec ℕ). slice_cmp nat_cmp name key.items)) es) ≡ None)
    ⊎ Holds (map (λ (e : Vec ℕ × HeldMethod). e.0.items) es) name
none_or_received name [] = inl refl
none_or_received name (x ∷ xs) = elim (cases_Bool (is_at (λ (key : Vec ℕ). slice_cmp nat_cmp name key.items) x.0)) [
  | inl here ↦ inr (inl (sym (same_bytes name x.0.items here)))
  | inr there ↦ elim (none_or_received name xs) [
    | inl none ↦ inl (ap (option_map plain_method_of) (lookup_tail (is_at (λ (key : Vec ℕ). slice_cmp nat_cmp name key.items)) x xs there) ∙ none)
    | inr among ↦ inr (inr among)
  ]
]

named_held : (d : Declaration) (name : List ℕ) (x : Held) → is_named_by (definition_of x) d name ≡ true → has_declaration d x ≡ true
named_held (Field s) name x h = elim (cover s (Some x) name) [
  | inl none ↦ absurd (false≢true (sym (ap (λ o. is_written_of o s) none) ∙ h))
  | inr among ↦ any_held (is_named_by (definition_of x) (Field s)) (names_written (Some x)) name among h
]
named_held (Method s) name x h = elim (none_or_received name x.methods.entries) [
  | inl none ↦ absurd (false≢true (sym (ap (λ o. is_received_of o s) none) ∙ h))
  | inr among ↦ any_held (is_named_by (definition_of x) (Method s)) (names_received x) name among h
]
named_held (Declared path n) name x h = absurd (false≢true h)
named_held (Predeclared n) name x h = absurd (false≢true h)

no_named : (i : Symbol) (d : Declaration) (name : List ℕ) → is_named_by (no_definition i) d name ≡ true → ⊥
no_named i (Field s) name h = false≢true h
no_named i (Method s) name h = false≢true h
no_named i (Declared path n) name h = false≢true h
no_named i (Predeclared n) name h = false≢true h

module _ (w : WorkspaceFindings) (sound : IsFaultless w.graph w.findings) where
  abbrev IsPackage : Package → Type 0
  IsPackage = IsCheckedPackage w.graph (known_in w.findings)

  abbrev ds : Definitions
  ds = types_of w

  abbrev types : Symbol → Definition
  types = definitions_in ds

  -- A name that was found is the declared one.

  field_called : (i s : Symbol) (name : List ℕ) (f : Written) → (types i).field name ≡ Some f → f.symbol ≡ s → HasDeclaredName IsPackage (Field s) name
  field_called i s name f at same =
      subst (λ t. HasDeclaredName IsPackage (Field t) name) same (
      let h = written_by w.graph (known_in w.findings) types (all_definitions w sound) (type_or_none w sound) i name f at in
      record {
        inside = h.of.inside;
        is_package = h.of.is_package;
        of_path = sym (ap (λ (t : Symbol). t.package) h.is_symbol);
        holds = record {
          at = field_place h.field;
          is_at = record { counts = record { definition = h.of.rank; name = name; field = h.field; counting = h.counting }; named_at = refl };
          called = h.counting.is_field.named;
        };
      })

  method_called : (i s : Symbol) (name : List ℕ) (m : Received) → (types i).method name ≡ Some m → m.symbol ≡ s → HasDeclaredName IsPackage (Method s) name
  method_called i s name m at same =
      subst (λ t. HasDeclaredName IsPackage (Method t) name) same (
      let h = received_by w.graph (known_in w.findings) types (all_definitions w sound) (type_or_none w sound) i name m at in
      record {
        inside = h.of.inside;
        is_package = h.of.is_package;
        of_path = sym (ap (λ (t : Symbol). t.package) h.is_symbol);
        holds = record {
          at = function_place h.method;
          is_at = record { counts = record { definition = h.of.rank; name = name; method = h.method; counting = h.counting }; named_at = refl };
          called = h.counting.is_method.named;
        };
      })

  called_by : (d : Declaration) (name : List ℕ) (i : Symbol) → is_named_by (types i) d name ≡ true → HasDeclaredName IsPackage d name
  called_by (Field s) name i h = let f = written_of ((types i).field name) s h in field_called i s name f.0 f.1.0 f.1.1
  called_by (Method s) name i h = let m = received_of ((types i).method name) s h in method_called i s name m.0 m.1.0 m.1.1
  called_by (Declared path n) name i h = absurd (false≢true h)
  called_by (Predeclared n) name i h = absurd (false≢true h)

  held_there : (i : Symbol) (x : Held) → imported_at ds i ≡ Some x → types i ≡ definition_of x
  held_there i x at = ap (definition_or_none i) at

  by_own : (d : Declaration) (found : Bor (List ℕ)) (path : List ℕ) (o : Option (List Held)) → definitions_at ds path ≡ o → IsNameAmong d o (Some found) →
      HasDeclaredName IsPackage d found.now
  by_own d found path None is h = absurd (none-some found (sym h))
  by_own d found path (Some own) is h =
      let r = named_rank d found.now own h in
      let i : Symbol = record { «package» = path; rank = r.0 } in
      let at : imported_at ds i ≡ Some r.1.0 = ap (λ q. ranked q r.0) is ∙ r.1.1.0 in
      called_by d found.now i (ap (λ x. is_named_by x d found.now) (held_there i r.1.0 at) ∙ r.1.1.1)

  at_home : (d : Declaration) (found : Bor (List ℕ)) (home : Option (List ℕ)) → IsNameAtHome ds home d (Some found) → HasDeclaredName IsPackage d found.now
  at_home d found None h = absurd (none-some found (sym h))
  at_home d found (Some path) h = by_own d found path (definitions_at ds path) refl h

  pub name_declared : (d : Declaration) (found : Bor (List ℕ)) → IsCalledName ds d (Some found) → HasDeclaredName IsPackage d found.now
  name_declared d found h = at_home d found (declaring_path d) h

  -- The name of a field or method is found.

  held_by : (d : Declaration) (name : List ℕ) (i : Symbol) → is_named_by (types i) d name ≡ true → (o : Option Held) → imported_at ds i ≡ o →
      (x : Held) × ((o ≡ Some x) × (is_named_by (definition_of x) d name ≡ true))
  held_by d name i h None at = absurd (no_named i d name (subst (λ t. is_named_by t d name ≡ true) (ap (definition_or_none i) at) h))
  held_by d name i h (Some x) at = (x, (refl, subst (λ t. is_named_by t d name ≡ true) (held_there i x at) h))

  listed_under : (d : Declaration) (name : List ℕ) (i : Symbol) (x : Held) → imported_at ds i ≡ Some x → is_named_by (definition_of x) d name ≡ true →
      (o : Option (List Held)) → definitions_at ds i.package ≡ o → IsNameAmong d o None → ⊥
  listed_under d name i x at h None is none = none-some x (sym (ap (λ q. ranked q i.rank) is) ∙ at)
  listed_under d name i x at h (Some own) is none =
      let there : slice_get own i.rank ≡ Some x = sym (ap (λ q. ranked q i.rank) is) ∙ at in
      false≢true (sym none ∙ any_passes_from_place (has_declaration d) own i.rank x there (named_held d name x h))

  not_missing : (d : Declaration) (name : List ℕ) (i : Symbol) → is_named_by (types i) d name ≡ true → IsNameAmong d (definitions_at ds i.package) None → ⊥
  not_missing d name i h none =
      let x = held_by d name i h (imported_at ds i) refl in
      listed_under d name i x.0 x.1.0 x.1.1 (definitions_at ds i.package) refl none

  module _ (p : Package) (is : IsPackage p) (rank : ℕ) where
    module _ (c : CountsAsField p rank) where
      abbrev FieldThere : Type 0
      FieldThere = (x : Written) × (((types (symbol_in p c.definition)).field c.name ≡ Some x) × (x.symbol ≡ symbol_in p rank))

      field_by : (o : Option Written) → (types (symbol_in p c.definition)).field c.name ≡ o → IsFoundField p c.definition c.name o → FieldThere
      field_by None at h =
          absurd ((all_count w.graph w.findings sound p is).typed rank c.field c.counting.is_field.has_rank
          (λ t form. h rank c.field t c.counting form))
      field_by (Some x) at h =
          let same = field_once p c.definition c.name x.symbol.rank rank h.0 c.field h.1.0 c.counting in
          (x, (at, h.1.2 ∙ ap (symbol_in p) same))

      field_in : (o : Option PlacedType) → slice_get (package_types p) c.definition ≡ o → FieldThere
      field_in None none = absurd (no_field_beyond p c.definition none rank c.field c.counting.is_field.has_rank c.counting.is_field.of_struct)
      field_in (Some d) at =
          field_by ((types (symbol_in p c.definition)).field c.name) refl (((all_definitions w sound).each p is c.definition d at).fields c.name)

      field_there : FieldThere
      field_there = field_in (slice_get (package_types p) c.definition) refl

    module _ (c : CountsAsMethod p rank) where
      abbrev MethodThere : Type 0
      MethodThere = (x : Received) × (((types (symbol_in p c.definition)).method c.name ≡ Some x) × (x.symbol ≡ symbol_in p rank))

      method_by : (o : Option Received) → (types (symbol_in p c.definition)).method c.name ≡ o → IsFoundMethod p c.definition c.name o → MethodThere
      method_by None at h = absurd (h rank c.method c.counting)
      method_by (Some x) at h =
          let same = method_once p c.definition c.name x.symbol.rank rank h.0 c.method h.1 c.counting in
          (x, (at, h.4 ∙ ap (symbol_in p) same))

      method_there : MethodThere
      method_there =
          let of = c.counting.is_method.of_type in
          method_by ((types (symbol_in p c.definition)).method c.name) refl
          (((all_definitions w sound).each p is c.definition of.item of.has_rank).methods c.name)

  pub name_found : (d : Declaration) → IsMember d → (name : List ℕ) → HasDeclaredName IsPackage d name → IsCalledName ds d None → ⊥
  name_found (Predeclared n) member name has none = absurd member
  name_found (Declared path n) member name has none = absurd member
  name_found (Field s) member name has none =
      let c = has.holds.is_at.counts in
      let x = field_there has.inside has.is_package s.rank c in
      let i = symbol_in has.inside c.definition in
      let same : x.0.symbol ≡ s = x.1.1 ∙ ap (λ q. record { «package» = q; rank = s.rank }) has.of_path in
      let named : is_named_by (types i) (Field s) c.name ≡ true =
      ap (λ o. is_written_of o s) x.1.0 ∙ ap (λ t. same_symbol t s) same ∙ same_itself s in
      not_missing (Field s) c.name i named (subst (λ q. IsNameAmong (Field s) (definitions_at ds q) None) (sym has.of_path) none)
  name_found (Method s) member name has none =
      let c = has.holds.is_at.counts in
      let x = method_there has.inside has.is_package s.rank c in
      let i = symbol_in has.inside c.definition in
      let same : x.0.symbol ≡ s = x.1.1 ∙ ap (λ q. record { «package» = q; rank = s.rank }) has.of_path in
      let named : is_named_by (types i) (Method s) c.name ≡ true =
      ap (λ o. is_received_of o s) x.1.0 ∙ ap (λ t. same_symbol t s) same ∙ same_itself s in
      not_missing (Method s) c.name i named (subst (λ q. IsNameAmong (Method s) (definitions_at ds q) None) (sym has.of_path) none)
