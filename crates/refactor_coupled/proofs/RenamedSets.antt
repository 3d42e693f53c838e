-- What is renamed with a declaration: with a method that an interface asks for all that the search finds, else the declaration alone.
use Rattle.std.proofs.Common.{ℕ, suc, ◌≡◌, ◌⊎◌, inl, inr, true, false, List, [], ◌∷◌, ap, sym, subst, refl, ◌∙◌}
use Rattle.std.specs.Prelude.{◌↔◌, Contains, Option, Some, None, slice_get}
use Rattle.std.proofs.lemmas.Bool.{false≢true, or_cases}
use Rattle.std.proofs.lemmas.Map.Keys.{any_passes_from_place}
use Rattle.std.proofs.lemmas.Option.{none-some}
use Rattle.base_lemmas.proofs.Elements.{first_or_later, nothing_in}
use Rattle.base_files.specs.Packages.{package_paths}
use Rattle.types_expr.specs.declared.symbol.Symbol.{Symbol}
use Rattle.types_expr.specs.declared.world.Definition.{Definition as Held}
use Rattle.types_expr.specs.declared.world.Definitions.{Definitions}
use Rattle.types_expr.specs.World.{Definition}
use Rattle.types_expr.specs.WorldView.{definition_of, definition_or_none, definitions_at, imported_at, no_definition, ranked}
use Rattle.types_declared.specs.Package.{Package}
use Rattle.refs_binding.specs.declared.declaration.Declaration.{Declaration}
use Rattle.refs_binding.specs.declared.declaration.Declaration.TheVariants.{Predeclared, Declared, Field, Method}
use Rattle.refs_binding.specs.Uses.{IsCheckedPackage}
use Rattle.refs_binding.specs.WorkspaceFindings.{WorkspaceFindings}
use Rattle.refs_binding.specs.Workspaces.{IsFaultless, known_in}
use Rattle.refactor_coupled.specs.Called.{IsSoughtType}
use Rattle.refactor_coupled.specs.Coupling.{AsksFor, IsAskedMethod, IsRenamedSet, RenamedWith, coupled, itself}
use Rattle.refactor_coupled.specs.Implementing.{AreAllDefinitions, IsTypeSymbol}
use Rattle.refactor_coupled.specs.Reached.{AddsCoupled, AddsDeclarations, IsReachedMethod, IsSearched}
use Rattle.refactor_coupled.specs.Reached.{asks_by_symbol, is_asked_among, is_asked_by_some, is_asked_in}
use Rattle.refactor_coupled.specs.RenamedTypesView.{definitions_in, types_of}
use Rattle.refactor_coupled.specs.declared.coupling.Reached.{Reached}
use Rattle.refactor_coupled.specs.declared.renamed_types.RenamedTypes.{RenamedTypes}
use Rattle.refactor_coupled.proofs.AllDefinitions.{all_definitions, type_or_none}
use Rattle.refactor_coupled.proofs.CoupledTypes.{asked_with, asks_with, renamed_together}
use Rattle.refactor_coupled.proofs.MethodOwners.{written_by}

-- The interface that asks for a method is one of the package of the method.

asked_rank : (s : Symbol) (name : List ℕ) (own : List Held) → is_asked_by_some own s name ≡ true → (k : ℕ) × ((x : Held) × ((slice_get own k ≡ Some x)
    × (asks_by_symbol (definition_of x) s name ≡ true)))
asked_rank s name [] h = absurd (false≢true h)
asked_rank s name (x ∷ own) h = elim (or_cases (asks_by_symbol (definition_of x) s name) (is_asked_by_some own s name) h) [
  | inl here ↦ (0, (x, (refl, here)))
  | inr later ↦ let r = asked_rank s name own later in (suc r.0, r.1)
]

abbrev Asking : Definitions → Symbol → List ℕ → Type 0
Asking ds s name = (i : Symbol) × AsksFor (definitions_in ds) i name (Field s)

asking_among : (ds : Definitions) (s : Symbol) (name : List ℕ) (o : Option (List Held)) → definitions_at ds s.package ≡ o → is_asked_among o s name ≡ true →
    Asking ds s name
asking_among ds s name None is h = absurd (false≢true h)
asking_among ds s name (Some own) is h =
    let r = asked_rank s name own h in
    let i : Symbol = record { «package» = s.package; rank = r.0 } in
    let held : imported_at ds i ≡ Some r.1.0 = ap (λ o. ranked o r.0) is ∙ r.1.1.0 in
    let same : definitions_in ds i ≡ definition_of r.1.0 = ap (definition_or_none i) held in
    let asks : asks_by_symbol (definitions_in ds i) s name ≡ true = ap (λ d. asks_by_symbol d s name) same ∙ r.1.1.1 in
    let a = asked_with ((definitions_in ds i).field name) s asks in (
      i,
      record {
        written = a.written;
        is_written = a.is_written;
        signature = a.signature;
        is_method = a.is_method;
        is_declaration = ap Field (sym a.is_symbol);
      },
    )

asking_there : (ds : Definitions) (s : Symbol) (name : List ℕ) → is_asked_in ds s name ≡ true → Asking ds s name
asking_there ds s name h = asking_among ds s name (definitions_at ds s.package) refl h

-- A declaration of a type, function, variable or constant, and a method of a receiver, is no member that a type definition writes.
abbrev pub IsNoField : Declaration → Type 0
IsNoField (Predeclared n) = Unit {0}
IsNoField (Declared path n) = Unit {0}
IsNoField (Field s) = ⊥
IsNoField (Method s) = Unit {0}

pub is_no_field : (d e : Declaration) → d ≡ e → IsNoField e → (s : Symbol) → d ≡ Field s → ⊥
is_no_field d e is other s field = subst IsNoField (sym is ∙ field) other

-- A declaration for which no interface asks is renamed alone.

module _ (w : WorkspaceFindings) where
  abbrev all : Symbol → Definition
  all = definitions_in (types_of w)

  alone : (d e : Declaration) → (IsAskedMethod all d → ⊥) → RenamedWith all d e → e ≡ d
  alone d _ none itself = refl
  alone d _ none (coupled is before c) = absurd (none is)

  none_with : (set : List Declaration) (d : Declaration) → Contains set d → (IsAskedMethod all d → ⊥) → AddsCoupled w d set set
  none_with set d has none e = (
    (λ m. inl m),
    (λ m. elim m [ inl was ↦ was | inr renamed ↦ subst (Contains set) (sym (alone d e none renamed)) has ]),
  )

  pub no_member_asked : (set : List Declaration) (d : Declaration) → Contains set d → ((s : Symbol) → d ≡ Field s → ⊥) → AddsCoupled w d set set
  no_member_asked set d has not = none_with set d has (λ m. not m.asked.written.symbol m.asked.is_declaration)

module _ (w : WorkspaceFindings) (sound : IsFaultless w.graph w.findings) where
  abbrev IsPackage : Package → Type 0
  IsPackage = IsCheckedPackage w.graph (known_in w.findings)

  abbrev ds : Definitions
  ds = types_of w

  abbrev Called : List Symbol → Definitions → (old new : List ℕ) → Symbol → Type 0
  Called found x old new i = Contains found i ↔ IsSoughtType x old new false (package_paths w.graph) i

  asked_by_own : (i s : Symbol) (name : List ℕ) → asks_by_symbol (definitions_in ds i) s name ≡ true → i.package ≡ s.package → (o : Option (List Held)) →
      definitions_at ds i.package ≡ o → (x : Option Held) → ranked o i.rank ≡ x → is_asked_among o s name ≡ true
  asked_by_own i s name h path o at None is =
      let same : definitions_in ds i ≡ no_definition i = ap (definition_or_none i) (ap (λ q. ranked q i.rank) at ∙ is) in
      absurd (false≢true (sym (ap (λ d. asks_by_symbol d s name) same) ∙ h))
  asked_by_own i s name h path None at (Some x) is = absurd (none-some x is)
  asked_by_own i s name h path (Some own) at (Some x) is =
      let same : definitions_in ds i ≡ definition_of x = ap (definition_or_none i) (ap (λ q. ranked q i.rank) at ∙ is) in
      any_passes_from_place (λ d. asks_by_symbol (definition_of d) s name) own i.rank x is (sym (ap (λ d. asks_by_symbol d s name) same) ∙ h)

  is_asked : (i s : Symbol) (name : List ℕ) → AsksFor (definitions_in ds) i name (Field s) → is_asked_in ds s name ≡ true
  is_asked i s name h =
      let by = written_by w.graph (known_in w.findings) (definitions_in ds) (all_definitions w sound) (type_or_none w sound) i name h.written h.is_written in
      let same : h.written.symbol ≡ s = field_symbol h.written.symbol s h.is_declaration in
      let path : i.package ≡ s.package = ap (λ (t : Symbol). t.package) by.of.is_symbol ∙ ap (λ (t : Symbol). t.package) (sym by.is_symbol ∙ same) in
      ap (λ p. is_asked_among (definitions_at ds p) s name) (sym path)
      ∙ asked_by_own i s name (asks_with (definitions_in ds) i s name h) path (definitions_at ds i.package) refl (ranked (definitions_at ds i.package)
      i.rank) refl
    where
      field_symbol : (f t : Symbol) → Field t ≡ Field f → f ≡ t
      field_symbol f t e = cc

  pub nothing_asks : (set : List Declaration) (s : Symbol) → Contains set (Field s) → ((name : List ℕ) → is_asked_in ds s name ≡ true → ⊥) →
      AddsCoupled w (Field s) set set
  nothing_asks set s has none = none_with w set (Field s) has (λ m. none m.name (is_asked m.interface s m.name m.asked))

  -- Else all is added that the search found.
  pub found_coupled : (t : RenamedTypes) (s : Symbol) (r : Reached) → IsSearched w t s r → t.types.now ≡ ds → t.rename.set.now ≡ [] →
      t.rename.new.now ≡ t.rename.old.now → is_asked_in ds s t.rename.old.now ≡ true → (a b : List Declaration) → AddsDeclarations (IsReachedMethod t r) a b →
      AddsCoupled w (Field s) a b
  found_coupled t s r h types none same asked a b added =
      subst (λ x. AddsDeclarations (RenamedWith (definitions_in x) (Field s)) a b) types each
    where
      are : AreAllDefinitions IsPackage (definitions_in t.types.now)
      are = subst (λ x. AreAllDefinitions IsPackage (definitions_in x)) (sym types) (all_definitions w sound)

      decided : (i : Symbol) → IsTypeSymbol IsPackage i ⊎ (definitions_in t.types.now i ≡ no_definition i)
      decided i = subst (λ x. IsTypeSymbol IsPackage i ⊎ (definitions_in x i ≡ no_definition i)) (sym types) (type_or_none w sound i)

      called : (i : Symbol) → Called h.started.called.items t.types.now t.rename.old.now t.rename.old.now i
      called i =
          subst (λ x. Called h.started.called.items x t.rename.old.now t.rename.old.now i) (sym types)
          (subst (λ new. Called h.started.called.items ds t.rename.old.now new i) same
          (subst (λ l. Called l ds t.rename.old.now t.rename.new.now i) (sym h.same) (h.types i)))

      there : Asking t.types.now s t.rename.old.now
      there = asking_there t.types.now s t.rename.old.now (subst (λ x. is_asked_in x s t.rename.old.now ≡ true) (sym types) asked)

      both : (e : Declaration) → IsReachedMethod t r e ↔ RenamedWith (definitions_in t.types.now) (Field s) e
      both = renamed_together w.graph (known_in w.findings) t are decided none s r h.started h.same called h.starts h.each there.0 there.1

      each : AddsDeclarations (RenamedWith (definitions_in t.types.now) (Field s)) a b
      each e = (
        (λ has. elim ((added e).0 has) [ inl was ↦ inl was | inr k ↦ inr ((both e).0 k) ]),
        (λ m. elim m [ inl was ↦ (added e).1 (inl was) | inr k ↦ (added e).1 (inr ((both e).1 k)) ]),
      )

  -- The list that begins with the declaration has just what is renamed with it.
  pub set_told : (d : Declaration) (one set : List Declaration) → one ≡ d ∷ [] → AddsCoupled w d one set → IsRenamedSet IsPackage d set
  set_told d one set is added = record {
    definition = definitions_in ds;
    are_definitions = all_definitions w sound;
    each = λ e. (
      (λ has. elim ((added e).0 has) [
        | inl was ↦ elim (first_or_later d [] e (subst (λ l. Contains l e) is was)) [
          | inl same ↦ subst (RenamedWith (definitions_in ds) d) same itself
          | inr later ↦ absurd (nothing_in e later)
        ]
        | inr renamed ↦ renamed
      ]),
      (λ renamed. (added e).1 (inr renamed)),
    );
  }
