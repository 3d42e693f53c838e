-- A workspace without faults has one function that gives each type definition, and one that gives each under the names after a change.
use Rattle.std.proofs.Common.{ℕ, ◌≡◌, ◌⊎◌, inl, inr, List, [], ap, sym, subst, refl, ◌∙◌}
use Rattle.std.specs.Prelude.{Contains, Option, Some, None, slice_get}
use Rattle.std.proofs.Math.Path.{fun_ext}
use Rattle.std.proofs.lemmas.Option.{none-some, same_Some}
use Rattle.base_edits.specs.Revisions.{Revision}
use Rattle.base_files.specs.Packages.{package_paths}
use Rattle.base_files.specs.Workspace.{Workspace}
use Rattle.go_scope.specs.WellFormed.{WellFormed}
use Rattle.types_expr.specs.declared.symbol.Symbol.{Symbol}
use Rattle.types_expr.specs.World.{Definition, Field, Method}
use Rattle.types_expr.specs.WorldView.{no_definition}
use Rattle.types_declared.specs.Definitions.{PlacedField, package_fields, HasForm, IsDefinition, IsFoundSignature, is_on_pointer}
use Rattle.types_declared.specs.Package.{Package, PlacedFunction, PlacedType, package_functions, package_types, symbol_in}
use Rattle.types_info.proofs.OneMeaning.{one_signature_found}
use Rattle.types_info.proofs.OneWorld.{one_definition, one_form, one_underlying_of}
use Rattle.workspace_check.specs.FaultLists.{ListsFaults}
use Rattle.workspace_check.specs.Verdicts.{Verdicts, AreVerdicts}
use Rattle.workspace_check.proofs.OnePackage.{layout_formed}
use Rattle.refs_binding.specs.Uses.{IsCheckedPackage}
use Rattle.refs_binding.proofs.Units.{one_package}
use Rattle.refactor_conflict.specs.NamesAfter.{IsFieldAfter, IsMethodAfter}
use Rattle.refactor_conflict.proofs.FieldsAfter.{one_first}
use Rattle.refactor_coupled.specs.Implementing.{AreAllDefinitions, AreDefinitionsAfter, GiveEach, HasMembersAfter, IsMethodFoundAfter, IsTypeSymbol}
use Rattle.refactor_coupled.specs.Implementing.{IsWrittenAfter}
use Rattle.law_renamed_workspaces.proofs.Packages.{package_there}
use Rattle.law_renamed_workspaces.proofs.SeenLookups.{all_before, before_by, listed_or_not}
use Rattle.law_renamed_workspaces.proofs.SeenStructs.{IsThere, there}
use Rattle.law_implementing.specs.Definitions.{DefinitionsAreGiven}

-- a written member under its name after a change
written_once : (r : Revision) (p : Package) → WellFormed p.layout → (d : ℕ) (name : List ℕ) (o u : Option Field) → IsWrittenAfter r p d name o →
    IsWrittenAfter r p d name u → o ≡ u
written_once r p w d name None None a b = refl
written_once r p w d name None (Some y) a b = absurd (a y.symbol.rank b.0 y.form b.1.0)
written_once r p w d name (Some x) None a b = absurd (b x.symbol.rank a.0 x.form a.1.0)
written_once r p w d name (Some x) (Some y) a b =
    let ranks : x.symbol.rank ≡ y.symbol.rank = one_first (IsFieldAfter r p d name) x.symbol.rank y.symbol.rank a.0 b.0 in
    let at : slice_get (package_fields p) x.symbol.rank ≡ Some b.0.has.field = ap (slice_get (package_fields p)) ranks ∙ b.0.has.has_rank in
    let place : b.0.has.field ≡ a.0.has.field = same_Some b.0.has.field a.0.has.field (sym at ∙ a.0.has.has_rank) in
    let symbols : x.symbol ≡ y.symbol = a.1.1 ∙ ap (symbol_in p) ranks ∙ sym b.1.1 in
    let forms : x.form ≡ y.form =
    one_form p w a.0.has.field.file a.0.has.field.form x.form y.form a.1.0 (subst (λ (f : PlacedField). HasForm p f.file f.form y.form) place b.1.0) in
    ap Some (
    ap (λ s. record { symbol = s; exported = x.exported; form = x.form }) symbols ∙
    ap (λ e. record { symbol = y.symbol; exported = e; form = x.form }) (a.1.2 ∙ sym b.1.2) ∙
    ap (λ t. record { symbol = y.symbol; exported = y.exported; form = t }) forms)

-- a method under its name after it
found_once : (Is : Package → Type 0) (r : Revision) (p : Package) → WellFormed p.layout → (d : ℕ) (name : List ℕ) (o u : Option Method) →
    IsMethodFoundAfter Is r p d name o → IsMethodFoundAfter Is r p d name u → o ≡ u
found_once Is r p w d name None None a b = refl
found_once Is r p w d name None (Some y) a b = absurd (a y.symbol.rank b.0)
found_once Is r p w d name (Some x) None a b = absurd (b x.symbol.rank a.0)
found_once Is r p w d name (Some x) (Some y) a b =
    let m = a.0.has.has in
    let n = b.0.has.has in
    let ranks : x.symbol.rank ≡ y.symbol.rank = one_first (IsMethodAfter r p d name) x.symbol.rank y.symbol.rank a.0.has b.0.has in
    let at : slice_get (package_functions p) x.symbol.rank ≡ Some n.method = ap (slice_get (package_functions p)) ranks ∙ n.has_rank in
    let place : n.method ≡ m.method = same_Some n.method m.method (sym at ∙ m.has_rank) in
    let symbols : x.symbol ≡ y.symbol = a.1.2 ∙ ap (symbol_in p) ranks ∙ sym b.1.2 in
    let signatures : x.signature ≡ y.signature =
    one_signature_found p w m.method x.signature y.signature a.1.0 (subst (λ (f : PlacedFunction). IsFoundSignature p f y.signature) place b.1.0) in
    let received : m.method.function.receiver ≡ Some n.of_type.receiver =
    subst (λ (f : PlacedFunction). f.function.receiver ≡ Some n.of_type.receiver) place n.of_type.received in
    let receivers : m.of_type.receiver ≡ n.of_type.receiver =
    same_Some m.of_type.receiver n.of_type.receiver (sym m.of_type.received ∙ received) in
    ap Some (
    ap (λ s. record { symbol = s; exported = x.exported; on_pointer = x.on_pointer; signature = x.signature }) symbols ∙
    ap (λ e. record { symbol = y.symbol; exported = e; on_pointer = x.on_pointer; signature = x.signature }) (a.1.3 ∙ sym b.1.3) ∙
    ap (λ o. record { symbol = y.symbol; exported = y.exported; on_pointer = o; signature = x.signature })
    (a.1.1 ∙ ap is_on_pointer receivers ∙ sym b.1.1) ∙
    ap (λ s. record { symbol = y.symbol; exported = y.exported; on_pointer = y.on_pointer; signature = s }) signatures)

-- a definition after it
after_once : (Is : Package → Type 0) (r : Revision) (p : Package) → WellFormed p.layout → (rank : ℕ) (c d : Definition) → HasMembersAfter Is r p rank c →
    HasMembersAfter Is r p rank d → c ≡ d
after_once Is r p w rank c d a b =
    ap (λ u. record { underlying = u; field = c.field; method = c.method }) (one_underlying_of p w rank c.underlying d.underlying a.underlying b.underlying) ∙
    ap (λ f. record { underlying = d.underlying; field = f; method = c.method })
    (fun_ext (λ name. written_once r p w rank name (c.field name) (d.field name) (a.written name) (b.written name))) ∙
    ap (λ m. record { underlying = d.underlying; field = d.field; method = m })
    (fun_ext (λ name. found_once Is r p w rank name (c.method name) (d.method name) (a.methods name) (b.methods name)))

module _ (w : Workspace) (sound : ListsFaults w []) (known : Verdicts) (right : AreVerdicts w known) where
  abbrev Known : Package → Type 0
  Known = IsCheckedPackage w known

  -- whether a symbol is that of a type definition

  symbol_path : (s : Symbol) (p : Package) → p.path ≡ s.package → s ≡ symbol_in p s.rank
  symbol_path s p path = ap (λ (q : List ℕ). record { «package» = q; rank = s.rank }) (sym path)

  of_inside : (s : Symbol) (t : IsTypeSymbol (IsCheckedPackage w known) s) (p : Package) → IsCheckedPackage w known p → p.path ≡ s.package →
      slice_get (package_types p) s.rank ≡ Some t.definition
  of_inside s t p is path =
      let home : t.inside.path ≡ s.package = ap (λ (z : Symbol). z.package) (sym t.is_symbol) in
      let same : t.inside ≡ p = one_package w known t.inside p t.is_package is (home ∙ sym path) in
      let ranks : t.rank ≡ s.rank = ap (λ (z : Symbol). z.rank) (sym t.is_symbol) in
      subst (λ n. slice_get (package_types p) n ≡ Some t.definition) ranks
      (subst (λ (z : Package). slice_get (package_types z) t.rank ≡ Some t.definition) same t.has_rank)

  type_in : (s : Symbol) (p : Package) → IsCheckedPackage w known p → p.path ≡ s.package → (o : Option PlacedType) →
      slice_get (package_types p) s.rank ≡ o →
      IsTypeSymbol (IsCheckedPackage w known) s ⊎ (IsTypeSymbol (IsCheckedPackage w known) s → ⊥)
  type_in s p is path None at = inr (λ t. none-some t.definition (sym at ∙ of_inside s t p is path))
  type_in s p is path (Some d) at = inl (record {
    inside = p;
    is_package = is;
    rank = s.rank;
    definition = d;
    has_rank = at;
    is_symbol = symbol_path s p path;
  })

  pub type_or_not : (s : Symbol) → IsTypeSymbol (IsCheckedPackage w known) s ⊎ (IsTypeSymbol (IsCheckedPackage w known) s → ⊥)
  type_or_not s = elim (listed_or_not (package_paths w) s.package) [
    | inl has ↦
        let p = package_there w sound known right s.package has in type_in s p.0 p.1.0 p.1.1 (slice_get (package_types p.0) s.rank) refl
    | inr none ↦ inr (λ t.
        none (subst (Contains (package_paths w)) (ap (λ (z : Symbol). z.package) (sym t.is_symbol)) t.is_package.of_workspace))
  ]

  -- one function gives each definition

  module _ (K : Package → (rank : ℕ) → Definition → Type 0)
      (once : (p : Package) → IsCheckedPackage w known p → (rank : ℕ) (a b : Definition) → K p rank a → K p rank b → a ≡ b) (a b : Symbol → Definition)
      (x : GiveEach (IsCheckedPackage w known) K a) (y : GiveEach (IsCheckedPackage w known) K b) where
    alike_at : (s : Symbol) → IsTypeSymbol (IsCheckedPackage w known) s ⊎ (IsTypeSymbol (IsCheckedPackage w known) s → ⊥) → a s ≡ b s
    alike_at s (inl t) =
        let own = symbol_in t.inside t.rank in
        subst (λ z. a z ≡ b z) (sym t.is_symbol)
        (once t.inside t.is_package t.rank (a own) (b own) (x.each t.inside t.is_package t.rank t.definition t.has_rank)
        (y.each t.inside t.is_package t.rank t.definition t.has_rank))
    alike_at s (inr none) = x.others s none ∙ sym (y.others s none)

    each_alike : a ≡ b
    each_alike = fun_ext (λ s. alike_at s (type_or_not s))

  formed : (p : Package) → IsCheckedPackage w known p → WellFormed p.layout
  formed p is = layout_formed w known p.path p is.is_checked

  pub all_alike : (a b : Symbol → Definition) → AreAllDefinitions (IsCheckedPackage w known) a → AreAllDefinitions (IsCheckedPackage w known) b → a ≡ b
  all_alike a b x y = each_alike IsDefinition (λ p is rank c d h k. one_definition p (formed p is) rank c d h k) a b x y

  pub after_alike : (r : Revision) (a b : Symbol → Definition) → AreDefinitionsAfter (IsCheckedPackage w known) r a →
      AreDefinitionsAfter (IsCheckedPackage w known) r b → a ≡ b
  after_alike r a b x y =
      each_alike (HasMembersAfter (IsCheckedPackage w known) r)
      (λ p is rank c d h k. after_once (IsCheckedPackage w known) r p (formed p is) rank c d h k) a b x y

  -- the definitions that packages export

  before_each : (p : Package) → IsCheckedPackage w known p → (rank : ℕ) (d : PlacedType) → slice_get (package_types p) rank ≡ Some d →
      (o : Contains (package_paths w) p.path ⊎ (Contains (package_paths w) p.path → ⊥)) →
      IsDefinition p rank (before_by w sound known right (symbol_in p rank) o)
  before_each p is rank d at (inl has) =
      let t = there w sound known right p.path has in
      let same : t.checked ≡ p = one_package w known t.checked p t.is_package is t.of_path in
      t_definition t.checked same (t.export_data.definitions rank)
    where
      t_definition : (c : Package) → c ≡ p → ((e : PlacedType) → slice_get (package_types c) rank ≡ Some e →
          IsDefinition c rank ((known p.path).export_data.definition rank)) → IsDefinition p rank ((known p.path).export_data.definition rank)
      t_definition c same own =
          subst (λ (z : Package). IsDefinition z rank ((known p.path).export_data.definition rank)) same
          (own d (subst (λ (z : Package). slice_get (package_types z) rank ≡ Some d) (sym same) at))
  before_each p is rank d at (inr none) = absurd (none is.of_workspace)

  before_other : (s : Symbol) → (IsTypeSymbol (IsCheckedPackage w known) s → ⊥) →
      (o : Contains (package_paths w) s.package ⊎ (Contains (package_paths w) s.package → ⊥)) → before_by w sound known right s o ≡ no_definition s
  before_other s never (inr none) = refl
  before_other s never (inl has) = by_type (slice_get (package_types t.checked) s.rank) refl
    where
      t : IsThere w sound known right s.package
      t = there w sound known right s.package has

      by_type : (o : Option PlacedType) → slice_get (package_types t.checked) s.rank ≡ o → (known s.package).export_data.definition s.rank ≡ no_definition s
      by_type None at = t.export_data.beyond s.rank at ∙ ap no_definition (sym (symbol_path s t.checked t.of_path))
      by_type (Some d) at = absurd (never (record {
        inside = t.checked;
        is_package = t.is_package;
        rank = s.rank;
        definition = d;
        has_rank = at;
        is_symbol = symbol_path s t.checked t.of_path;
      }))

  pub are_before : AreAllDefinitions (IsCheckedPackage w known) (all_before w sound known right)
  are_before = record {
    each = λ p is rank d at. before_each p is rank d at (listed_or_not (package_paths w) p.path);
    others = λ s never. before_other s never (listed_or_not (package_paths w) s.package);
  }

pub definitions_given : DefinitionsAreGiven
definitions_given w known right sound = record {
  definition = all_before w sound known right;
  gives = are_before w sound known right;
  only = λ other are. all_alike w sound known right other (all_before w sound known right) are (are_before w sound known right);
}
