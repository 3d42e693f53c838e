-- After a plain rename that preserves bindings the type definitions of the edited workspace are those of before under their new names.
use Rattle.std.proofs.Common.{ℕ, ◌≡◌, List, ap, sym, subst, ◌∙◌}
use Rattle.std.specs.Prelude.{Option, Some, None, slice_get}
use Rattle.base_edits.specs.EditSet.{FileChanges, edited}
use Rattle.base_edits.specs.Revisions.{Revision}
use Rattle.base_edits.specs.RevisionsOfEdits.{revision_of}
use Rattle.base_files.specs.Workspace.{Workspace}
use Rattle.types_expr.specs.declared.symbol.Symbol.{Symbol}
use Rattle.types_expr.specs.Types.{Defined, Signature, Underlying}
use Rattle.types_expr.specs.Types.{Struct as StructOf}
use Rattle.types_expr.specs.World.{Definition, Field, Method}
use Rattle.types_declared.specs.Definitions.{HasForm, HasUnderlying, IsDefinition, IsFoundField, IsFoundMethod, IsFoundSignature, IsUnderlyingOf, PlacedField}
use Rattle.types_declared.specs.Definitions.{has, has_none, is_on_pointer}
use Rattle.types_declared.specs.Package.{Package, PlacedFunction, PlacedType, package_functions, package_types, symbol_in}
use Rattle.std.proofs.lemmas.Option.{same_Some}
use Rattle.workspace_check.specs.Verdicts.{Verdicts}
use Rattle.refs_binding.specs.declared.declaration.Declaration.{Declaration}
use Rattle.refs_binding.specs.Uses.{IsCheckedPackage}
use Rattle.refactor_coupled.specs.Implementing.{AreAllDefinitions, AreDefinitionsAfter, HasMembersAfter, IsMethodFoundAfter, IsTypeSymbol, IsWrittenAfter}
use Rattle.law_changed_types.proofs.Alike.{Alike, of_bound, turned}
use Rattle.law_changed_types.proofs.Types.{has_underlying}
use Rattle.law_renamed_workspaces.specs.Layouts.{IsRelaid}
use Rattle.law_renamed_workspaces.specs.MembersMoved.{AreFieldsSeenAfter, AreSeenAfter}
use Rattle.law_renamed_workspaces.proofs.CountingMembers as counting
use Rattle.law_renamed_workspaces.proofs.DefinitionsAfter.{field_form_stays, signature}
use Rattle.law_agreement.proofs.KeptNames.{there}
use Rattle.law_agreement.proofs.KeptPackages.{is_kept, kept_under}
use Rattle.law_agreement.proofs.Premises.{IsKeptRename}
use Rattle.law_implementing.specs.Definitions.{EditedDefinitionsAreAfter}
use Rattle.law_implementing.proofs.TypesBecome.{type_was}

-- One package
module _ (w : Workspace) (known : Verdicts) (r : Revision) (p q : Package) (is : IsCheckedPackage w known p) (relaid : IsRelaid r p q)
    (alike : Alike p q) (seen : AreSeenAfter (IsCheckedPackage w known) r p q) (fields : AreFieldsSeenAfter (IsCheckedPackage w known) r p q) where
  abbrev Known : Package → Type 0
  Known = IsCheckedPackage w known

  back : Alike q p
  back = turned p q alike

  own_symbol : (rank : ℕ) → symbol_in q rank ≡ symbol_in p rank
  own_symbol rank = ap (λ (path : List ℕ). record { «package» = path; rank = rank }) relaid.path

  underlying_before : (rank : ℕ) (u : Underlying) → HasUnderlying q (Defined (symbol_in q rank)) u → HasUnderlying p (Defined (symbol_in p rank)) u
  underlying_before rank u h =
      has_underlying q p back (Defined (symbol_in p rank)) u (subst (λ (x : Symbol). HasUnderlying q (Defined x) u) (own_symbol rank) h)

  underlying_behind : (rank : ℕ) (u : Underlying) → HasUnderlying p (Defined (symbol_in p rank)) u → HasUnderlying q (Defined (symbol_in q rank)) u
  underlying_behind rank u h =
      subst (λ (x : Symbol). HasUnderlying q (Defined x) u) (sym (own_symbol rank)) (has_underlying p q alike (Defined (symbol_in p rank)) u h)

  underlying_was : (rank : ℕ) (u : Underlying) → IsUnderlyingOf q rank u → IsUnderlyingOf p rank u
  underlying_was rank u (has h) = has (underlying_before rank u h)
  underlying_was rank _ (has_none none) =
      subst (λ (x : Symbol). IsUnderlyingOf p rank (StructOf x)) (sym (own_symbol rank)) (has_none (λ u h. none u (underlying_behind rank u h)))

  written_was : (rank : ℕ) (name : List ℕ) (o : Option Field) → IsFoundField q rank name o → IsWrittenAfter r p rank name o
  written_was rank name None none = λ k first form h.
      let c = (counting.counting_field w known r p q is relaid rank name k).0 first in
      let at = counting.field_before w known r p q is relaid k c.0 c.1.is_field.has_rank in
      let same : first.has.field ≡ c.0 = same_Some first.has.field c.0 (sym first.has.has_rank ∙ at) in
      none k c.0 form c.1
      (field_form_stays p q alike k c.0 at form (subst (λ (f : PlacedField). HasForm p f.file f.form form) same h))
  written_was rank name (Some x) h =
      let first = (counting.counting_field w known r p q is relaid rank name x.symbol.rank).1 (h.0, h.1.0) in
      let at = counting.field_before w known r p q is relaid x.symbol.rank h.0 h.1.0.is_field.has_rank in
      let same : h.0 ≡ first.has.field = same_Some h.0 first.has.field (sym at ∙ first.has.has_rank) in (
        first,
        (
          subst (λ (f : PlacedField). HasForm p f.file f.form x.form) same
              (field_form_stays q p back x.symbol.rank h.0 h.1.0.is_field.has_rank x.form h.1.1),
          h.1.2 ∙ own_symbol x.symbol.rank,
          h.1.3,
        ),
      )

  signature_was : (rank : ℕ) (f : PlacedFunction) → slice_get (package_functions p) rank ≡ Some f → (o : Option Signature) → IsFoundSignature q f o →
      IsFoundSignature p f o
  signature_was rank f at None none = λ g h. none g (signature p q alike rank f at g h)
  signature_was rank f at (Some g) h = signature q p back rank f (counting.function_behind w known r p q is relaid rank f at) g h

  method_was : (rank : ℕ) (name : List ℕ) (o : Option Method) → IsFoundMethod q rank name o → IsMethodFoundAfter (IsCheckedPackage w known) r p rank name o
  method_was rank name None none = λ k first.
      let c = counting.counting_method w known r p q is relaid alike seen rank name k first in none k c.0 c.1
  method_was rank name (Some x) h =
      let first = counting.counts_before w known r p q is relaid alike fields rank name x.symbol.rank h.0 h.1 in
      let m = first.has.has in
      let at = counting.function_before w known r p q is relaid x.symbol.rank h.0 h.1.is_method.has_rank in
      let same : h.0 ≡ m.method = same_Some h.0 m.method (sym at ∙ m.has_rank) in
      let received : m.method.function.receiver ≡ Some h.1.is_method.receiver =
      subst (λ (f : PlacedFunction). f.function.receiver ≡ Some h.1.is_method.receiver) same h.1.is_method.received in
      let receivers : h.1.is_method.receiver ≡ m.of_type.receiver =
      same_Some h.1.is_method.receiver m.of_type.receiver (sym received ∙ m.of_type.received) in (
        first,
        (
          subst (λ (f : PlacedFunction). IsFoundSignature p f x.signature) same (signature_was x.symbol.rank h.0 at x.signature h.2),
          h.3 ∙ ap is_on_pointer receivers,
          h.4 ∙ own_symbol x.symbol.rank,
          h.5,
        ),
      )

  pub definition_was : (rank : ℕ) (b : Definition) → IsDefinition q rank b → HasMembersAfter (IsCheckedPackage w known) r p rank b
  definition_was rank b h = record {
    underlying = underlying_was rank b.underlying h.underlying;
    written = λ name. written_was rank name (b.field name) (h.fields name);
    methods = λ name. method_was rank name (b.method name) (h.methods name);
  }

-- All packages
module _ (w : Workspace) (known : Verdicts) (d : Declaration) (name : List ℕ) (s : FileChanges) (after : Verdicts)
    (kept : IsKeptRename w known d name s after) (all : Symbol → Definition) (are : AreAllDefinitions (IsCheckedPackage (edited s w) after) all) where
  each_was : (p : Package) → IsCheckedPackage w known p → (rank : ℕ) (t : PlacedType) → slice_get (package_types p) rank ≡ Some t →
      HasMembersAfter (IsCheckedPackage w known) (revision_of w s) p rank (all (symbol_in p rank))
  each_was p is rank t at =
      let q = there w known d name s after kept p is in
      let k = is_kept w known d name s after kept p is (kept_under w known d name s after kept p) in
      let r = revision_of w s in
      let listed = counting.types_listed w known r p q.0 is q.1.1 in
      let there_too : slice_get (package_types q.0) rank ≡ Some t = subst (λ l. slice_get l rank ≡ Some t) (sym listed) at in
      let symbols : symbol_in q.0 rank ≡ symbol_in p rank = ap (λ (path : List ℕ). record { «package» = path; rank = rank }) q.1.1.path in
      definition_was w known r p q.0 is q.1.1 (of_bound p q.0 k.stays.bound) k.stays.seen k.fields rank (all (symbol_in p rank))
      (subst (λ z. IsDefinition q.0 rank (all z)) symbols (are.each q.0 q.1.0 rank t there_too))

  other_was : (z : Symbol) → (IsTypeSymbol (IsCheckedPackage w known) z → ⊥) → IsTypeSymbol (IsCheckedPackage (edited s w) after) z → ⊥
  other_was z none h = none (type_was w known d name s after kept z h)

  pub are_after : AreDefinitionsAfter (IsCheckedPackage w known) (revision_of w s) all
  are_after = record { each = each_was; others = λ z none. are.others z (other_was z none) }

pub edited_definitions : EditedDefinitionsAreAfter
edited_definitions w known after d name s plain right_after sound_after kept all are =
    are_after w known d name s after (record { rename = plain; right = right_after; sound = sound_after; kept = kept }) all are
