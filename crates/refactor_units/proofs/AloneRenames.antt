-- What prints no name in objects is renamed alone.
use Rattle.std.proofs.Common.{◌≡◌, List, [], ap, sym, subst, ◌∙◌}
use Rattle.std.specs.Prelude.{Some, slice_get}
use Rattle.std.proofs.lemmas.Option.{same_Some}
use Rattle.base_files.specs.Workspace.{Workspace}
use Rattle.types_expr.specs.declared.symbol.Symbol.{Symbol}
use Rattle.types_expr.specs.World.{Definition}
use Rattle.types_expr.specs.Types.{AMethodOf}
use Rattle.types_declared.specs.Definitions.{HasForm, PlacedField, package_fields}
use Rattle.types_declared.specs.Package.{Package}
use Rattle.workspace_check.specs.FaultLists.{ListsFaults}
use Rattle.workspace_check.specs.Verdicts.{Verdicts, AreVerdicts}
use Rattle.refs_binding.specs.declared.declaration.Declaration.{Declaration}
use Rattle.refs_binding.specs.declared.declaration.Declaration.TheVariants.{Predeclared, Declared, Field, Method}
use Rattle.refs_binding.specs.DeclaringPlaces.{InPackage}
use Rattle.refs_binding.specs.Uses.{IsCheckedPackage}
use Rattle.refs_binding.proofs.Units.{one_package}
use Rattle.refactor_coupled.specs.Coupling.{IsAskedMethod, IsRenamedSet}
use Rattle.refactor_coupled.specs.Implementing.{AreAllDefinitions}
use Rattle.refactor_coupled.proofs.MethodOwners.{written_by}
use Rattle.law_renamed_workspaces.specs.RenamedData.{IsAlone}
use Rattle.law_implementing.proofs.Laws.{others_are_alone}
use Rattle.law_implementing.proofs.NoneTurns.{decided}
use Rattle.law_objects.specs.Objects.{IsFieldOfType, IsUnprinted}

no_field : (definition : Symbol → Definition) (d : Declaration) → ((s : Symbol) → d ≡ Field s → ⊥) → IsAskedMethod definition d → ⊥
no_field definition d not m = not m.asked.written.symbol m.asked.is_declaration

same_field : (s t : Symbol) → Field s ≡ Field t → t ≡ s
same_field s t e = cc

module _ (w : Workspace) (sound : ListsFaults w []) (known : Verdicts) (right : AreVerdicts w known) where
  module _ (definition : Symbol → Definition) (are : AreAllDefinitions (IsCheckedPackage w known) definition) where
    -- No interface asks for a field of a struct.
    field_unasked : (s : Symbol) → InPackage (IsCheckedPackage w known) s.package (λ p. IsFieldOfType p s.rank) → IsAskedMethod definition (Field s) → ⊥
    field_unasked s h m =
        let a = m.asked in
        let by = written_by w known definition are (decided w sound known right definition are) m.interface m.name a.written a.is_written in
        let p = by.of.inside in
        let same : a.written.symbol ≡ s = same_field s a.written.symbol a.is_declaration in
        let path : p.path ≡ s.package = ap (λ (t : Symbol). t.package) (sym by.is_symbol ∙ same) in
        let one : h.inside ≡ p = one_package w known h.inside p h.is_package by.of.is_package (h.of_path ∙ sym path) in
        let here : IsFieldOfType p s.rank = subst (λ (q : Package). IsFieldOfType q s.rank) one h.holds in
        let at : slice_get (package_fields p) s.rank ≡ Some by.field =
        subst (λ (t : Symbol). slice_get (package_fields p) t.rank ≡ Some by.field) same by.counting.is_field.has_rank in
        let field : by.field ≡ here.field = same_Some by.field here.field (sym at ∙ here.has_rank) in
        let typed : HasForm p by.field.file by.field.form (AMethodOf a.signature) =
        subst (HasForm p by.field.file by.field.form) a.is_method by.has_form in
        subst (λ form. HasForm p here.field.file form (AMethodOf a.signature)) here.form
        (subst (λ (f : PlacedField). HasForm p f.file f.form (AMethodOf a.signature)) field typed)

    unasked : (d : Declaration) → IsUnprinted (IsCheckedPackage w known) d → IsAskedMethod definition d → ⊥
    unasked (Predeclared n) none = absurd none
    unasked (Declared path n) none = no_field definition (Declared path n) (λ s e. let never : ⊥ = cc in never)
    unasked (Field s) none = field_unasked s none
    unasked (Method s) none = absurd none

  pub alone : (d : Declaration) (set : List Declaration) → IsRenamedSet (IsCheckedPackage w known) d set → IsUnprinted (IsCheckedPackage w known) d →
      IsAlone d set
  alone d set is none =
      others_are_alone w known d set right sound is is.definition is.are_definitions (unasked is.definition is.are_definitions d none)
