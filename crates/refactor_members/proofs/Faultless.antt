-- In a workspace without faults each field and each method of a package counts, and each written member has a type or a signature.
use Rattle.std.proofs.Common.{ℕ, inl, inr, List, [], refl}
use Rattle.base_files.specs.Workspace.{Workspace}
use Rattle.types_declared.specs.declared.fault.Fault.{Fault}
use Rattle.base_files.specs.declared.fault_kind.FaultKind.TheVariants as kind
use Rattle.types_declared.specs.Package.{Package, PlacedFunction}
use Rattle.types_declared.specs.Definitions.{PlacedField, IsFieldOf, IsCountingField, IsMethodOf, IsCountingMethod}
use Rattle.types_members.specs.MemberFaults.{IsMemberFault}
use Rattle.workspace_check.specs.declared.findings.Findings.{Findings}
use Rattle.workspace_check.specs.FaultLists.{ListsFaults}
use Rattle.workspace_check.specs.Verdicts.{Verdicts, AreVerdicts}
use Rattle.refs_binding.specs.Uses.{IsCheckedPackage}
use Rattle.refs_binding.specs.Workspaces.{IsFaultless, known_in}
use Rattle.refs_binding.proofs.Units.{list_of_sound}
use Rattle.refs_lookup.proofs.Faultless.{no_fault_later}
use Rattle.law_faultless.proofs.MembersWritten.{member_found}
use Rattle.refactor_members.proofs.OldMembers.{AllCount}

module _ (w : Workspace) (sound : ListsFaults w []) (known : Verdicts) (right : AreVerdicts w known) (p : Package) (is : IsCheckedPackage w known p) where
  no_member_fault : (f : Fault) → IsMemberFault p f → ⊥
  no_member_fault f h =
      no_fault_later w sound known right p is f (inr ((λ g inner. no_fault_later w sound known right p is g (inl inner)), inl h))

  field_counts : (definition : ℕ) (name : List ℕ) (rank : ℕ) (f : PlacedField) → IsFieldOf p definition name rank f →
      IsCountingField p definition name rank f
  field_counts definition name rank f own =
      let counted : (IsCountingField p definition name rank f → ⊥) → ⊥ =
      (λ displaced. no_member_fault (record { file = f.file; token = f.name; kind = kind.Repeated })
      (inl (record { definition = definition; name = name; rank = rank; field = f; is_field = own; displaced = displaced; at = refl }))) in
      record { is_field = own; first = λ other g lt h. counted (λ c. c.first other g lt h) }

  method_counts : (definition : ℕ) (name : List ℕ) (rank : ℕ) (f : PlacedFunction) → IsMethodOf p definition name rank f →
      IsCountingMethod p definition name rank f
  method_counts definition name rank f own =
      let counted : (IsCountingMethod p definition name rank f → ⊥) → ⊥ =
      (λ displaced. no_member_fault (record { file = f.file; token = f.function.name; kind = kind.Repeated })
      (inr (inl (record { definition = definition; name = name; rank = rank; method = f; is_method = own; displaced = displaced; at = refl })))) in
      record {
        is_method = own;
        no_field = λ h. counted (λ c. c.no_field h);
        first = λ other g lt h. counted (λ c. c.first other g lt h);
      }

-- So it is by the findings of a workspace without faults.
pub all_count : (w : Workspace) (found : Findings) → IsFaultless w found → (p : Package) → IsCheckedPackage w (known_in found) p → AllCount p
all_count w found sound p is =
    let none = list_of_sound w found sound in
    let known = known_in found in
    let right = sound.findings.right in
    record {
      fields = field_counts w none known right p is;
      typed = member_found w none known right p is;
      methods = method_counts w none known right p is;
    }
