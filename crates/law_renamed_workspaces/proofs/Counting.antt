-- In a workspace without faults each field and each method counts.
use Rattle.std.proofs.Common.{ℕ, inl, inr, List, [], refl}
use Rattle.base_files.specs.declared.fault_kind.FaultKind.TheVariants as kind
use Rattle.base_files.specs.Workspace.{Workspace}
use Rattle.types_declared.specs.declared.fault.Fault.{Fault}
use Rattle.types_declared.specs.Definitions.{PlacedField, IsFieldOf, IsCountingField, IsMethodOf, IsCountingMethod}
use Rattle.types_declared.specs.Package.{Package, PlacedFunction}
use Rattle.types_members.specs.MemberFaults.{IsMemberFault}
use Rattle.workspace_check.specs.FaultLists.{ListsFaults}
use Rattle.workspace_check.specs.Verdicts.{Verdicts, AreVerdicts}
use Rattle.refs_binding.specs.Uses.{IsCheckedPackage}
use Rattle.refs_lookup.proofs.Faultless.{no_fault_later}

-- Each field is the first of its name in its struct. No field of the type and no earlier method has a method's name.
pub record EachMemberCounts (p : Package) : Type 0 where
  pub fields : (d rank : ℕ) (name : List ℕ) (f : PlacedField) → IsFieldOf p d name rank f → IsCountingField p d name rank f
  pub methods : (d rank : ℕ) (name : List ℕ) (f : PlacedFunction) → IsMethodOf p d name rank f → IsCountingMethod p d name rank f

module _ (w : Workspace) (sound : ListsFaults w []) (known : Verdicts) (right : AreVerdicts w known) (p : Package) (is : IsCheckedPackage w known p) where
  no_member_fault : (f : Fault) → IsMemberFault p f → ⊥
  no_member_fault f fault =
      no_fault_later w sound known right p is f (inr ((λ g inner. no_fault_later w sound known right p is g (inl inner)), inl fault))

  field_displaced : (d rank : ℕ) (name : List ℕ) (f : PlacedField) → IsFieldOf p d name rank f → (IsCountingField p d name rank f → ⊥) → ⊥
  field_displaced d rank name f x displaced =
      no_member_fault (record { file = f.file; token = f.name; kind = kind.Repeated })
      (inl (record { definition = d; name = name; rank = rank; field = f; is_field = x; displaced = displaced; at = refl }))

  method_displaced : (d rank : ℕ) (name : List ℕ) (f : PlacedFunction) → IsMethodOf p d name rank f → (IsCountingMethod p d name rank f → ⊥) → ⊥
  method_displaced d rank name f x displaced =
      no_member_fault (record { file = f.file; token = f.function.name; kind = kind.Repeated })
      (inr (inl (record { definition = d; name = name; rank = rank; method = f; is_method = x; displaced = displaced; at = refl })))

  pub each_counts : EachMemberCounts p
  each_counts = record {
    fields = λ d rank name f x. record {
      is_field = x;
      first = λ other g lt h. field_displaced d rank name f x (λ c. c.first other g lt h);
    };
    methods = λ d rank name f x. record {
      is_method = x;
      no_field = λ h. method_displaced d rank name f x (λ c. c.no_field h);
      first = λ other g lt h. method_displaced d rank name f x (λ c. c.first other g lt h);
    };
  }
