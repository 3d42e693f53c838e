-- In a workspace without faults, the declaring identifiers of fields and methods are bound to these.
use Rattle.std.proofs.Common.{ℕ, ◌≡◌, inl, inr, List, [], refl}
use Rattle.std.specs.Prelude.{Some, slice_get}
use Rattle.base_files.specs.Workspace.{Workspace}
use Rattle.base_files.specs.declared.fault_kind.FaultKind.TheVariants as kind
use Rattle.types_declared.specs.declared.fault.Fault.{Fault}
use Rattle.go_scope.specs.Table.{LiesAt}
use Rattle.types_declared.specs.Definitions.{PlacedField, package_fields, IsFieldOf, IsMethodOf}
use Rattle.types_declared.specs.Package.{Package, PlacedFunction, function_place, symbol_in, spelled}
use Rattle.types_members.specs.MemberFaults.{IsMemberFault}
use Rattle.workspace_check.specs.FaultLists.{ListsFaults}
use Rattle.workspace_check.specs.Verdicts.{Verdicts, AreVerdicts}
use Rattle.refs_binding.specs.declared.declaration.Declaration.{Declaration}
use Rattle.refs_binding.specs.declared.declaration.Declaration.TheVariants.{Field, Method}
use Rattle.refs_binding.specs.Binding.{by_name, field_place}
use Rattle.refs_binding.specs.Uses.{IsCheckedPackage, IsBoundToDeclaration}
use Rattle.refs_lookup.proofs.Faultless.{no_fault_later}

module _ (w : Workspace) (sound : ListsFaults w []) (known : Verdicts) (right : AreVerdicts w known) (p : Package) (is : IsCheckedPackage w known p) where
  no_member_fault : (f : Fault) → IsMemberFault p f → ⊥
  no_member_fault f h =
      no_fault_later w sound known right p is f (inr ((λ g inner. no_fault_later w sound known right p is g (inl inner)), inl h))

  pub field_bound : (rank : ℕ) (f : PlacedField) → slice_get (package_fields p) rank ≡ Some f → (u : ℕ) → LiesAt p.layout (field_place f) u →
      ((d : Declaration) → IsBoundToDeclaration w known p u d → ⊥) → ⊥
  field_bound rank f has u stands unbound =
      let own : IsFieldOf p f.definition (spelled p f.file f.name) rank f = record { has_rank = has; of_struct = refl; named = refl } in
      no_member_fault (record { file = f.file; token = f.name; kind = kind.Repeated })
      (inl (record {
        definition = f.definition;
        name = spelled p f.file f.name;
        rank = rank;
        field = f;
        is_field = own;
        displaced =
            (λ counting. unbound (Field (symbol_in p rank)) (by_name (
              refl,
              record {
                at = field_place f;
                is_at = record {
                  counts = record { definition = f.definition; name = spelled p f.file f.name; field = f; counting = counting };
                  named_at = refl;
                };
                stands = stands;
              },
            )));
        at = refl;
      }))

  pub method_bound : (definition rank : ℕ) (name : List ℕ) (f : PlacedFunction) → IsMethodOf p definition name rank f → (u : ℕ) →
      LiesAt p.layout (function_place f) u → ((d : Declaration) → IsBoundToDeclaration w known p u d → ⊥) → ⊥
  method_bound definition rank name f own u stands unbound =
      no_member_fault (record { file = f.file; token = f.function.name; kind = kind.Repeated })
      (inr (inl (record {
        definition = definition;
        name = name;
        rank = rank;
        method = f;
        is_method = own;
        displaced =
            (λ counting. unbound (Method (symbol_in p rank)) (by_name (
              refl,
              record {
                at = function_place f;
                is_at = record { counts = record { definition = definition; name = name; method = f; counting = counting }; named_at = refl };
                stands = stands;
              },
            )));
        at = refl;
      })))
