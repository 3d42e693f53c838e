-- A plain rename of a declaration of scopes leaves the names of all fields and methods. So each of them, and each use of one, stays bound.
use Rattle.std.proofs.Common.{ℕ, ◌≡◌, List, sym}
use Rattle.std.specs.Prelude.{◌↔◌, Contains}
use Rattle.base_files.specs.Workspace.{Workspace}
use Rattle.base_files.specs.declared.place.Place.{Place}
use Rattle.base_edits.specs.EditSet.{FileChanges}
use Rattle.base_edits.specs.Revisions.{Revision}
use Rattle.base_edits.specs.RevisionsOfEdits.{revision_of}
use Rattle.types_declared.specs.Definitions.{PlacedField, IsFieldOf, IsMethodOf}
use Rattle.types_declared.specs.Package.{Package, PlacedFunction, symbol_in, spelled}
use Rattle.workspace_check.specs.Verdicts.{Verdicts}
use Rattle.refs_binding.specs.declared.declaration.Declaration.{Declaration}
use Rattle.refs_binding.specs.declared.declaration.Declaration.TheVariants.{Predeclared, Declared, Field, Method}
use Rattle.refs_binding.specs.Identifiers.{BeginsAt}
use Rattle.refs_binding.specs.Uses.{IsCheckedPackage}
use Rattle.refactor_conflict.specs.NamesAfter.{IsFieldAfter, IsMethodAfter}
use Rattle.refactor_conflict.specs.Staying.{StaysByMember, StaysByName}
use Rattle.law_renamed_workspaces.specs.Renames.{IsPlainRename}
use Rattle.law_renamed_workspaces.specs.MembersStay.{FieldStays, MethodStays, FieldsStay, MethodsStay, MembersStay}
use Rattle.law_renamed_workspaces.specs.NamesAfterwards.{IsMember, IsCalledAfter, gets_name, keeps_name}
use Rattle.law_renamed_workspaces.specs.ScopeRenames.{FieldNamesStay, MethodNamesStay}
use Rattle.law_renamed_workspaces.proofs.Called.{fields, methods, used_is_member, declared_is_member}
use Rattle.law_renamed_workspaces.proofs.RenamedSets.{own_alone}
use Rattle.law_renamed_workspaces.proofs.OtherMembers.{use_kept_everywhere, name_kept_everywhere}

-- a member is no declaration of scopes
apart : (e : Declaration) (path : List ℕ) (n : ℕ) → IsMember e → e ≡ Declared path n → ⊥
apart (Predeclared m) path n member same = member
apart (Declared q m) path n member same = member
apart (Field f) path n member same = cc
apart (Method f) path n member same = cc

module _ (w : Workspace) (known : Verdicts) (path : List ℕ) (n : ℕ) (name : List ℕ) (s : FileChanges) (h : IsPlainRename w known (Declared path n) name s)
    (x : Package) (is : IsCheckedPackage w known x) where
  abbrev r : Revision
  r = revision_of w s

  -- no member is renamed with it
  none_renamed : (e : Declaration) → IsMember e → Contains h.rename.set e → ⊥
  none_renamed e member in_set = apart e path n member
      (own_alone (IsCheckedPackage w known) (Declared path n) h.rename.set h.rename.is_set (λ m. m) e in_set)

  same_name : (e : Declaration) → IsMember e → (old new : List ℕ) → IsCalledAfter h.rename.set name e old new → old ≡ new
  same_name e member old new (gets_name in_set called) = absurd (none_renamed e member in_set)
  same_name e member old new (keeps_name away called) = sym called

  field_names : (d : ℕ) (m : List ℕ) (rank : ℕ) → IsFieldAfter r x d m rank ↔ ((f : PlacedField) × IsFieldOf x d m rank f)
  field_names d m rank = (
    (λ k.
        let c = (fields w known (Declared path n) name s h x is d m rank).0 k in (
          c.field,
          record {
            has_rank = c.has_rank;
            of_struct = c.of_struct;
            named = same_name (Field (symbol_in x rank)) tt (spelled x c.field.file c.field.name) m c.called;
          },
        )),
    (λ k. (fields w known (Declared path n) name s h x is d m rank).1 (record {
      field = k.0;
      has_rank = k.1.has_rank;
      of_struct = k.1.of_struct;
      called = keeps_name (none_renamed (Field (symbol_in x rank)) tt) (sym k.1.named);
    })),
  )

  method_names : (d : ℕ) (m : List ℕ) (rank : ℕ) → IsMethodAfter r x d m rank ↔ ((f : PlacedFunction) × IsMethodOf x d m rank f)
  method_names d m rank = (
    (λ k.
        let c = (methods w known (Declared path n) name s h x is d m rank).0 k in (
          c.method,
          record {
            has_rank = c.has_rank;
            receiver = c.of_type.receiver;
            received = c.of_type.received;
            declaration = c.of_type.declaration;
            binds = c.of_type.binds;
            of_type = c.of_type.of_type;
            named = same_name (Method (symbol_in x rank)) tt (spelled x c.method.file c.method.function.name) m c.called;
          },
        )),
    (λ k. (methods w known (Declared path n) name s h x is d m rank).1 (record {
      method = k.0;
      has_rank = k.1.has_rank;
      of_type = record {
        receiver = k.1.receiver;
        received = k.1.received;
        declaration = k.1.declaration;
        binds = k.1.binds;
        of_type = k.1.of_type;
      };
      called = keeps_name (none_renamed (Method (symbol_in x rank)) tt) (sym k.1.named);
    })),
  )

  module _ (u : ℕ) (place : Place) (begins : BeginsAt x place.path place.offset u) where
    used : StaysByMember w known r x u place
    used old was =
        use_kept_everywhere w known (Declared path n) name s h x is u place begins (λ e member in_set new. none_renamed e member in_set) old
        (none_renamed old (used_is_member x u old was)) was

    declared : StaysByName w known r x u place
    declared old declares =
        name_kept_everywhere w known (Declared path n) name s h x is u place begins (λ e member in_set new. none_renamed e member in_set) old
        (none_renamed old (declared_is_member x u old declares)) declares

    field_stays : FieldStays w known r x u place
    field_stays = record { by_name = λ f declares. declared (Field f) declares; by_member = λ f was. used (Field f) was }

    method_stays : MethodStays w known r x u place
    method_stays = record { by_name = λ f declares. declared (Method f) declares; by_member = λ f was. used (Method f) was }

pub field_names_stay : FieldNamesStay
field_names_stay w known path n name s h x is d m rank = field_names w known path n name s h x is d m rank

pub method_names_stay : MethodNamesStay
method_names_stay w known path n name s h x is d m rank = method_names w known path n name s h x is d m rank

pub fields_stay : FieldsStay
fields_stay w known path n name s h x is u place begins = field_stays w known path n name s h x is u place begins

pub methods_stay : MethodsStay
methods_stay w known path n name s h x is u place begins = method_stays w known path n name s h x is u place begins

pub members_stay : MembersStay
members_stay w known path n name s h x is u place begins =
    (used w known path n name s h x is u place begins, declared w known path n name s h x is u place begins)
