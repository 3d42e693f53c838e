-- Faults of members in packages whose tokens correspond.
use Rattle.std.proofs.Common.{ℕ, ◌≡◌, inl, inr, List, refl, sym, subst}
use Rattle.std.specs.Prelude.{Contains}
use Rattle.base_files.specs.declared.fault_kind.FaultKind.TheVariants as kind
use Rattle.go_ast.specs.Tree.{TypeTree, Local, Imported, Pointer, Slice}
use Rattle.types_declared.specs.declared.fault.Fault.{Fault}
use Rattle.types_declared.specs.Package.{Package, PlacedFunction}
use Rattle.types_declared.specs.Written.{BindsToken, contained_types}
use Rattle.types_declared.specs.Definitions.{PlacedField, IsFieldOf, IsCountingField, IsMethodOf, IsCountingMethod}
use Rattle.types_members.specs.MemberFaults.{IsRepeatedField, IsRepeatedMethod, ContainsDirectly, ContainsType, directly, through, IsRecursive, IsMemberFault}
use Rattle.law_changed_types.proofs.RenumberedTypesAlike.{Half, SameTree, Turned, TurnedIdentifiers, binds}
use Rattle.law_changed_types.proofs.RenumberedTypesWritten.{counterpart, same_contained, declares_type}
use Rattle.law_changed_types.proofs.RenumberedTypesDefined.{is_field, is_method, field_named}

local_is : (T : ℕ → ℕ → ℕ → Type 0) (p q : Package) (file m : ℕ) (x : TypeTree) → SameTree T p q file (Local m) x →
    (v : ℕ) × ((x ≡ Local v) × T file m v)
local_is T p q file m (Local v) h = (v, (refl, h))
local_is T p q file m (Imported u d v) h = absurd h
local_is T p q file m (Pointer s t) h = absurd h
local_is T p q file m (Slice o c t) h = absurd h

module _ (T : ℕ → ℕ → ℕ → Type 0) (I : ℕ → ℕ → Type 0) (p q : Package) (h : Half T I p q) (k : Half (Turned T) (TurnedIdentifiers I) q p) where
  field_counts : (definition : ℕ) (name : List ℕ) (rank : ℕ) (f g : PlacedField) → IsFieldOf p definition name rank f →
      IsCountingField q definition name rank g → IsCountingField p definition name rank f
  field_counts definition name rank f g is c = record {
    is_field = is;
    first = λ other x lt was. let y = is_field T I p q h k definition name other x was in c.first other y.0 lt y.1;
  }

  repeated_field : (f : Fault) → IsRepeatedField p f → (g : Fault) × IsRepeatedField q g
  repeated_field f r =
      let g = is_field T I p q h k r.definition r.name r.rank r.field r.is_field in (
        record { file = g.0.file; token = g.0.name; kind = kind.Repeated },
        record {
          definition = r.definition;
          name = r.name;
          rank = r.rank;
          field = g.0;
          is_field = g.1;
          displaced = λ c. r.displaced (field_counts r.definition r.name r.rank r.field g.0 r.is_field c);
          at = refl;
        },
      )

  method_counts : (definition : ℕ) (name : List ℕ) (rank : ℕ) (f g : PlacedFunction) → IsMethodOf p definition name rank f →
      IsCountingMethod q definition name rank g → IsCountingMethod p definition name rank f
  method_counts definition name rank f g is c = record {
    is_method = is;
    no_field = λ named. c.no_field (field_named T I p q h k definition name named);
    first = λ other x lt was. let y = is_method T I p q h k definition name other x was in c.first other y.function lt y.is_method;
  }

  repeated_method : (f : Fault) → IsRepeatedMethod p f → (g : Fault) × IsRepeatedMethod q g
  repeated_method f r =
      let g = is_method T I p q h k r.definition r.name r.rank r.method r.is_method in (
        record { file = g.function.file; token = g.function.function.name; kind = kind.Repeated },
        record {
          definition = r.definition;
          name = r.name;
          rank = r.rank;
          method = g.function;
          is_method = g.is_method;
          displaced = λ c. r.displaced (method_counts r.definition r.name r.rank r.method g.function r.is_method c);
          at = refl;
        },
      )

  contains_directly : (outer inner : ℕ) → ContainsDirectly p outer inner → ContainsDirectly q outer inner
  contains_directly outer inner c =
      let d = c.definition in
      let e = h.types outer d c.has_rank in
      let x = counterpart T p q d.file (contained_types d.spec.body) (contained_types e.0.spec.body) (Local c.name)
      (same_contained T p q d.file d.spec.body e.0.spec.body e.1.1.body) c.written in
      let now = local_is T p q d.file c.name x.0 x.1.1 in
      let bound = binds T I p q h d.file c.name now.0 c.declaration now.1.1 c.binds in
      record {
        definition = e.0;
        has_rank = e.1.0;
        name = now.0;
        written = subst (λ t. Contains (contained_types e.0.spec.body) t) now.1.0 x.1.0;
        declaration = bound.0;
        binds = subst (λ i. BindsToken q i now.0 bound.0) (sym e.1.1.file) bound.1.1;
        names = declares_type T I p q h k c.declaration bound.0 inner bound.1.0 c.names;
      }

  contains_type : (outer inner : ℕ) → ContainsType p outer inner → ContainsType q outer inner
  contains_type _ _ (directly {a = a} {b = b} c) = directly {a = a} {b = b} (contains_directly a b c)
  contains_type _ _ (through {a = a} {b = b} {c = c} first rest) =
      through {a = a} {b = b} {c = c} (contains_directly a b first) (contains_type b c rest)

  recursive : (f : Fault) → IsRecursive p f → (g : Fault) × IsRecursive q g
  recursive f r =
      let e = h.types r.rank r.definition r.has_rank in (
        record { file = e.0.file; token = e.0.spec.name; kind = kind.Recursive },
        record {
          rank = r.rank;
          definition = e.0;
          has_rank = e.1.0;
          holds_itself = contains_type r.rank r.rank r.holds_itself;
          at = refl;
        },
      )

  -- a fault of members has its counterpart
  pub member_fault : (f : Fault) → IsMemberFault p f → (g : Fault) × IsMemberFault q g
  member_fault f (inl r) = let g = repeated_field f r in (g.0, inl g.1)
  member_fault f (inr (inl r)) = let g = repeated_method f r in (g.0, inr (inl g.1))
  member_fault f (inr (inr r)) = let g = recursive f r in (g.0, inr (inr g.1))
