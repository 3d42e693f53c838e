-- A moved package has no fault of members where the old one has none.
use Rattle.std.proofs.Common.{ℕ, inl, inr, sym}
use Rattle.types_declared.specs.declared.fault.Fault.{Fault}
use Rattle.types_declared.specs.Package.{Package, package_types}
use Rattle.types_members.specs.MemberFaults.{ContainsDirectly, ContainsType, IsMemberFault, IsRecursive, IsRepeatedField, IsRepeatedMethod, directly, through}
use Rattle.law_changed_types.proofs.Alike.{got_by}
use Rattle.law_renamed_workspaces.proofs.Counting.{EachMemberCounts}
use Rattle.law_changed_types.specs.Moved.{PathMap, IsInjective}
use Rattle.law_changed_types.specs.MovedPackage.{IsMovedPackage}
use Rattle.law_changed_types.proofs.Defined.{field_counts, is_field_back, is_method_back, method_counts}
use Rattle.law_changed_types.proofs.Written.{binds_back, declares_type_back, same_place_types}

module _ (g : PathMap) (inj : IsInjective g) (p q : Package) (a : IsMovedPackage g p q) (counts : EachMemberCounts p)
    (fine : (f : Fault) → IsMemberFault p f → ⊥) where
  -- definitions that contain themselves

  contains_directly : (outer inner : ℕ) → ContainsDirectly q outer inner → ContainsDirectly p outer inner
  contains_directly outer inner h = record {
    definition = h.definition;
    has_rank = got_by (package_types q) (package_types p) outer h.definition (sym (same_place_types g inj p q a)) h.has_rank;
    name = h.name;
    written = h.written;
    declaration = h.declaration;
    binds = binds_back g inj p q a h.definition.file h.name h.declaration h.binds;
    names = declares_type_back g inj p q a h.declaration inner h.names;
  }

  contains_type : {outer inner : ℕ} → ContainsType q outer inner → ContainsType p outer inner
  contains_type {outer} {inner} (directly h) = directly (contains_directly outer inner h)
  contains_type {outer} (through {b = b} h more) = through (contains_directly outer b h) (contains_type more)

  was_recursive : (f : Fault) → IsRecursive q f → IsRecursive p f
  was_recursive f h = record {
    rank = h.rank;
    definition = h.definition;
    has_rank = got_by (package_types q) (package_types p) h.rank h.definition (sym (same_place_types g inj p q a)) h.has_rank;
    holds_itself = contains_type h.holds_itself;
    at = h.at;
  }

  -- members that are repeated

  no_field : (f : Fault) → IsRepeatedField q f → ⊥
  no_field f h =
      h.displaced
      (field_counts g inj p q a h.definition h.name h.rank h.field
      (counts.fields h.definition h.rank h.name h.field (is_field_back g inj p q a h.definition h.name h.rank h.field h.is_field)))

  no_method : (f : Fault) → IsRepeatedMethod q f → ⊥
  no_method f h =
      h.displaced
      (method_counts g inj p q a h.definition h.name h.rank h.method
      (counts.methods h.definition h.rank h.name h.method (is_method_back g inj p q a h.definition h.name h.rank h.method h.is_method)))

  pub no_member_fault : (f : Fault) → IsMemberFault q f → ⊥
  no_member_fault f (inl h) = no_field f h
  no_member_fault f (inr (inl h)) = no_method f h
  no_member_fault f (inr (inr h)) = fine f (inr (inr (was_recursive f h)))
