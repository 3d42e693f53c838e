-- In a workspace without faults no fault of types is found in a file.
use Rattle.std.proofs.Common.{ℕ, ◌≡◌, inl, inr, List, [], ◌∷◌, refl, arith}
use Rattle.std.specs.Prelude.{Contains}
use Rattle.base_files.specs.Workspace.{Workspace}
use Rattle.base_files.specs.declared.fault_kind.FaultKind.TheVariants as kind
use Rattle.types_declared.specs.declared.fault.Fault.{Fault}
use Rattle.types_expr.specs.Judge.{MemberUse}
use Rattle.types_stmt.specs.Declarations.{check_file}
use Rattle.law_typing.specs.Declarations.{FileIsTyped}
use Rattle.law_typing.specs.Excused.{FileIsExcused}
use Rattle.law_typing.proofs.Declarations.{file_settled}
use Rattle.types_declared.specs.Package.{Package}
use Rattle.types_info.specs.MemberUses.{AreUsesIn}
use Rattle.types_info.specs.Worlds.{is_init}
use Rattle.types_check.specs.TypeFaults.{IsTypeFault}
use Rattle.workspace_check.specs.FaultLists.{ListsFaults}
use Rattle.workspace_check.specs.Verdicts.{Verdicts, AreVerdicts}
use Rattle.refs_binding.specs.Uses.{IsCheckedPackage}
use Rattle.refs_lookup.proofs.Faultless.{no_fault_later}

module _ (w : Workspace) (sound : ListsFaults w []) (known : Verdicts) (right : AreVerdicts w known) (p : Package) (is : IsCheckedPackage w known p) where
  no_type_fault : (f : Fault) → IsTypeFault p f → ⊥
  no_type_fault f h =
      no_fault_later w sound known right p is f
      (inr (
        (λ g inner. no_fault_later w sound known right p is g (inl inner)),
        inr ((λ g member. no_fault_later w sound known right p is g (inr ((λ x inner. no_fault_later w sound known right p is x (inl inner)), inl member))), h),
      ))

  none_in : (list : List ℕ) → ((token : ℕ) → Contains list token → ⊥) → list ≡ []
  none_in [] none = refl
  none_in (x ∷ xs) none = absurd (none x (0, omega arith, refl))

  pub no_fault_in : (file : ℕ) (uses : List MemberUse) (a : AreUsesIn p file uses) → (check_file a.world (is_init a.source) a.source.tree).faults ≡ []
  no_fault_in file uses a =
      none_in (check_file a.world (is_init a.source) a.source.tree).faults
      (λ token c. no_type_fault (record { file = file; token = token; kind = kind.«Type» })
      (record { source = a.source; in_file = a.in_file; world = a.world; judged_by = a.judged_by; found = c; kind = refl }))

  pub typed_unless : (file : ℕ) (uses : List MemberUse) (a : AreUsesIn p file uses) → (FileIsExcused a.world (is_init a.source) a.source.tree → ⊥) →
      FileIsTyped a.world (is_init a.source) a.source.tree
  typed_unless file uses a unexcused =
      elim (file_settled a.world (is_init a.source) a.source.tree (no_fault_in file uses a)) [ inl typed ↦ typed | inr excused ↦ absurd (unexcused excused) ]
