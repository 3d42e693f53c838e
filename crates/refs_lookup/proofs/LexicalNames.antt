-- In a workspace without faults the identifiers that declare or are lexical uses are bound by scopes.
use Rattle.std.proofs.Common.{ℕ, ◌≡◌, ◌<◌, ◌⊎◌, inl, inr, true, [], length, refl, sym, ◌∙◌, arith}
use Rattle.std.proofs.lemmas.Bool.{cases_Bool, cases_lt, true≢false}
use Rattle.base_files.specs.Workspace.{Workspace}
use Rattle.types_declared.specs.declared.fault.Fault.{Fault}
use Rattle.go_scope.specs.Bindings as scopes
use Rattle.go_scope.specs.Bindings.{IsUse, Declares, MayDeclare, is_use, is_left_name, own}
use Rattle.go_scope.specs.FileSites.{universe}
use Rattle.types_resolve.specs.Scoping.{IsFaultOfIdentifier, fault_at}
use Rattle.base_files.specs.declared.fault_kind.FaultKind.TheVariants as kind
use Rattle.types_declared.specs.Package.{Package, laid_of}
use Rattle.workspace_check.specs.FaultLists.{ListsFaults}
use Rattle.workspace_check.specs.Verdicts.{Verdicts, AreVerdicts}
use Rattle.refs_binding.specs.declared.declaration.Declaration.{Declaration}
use Rattle.refs_binding.specs.declared.declaration.Declaration.TheVariants.{Predeclared, Declared}
use Rattle.refs_binding.specs.Binding.{by_scope}
use Rattle.refs_binding.specs.Uses.{IsCheckedPackage, IsBoundToDeclaration}
use Rattle.refs_lookup.proofs.Faultless.{no_fault_later}

module _ (w : Workspace) (sound : ListsFaults w []) (known : Verdicts) (right : AreVerdicts w known) (p : Package) (is : IsCheckedPackage w known p)
    (u : ℕ) (lt : u < p.size)
    (unbound : (d : Declaration) → IsBoundToDeclaration w known p u d → ⊥) where
  no_number : (n : ℕ) → scopes.IsBoundTo p.layout p.names u n → ⊥
  no_number n b = elim (cases_lt n (length universe)) [
    | inl below ↦ unbound (Predeclared n) (by_scope (below, b))
    | inr ge ↦ unbound (Declared p.path n) (by_scope (refl, (λ below. let less : n < length universe = below in absurd (omega arith)), b))
  ]

  no_scope_fault : (f : Fault) → IsFaultOfIdentifier (laid_of p) u f → ⊥
  no_scope_fault f h = no_fault_later w sound known right p is f (inl (inl (inl (u, lt, h))))

  declares_none : Declares p.layout p.names u → ⊥
  declares_none d =
      no_scope_fault (fault_at p.layout u kind.Repeated)
      (inr (inl (record { at = refl; repeats = inl (d, λ counts. no_number u (own refl counts)) })))

  uses_none : IsUse p.layout p.names u → ⊥
  uses_none use_of = no_scope_fault (fault_at p.layout u kind.Undeclared) (inl (record { at = refl; is_use = use_of; unbound = no_number }))

  pub bound_somehow : MayDeclare p.layout u ⊎ (is_use (p.layout.role u) ≡ true) → ⊥
  bound_somehow h = elim h [
    | inl may ↦ elim (cases_Bool (is_left_name (p.layout.role u))) [
      | inl left ↦ uses_none (inr (left, declares_none))
      | inr other ↦ declares_none (record { may = may; is_new = λ left. absurd (true≢false (sym left ∙ other)) })
    ]
    | inr use_of ↦ uses_none (inl use_of)
  ]
