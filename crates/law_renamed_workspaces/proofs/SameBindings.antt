-- Where no identifier is lost or captured, the scopes of a package bind just what they bound.
use Rattle.std.proofs.Common.{ℕ, ◌≡◌, ◌<◌, ◌⊎◌, inl, inr, true, List, [], ap, sym, subst, refl, ◌∙◌}
use Rattle.std.proofs.lemmas.Bool.{cases_Bool, true≢false}
use Rattle.base_files.specs.Workspace.{Workspace}
use Rattle.base_files.specs.declared.fault_kind.FaultKind.TheVariants as kind
use Rattle.base_edits.specs.EditSet.{FileChanges}
use Rattle.base_edits.specs.RevisionsOfEdits.{revision_of}
use Rattle.go_scope.specs.Bindings as scopes
use Rattle.go_scope.specs.Bindings.{Layout, Declares, Counts, IsUse, IsLeftName, IsImport, own, is_implied, is_left_name, is_use, may_declare}
use Rattle.go_scope.proofs.Nests.{nests}
use Rattle.law_rename.specs.Renaming.{AreImportsUsed, AreUsesBound, HasSameBindings, KeepsOtherBindings, Renames}
use Rattle.law_rename.proofs.Exactness.{exact, exact_where_bound, same_bytes}
use Rattle.law_rename.proofs.Imports.{imports_kept}
use Rattle.types_declared.specs.Laid.{literal_of}
use Rattle.types_declared.specs.Package.{Package}
use Rattle.types_declared.proofs.ByteKeys.{cases_bytes}
use Rattle.types_resolve.specs.Scoping.{fault_at}
use Rattle.workspace_check.specs.FaultLists.{ListsFaults}
use Rattle.workspace_check.specs.Verdicts.{Verdicts, AreVerdicts}
use Rattle.refs_binding.specs.declared.declaration.Declaration.{Declaration}
use Rattle.refs_binding.specs.declared.declaration.Declaration.TheVariants.{Predeclared, Declared, Field, Method}
use Rattle.refs_binding.specs.Uses.{IsCheckedPackage}
use Rattle.refs_lookup.proofs.Faultless.{no_fault_later}
use Rattle.law_faultless.proofs.Declared.{may_within}
use Rattle.law_faultless.proofs.Lexical.{declares}
use Rattle.workspace_check.proofs.OnePackage.{layout_formed}
use Rattle.law_renamed_workspaces.specs.Layouts.{IsRelaid}
use Rattle.law_renamed_workspaces.specs.Renames.{IsPlainRename}
use Rattle.law_renamed_workspaces.proofs.OwnNames.{own_renames, role_inside}
use Rattle.law_renamed_workspaces.proofs.RenamedScopesRenamed.{others_stay}
use Rattle.law_renamed_workspaces.proofs.SameNames.{left_roles, same_bindings}

-- in a workspace without faults

module _ (w : Workspace) (sound : ListsFaults w []) (known : Verdicts) (right : AreVerdicts w known) (p : Package) (is : IsCheckedPackage w known p) where
  abbrev l : Layout
  l = p.layout

  pub uses_bound : AreUsesBound l p.names
  uses_bound u used none =
      let lt : u < p.size = within used in
      no_fault_later w sound known right p is (fault_at l u kind.Undeclared)
      (inl (inl (inl (u, lt, inl (record { at = refl; is_use = used; unbound = none })))))
    where
      within : IsUse l p.names u → u < p.size
      within used = elim used [
        | inl use_of ↦ role_inside w known p.path p is.is_checked u (inl use_of)
        | inr left ↦ role_inside w known p.path p is.is_checked u (inr (left_roles (l.role u) left.0).0)
      ]

  pub imports_used : AreImportsUsed l p.names
  imports_used i import declared none =
      no_fault_later w sound known right p is (fault_at l (literal_of l i) kind.Unused)
      (inl (inl (inl (
        i,
        may_within w known p.path p is.is_checked i declared.may,
        inr (inr (record { at = refl; is_import = import; unused = λ b. none b.user b.is_use b.bound })),
      ))))

  -- what declares or is a use is bound by scopes
  pub bound_somehow : (u : ℕ) → (is_use (l.role u) ≡ true) ⊎ (may_declare (l.role u) ≡ true) → ((e : ℕ) → scopes.IsBoundTo l p.names u e → ⊥) → ⊥
  bound_somehow u k none = elim k [
    | inl use_of ↦ uses_bound u (inl use_of) none
    | inr may ↦ elim (declares l p.names (layout_formed w known p.path p is.is_checked) u) [
      | inl new ↦
          no_fault_later w sound known right p is (fault_at l u kind.Repeated)
          (inl (inl (inl (
            u,
            may_within w known p.path p is.is_checked u may,
            inr (inl (record { at = refl; repeats = inl (new, λ counts. none u (own refl counts)) })),
          ))))
      | inr old ↦ elim (cases_Bool (is_left_name (l.role u))) [
        | inl left ↦ uses_bound u (inr (left, old)) none
        | inr other ↦ old (record { may = may; is_new = λ left. absurd (true≢false (sym left ∙ other)) })
      ]
    ]
  ]

module _ (w : Workspace) (before : Verdicts) (d : Declaration) (name : List ℕ) (s : FileChanges) (h : IsPlainRename w before d name s) (p q : Package)
    (is : IsCheckedPackage w before p) (relaid : IsRelaid (revision_of w s) p q) where
  abbrev k : Layout
  k = p.layout

  -- in the package of the declaration

  own_bindings : (n : ℕ) → d ≡ Declared p.path n → KeepsOtherBindings k p.names q.names → HasSameBindings k p.names q.names
  own_bindings n e keeps =
      let r : Renames k p.names n name q.names =
      own_renames w before p.path n name s (subst (λ x. IsPlainRename w before x name s) e h) p q is refl relaid in
      let nested = nests k r.well_formed in
      let used = imports_used w h.rename.sound before h.rename.right p is in
      let bound = uses_bound w h.rename.sound before h.rename.right p is in
      let all = imports_kept k nested p.names q.names n name r.all_count r.declared r.other_name r.renaming used keeps in
      (exact_where_bound k nested p.names q.names n name r.all_count r.declared r.other_name r.renaming bound).1
      ((exact k nested p.names q.names n name r.all_count r.declared r.other_name r.renaming).0 all)

  -- in another package

  same_name : ((n : ℕ) → d ≡ Declared p.path n → ⊥) → (u : ℕ) → (is_use (k.role u) ≡ true) ⊎ (may_declare (k.role u) ≡ true) → q.names u ≡ p.names u
  same_name other u x =
      same_bytes (q.names u) (p.names u)
      (λ ne. bound_somehow w h.rename.sound before h.rename.right p is u x (λ e b. ne (others_stay w before d name s h p q is other relaid u e b)))

  other_bindings : ((n : ℕ) → d ≡ Declared p.path n → ⊥) → HasSameBindings k p.names q.names
  other_bindings other = same_bindings k p.names q.names (λ x may. same_name other x (inr may)) (λ u use_of. same_name other u (inl use_of))

  is_here : (x : Declaration) → ((n : ℕ) × (x ≡ Declared p.path n)) ⊎ ((n : ℕ) → x ≡ Declared p.path n → ⊥)
  is_here (Predeclared n) = inr (λ m e. cc)
  is_here (Declared path n) = elim (cases_bytes path p.path) [
    | inl same ↦ inl (n, ap (λ r. Declared r n) same)
    | inr other ↦ inr (λ m e. other (let z : path ≡ p.path = cc in z))
  ]
  is_here (Field x) = inr (λ m e. cc)
  is_here (Method x) = inr (λ m e. cc)

  pub bindings : KeepsOtherBindings k p.names q.names → HasSameBindings k p.names q.names
  bindings keeps = elim (is_here d) [ inl here ↦ own_bindings here.0 here.1 keeps | inr other ↦ other_bindings other ]
