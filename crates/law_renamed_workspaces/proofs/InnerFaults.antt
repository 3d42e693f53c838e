-- A package with the bindings of one without faults has no faults of scopes, statements or qualified identifiers.
use Rattle.std.proofs.Common.{ℕ, suc, ◌≡◌, ◌<◌, inl, inr, Bool, true, false, List, ap, refl, sym, subst, ◌∙◌}
use Rattle.std.specs.Prelude.{Option, Some, None, is_some}
use Rattle.std.proofs.lemmas.Bool.{true≢false}
use Rattle.std.proofs.lemmas.Option.{none-some}
use Rattle.base_files.specs.Workspace.{Workspace}
use Rattle.base_files.specs.declared.fault_kind.FaultKind.{FaultKind}
use Rattle.base_files.specs.declared.fault_kind.FaultKind.TheVariants as kind
use Rattle.go_scope.specs.Bindings.{Layout}
use Rattle.types_declared.specs.declared.fault.Fault.{Fault}
use Rattle.types_declared.specs.Laid.{Laid, IsPathOf, is_exported}
use Rattle.types_declared.specs.Package.{Package, Export, laid_of, spelled}
use Rattle.types_declared.specs.Written.{DeclaresImport}
use Rattle.types_check.specs.Check.{exports_in}
use Rattle.types_resolve.specs.Scoping.{IsQualified, IsQualifiedFault, IsScopeFault, IsUnknownFault, qualified_fault, fault_at}
use Rattle.types_resolve.specs.StatementMarks.{IsMarkFault}
use Rattle.types_resolve.specs.Stages.{IsInnerFault}
use Rattle.workspace_check.specs.Verdicts.{Verdicts, AreVerdictsBelow, IsPackageIn}
use Rattle.refs_binding.proofs.Spelled.{selected_spelled}
use Rattle.law_changed_types.specs.SameBindings.{IsBoundAlike}
use Rattle.law_renamed_workspaces.proofs.ScopeFaults.{NoneIsInit, no_scope_fault, no_mark_fault}
use Rattle.law_renamed_workspaces.proofs.RenamedVerdictsStanding.{binds_first, second_index, selects_second, export_is_exported}

both_true : (x y : Bool) → ((k : FaultKind) → qualified_fault x y ≡ Some k → ⊥) → (x ≡ true) × (y ≡ true)
both_true true true none = (refl, refl)
both_true true false none = absurd (none kind.Undeclared refl)
both_true false y none = absurd (none kind.Unexported refl)

no_kind : (x y : Bool) (k : FaultKind) → x ≡ true → y ≡ true → qualified_fault x y ≡ Some k → ⊥
no_kind true true k a b e = none-some k e
no_kind true false k a b e = true≢false (sym b)
no_kind false y k a b e = true≢false (sym a)

some_of : {X : Type 0} (o : Option X) → is_some o ≡ true → (x : X) × (o ≡ Some x)
some_of None e = absurd (true≢false (sym e))
some_of (Some x) e = (x, refl)

-- a name that is spelled so at its token, by another layout that is the same
spelled_by : (q : Package) (u f n : ℕ) (l : Layout) → q.layout ≡ l → (l.place u).file ≡ f → (l.place u).index ≡ n →
    q.names u ≡ spelled q (q.layout.place u).file (q.layout.place u).index → q.names u ≡ spelled q f n
spelled_by q u f n l same file index e =
    e ∙ ap (λ (m : Layout). spelled q (m.place u).file (m.place u).index) same ∙ ap (λ k. spelled q k (l.place u).index) file ∙ ap (spelled q f) index

-- In a package without faults of qualified identifiers the name is exported, and there is an export.
was_exported : (p : Package) (b u d : ℕ) (path : List ℕ) → u < p.size → IsQualified (laid_of p) b u d → IsPathOf p.files (laid_of p) d path →
    ((f : Fault) → IsUnknownFault p.files (exports_in p) (laid_of p) f → ⊥) → (e : Export) × ((p.export_data_of path).exported (p.names u) ≡ Some e)
was_exported p b u d path lt qualified of_path fine =
    let both = both_true (is_exported (p.names u)) (exports_in p path (p.names u))
    (λ k e. fine (fault_at p.layout u k) (
      u,
      lt,
      record {
        before = b;
        import = d;
        path = path;
        qualified = qualified;
        of_path = of_path;
        file = refl;
        token = refl;
        kind = e;
      },
    )) in
    some_of ((p.export_data_of path).exported (p.names u)) both.1

module _ (w x : Workspace) (before after : Verdicts) (p q : Package) (right : AreVerdictsBelow x q.path after)
    (was : IsPackageIn w before p.path p) (is : IsPackageIn x after q.path q) (alike : IsBoundAlike p q)
    (fine : (f : Fault) → IsInnerFault p.files (exports_in p) (laid_of p) f → ⊥) where
  abbrev new : Laid
  new = record { layout = p.layout; names = q.names; size = p.size }

  laid_so : laid_of q ≡ new
  laid_so = λ i. record { layout = alike.layout i; names = q.names; size = alike.size i }

  was_qualified : (b u d : ℕ) → IsQualified new b u d → IsQualified (laid_of p) b u d
  was_qualified b u d h = record {
    selected = h.selected;
    next = h.next;
    same_file = h.same_file;
    behind_dot = h.behind_dot;
    bound = (alike.bindings b d).1 h.bound;
    is_import = h.is_import;
  }

  module _ (b u d : ℕ) (path : List ℕ) (lt : u < p.size) (qualified : IsQualified (laid_of p) b u d) (imports : DeclaresImport p d path) where
    at_file : (p.layout.place u).file ≡ (p.layout.place b).file
    at_file = qualified.same_file

    at_token : (p.layout.place u).index ≡ suc (suc (p.layout.place b).index)
    at_token = second_index w before p.path p was b u d lt qualified

    was_called : p.names u ≡ spelled p (p.layout.place b).file (suc (suc (p.layout.place b).index))
    was_called =
        spelled_by p u (p.layout.place b).file (suc (suc (p.layout.place b).index)) p.layout refl at_file at_token
        (selected_spelled w before p.path p was u qualified.selected)

    is_called : q.names u ≡ spelled q (p.layout.place b).file (suc (suc (p.layout.place b).index))
    is_called =
        spelled_by q u (p.layout.place b).file (suc (suc (p.layout.place b).index)) p.layout alike.layout at_file at_token
        (selected_spelled x after q.path q is u (ap (λ (l : Layout). l.role u) alike.layout ∙ qualified.selected))

    old_export : (e : Export) × ((p.export_data_of path).exported (p.names u) ≡ Some e)
    old_export = was_exported p b u d path lt qualified imports.of_path (λ f h. fine f (inr h))

    still_sees : (e : Export) → (p.export_data_of path).exported (p.names u) ≡ Some e → (q.export_data_of path).exported (q.names u) ≡ Some e
    still_sees e at =
        let then : (p.export_data_of path).exported (spelled p (p.layout.place b).file (suc (suc (p.layout.place b).index))) ≡ Some e =
        ap (λ n. (p.export_data_of path).exported n) (sym was_called) ∙ at in
        let now : (q.export_data_of path).exported (spelled q (p.layout.place b).file (suc (suc (p.layout.place b).index))) ≡ Some e =
        (alike.sees d (p.layout.place b).file (p.layout.place b).index path e (binds_first w before p.path p was b u d lt qualified) imports
        (selects_second w before p.path p was b u d lt qualified)).0 then in
        ap (λ n. (q.export_data_of path).exported n) is_called ∙ now

    new_export : (e : Export) × ((q.export_data_of path).exported (q.names u) ≡ Some e)
    new_export = (old_export.0, still_sees old_export.0 old_export.1)

    now_exported : is_exported (q.names u) ≡ true
    now_exported = export_is_exported x after q.path q is right path (q.names u) new_export.0 new_export.1

    now_found : exports_in q path (q.names u) ≡ true
    now_found = ap is_some new_export.1

    no_fault_so : (k : FaultKind) → qualified_fault (is_exported (q.names u)) (exports_in q path (q.names u)) ≡ Some k → ⊥
    no_fault_so k e = no_kind (is_exported (q.names u)) (exports_in q path (q.names u)) k now_exported now_found e

  no_unknown_at : (u : ℕ) → u < p.size → (f : Fault) → IsQualifiedFault q.files (exports_in q) (laid_of q) u f → ⊥
  no_unknown_at u lt f h =
      let qualified : IsQualified (laid_of p) h.before u h.import =
      was_qualified h.before u h.import (subst (λ z. IsQualified z h.before u h.import) laid_so h.qualified) in
      let imports : DeclaresImport p h.import h.path =
      (alike.imports h.import h.path).1 (record { is_import = h.qualified.is_import; of_path = h.of_path }) in
      no_fault_so h.before u h.import h.path lt qualified imports f.kind h.kind

  pub no_inner_fault : NoneIsInit p.layout p.size q.names → (f : Fault) → IsInnerFault q.files (exports_in q) (laid_of q) f → ⊥
  no_inner_fault no_init f (inl (inl h)) =
      no_scope_fault p.layout p.size p.names q.names alike.bindings (λ g s. fine g (inl (inl s))) no_init f (subst (λ z. IsScopeFault z f) laid_so h)
  no_inner_fault no_init f (inl (inr h)) =
      no_mark_fault p.layout p.size p.names q.names alike.bindings (λ g s. fine g (inl (inl s))) p.files q.files alike.trees (λ g m. fine g (inl (inr m))) f
      (subst (λ z. IsMarkFault q.files z f) laid_so h)
  no_inner_fault no_init f (inr h) = no_unknown_at h.0 (subst (λ n. h.0 < n) alike.size h.1) f h.2
