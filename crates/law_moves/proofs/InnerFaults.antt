-- A moved package has no fault of scopes, statements or qualified identifiers where the old one has none.
use Rattle.std.proofs.Common.{ℕ, ◌≡◌, ◌<◌, inl, inr, Bool, true, false, List, ap, refl, sym, subst, ◌∙◌}
use Rattle.std.specs.Prelude.{Option, Some, None, is_some, option_map}
use Rattle.std.proofs.lemmas.Bool.{true≢false}
use Rattle.std.proofs.lemmas.Option.{none-some}
use Rattle.base_files.specs.Workspace.{Workspace}
use Rattle.base_files.specs.declared.fault_kind.FaultKind.{FaultKind}
use Rattle.base_files.specs.declared.fault_kind.FaultKind.TheVariants as kind
use Rattle.go_scope.specs.declared.model.Position.{Position}
use Rattle.go_scope.specs.Bindings.{IsPackageLevel, Layout, is_implied}
use Rattle.types_declared.specs.declared.fault.Fault.{Fault}
use Rattle.types_declared.specs.Laid.{Laid, is_exported}
use Rattle.types_declared.specs.Package.{Package, laid_of, spelled}
use Rattle.types_declared.specs.Written.{DeclaresImport}
use Rattle.types_resolve.specs.Scoping.{IsQualified, IsQualifiedFault, IsScopeFault, fault_at, qualified_fault}
use Rattle.types_resolve.specs.StatementMarks.{IsMarkFault}
use Rattle.types_resolve.specs.Stages.{IsInnerFault}
use Rattle.types_check.specs.Check.{exports_in}
use Rattle.workspace_check.specs.Verdicts.{Verdicts, IsPackageIn}
use Rattle.refs_binding.proofs.Spelled.{selected_spelled}
use Rattle.law_faultless.proofs.Scoped.{found_first}
use Rattle.law_renamed_workspaces.proofs.ScopeFaults.{NoneIsInit, no_mark_fault, no_scope_fault, none_was_init}
use Rattle.law_changed_types.specs.Moved.{PathMap}
use Rattle.law_changed_types.specs.MovedPackage.{IsMovedPackage, moved_export}

both_true : (a b : Bool) → ((k : FaultKind) → qualified_fault a b ≡ Some k → ⊥) → (a ≡ true) × (b ≡ true)
both_true true true none = (refl, refl)
both_true true false none = absurd (none kind.Undeclared refl)
both_true false b none = absurd (none kind.Unexported refl)

no_kind : (a b : Bool) (k : FaultKind) → a ≡ true → b ≡ true → qualified_fault a b ≡ Some k → ⊥
no_kind a b k one other e = none-some k (sym (ap (λ c. qualified_fault c b) one ∙ ap (qualified_fault true) other) ∙ e)

some_moves : {A B : Type 0} (f : A → B) (o : Option A) → is_some o ≡ true → is_some (option_map f o) ≡ true
some_moves f None e = absurd (true≢false (sym e))
some_moves f (Some y) e = refl

module _ (g : PathMap) (w x : Workspace) (before after : Verdicts) (p q : Package) (was : IsPackageIn w before p.path p)
    (is : IsPackageIn x after q.path q) (a : IsMovedPackage g p q) (levels : (d : ℕ) → IsPackageLevel p.layout d → q.names d ≡ p.names d)
    (fine : (f : Fault) → IsInnerFault p.files (exports_in p) (laid_of p) f → ⊥) where
  abbrev new : Laid
  new = record { layout = p.layout; names = q.names; size = p.size }

  laid_so : laid_of q ≡ new
  laid_so = λ i. record { layout = a.layout i; names = q.names; size = a.size i }

  was_qualified : (b u d : ℕ) → IsQualified new b u d → IsQualified (laid_of p) b u d
  was_qualified b u d h = record {
    selected = h.selected;
    next = h.next;
    same_file = h.same_file;
    behind_dot = h.behind_dot;
    bound = (a.bindings b d).1 h.bound;
    is_import = h.is_import;
  }

  module _ (b u d : ℕ) (path : List ℕ) (lt : u < p.size) (qualified : IsQualified (laid_of p) b u d) (imports : DeclaresImport p d path) where
    same_name : q.names u ≡ p.names u
    same_name =
        let at = p.layout.place u in
        let place : q.layout.place u ≡ at = ap (λ (l : Layout). l.place u) a.layout in
        selected_spelled x after q.path q is u (ap (λ (l : Layout). l.role u) a.layout ∙ qualified.selected)
        ∙ ap (λ (k : Position). spelled q k.file k.index) place
        ∙ a.selectors at.file at.index (record {
          identifier = u;
          found = found_first w before p.path p was at u lt (ap is_implied qualified.selected, refl, refl);
          selected = qualified.selected;
        })
        ∙ sym (selected_spelled w before p.path p was u qualified.selected)

    old_both : (is_exported (p.names u) ≡ true) × (exports_in p path (p.names u) ≡ true)
    old_both = both_true (is_exported (p.names u)) (exports_in p path (p.names u)) (λ k e. fine (fault_at p.layout u k) (inr (
      u,
      lt,
      record {
        before = b;
        import = d;
        path = path;
        qualified = qualified;
        of_path = imports.of_path;
        file = refl;
        token = refl;
        kind = e;
      },
    )))

    now_found : exports_in q (g path) (q.names u) ≡ true
    now_found =
        ap (exports_in q (g path)) same_name ∙ ap is_some (a.exports path (p.names u))
        ∙ some_moves (moved_export g) ((p.export_data_of path).exported (p.names u)) old_both.1

    no_fault_so : (k : FaultKind) → qualified_fault (is_exported (q.names u)) (exports_in q (g path) (q.names u)) ≡ Some k → ⊥
    no_fault_so k e =
        no_kind (is_exported (q.names u)) (exports_in q (g path) (q.names u)) k (ap is_exported same_name ∙ old_both.0) now_found e

  no_unknown_at : (u : ℕ) → u < p.size → (f : Fault) → IsQualifiedFault q.files (exports_in q) (laid_of q) u f → ⊥
  no_unknown_at u lt f h =
      let qualified : IsQualified (laid_of p) h.before u h.import =
      was_qualified h.before u h.import (subst (λ z. IsQualified z h.before u h.import) laid_so h.qualified) in
      let old = (a.imports h.import).back h.path (record { is_import = h.qualified.is_import; of_path = h.of_path }) in
      no_fault_so h.before u h.import old.0 lt qualified old.1.1 f.kind
      (subst (λ r. qualified_fault (is_exported (q.names u)) (exports_in q r (q.names u)) ≡ Some f.kind) old.1.0 h.kind)

  abbrev Fine : Type 0
  Fine = (f : Fault) → IsScopeFault (record { layout = p.layout; names = p.names; size = p.size }) f → ⊥

  scopes_fine : Fine
  scopes_fine f h = fine f (inl (inl h))

  none_is_init : NoneIsInit p.layout p.size q.names
  none_is_init u lt level called =
      none_was_init p.layout p.size p.names p.names (λ v e. ((λ b. b), (λ b. b))) scopes_fine u lt level (sym (levels u level) ∙ called)

  pub no_inner_fault : (f : Fault) → IsInnerFault q.files (exports_in q) (laid_of q) f → ⊥
  no_inner_fault f (inl (inl h)) =
      no_scope_fault p.layout p.size p.names q.names a.bindings scopes_fine none_is_init f (subst (λ z. IsScopeFault z f) laid_so h)
  no_inner_fault f (inl (inr h)) =
      no_mark_fault p.layout p.size p.names q.names a.bindings scopes_fine p.files q.files a.trees (λ k m. fine k (inl (inr m))) f
      (subst (λ z. IsMarkFault q.files z f) laid_so h)
  no_inner_fault f (inr h) = no_unknown_at h.0 (subst (λ n. h.0 < n) a.size h.1) f h.2
