-- Where names other than those of imports are kept, package-level declarations keep their names and count. So selectors of qualified
-- identifiers stay bound.
use Rattle.std.proofs.Common.{ℕ, ◌≡◌, inl, inr, true, List, ap, sym, subst, refl, ◌∙◌}
use Rattle.std.proofs.lemmas.Bool.{true≢false}
use Rattle.base_files.specs.Workspace.{Workspace}
use Rattle.base_files.specs.declared.place.Place.{Place}
use Rattle.base_edits.specs.Revisions.{Revision, PackageMovesTo}
use Rattle.go_scope.specs.declared.model.Block.TheVariants.{Universe, Package as PackageBlock, File, Inner}
use Rattle.go_scope.specs.declared.model.Position.{Position}
use Rattle.go_scope.specs.declared.model.Purpose.TheVariants as purpose
use Rattle.go_scope.specs.declared.model.Role.{Role}
use Rattle.go_scope.specs.declared.model.Role.TheVariants.{Use}
use Rattle.go_scope.specs.Bindings.{Layout, IsImport, IsLeftName, IsPackageLevel, MayDeclare, Counts, Displaces, IsUse}
use Rattle.go_scope.specs.Bindings.{IsBoundTo, use_bound, own, block_of, is_use}
use Rattle.go_scope.specs.WellFormed.{WellFormed}
use Rattle.types_check.specs.Exports.{DoesExport}
use Rattle.types_declared.specs.Laid.{literal_of, is_exported}
use Rattle.types_declared.specs.Package.{Package}
use Rattle.workspace_check.specs.Verdicts.{Verdicts}
use Rattle.workspace_check.proofs.OnePackage.{layout_formed}
use Rattle.refs_binding.specs.declared.declaration.Declaration.{Declaration}
use Rattle.refs_binding.specs.declared.declaration.Declaration.TheVariants.{Declared}
use Rattle.refs_binding.specs.Binding.{IsPredeclaredNumber, BindsQualified, IsQualifiedUse}
use Rattle.refs_binding.specs.DeclaringPlaces.{TokenAt, IsDeclaredAt}
use Rattle.refs_binding.specs.Identifiers.{BeginsAt}
use Rattle.refs_binding.specs.Uses.{IsCheckedPackage}
use Rattle.refs_binding.proofs.Excluding.{exported_as}
use Rattle.refactor_conflict.specs.Corresponding.{stands}
use Rattle.refactor_conflict.specs.ScopedPackages.{IsScopedIn}
use Rattle.refactor_conflict.specs.BoundAfter.{HasBecome, IsBoundByPackage}
use Rattle.refactor_conflict.specs.Staying.{StaysBound}
use Rattle.law_renamed_workspaces.proofs.OwnNames.{identifies, in_universe, role_inside}
use Rattle.law_renamed_workspaces.proofs.Standing.{begins_there, declared_stands}
use Rattle.law_renamed_workspaces.proofs.MovedTokens.{have_places}
use Rattle.law_changed_types.specs.Moved.{PathMap}
use Rattle.law_moves.specs.Moving.{IsScopedMove, AreScopedMoves}
use Rattle.law_moves.specs.KeptNames.{IsBoundToImport, KeepsOtherNames}
use Rattle.law_moves.proofs.MembersStay.{kept_by_role}

-- blocks

level_no_import : (l : Layout) (d : ℕ) → IsPackageLevel l d → IsImport l d → ⊥
level_no_import l d level import =
    let same : PackageBlock ≡ File import.0 = sym level ∙ import.1 in
    let z : ⊥ = cc in z

used_elsewhere : (r : Role) → is_use r ≡ true → block_of r ≡ Universe
used_elsewhere Use e = refl
used_elsewhere r e = absurd (true≢false (sym e))

level_no_use : (l : Layout) → WellFormed l → (d : ℕ) → IsPackageLevel l d → IsLeftName l d → ⊥
level_no_use l formed d level left =
    let inner = formed.left_inner d left in never inner.0 inner.1 inner.2 (sym level ∙ inner.3)
  where
    never : (f a b : ℕ) → PackageBlock ≡ Inner f a b → ⊥
    never f a b e = cc

not_universal : PackageBlock ≡ Universe → ⊥
not_universal e = cc

module _ (w : Workspace) (known : Verdicts) (r : Revision) (kept : KeepsOtherNames w known r) (goes : PathMap) (p q : Package)
    (is : IsCheckedPackage w known p) (a : IsScopedMove w r goes p q) where
  abbrev l : Layout
  l = p.layout

  formed : WellFormed l
  formed = layout_formed w known p.path p is.is_checked

  pub level_own : (d : ℕ) → IsPackageLevel l d → IsPredeclaredNumber d → ⊥
  level_own d level universal = not_universal (sym level ∙ in_universe w known p.path p is.is_checked d universal)

  no_import : (d : ℕ) → IsPackageLevel l d → IsBoundToImport p d → ⊥
  no_import d level i = by_way i.bound
    where
      by_use : IsUse l p.names d → ⊥
      by_use (inl used) = not_universal (sym level ∙ used_elsewhere (l.role d) used)
      by_use (inr left) = level_no_use l formed d level left.0

      by_way : IsBoundTo l p.names d i.import → ⊥
      by_way (use_bound used b) = by_use used
      by_way (own same c) = level_no_import l d level (subst (IsImport l) (sym same) i.is_import)

  -- a package-level declaration keeps its name
  pub level_named : (d : ℕ) → IsPackageLevel l d → MayDeclare l d → q.names d ≡ p.names d
  level_named d level may =
      let within = role_inside w known p.path p is.is_checked d (inr may) in
      let file = identifies w known p.path p is.is_checked d (level_own d level) in
      let at = begins_there p d within file
      (declared_stands w known p.path p is.is_checked d within may file (λ laid import. level_no_import l d level import)) in
      a.names d at.0 at.1
      ∙ kept p is d at.0 at.1 (no_import d level) (λ clause. not_universal (sym level ∙ ap block_of clause)) (p.names d)

  not_left : (d : ℕ) → IsPackageLevel l d → IsLeftName l d → ⊥
  not_left d level left = level_no_use l formed d level left

  -- and still counts
  level_counts : (d : ℕ) → IsPackageLevel l d → Counts l p.names d → Counts l q.names d
  level_counts d level c = record {
    declares = record { may = c.declares.may; is_new = λ left. absurd (not_left d level left) };
    first = λ e also same displaces. by_block e also.may same displaces;
  }
    where
      in_block : (e : ℕ) → MayDeclare l e → q.names e ≡ q.names d → IsPackageLevel l e → Displaces l e d → ⊥
      in_block e may same there displaces =
          c.first e (record { may = may; is_new = λ left. absurd (not_left e there left) })
          (sym (level_named e there may) ∙ same ∙ level_named d level c.declares.may) displaces

      by_block : (e : ℕ) → MayDeclare l e → q.names e ≡ q.names d → Displaces l e d → ⊥
      by_block e may same (inl earlier) = in_block e may same (earlier.0 ∙ level) (inl earlier)
      by_block e may same (inr import) = level_no_import l d level import.1

  pub exports_after : (d : ℕ) → DoesExport p d → DoesExport q d
  exports_after d k = record {
    package_level = subst (λ (m : Layout). IsPackageLevel m d) (sym a.layout) k.package_level;
    counts = subst (λ (m : Layout). Counts m q.names d) (sym a.layout) (level_counts d k.package_level k.counts);
    exported = ap is_exported (level_named d k.package_level k.counts.declares.may) ∙ k.exported;
  }

  -- what counts before and after the change has become what has its number
  pub becomes_there : (d : ℕ) → (IsPredeclaredNumber d → ⊥) → Counts l p.names d → Counts q.layout q.names d →
      HasBecome w known r (Declared p.path d) (Declared q.path d)
  becomes_there d apart before after =
      let place = have_places w known p is d before apart in
      let at : Position = l.place (literal_of l d) in
      let token : TokenAt q at (r.moved place.0) = a.begins.tokens at place.0 place.1 in
      let there : TokenAt q (q.layout.place (literal_of q.layout d)) (r.moved place.0) =
      subst (λ (k : Layout). TokenAt q (k.place (literal_of k d)) (r.moved place.0)) (sym a.layout) token in
      let old : IsDeclaredAt (IsCheckedPackage w known) (Declared p.path d) place.0 = record {
        inside = p;
        is_package = is;
        of_path = refl;
        holds = record { at = at; is_at = record { own = apart; counts = before; stands = refl }; begins = place.1 };
      } in
      let new : IsDeclaredAt (IsScopedIn r.after) (Declared q.path d) (r.moved place.0) = record {
        inside = q;
        is_package = a.is_scoped;
        of_path = refl;
        holds = record { at = q.layout.place (literal_of q.layout d); is_at = record { own = apart; counts = after; stands = refl }; begins = there };
      } in
      stands place.0 old new

  pub export_becomes : (d : ℕ) → DoesExport p d → HasBecome w known r (Declared p.path d) (Declared q.path d)
  export_becomes d k = becomes_there d (level_own d k.package_level) k.counts (exports_after d k).counts

-- The selector of a qualified identifier stays bound.
module _ (w : Workspace) (known : Verdicts) (r : Revision) (goes : PathMap) (h : AreScopedMoves w known r goes) (p : Package) (is : IsCheckedPackage w known p)
    (u : ℕ) (place : Place) (begins : BeginsAt p place.path place.offset u) where
  selector_called : (path : List ℕ) (n : ℕ) → IsQualifiedUse (IsCheckedPackage w known) p u path n → r.called place (p.names u) ≡ p.names u
  selector_called path n k =
      kept_by_role w known r h.kept p is u place begins purpose.Selected k.behind.selected (λ e. let z : ⊥ = cc in z) (p.names u)

  by_export : (path : List ℕ) (n : ℕ) → IsQualifiedUse (IsCheckedPackage w known) p u path n →
      StaysBound (HasBecome w known r) (IsBoundByPackage w r place p u) (Declared path n)
  by_export path n k =
      let o = h.there k.other k.is_package in
      let q = o.0 in
      let seen = exports_after w known r h.kept goes k.other q k.is_package o.1 n k.seen in
      let to : PackageMovesTo w r path q.path = subst (λ z. PackageMovesTo w r z q.path) k.of_path o.1.to in
      let become = export_becomes w known r h.kept goes k.other q k.is_package o.1 n k.seen in
      record {
        declaration = Declared q.path n;
        bound = record {
          path = path;
          behind = k.behind;
          exports = record {
            other = q;
            is_package = o.1.is_scoped;
            goes = to;
            declaration = n;
            seen = seen;
            named =
                level_named w known r h.kept goes k.other q k.is_package o.1 n k.seen.package_level k.seen.counts.declares.may
                ∙ k.named ∙ sym (selector_called path n k);
            exported = refl;
          };
        };
        become = subst (λ z. HasBecome w known r (Declared z n) (Declared q.path n)) k.of_path become;
      }

  pub selector_stays : (old : Declaration) → BindsQualified (IsCheckedPackage w known) p u old →
      StaysBound (HasBecome w known r) (IsBoundByPackage w r place p u) old
  selector_stays old was =
      let x = exported_as (IsCheckedPackage w known) p u old was in
      subst (StaysBound (HasBecome w known r) (IsBoundByPackage w r place p u)) (sym x.1.1.0) (by_export x.0 x.1.0 x.1.1.1)
