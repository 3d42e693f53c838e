-- No fault of scopes comes where an import gets the name that it declared already.
use Rattle.std.proofs.Common.{ℕ, zero, suc, ◌≡◌, ◌<◌, ◌+◌, inl, inr, Bool, true, false, List, ◌∷◌, length, map, length-append, refl, sym, ap, ◌∙◌, subst, arith}
use Rattle.std.proofs.lemmas.Bool.{cases_eq, true≢false}
use Rattle.std.proofs.lemmas.Bool.Decides.{nat_tests}
use Rattle.std.proofs.lemmas.List.{length-map}
use Rattle.base_files.specs.declared.fault_kind.FaultKind.TheVariants as kind
use Rattle.go_scope.specs.declared.model.Block.{Block}
use Rattle.go_scope.specs.declared.model.Block.TheVariants.{Universe, File, Inner}
use Rattle.go_scope.specs.declared.model.Block.TheVariants.{Package as PackageBlock}
use Rattle.go_scope.specs.declared.model.Purpose.TheVariants as purpose
use Rattle.go_scope.specs.declared.model.Role.{Role}
use Rattle.go_scope.specs.declared.model.Role.TheVariants.{Use, Declaring, LeftName, Implied, NotLexical}
use Rattle.go_scope.specs.Bindings.{Layout, IsPackageLevel, IsImport, Declares, Counts, IsUse, IsBoundTo, use_bound, own}
use Rattle.go_scope.specs.Bindings.{block_of, is_left_name, is_use, may_declare}
use Rattle.go_scope.specs.Moves.{moved_block, moved_role}
use Rattle.go_scope.specs.Site.{Site, or_blank}
use Rattle.law_rename.specs.Around.{from_on}
use Rattle.law_rename.specs.Gained.{Gain, HasGained, import_site, moved_by, path_site}
use Rattle.law_rename.specs.MovedSites.{moved_site}
use Rattle.law_rename.proofs.Spelling.{from_first, from_suc, from_zero}
use Rattle.law_renamed_workspaces.proofs.ScopeFaults.{bound_counts, use_or_declares}
use Rattle.types_declared.specs.declared.fault.Fault.{Fault}
use Rattle.types_declared.specs.Laid.{init_name, literal_of}
use Rattle.types_declared.specs.Package.{Package, laid_of}
use Rattle.types_resolve.specs.Scoping.{IsFaultOfIdentifier, IsRedeclaration, IsScopeFault, IsUsedBelow, fault_at}
use Rattle.law_gained_names.proofs.Layouts.{from_apart, here_within, path_at}
use Rattle.law_gained_names.specs.GainedName.{IsGainedAt, NoScopeFaultComes}

-- roles and blocks

may_moved : (m : ℕ → ℕ → ℕ) (r : Role) → may_declare (moved_role m r) ≡ may_declare r
may_moved m Use = refl
may_moved m (Declaring b s) = refl
may_moved m (LeftName b s) = refl
may_moved m (Implied b s) = refl
may_moved m (NotLexical p) = refl

left_moved : (m : ℕ → ℕ → ℕ) (r : Role) → is_left_name (moved_role m r) ≡ is_left_name r
left_moved m Use = refl
left_moved m (Declaring b s) = refl
left_moved m (LeftName b s) = refl
left_moved m (Implied b s) = refl
left_moved m (NotLexical p) = refl

use_moved : (m : ℕ → ℕ → ℕ) (r : Role) → is_use (moved_role m r) ≡ is_use r
use_moved m Use = refl
use_moved m (Declaring b s) = refl
use_moved m (LeftName b s) = refl
use_moved m (Implied b s) = refl
use_moved m (NotLexical p) = refl

block_moved : (m : ℕ → ℕ → ℕ) (r : Role) → block_of (moved_role m r) ≡ moved_block m (block_of r)
block_moved m Use = refl
block_moved m (Declaring b s) = refl
block_moved m (LeftName b s) = refl
block_moved m (Implied b s) = refl
block_moved m (NotLexical p) = refl

package_back : (m : ℕ → ℕ → ℕ) (b : Block) → moved_block m b ≡ PackageBlock → b ≡ PackageBlock
package_back m Universe e = e
package_back m PackageBlock e = e
package_back m (File g) e = e
package_back m (Inner g x y) e = absurd (let z : ⊥ = cc in z)

file_back : (m : ℕ → ℕ → ℕ) (b : Block) (f : ℕ) → moved_block m b ≡ File f → b ≡ File f
file_back m Universe f e = e
file_back m PackageBlock f e = e
file_back m (File g) f e = e
file_back m (Inner g x y) f e = absurd (let z : ⊥ = cc in z)

-- each identifier but the literal was there

pub from_covers : (n x : ℕ) → (x ≡ suc n → ⊥) → (d : ℕ) × (from_on (suc n) d ≡ x)
from_covers zero zero other = (0, from_zero 0)
from_covers zero (suc zero) other = absurd (other refl)
from_covers zero (suc (suc x)) other = (suc x, from_suc 0 x ∙ ap suc (from_first x))
from_covers (suc n) zero other = (0, from_zero (suc n))
from_covers (suc n) (suc x) other =
    let rest = from_covers n x (λ e. other (ap suc e)) in (suc rest.0, from_suc (suc n) rest.0 ∙ ap suc rest.1)

back_within : (at n d : ℕ) → at < n → from_on (suc at) d < suc n → d < n
back_within at n d here less = grind (arith, nat_tests)

gained_size : (i : Gain) (at : ℕ) (old new : List Site) → HasGained i (import_site i i.name) at old new → length new ≡ suc (length old)
gained_size i at old new g =
    let by = moved_site (moved_by i) in
    let one : length old ≡ length g.before + suc (length g.behind) = ap length g.old_is ∙ length-append g.before (import_site i i.name ∷ g.behind) in
    let two : length new ≡ length (map by g.before) + suc (suc (length (map by g.behind))) =
    ap length g.new_is ∙ length-append (map by g.before) (import_site i i.name ∷ path_site i ∷ map by g.behind) in
    let three : length (map by g.before) ≡ length g.before = length-map g.before by in
    let four : length (map by g.behind) ≡ length g.behind = length-map g.behind by in
    omega arith

module _ (i : Gain) (at : ℕ) (p q : Package) (h : IsGainedAt i at p q) where
  abbrev pub e : ℕ → ℕ
  e = from_on (suc at)

  role_e : (d : ℕ) → q.layout.role (e d) ≡ moved_role h.renumbered.ends (p.layout.role d)
  role_e d = h.renumbered.roles d

  pub literal_role : q.layout.role (suc at) ≡ NotLexical purpose.ImportPath
  literal_role =
      ap (λ (l : Layout). l.role (suc at)) h.named.is.layout
      ∙ ap (λ o. (or_blank o).role) (path_at i at h.named.old h.named.new h.named.gained)

  pub counts_there : (d : ℕ) → Counts p.layout p.names d → Counts q.layout q.names (e d)
  counts_there d c = bound_counts q.layout q.names (e d) (e d) ((h.renumbered.bound d d).0 (own refl c))

  counts_back : (d : ℕ) → Counts q.layout q.names (e d) → Counts p.layout p.names d
  counts_back d c = bound_counts p.layout p.names d d ((h.renumbered.bound d d).1 (own refl c))

  use_role : (d : ℕ) → is_use (q.layout.role (e d)) ≡ is_use (p.layout.role d)
  use_role d = ap is_use (role_e d) ∙ use_moved h.renumbered.ends (p.layout.role d)

  left_role : (d : ℕ) → is_left_name (q.layout.role (e d)) ≡ is_left_name (p.layout.role d)
  left_role d = ap is_left_name (role_e d) ∙ left_moved h.renumbered.ends (p.layout.role d)

  pub import_back : (d : ℕ) → IsImport q.layout (e d) → IsImport p.layout d
  import_back d import = (
    import.0,
    file_back h.renumbered.ends (block_of (p.layout.role d)) import.0
        (sym (ap block_of (role_e d) ∙ block_moved h.renumbered.ends (p.layout.role d)) ∙ import.1),
  )

  level_back : (d : ℕ) → IsPackageLevel q.layout (e d) → IsPackageLevel p.layout d
  level_back d level =
      package_back h.renumbered.ends (block_of (p.layout.role d))
      (sym (ap block_of (role_e d) ∙ block_moved h.renumbered.ends (p.layout.role d)) ∙ level)

  pub old_within : (d : ℕ) → e d < q.size → d < p.size
  old_within d less =
      let here : at < length h.named.old = here_within i at h.named.old h.named.new h.named.gained in
      let new : length h.named.new ≡ suc (length h.named.old) = gained_size i at h.named.old h.named.new h.named.gained in
      subst (λ n. d < n) (sym h.named.was.size)
      (back_within at (length h.named.old) d here (subst (λ n. e d < n) (h.named.is.size ∙ new) less))

  module _ (fine : (f : Fault) → IsScopeFault (laid_of p) f → ⊥) where
    fine_at : (u : ℕ) → u < p.size → (f : Fault) → IsFaultOfIdentifier (laid_of p) u f → ⊥
    fine_at u lt f x = fine f (u, lt, x)

    pub all_counted : (u : ℕ) → u < p.size → Declares p.layout p.names u → (Counts p.layout p.names u → ⊥) → ⊥
    all_counted u lt declares not =
        fine_at u lt (fault_at p.layout u kind.Repeated) (inr (inl (record { at = refl; repeats = inl (declares, not) })))

    was_bound : (u : ℕ) → u < p.size → IsUse p.layout p.names u → ((d : ℕ) → IsBoundTo p.layout p.names u d → ⊥) → ⊥
    was_bound u lt used none =
        fine_at u lt (fault_at p.layout u kind.Undeclared) (inl (record { at = refl; is_use = used; unbound = none }))

    declared_not : (u : ℕ) → u < p.size → (Declares q.layout q.names (e u) → ⊥) → Declares p.layout p.names u → ⊥
    declared_not u lt not declares = all_counted u lt declares (λ counts. not (counts_there u counts).declares)

    was_use : (u : ℕ) → u < p.size → IsUse q.layout q.names (e u) → IsUse p.layout p.names u
    was_use u lt (inl used) = inl (sym (use_role u) ∙ used)
    was_use u lt (inr left) = inr (sym (left_role u) ∙ left.0, declared_not u lt left.1)

    none_undeclared : (u : ℕ) → u < p.size → IsUse q.layout q.names (e u) → ((x : ℕ) → IsBoundTo q.layout q.names (e u) x → ⊥) → ⊥
    none_undeclared u lt used none = was_bound u lt (was_use u lt used) (λ d bound. none (e d) ((h.renumbered.bound u d).0 bound))

    now_bound : (u x : ℕ) → Declares q.layout q.names u → (Counts q.layout q.names u → ⊥) → IsBoundTo q.layout q.names u x → ⊥
    now_bound u x declares not (use_bound used bound) = use_or_declares q.layout q.names u used declares
    now_bound u x declares not (own same counts) = not (subst (Counts q.layout q.names) (sym same) counts)

    none_repeated : (u : ℕ) → u < p.size → Declares q.layout q.names (e u) → (Counts q.layout q.names (e u) → ⊥) → ⊥
    none_repeated u lt declares not = by_left (is_left_name (p.layout.role u)) refl
      where
        did_not : Declares p.layout p.names u → ⊥
        did_not did = all_counted u lt did (λ counts. not (counts_there u counts))

        by_left : (b : Bool) → is_left_name (p.layout.role u) ≡ b → ⊥
        by_left false other =
            did_not (record {
              may = sym (ap may_declare (role_e u) ∙ may_moved h.renumbered.ends (p.layout.role u)) ∙ declares.may;
              is_new = λ left. absurd (true≢false (sym left ∙ other));
            })
        by_left true left = was_bound u lt (inr (left, did_not)) (λ d bound. now_bound (e u) (e d) declares not ((h.renumbered.bound u d).0 bound))

    none_init : (u : ℕ) → u < p.size → IsPackageLevel q.layout (e u) → q.names (e u) ≡ init_name → ⊥
    none_init u lt level called =
        fine_at u lt (fault_at p.layout u kind.Repeated)
        (inr (inl (record { at = refl; repeats = inr (level_back u level, sym (h.keeps.names u) ∙ called) })))

    still_used : (d : ℕ) → IsUsedBelow (laid_of p) p.size d → (IsUsedBelow (laid_of q) q.size (e d) → ⊥) → ⊥
    still_used d x none = by_binding ((h.renumbered.bound x.user d).0 x.bound)
      where
        by_binding : IsBoundTo q.layout q.names (e x.user) (e d) → ⊥
        by_binding (use_bound used bound) =
            none (record { user = e x.user; below = h.renumbered.within x.user x.below; is_use = used; bound = use_bound used bound })
        by_binding (own same counts) =
            use_or_declares p.layout p.names x.user x.is_use
            (subst (Declares p.layout p.names) (sym (from_apart (suc at) x.user d same)) (bound_counts p.layout p.names x.user d x.bound).declares)

    none_unused : (d : ℕ) → d < p.size → IsImport q.layout (e d) → (IsUsedBelow (laid_of q) q.size (e d) → ⊥) → ⊥
    none_unused d lt import unused =
        fine_at d lt (fault_at p.layout (literal_of p.layout d) kind.Unused)
        (inr (inr (record { at = refl; is_import = import_back d import; unused = λ used. still_used d used unused })))

    old_fault : (u : ℕ) → u < p.size → (f : Fault) → IsFaultOfIdentifier (laid_of q) (e u) f → ⊥
    old_fault u lt f (inl undeclared) = none_undeclared u lt undeclared.is_use undeclared.unbound
    old_fault u lt f (inr (inl repeated)) = by_repeat repeated.repeats
      where
        by_repeat : IsRedeclaration (laid_of q) (e u) → ⊥
        by_repeat (inl r) = none_repeated u lt r.0 r.1
        by_repeat (inr r) = none_init u lt r.0 r.1
    old_fault u lt f (inr (inr unused)) = none_unused u lt unused.is_import unused.unused

    literal_fault : (f : Fault) → IsFaultOfIdentifier (laid_of q) (suc at) f → ⊥
    literal_fault f (inl undeclared) = by_use undeclared.is_use
      where
        by_use : IsUse q.layout q.names (suc at) → ⊥
        by_use (inl used) = true≢false (sym used ∙ ap is_use literal_role)
        by_use (inr left) = true≢false (sym left.0 ∙ ap is_left_name literal_role)
    literal_fault f (inr (inl repeated)) = by_repeat repeated.repeats
      where
        by_repeat : IsRedeclaration (laid_of q) (suc at) → ⊥
        by_repeat (inl r) = true≢false (sym r.0.may ∙ ap may_declare literal_role)
        by_repeat (inr r) = let z : Universe ≡ PackageBlock = sym (ap block_of literal_role) ∙ r.0 in cc
    literal_fault f (inr (inr unused)) = let z : Universe ≡ File unused.is_import.0 = sym (ap block_of literal_role) ∙ unused.is_import.1 in cc

    no_scope_fault : (f : Fault) → IsScopeFault (laid_of q) f → ⊥
    no_scope_fault f x = elim (cases_eq x.0 (suc at)) [
      | inl is ↦ literal_fault f (subst (λ u. IsFaultOfIdentifier (laid_of q) u f) is x.2)
      | inr other ↦
          let d = from_covers at x.0 other in
          old_fault d.0 (old_within d.0 (subst (λ n. n < q.size) (sym d.1) x.1)) f (subst (λ u. IsFaultOfIdentifier (laid_of q) u f) (sym d.1) x.2)
    ]

pub no_scope_fault_comes : NoScopeFaultComes
no_scope_fault_comes i at p q h fine f x = no_scope_fault i at p q h fine f x
