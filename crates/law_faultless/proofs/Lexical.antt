-- To what an identifier is bound by scopes is decided.
use Rattle.std.proofs.Common.{ℕ, ◌≡◌, ◌<◌, ◌≤◌, ◌⊎◌, inl, inr, true, ap, refl}
use Rattle.go_scope.specs.declared.model.Block.{Block}
use Rattle.go_scope.specs.declared.model.Block.TheVariants.{Universe, Package, File, Inner}
use Rattle.go_scope.specs.declared.model.Position.{Position}
use Rattle.go_scope.specs.declared.model.Scope.{Scope}
use Rattle.go_scope.specs.declared.model.Scope.TheVariants.{Everywhere, WholePackage, WholeFile, Interval}
use Rattle.go_scope.specs.Bindings.{Layout, Names, MayDeclare, IsLeftName, SameBlock, InScope, IsPackageLevel, IsImport, Displaces, Declares, Counts}
use Rattle.go_scope.specs.Bindings.{BindsAt, IsUse, IsBoundTo, use_bound, own, may_declare, is_left_name, is_use, block_of, scope_of}
use Rattle.go_scope.specs.Scopes.{Holds, IsInside}
use Rattle.go_scope.specs.WellFormed.{WellFormed}
use Rattle.go_scope.proofs.Uniqueness.{same_or_not}
use Rattle.types_declared.proofs.ByteKeys.{cases_bytes}
use Rattle.law_faultless.proofs.Deciding.{Decided, both, either, not, turned, is_true, less, at_most, some}

pub same_block : (a b : Block) → Decided (a ≡ b)
same_block Universe Universe = inl refl
same_block Universe Package = inr (λ e. cc)
same_block Universe (File g) = inr (λ e. cc)
same_block Universe (Inner g c d) = inr (λ e. cc)
same_block Package Universe = inr (λ e. cc)
same_block Package Package = inl refl
same_block Package (File g) = inr (λ e. cc)
same_block Package (Inner g c d) = inr (λ e. cc)
same_block (File f) Universe = inr (λ e. cc)
same_block (File f) Package = inr (λ e. cc)
same_block (File f) (File g) = turned (f ≡ g) (File f ≡ File g) (λ e. ap File e) (λ e. cc) (same_or_not f g)
same_block (File f) (Inner g c d) = inr (λ e. cc)
same_block (Inner f a b) Universe = inr (λ e. cc)
same_block (Inner f a b) Package = inr (λ e. cc)
same_block (Inner f a b) (File g) = inr (λ e. cc)
same_block (Inner f a b) (Inner g c d) =
    turned ((f ≡ g) × ((a ≡ c) × (b ≡ d))) (Inner f a b ≡ Inner g c d) (λ e. let x = e.0 in let y = e.1.0 in let z = e.1.1 in cc) (λ e. (cc, (cc, cc)))
    (both (f ≡ g) ((a ≡ c) × (b ≡ d)) (same_or_not f g) (both (a ≡ c) (b ≡ d) (same_or_not a c) (same_or_not b d)))

pub file_block : (b : Block) → Decided ((f : ℕ) × (b ≡ File f))
file_block Universe = inr (λ h. let e = h.1 in cc)
file_block Package = inr (λ h. let e = h.1 in cc)
file_block (File f) = inl (f, refl)
file_block (Inner f a b) = inr (λ h. let e = h.1 in cc)

holds : (s : Scope) (at : Position) → Decided (Holds s at)
holds Everywhere at = inl tt
holds WholePackage at = inl tt
holds (WholeFile f) at = same_or_not at.file f
holds (Interval f a b) at =
    turned ((at.file ≡ f) × ((a ≤ at.index) × (at.index < b))) (Holds (Interval f a b) at) (λ h. (h.0, h.1.0, h.1.1)) (λ h. (h.0, (h.1, h.2)))
    (both (at.file ≡ f) ((a ≤ at.index) × (at.index < b)) (same_or_not at.file f) (both (a ≤ at.index) (at.index < b) (at_most a at.index) (less at.index b)))

inside : (s t : Scope) → Decided (IsInside s t)
inside s Everywhere = inl tt
inside Everywhere WholePackage = inr (λ h. h)
inside Everywhere (WholeFile g) = inr (λ h. h)
inside Everywhere (Interval g c d) = inr (λ h. h)
inside WholePackage WholePackage = inl tt
inside WholePackage (WholeFile g) = inr (λ h. h)
inside WholePackage (Interval g c d) = inr (λ h. h)
inside (WholeFile f) WholePackage = inl tt
inside (WholeFile f) (WholeFile g) = same_or_not f g
inside (WholeFile f) (Interval g c d) = inr (λ h. h)
inside (Interval f a b) WholePackage = inl tt
inside (Interval f a b) (WholeFile g) = same_or_not f g
inside (Interval f a b) (Interval g c d) =
    turned ((f ≡ g) × ((c ≤ a) × (b ≤ d))) (IsInside (Interval f a b) (Interval g c d)) (λ h. (h.0, h.1.0, h.1.1)) (λ h. (h.0, (h.1, h.2)))
    (both (f ≡ g) ((c ≤ a) × (b ≤ d)) (same_or_not f g) (both (c ≤ a) (b ≤ d) (at_most c a) (at_most b d)))

module _ (l : Layout) (names : Names) (w : WellFormed l) where
  named : (d : ℕ) (name : _) → Decided (names d ≡ name)
  named d name = cases_bytes (names d) name

  in_scope : (d u : ℕ) → Decided (InScope l d u)
  in_scope d u = holds (scope_of (l.role d)) (l.place u)

  may : (d : ℕ) → Decided (MayDeclare l d)
  may d = is_true (may_declare (l.role d))

  block : (e d : ℕ) → Decided (SameBlock l e d)
  block e d = same_block (block_of (l.role e)) (block_of (l.role d))

  -- an earlier one of the same name in the same block
  Blocks : (d e : ℕ) → Type 0
  Blocks d e = MayDeclare l e × (SameBlock l e d × ((names e ≡ names d) × InScope l e d))

  blocked : (d e : ℕ) → Decided (Blocks d e)
  unfolding Blocks
  blocked d e =
      both (MayDeclare l e) (SameBlock l e d × ((names e ≡ names d) × InScope l e d)) (may e)
      (both (SameBlock l e d) ((names e ≡ names d) × InScope l e d) (block e d)
      (both (names e ≡ names d) (InScope l e d) (named e (names d)) (in_scope e d)))

  pub declares : (d : ℕ) → Decided (Declares l names d)
  unfolding Blocks
  declares d = elim (may d) [
    | inr n ↦ inr (λ h. n h.may)
    | inl m ↦ elim (is_true (is_left_name (l.role d))) [
      | inr n ↦ inl (record { may = m; is_new = λ left. absurd (n left) })
      | inl left ↦ elim (some (Blocks d) (blocked d) w.size (λ e h. w.finite e h.0)) [
        | inl e ↦ inr (λ h. h.is_new left e.0 e.1.0 e.1.1.0 e.1.1.1.0 e.1.1.1.1)
        | inr none ↦ inl (record { may = m; is_new = λ left_name e a b c i. none e (a, (b, (c, i))) })
      ]
    ]
  ]

  package_level : (d : ℕ) → Decided (IsPackageLevel l d)
  package_level d = same_block (block_of (l.role d)) Package

  import : (d : ℕ) → Decided (IsImport l d)
  import d = file_block (block_of (l.role d))

  displaces : (e d : ℕ) → Decided (Displaces l e d)
  displaces e d =
      either (SameBlock l e d × (e < d)) (IsPackageLevel l e × IsImport l d) (both (SameBlock l e d) (e < d) (block e d) (less e d))
      (both (IsPackageLevel l e) (IsImport l d) (package_level e) (import d))

  Displacing : (d e : ℕ) → Type 0
  Displacing d e = Declares l names e × ((names e ≡ names d) × Displaces l e d)

  displaced : (d e : ℕ) → Decided (Displacing d e)
  unfolding Displacing
  displaced d e =
      both (Declares l names e) ((names e ≡ names d) × Displaces l e d) (declares e)
      (both (names e ≡ names d) (Displaces l e d) (named e (names d)) (displaces e d))

  pub counts : (d : ℕ) → Decided (Counts l names d)
  unfolding Displacing
  counts d = elim (declares d) [
    | inr n ↦ inr (λ h. n h.declares)
    | inl m ↦ elim (some (Displacing d) (displaced d) w.size (λ e h. w.finite e h.0.may)) [
      | inl e ↦ inr (λ h. h.first e.0 e.1.0 e.1.1.0 e.1.1.1)
      | inr none ↦ inl (record { declares = m; first = λ e a b c. none e (a, (b, c)) })
    ]
  ]

  -- a declaration whose scope lies inside that of d
  Closer : (u d e : ℕ) → Type 0
  Closer u d e =
      Counts l names e × ((names e ≡ names u) × (InScope l e u × (IsInside (scope_of (l.role e)) (scope_of (l.role d)) × (e ≡ d → ⊥))))

  closer : (u d e : ℕ) → Decided (Closer u d e)
  unfolding Closer
  closer u d e =
      let Inside = IsInside (scope_of (l.role e)) (scope_of (l.role d)) in
      both (Counts l names e) ((names e ≡ names u) × (InScope l e u × (Inside × (e ≡ d → ⊥)))) (counts e)
      (both (names e ≡ names u) (InScope l e u × (Inside × (e ≡ d → ⊥))) (named e (names u))
      (both (InScope l e u) (Inside × (e ≡ d → ⊥)) (in_scope e u)
      (both Inside (e ≡ d → ⊥) (inside (scope_of (l.role e)) (scope_of (l.role d))) (not (e ≡ d) (same_or_not e d)))))

  binds : (u d : ℕ) → Decided (BindsAt l names (names u) u d)
  unfolding Closer
  binds u d = elim (counts d) [
    | inr n ↦ inr (λ h. n h.counts)
    | inl c ↦ elim (named d (names u)) [
      | inr n ↦ inr (λ h. n h.named)
      | inl same ↦ elim (in_scope d u) [
        | inr n ↦ inr (λ h. n h.in_scope)
        | inl here ↦ elim (some (Closer u d) (closer u d) w.size (λ e h. w.finite e h.0.declares.may)) [
          | inl e ↦ inr (λ h. e.1.1.1.1.1 (h.innermost e.0 e.1.0 e.1.1.0 e.1.1.1.0 e.1.1.1.1.0))
          | inr none ↦ inl (record {
            counts = c;
            named = same;
            in_scope = here;
            innermost = λ e count name scope within. elim (same_or_not e d)
                [ inl is ↦ is | inr other ↦ absurd (none e (count, (name, (scope, (within, other))))) ];
          })
        ]
      ]
    ]
  ]

  use_of : (u : ℕ) → Decided (IsUse l names u)
  use_of u =
      either (is_use (l.role u) ≡ true) (IsLeftName l u × (Declares l names u → ⊥)) (is_true (is_use (l.role u)))
      (both (IsLeftName l u) (Declares l names u → ⊥) (is_true (is_left_name (l.role u))) (not (Declares l names u) (declares u)))

  bound : (u d : ℕ) → Decided (IsBoundTo l names u d)
  bound u d =
      turned ((IsUse l names u × BindsAt l names (names u) u d) ⊎ ((u ≡ d) × Counts l names d)) (IsBoundTo l names u d)
      (λ h. elim h [ inl x ↦ use_bound x.0 x.1 | inr x ↦ own x.0 x.1 ]) parts
      (either (IsUse l names u × BindsAt l names (names u) u d) ((u ≡ d) × Counts l names d)
      (both (IsUse l names u) (BindsAt l names (names u) u d) (use_of u) (binds u d)) (both (u ≡ d) (Counts l names d) (same_or_not u d) (counts d)))
    where
      parts : IsBoundTo l names u d → (IsUse l names u × BindsAt l names (names u) u d) ⊎ ((u ≡ d) × Counts l names d)
      parts (use_bound i b) = inl (i, b)
      parts (own e c) = inr (e, c)

  within : (u d : ℕ) → IsBoundTo l names u d → d < w.size
  within u d (use_bound i b) = w.finite d b.counts.declares.may
  within u d (own e c) = w.finite d c.declares.may

  -- the declaration to which u is bound, or none
  pub binding : (u : ℕ) → ((d : ℕ) × IsBoundTo l names u d) ⊎ ((d : ℕ) → IsBoundTo l names u d → ⊥)
  binding u = some (IsBoundTo l names u) (bound u) w.size (within u)
