-- An identifier is bound to the declaration of its name with the innermost scope around it, by ranges.
use Rattle.std.proofs.Common.{ℕ, ◌≡◌, inl, inr, List, map, Option, refl, sym, ◌∙◌, subst}
use Rattle.go_scope.specs.declared.model.Scope.{Scope}
use Rattle.go_scope.specs.declared.model.Block.{Block}
use Rattle.go_scope.specs.declared.model.Block.TheVariants.{Package, File}
use Rattle.go_scope.specs.declared.model.Scope.TheVariants.{Everywhere, WholePackage, WholeFile, Interval}
use Rattle.go_scope.specs.Bindings.{Layout, Names, MayDeclare, SameBlock, InScope, Declares, Displaces, Counts, BindsAt, IsUse}
use Rattle.go_scope.specs.Bindings.{IsBoundTo, use_bound, own, block_of, scope_of}
use Rattle.go_scope.specs.FileSites.{SpelledFile, package_sites}
use Rattle.go_scope.specs.Scopes.{Holds, IsInside}
use Rattle.go_scope.specs.Named.{with_names}
use Rattle.go_scope.specs.Packages.{scoped, names_in}
use Rattle.go_scope.specs.SpelledFiles.{spelled_file}
use Rattle.go_scope.specs.Trees.{AreNumbered}
use Rattle.go_scope.specs.WellFormed.{WellFormed}
use Rattle.go_scope.proofs.Innermost.{one_in_block, precedes_asym}
use Rattle.go_scope.proofs.Nesting.{Nested}
use Rattle.go_scope.proofs.Nests.{nests, scopes_nest}
use Rattle.go_scope.proofs.NamedSites.{named_well_formed, package_level}
use Rattle.go_scope.proofs.PackageRegions.{package_well_formed}
use Rattle.law_blocks.specs.Lookup.{IsBlockOf}
use Rattle.law_blocks.specs.Laws.{layout_for, ShareBlock, LiesInScope, DeclaresByRanges, DisplacesByRanges, CountsByRanges, IsNearestRange, IsUseByRanges}
use Rattle.law_blocks.specs.Laws.{IsBoundByRanges, BindingsAreRanges, PackagesAreBoundByRanges}
use Rattle.law_blocks.proofs.RangedPackages.{block_is, block_of_once, scope_is, scope_once}
use Rattle.std.proofs.Common.{arith}

inside_itself : (s : Scope) → IsInside s s
inside_itself Everywhere = tt
inside_itself WholePackage = tt
inside_itself (WholeFile f) = refl
inside_itself (Interval f a b) = (refl, omega arith, omega arith)

-- two declarations of one name that count are equal if the scope of each is inside the other's
both_inside : (l : Layout) → Nested l → (names : Names) (u d e : ℕ) → Counts l names d → Counts l names e → names e ≡ names d → InScope l d u →
    InScope l e u → IsInside (scope_of (l.role e)) (scope_of (l.role d)) → IsInside (scope_of (l.role d)) (scope_of (l.role e)) → e ≡ d
both_inside l nested names u d e cd ce same hd he i j =
    let md : MayDeclare l d = cd.declares.may in
    let me : MayDeclare l e = ce.declares.may in
    elim (nested.inside_nests e d u me md he hd i) [
      | inl s ↦ one_in_block l nested names e d ce cd same s
      | inr o ↦ elim o [
        | inl n ↦ elim (nested.inside_nests d e u md me hd he j) [
          | inl s ↦ sym (one_in_block l nested names d e cd ce (sym same) s)
          | inr q ↦ elim q [
            | inl m ↦ absurd (precedes_asym l nested e d u me md he hd (inr n) (inr m))
            | inr p ↦ absurd (cd.first e ce.declares same (inr p))
          ]
        ]
        | inr p ↦ absurd (ce.first d cd.declares (sym same) (inr p))
      ]
    ]

module _ (imported : ℕ → Option (List ℕ)) (fs : List SpelledFile) (w : AreNumbered fs) (names : Names) where
  abbrev l : Layout
  l = layout_for imported fs

  formed : WellFormed l
  formed = named_well_formed imported (package_sites fs) (package_well_formed fs w) (package_level fs w)

  block_from : (d : ℕ) (b : Block) → MayDeclare l d → IsBlockOf fs l d b → block_of (l.role d) ≡ b
  block_from d b may h = block_of_once fs l d (block_of (l.role d)) b (block_is imported fs w d may) h

  block_to : (d : ℕ) (b : Block) → MayDeclare l d → block_of (l.role d) ≡ b → IsBlockOf fs l d b
  block_to d b may e = let P : Block → Type 0 = λ c. IsBlockOf fs l d c in subst P e (block_is imported fs w d may)

  shared : (d e : ℕ) → MayDeclare l d → MayDeclare l e → SameBlock l d e → ShareBlock fs l d e
  shared d e md me same = (block_of (l.role e), (block_to d (block_of (l.role e)) md same, block_is imported fs w e me))

  same_of_shared : (d e : ℕ) → MayDeclare l d → MayDeclare l e → ShareBlock fs l d e → SameBlock l d e
  same_of_shared d e md me h = block_from d h.0 md h.1.0 ∙ sym (block_from e h.0 me h.1.1)

  lies : (d u : ℕ) → MayDeclare l d → InScope l d u → LiesInScope fs l d u
  lies d u may h = (scope_of (l.role d), (scope_is imported fs w d may, h))

  scope_of_lies : (d u : ℕ) → MayDeclare l d → LiesInScope fs l d u → InScope l d u
  scope_of_lies d u may h =
      let P : Scope → Type 0 = λ t. Holds t (l.place u) in
      subst P (sym (scope_once imported fs w d may h.0 h.1.0)) h.1.1

  declares_to : (d : ℕ) → Declares l names d → DeclaresByRanges fs l names d
  declares_to d x = record {
    may = x.may;
    is_new = λ left e me share same h. x.is_new left e me (same_of_shared e d me x.may share) same (scope_of_lies e d me h);
  }

  declares_from : (d : ℕ) → DeclaresByRanges fs l names d → Declares l names d
  declares_from d x = record {
    may = x.may;
    is_new = λ left e me block same h. x.is_new left e me (shared e d me x.may block) same (lies e d me h);
  }

  displaces_to : (e d : ℕ) → MayDeclare l e → MayDeclare l d → Displaces l e d → DisplacesByRanges fs l e d
  displaces_to e d me md (inl h) = inl (shared e d me md h.0, h.1)
  displaces_to e d me md (inr h) = inr (block_to e Package me h.0, (h.1.0, block_to d (File h.1.0) md h.1.1))

  displaces_from : (e d : ℕ) → MayDeclare l e → MayDeclare l d → DisplacesByRanges fs l e d → Displaces l e d
  displaces_from e d me md (inl h) = inl (same_of_shared e d me md h.0, h.1)
  displaces_from e d me md (inr h) = inr (block_from e Package me h.0, (h.1.0, block_from d (File h.1.0) md h.1.1))

  counts_to : (d : ℕ) → Counts l names d → CountsByRanges fs l names d
  counts_to d x = record {
    declares = declares_to d x.declares;
    first = λ e y same h. x.first e (declares_from e y) same (displaces_from e d y.may x.declares.may h);
  }

  counts_from : (d : ℕ) → CountsByRanges fs l names d → Counts l names d
  counts_from d x = record {
    declares = declares_from d x.declares;
    first = λ e y same h. x.first e (declares_to e y) same (displaces_to e d y.may x.declares.may h);
  }

  nearest_of_bound : (name : List ℕ) (u d : ℕ) → BindsAt l names name u d → IsNearestRange fs l names name u d
  nearest_of_bound name u d x = record {
    counts = counts_to d x.counts;
    named = x.named;
    scope = scope_of (l.role d);
    ranged = scope_is imported fs w d x.counts.declares.may;
    holds = x.in_scope;
    innermost = λ e s ce ne ranged holds.
        let is : scope_of (l.role e) ≡ s = scope_once imported fs w e ce.declares.may s ranged in
        let P : Scope → Type 0 = λ t. Holds t (l.place u) in
        let Q : Scope → Type 0 = λ t. IsInside (scope_of (l.role d)) t in
        let he : InScope l e u = subst P (sym is) holds in
        subst Q is (elim (scopes_nest l formed d e x.counts.declares.may ce.declares.may (l.place u) x.in_scope he) [
          | inl i ↦ i
          | inr j ↦ (let same : e ≡ d = x.innermost e (counts_from e ce) ne he j in
              let R : ℕ → Type 0 = λ k. IsInside (scope_of (l.role d)) (scope_of (l.role k)) in
              subst R (sym same) (inside_itself (scope_of (l.role d))))
        ]);
  }

  bound_of_nearest : (name : List ℕ) (u d : ℕ) → IsNearestRange fs l names name u d → BindsAt l names name u d
  bound_of_nearest name u d x =
      let is : scope_of (l.role d) ≡ x.scope = scope_once imported fs w d x.counts.declares.may x.scope x.ranged in
      let P : Scope → Type 0 = λ t. Holds t (l.place u) in
      let hd : InScope l d u = subst P (sym is) x.holds in
      let cd : Counts l names d = counts_from d x.counts in
      record {
        counts = cd;
        named = x.named;
        in_scope = hd;
        innermost = λ e ce ne he i.
            let Q : Scope → Type 0 = λ t. IsInside t (scope_of (l.role e)) in
            both_inside l (nests l formed) names u d e cd ce (ne ∙ sym x.named) hd he i
            (subst Q (sym is) (x.innermost e (scope_of (l.role e)) (counts_to e ce) ne (scope_is imported fs w e ce.declares.may) he));
      }

  use_to : (u : ℕ) → IsUse l names u → IsUseByRanges fs l names u
  use_to u (inl h) = inl h
  use_to u (inr h) = inr (h.0, λ x. h.1 (declares_from u x))

  use_from : (u : ℕ) → IsUseByRanges fs l names u → IsUse l names u
  use_from u (inl h) = inl h
  use_from u (inr h) = inr (h.0, λ x. h.1 (declares_to u x))

  ranges_of_bound : (u d : ℕ) → IsBoundTo l names u d → IsBoundByRanges fs l names u d
  ranges_of_bound u d (use_bound uses x) = inl (use_to u uses, nearest_of_bound (names u) u d x)
  ranges_of_bound u d (own e c) = inr (e, counts_to d c)

  bound_of_ranges : (u d : ℕ) → IsBoundByRanges fs l names u d → IsBoundTo l names u d
  bound_of_ranges u d (inl h) = use_bound (use_from u h.0) (bound_of_nearest (names u) u d h.1)
  bound_of_ranges u d (inr h) = own h.0 (counts_from d h.1)

pub bindings_are : BindingsAreRanges
bindings_are imported fs w names u d = (ranges_of_bound imported fs w names u d, bound_of_ranges imported fs w names u d)

pub packages_are_bound : PackagesAreBoundByRanges
packages_are_bound imported files w u d =
    bindings_are imported (map spelled_file files) w (names_in (with_names imported (scoped files))) u d
