-- Underlying types of a moved package.
use Rattle.std.proofs.Common.{ℕ, ◌≡◌, List, Some, refl, sym, ap, ◌∙◌, subst}
use Rattle.std.specs.Prelude.{slice_get}
use Rattle.types_expr.specs.declared.symbol.Symbol.{Symbol}
use Rattle.types_expr.specs.Types.{PlainType, Defined, Underlying, Plain, PointerTo, SliceOf}
use Rattle.types_expr.specs.Types.{Struct as StructOf, Interface as InterfaceOf}
use Rattle.types_expr.specs.World.{Definition}
use Rattle.types_declared.specs.Package.{Package, package_types, symbol_in}
use Rattle.types_declared.specs.Definitions.{HasUnderlying, basic, pointer, slice, struct, interface, named, imported}
use Rattle.law_changed_types.proofs.Alike.{got_by}
use Rattle.law_changed_types.specs.Moved.{PathMap, IsInjective, moved_symbol, moved_type, moved_underlying}
use Rattle.law_changed_types.proofs.Moving.{ap2}
use Rattle.law_changed_types.specs.MovedPackage.{IsMovedPackage}
use Rattle.law_changed_types.proofs.Inversions.{basic_back, defined_back, pointer_back, slice_back}
use Rattle.law_changed_types.proofs.Written.{same_place_types, symbols, denotes, denotes_back, other_dotted}

-- the underlying type in the old package of what t was before the move
abbrev pub Before : PathMap → Package → PlainType → Underlying → Type 0
Before g p t u = (x : Underlying) × ((u ≡ moved_underlying g x) × HasUnderlying p t x)

module _ (g : PathMap) (inj : IsInjective g) (p q : Package) (a : IsMovedPackage g p q) where
  pub other_path : (path : List ℕ) → (path ≡ p.path → ⊥) → g path ≡ q.path → ⊥
  other_path path other e = other (inj path p.path (e ∙ a.path))

  -- a symbol of the new package was one of the old package
  pub own_symbol : (s : Symbol) (rank : ℕ) → symbol_in q rank ≡ moved_symbol g s → s ≡ symbol_in p rank
  own_symbol s rank e =
      ap2 (λ (path : List ℕ) (n : ℕ). record { «package» = path; rank = n })
      (inj s.package p.path (ap (λ (z : Symbol). z.package) (sym e) ∙ a.path)) (ap (λ (z : Symbol). z.rank) (sym e))

  pub has_underlying : (t : PlainType) (u : Underlying) → HasUnderlying p t u → HasUnderlying q (moved_type g t) (moved_underlying g u)
  has_underlying _ _ (basic {b = b}) = basic {b = b}
  has_underlying _ _ (pointer {t = t}) = pointer {t = moved_type g t}
  has_underlying _ _ (slice {t = t}) = slice {t = moved_type g t}
  has_underlying _ _ (struct {rank = r} {d = d} {k = k} {o = o} {c = c} {fs = fs} at body) =
      subst (λ (s : Symbol). HasUnderlying q (Defined s) (StructOf s)) (symbols g inj p q a r)
      (struct {rank = r} {d = d} {k = k} {o = o} {c = c} {fs = fs} (got_by (package_types p) (package_types q) r d (same_place_types g inj p q a) at) body)
  has_underlying _ _ (interface {rank = r} {d = d} {k = k} {o = o} {c = c} {ms = ms} at body) =
      subst (λ (s : Symbol). HasUnderlying q (Defined s) (InterfaceOf s)) (symbols g inj p q a r)
      (interface {rank = r} {d = d} {k = k} {o = o} {c = c} {ms = ms} (got_by (package_types p) (package_types q) r d (same_place_types g inj p q a) at) body)
  has_underlying _ _ (named {rank = r} {d = d} {tree = tree} {t = t} {u = u} at body is h) =
      subst (λ (s : Symbol). HasUnderlying q (Defined s) (moved_underlying g u)) (symbols g inj p q a r)
      (named {rank = r} {d = d} {tree = tree} {t = moved_type g t} {u = moved_underlying g u}
      (got_by (package_types p) (package_types q) r d (same_place_types g inj p q a) at) body
      (denotes g inj p q a d.file tree t is (other_dotted g inj p q a r d tree at body)) (has_underlying t u h))
  has_underlying _ _ (imported {path = path} {rank = r} other) =
      subst (λ u. HasUnderlying q (Defined (record { «package» = g path; rank = r })) u) (ap (λ (d : Definition). d.underlying) (a.definitions path r))
      (imported {path = g path} {rank = r} (other_path path other))

  pub underlying_back : (t : PlainType) (u : Underlying) → HasUnderlying q t u → (x : PlainType) → t ≡ moved_type g x → Before g p x u
  underlying_back _ _ (basic {b = b}) x e =
      subst (λ y. Before g p y (Plain b)) (sym (basic_back g x b e)) (Plain b, (refl, basic {b = b}))
  underlying_back _ _ (pointer {t = t}) x e =
      let y = pointer_back g x t e in
      subst (λ z. Before g p z (PointerTo t)) (sym y.1.0) (PointerTo y.0, (ap PointerTo y.1.1, pointer {t = y.0}))
  underlying_back _ _ (slice {t = t}) x e =
      let y = slice_back g x t e in
      subst (λ z. Before g p z (SliceOf t)) (sym y.1.0) (SliceOf y.0, (ap SliceOf y.1.1, slice {t = y.0}))
  underlying_back _ _ (struct {rank = r} {d = d} {k = k} {o = o} {c = c} {fs = fs} at body) x e =
      let s = defined_back g x (symbol_in q r) e in
      subst (λ z. Before g p z (StructOf (symbol_in q r))) (sym (s.1.0 ∙ ap Defined (own_symbol s.0 r s.1.1))) (
        StructOf (symbol_in p r),
        (
          ap StructOf (symbols g inj p q a r),
          struct {rank = r} {d = d} {k = k} {o = o} {c = c} {fs = fs}
              (got_by (package_types q) (package_types p) r d (sym (same_place_types g inj p q a)) at) body,
        ),
      )
  underlying_back _ _ (interface {rank = r} {d = d} {k = k} {o = o} {c = c} {ms = ms} at body) x e =
      let s = defined_back g x (symbol_in q r) e in
      subst (λ z. Before g p z (InterfaceOf (symbol_in q r))) (sym (s.1.0 ∙ ap Defined (own_symbol s.0 r s.1.1))) (
        InterfaceOf (symbol_in p r),
        (
          ap InterfaceOf (symbols g inj p q a r),
          interface {rank = r} {d = d} {k = k} {o = o} {c = c} {ms = ms}
              (got_by (package_types q) (package_types p) r d (sym (same_place_types g inj p q a)) at) body,
        ),
      )
  underlying_back _ _ (named {rank = r} {d = d} {tree = tree} {t = t} {u = u} at body is h) x e =
      let s = defined_back g x (symbol_in q r) e in
      let old : slice_get (package_types p) r ≡ Some d = got_by (package_types q) (package_types p) r d (sym (same_place_types g inj p q a)) at in
      let y = denotes_back g inj p q a d.file tree t is (other_dotted g inj p q a r d tree old body) in
      let under = underlying_back t u h y.0 y.1.0 in
      subst (λ z. Before g p z u) (sym (s.1.0 ∙ ap Defined (own_symbol s.0 r s.1.1)))
      (under.0, (under.1.0, named {rank = r} {d = d} {tree = tree} {t = y.0} {u = under.0} old body y.1.1 under.1.1))
  underlying_back _ _ (imported {path = path} {rank = r} other) x e =
      let s = defined_back g x (record { «package» = path; rank = r }) e in
      let from : path ≡ g s.0.package = ap (λ (z : Symbol). z.package) s.1.1 in
      let same : r ≡ s.0.rank = ap (λ (z : Symbol). z.rank) s.1.1 in
      subst (λ z. Before g p z (((q.export_data_of path).definition r).underlying)) (sym s.1.0) (
        ((p.export_data_of s.0.package).definition s.0.rank).underlying,
        (
          ap2 (λ (y : List ℕ) (n : ℕ). ((q.export_data_of y).definition n).underlying) from same
              ∙ ap (λ (d : Definition). d.underlying) (a.definitions s.0.package s.0.rank),
          imported {path = s.0.package} {rank = s.0.rank} (λ own. other (from ∙ ap g own ∙ sym a.path)),
        ),
      )
