-- A type has at most one underlying type, by its form and by the body of its definition.
use Rattle.std.proofs.Common.{ℕ, ◌≡◌, ◌⊎◌, inl, inr, sym, subst, refl, ◌∙◌}
use Rattle.std.specs.Prelude.{Some, None, slice_get}
use Rattle.std.proofs.lemmas.Option.{same_Some, none-some}
use Rattle.go_scope.specs.WellFormed.{WellFormed}
use Rattle.go_ast.specs.Tree.{BodyTree, Other, Struct, Interface}
use Rattle.types_expr.specs.declared.symbol.Symbol.{Symbol}
use Rattle.types_expr.specs.Types.{PlainType, BasicType, Defined, Pointer, Slice, Underlying, Plain, PointerTo, SliceOf}
use Rattle.types_expr.specs.Types.{Struct as StructOf, Interface as InterfaceOf}
use Rattle.types_declared.specs.Package.{Package, PlacedType, package_types, symbol_in}
use Rattle.types_declared.specs.Written.{DenotesType}
use Rattle.types_declared.specs.Definitions.{HasUnderlying, basic, pointer, slice, struct, interface, named, imported}
use Rattle.types_declared.proofs.Naming.{one_named}

-- a definition of the package with this body has the underlying type
abbrev pub BodyHas : Package → (rank : ℕ) → PlacedType → BodyTree → Underlying → Type 0
BodyHas p rank d (Struct k o fs c) u = u ≡ StructOf (symbol_in p rank)
BodyHas p rank d (Interface k o ms c) u = u ≡ InterfaceOf (symbol_in p rank)
BodyHas p rank d (Other tree) u = (t : PlainType) × (DenotesType p d.file tree t × HasUnderlying p t u)

pub record OwnHas (p : Package) (rank : ℕ) (u : Underlying) : Type 0 where
  pub definition : PlacedType
  pub has_rank : slice_get (package_types p) rank ≡ Some definition
  pub by_body : BodyHas p rank definition definition.spec.body u

pub record ImportedHas (p : Package) (s : Symbol) (u : Underlying) : Type 0 where
  pub other : s.package ≡ p.path → ⊥
  pub is : u ≡ ((p.export_data_of s.package).definition s.rank).underlying

abbrev pub TypeHas : Package → PlainType → Underlying → Type 0
TypeHas p (BasicType b) u = u ≡ Plain b
TypeHas p (Pointer t) u = u ≡ PointerTo t
TypeHas p (Slice t) u = u ≡ SliceOf t
TypeHas p (Defined s) u = ((s.package ≡ p.path) × OwnHas p s.rank u) ⊎ ImportedHas p s u

pub by_form : (p : Package) (t : PlainType) (u : Underlying) → HasUnderlying p t u → TypeHas p t u
by_form p _ _ (basic {b = b}) = refl
by_form p _ _ (pointer {t = t}) = refl
by_form p _ _ (slice {t = t}) = refl
by_form p _ _ (struct {rank = rank} {d = d} {k = k} {o = o} {c = c} {fs = fs} is written) =
    inl (refl, record { definition = d; has_rank = is; by_body = subst (λ b. BodyHas p rank d b (StructOf (symbol_in p rank))) (sym written) refl })
by_form p _ _ (interface {rank = rank} {d = d} {k = k} {o = o} {c = c} {ms = ms} is written) =
    inl (refl, record { definition = d; has_rank = is; by_body = subst (λ b. BodyHas p rank d b (InterfaceOf (symbol_in p rank))) (sym written) refl })
by_form p _ _ (named {rank = rank} {d = d} {tree = tree} {t = t} {u = u} is written names h) =
    inl (refl, record { definition = d; has_rank = is; by_body = subst (λ b. BodyHas p rank d b u) (sym written) (t, (names, h)) })
by_form p _ _ (imported {path = path} {rank = rank} other) = inr (record { other = other; is = refl })

own_has : (p : Package) (s : Symbol) (u : Underlying) → s.package ≡ p.path → TypeHas p (Defined s) u → OwnHas p s.rank u
own_has p s u e h = elim h [ inl own ↦ own.1 | inr i ↦ absurd (i.other e) ]

imported_has : (p : Package) (s : Symbol) (u : Underlying) → (s.package ≡ p.path → ⊥) → TypeHas p (Defined s) u →
    u ≡ ((p.export_data_of s.package).definition s.rank).underlying
imported_has p s u ne h = elim h [ inl own ↦ absurd (ne own.0) | inr i ↦ i.is ]

-- the underlying type of a definition, by its body
pub of_body : (p : Package) (rank : ℕ) (d : PlacedType) (u : Underlying) → slice_get (package_types p) rank ≡ Some d →
    HasUnderlying p (Defined (symbol_in p rank)) u →
    BodyHas p rank d d.spec.body u
of_body p rank d u is h =
    let own = own_has p (symbol_in p rank) u refl (by_form p (Defined (symbol_in p rank)) u h) in
    subst (λ x. BodyHas p rank x x.spec.body u) (same_Some own.definition d (sym own.has_rank ∙ is)) own.by_body

-- a rank without a definition has no underlying type
pub none_beyond : (p : Package) (rank : ℕ) → slice_get (package_types p) rank ≡ None → (u : Underlying) → HasUnderlying p (Defined (symbol_in p rank)) u → ⊥
none_beyond p rank none u h =
    let own = own_has p (symbol_in p rank) u refl (by_form p (Defined (symbol_in p rank)) u h) in
    none-some own.definition (sym none ∙ own.has_rank)

pub one_underlying : (p : Package) → WellFormed p.layout → (t : PlainType) (u v : Underlying) → HasUnderlying p t u → HasUnderlying p t v → u ≡ v
one_underlying p w _ _ v (basic {b = b}) k = sym (by_form p (BasicType b) v k)
one_underlying p w _ _ v (pointer {t = t}) k = sym (by_form p (Pointer t) v k)
one_underlying p w _ _ v (slice {t = t}) k = sym (by_form p (Slice t) v k)
one_underlying p w _ _ v (struct {rank = rank} {d = d} {k = keyword} {o = o} {c = c} {fs = fs} is written) k =
    let body : BodyHas p rank d (Struct keyword o fs c) v = subst (λ b. BodyHas p rank d b v) written (of_body p rank d v is k) in
    sym body
one_underlying p w _ _ v (interface {rank = rank} {d = d} {k = keyword} {o = o} {c = c} {ms = ms} is written) k =
    let body : BodyHas p rank d (Interface keyword o ms c) v = subst (λ b. BodyHas p rank d b v) written (of_body p rank d v is k) in
    sym body
one_underlying p w _ _ v (named {rank = rank} {d = d} {tree = tree} {t = t} {u = u} is written names h) k =
    let body : BodyHas p rank d (Other tree) v = subst (λ b. BodyHas p rank d b v) written (of_body p rank d v is k) in
    one_underlying p w t u v h (subst (λ x. HasUnderlying p x v) (one_named p w d.file tree body.0 t body.1.0 names) body.1.1)
one_underlying p w _ _ v (imported {path = path} {rank = rank} other) k =
    sym (imported_has p (record { «package» = path; rank = rank }) v other (by_form p (Defined (record { «package» = path; rank = rank })) v k))
