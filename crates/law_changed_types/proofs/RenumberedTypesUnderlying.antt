-- Underlying types of packages whose tokens correspond.
use Rattle.std.proofs.Common.{ℕ, ◌≡◌, List, refl, sym, ap, ◌∙◌, subst}
use Rattle.go_ast.specs.Tree.{Item, FieldTree, MethodTree, TypeTree, BodyTree, Other, Struct, Interface}
use Rattle.types_expr.specs.declared.symbol.Symbol.{Symbol}
use Rattle.types_expr.specs.Types.{PlainType, Defined, Underlying}
use Rattle.types_expr.specs.Types.{Struct as StructOf, Interface as InterfaceOf}
use Rattle.types_declared.specs.Package.{Package, ExportData, symbol_in}
use Rattle.types_declared.specs.Written.{DenotesType}
use Rattle.types_declared.specs.Definitions.{HasUnderlying}
use Rattle.types_declared.specs.Definitions.{basic, pointer, slice, struct, interface, named, imported, IsUnderlyingOf, has, has_none}
use Rattle.law_changed_types.proofs.RenumberedTypesAlike.{Half, SameTree, SameBody, Turned, TurnedIdentifiers, symbols}
use Rattle.law_changed_types.proofs.RenumberedTypesWritten.{denotes}

-- the right side of a type definition is a struct
pub record IsStruct (b : BodyTree) : Type 0 where
  pub keyword : ℕ
  pub opening : ℕ
  pub fields : List (Item FieldTree)
  pub closing : ℕ
  pub is : b ≡ Struct keyword opening fields closing

-- the right side of a type definition is an interface
pub record IsInterface (b : BodyTree) : Type 0 where
  pub keyword : ℕ
  pub opening : ℕ
  pub methods : List (Item MethodTree)
  pub closing : ℕ
  pub is : b ≡ Interface keyword opening methods closing

interface_is : (T : ℕ → ℕ → ℕ → Type 0) (p q : Package) (file k o c : ℕ) (ms : List (Item MethodTree)) (x : BodyTree) →
    SameBody T p q file (Interface k o ms c) x → IsInterface x
interface_is T p q file k o c ms (Interface i j ns e) h = record { keyword = i; opening = j; methods = ns; closing = e; is = refl }
interface_is T p q file k o c ms (Struct i j gs e) h = absurd h
interface_is T p q file k o c ms (Other t) h = absurd h

struct_is : (T : ℕ → ℕ → ℕ → Type 0) (p q : Package) (file k o c : ℕ) (fs : List (Item FieldTree)) (x : BodyTree) →
    SameBody T p q file (Struct k o fs c) x → IsStruct x
struct_is T p q file k o c fs (Struct i j gs e) h = record { keyword = i; opening = j; fields = gs; closing = e; is = refl }
struct_is T p q file k o c fs (Other t) h = absurd h
struct_is T p q file k o c fs (Interface i j ms e) h = absurd h

other_is : (T : ℕ → ℕ → ℕ → Type 0) (p q : Package) (file : ℕ) (t : TypeTree) (x : BodyTree) → SameBody T p q file (Other t) x →
    (y : TypeTree) × ((x ≡ Other y) × SameTree T p q file t y)
other_is T p q file t (Other y) h = (y, (refl, h))
other_is T p q file t (Struct i j gs e) h = absurd h
other_is T p q file t (Interface i j ms e) h = absurd h

module _ (T : ℕ → ℕ → ℕ → Type 0) (I : ℕ → ℕ → Type 0) (p q : Package) (h : Half T I p q) (k : Half (Turned T) (TurnedIdentifiers I) q p) where
  pub has_underlying : (t : PlainType) (u : Underlying) → HasUnderlying p t u → HasUnderlying q t u
  has_underlying _ _ (basic {b = b}) = basic {b = b}
  has_underlying _ _ (pointer {t = t}) = pointer {t = t}
  has_underlying _ _ (slice {t = t}) = slice {t = t}
  has_underlying _ _ (struct {rank = r} {d = d} {k = keyword} {o = o} {c = c} {fs = fs} at body) =
      let e = h.types r d at in
      let s = struct_is T p q d.file keyword o c fs e.0.spec.body (subst (λ b. SameBody T p q d.file b e.0.spec.body) body e.1.1.body) in
      subst (λ (y : Symbol). HasUnderlying q (Defined y) (StructOf y)) (symbols T I p q h r)
      (struct {rank = r} {d = e.0} {k = s.keyword} {o = s.opening} {c = s.closing} {fs = s.fields} e.1.0 s.is)
  has_underlying _ _ (interface {rank = r} {d = d} {k = keyword} {o = o} {c = c} {ms = ms} at body) =
      let e = h.types r d at in
      let s = interface_is T p q d.file keyword o c ms e.0.spec.body (subst (λ b. SameBody T p q d.file b e.0.spec.body) body e.1.1.body) in
      subst (λ (y : Symbol). HasUnderlying q (Defined y) (InterfaceOf y)) (symbols T I p q h r)
      (interface {rank = r} {d = e.0} {k = s.keyword} {o = s.opening} {c = s.closing} {ms = s.methods} e.1.0 s.is)
  has_underlying _ _ (named {rank = r} {d = d} {tree = tree} {t = t} {u = u} at body is under) =
      let e = h.types r d at in
      let x = other_is T p q d.file tree e.0.spec.body (subst (λ b. SameBody T p q d.file b e.0.spec.body) body e.1.1.body) in
      subst (λ (y : Symbol). HasUnderlying q (Defined y) u) (symbols T I p q h r)
      (named {rank = r} {d = e.0} {tree = x.0} {t = t} {u = u} e.1.0 x.1.0
      (subst (λ i. DenotesType q i x.0 t) (sym e.1.1.file) (denotes T I p q h k d.file tree t is x.0 x.1.1)) (has_underlying t u under))
  has_underlying _ _ (imported {path = path} {rank = r} other) =
      subst (λ u. HasUnderlying q (Defined (record { «package» = path; rank = r })) u)
      (ap (λ (known : ExportData). (known.definition r).underlying) (h.exports path))
      (imported {path = path} {rank = r} (λ e. other (e ∙ h.path)))

module _ (T : ℕ → ℕ → ℕ → Type 0) (I : ℕ → ℕ → Type 0) (p q : Package) (h : Half T I p q) (k : Half (Turned T) (TurnedIdentifiers I) q p) where
  -- the underlying type of a definition of this rank
  pub own_underlying : (rank : ℕ) (u : Underlying) → HasUnderlying p (Defined (symbol_in p rank)) u → HasUnderlying q (Defined (symbol_in q rank)) u
  own_underlying rank u is =
      subst (λ (s : Symbol). HasUnderlying q (Defined s) u) (sym (symbols T I p q h rank))
      (has_underlying T I p q h k (Defined (symbol_in p rank)) u is)

  pub own_underlying_back : (rank : ℕ) (u : Underlying) → HasUnderlying q (Defined (symbol_in q rank)) u → HasUnderlying p (Defined (symbol_in p rank)) u
  own_underlying_back rank u is =
      subst (λ (s : Symbol). HasUnderlying p (Defined s) u) (symbols T I p q h rank)
      (has_underlying (Turned T) (TurnedIdentifiers I) q p k h (Defined (symbol_in q rank)) u is)

  pub underlying_of : (rank : ℕ) (u : Underlying) → IsUnderlyingOf p rank u → IsUnderlyingOf q rank u
  underlying_of rank _ (has {u = u} is) = has {u = u} (own_underlying rank u is)
  underlying_of rank _ (has_none none) =
      subst (λ (s : Symbol). IsUnderlyingOf q rank (StructOf s)) (symbols T I p q h rank)
      (has_none (λ u is. none u (own_underlying_back rank u is)))
