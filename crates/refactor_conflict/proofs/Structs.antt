-- The structs that definitions are: which has the fields of a definition's values.
use Rattle.std.proofs.Common.{ℕ, zero, suc, ◌≡◌, ◌⊎◌, ◌+◌, inl, inr, List, [], ◌∷◌, map, ap, sym, subst, refl, ◌∙◌, arith}
use Rattle.std.specs.Prelude.{Option, Some, None, slice_get, slice_index_or}
use Rattle.std.specs.List.{All, flat_map}
use Rattle.std.proofs.lemmas.List.Elements.{All-nil, All-head, All-tail, All-append, All-map, All-weaker}
use Rattle.std.proofs.lemmas.Option.{none-some, same_Some}
use Rattle.go_ast.specs.Tree.{Item, FieldTree, MethodTree, BodyTree, Other, Struct, Interface}
use Rattle.go_scope.specs.WellFormed.{WellFormed}
use Rattle.types_expr.specs.declared.symbol.Symbol.{Symbol}
use Rattle.types_expr.specs.declared.world.Definition.{Definition}
use Rattle.types_expr.specs.Types.{Defined, Underlying, Plain, PointerTo, SliceOf}
use Rattle.types_expr.specs.Types.{Struct as StructOf, Interface as InterfaceOf}
use Rattle.types_expr.specs.World.{struct_of}
use Rattle.types_expr.specs.World as plain
use Rattle.types_expr.specs.WorldView.{definition_or_none}
use Rattle.types_declared.specs.Package.{Package, PlacedType, package_types, symbol_in}
use Rattle.types_declared.specs.Definitions.{PlacedField, body_fields, fields_from, package_fields, HasUnderlying, struct, interface}
use Rattle.types_declared.specs.Definitions.{OfType, OfSignature, IsUnderlyingOf, has, has_none}
use Rattle.types_declared.proofs.OneUnderlying.{one_underlying, none_beyond}
use Rattle.refs_binding.specs.Members.{AreOwnDefinitions}
use Rattle.refactor_conflict.specs.MembersFound.{IsStructFound}

-- a definition writes a struct or an interface
data WritesMembers : BodyTree → Type 0 where
  fields : {k o c : ℕ} {fs : List (Item FieldTree)} → WritesMembers (Struct k o fs c)
  methods : {k o c : ℕ} {ms : List (Item MethodTree)} → WritesMembers (Interface k o ms c)

-- one of some definitions writes a member, by its rank from a first one on
record IsWritten (first : ℕ) (ds : List PlacedType) (f : PlacedField) : Type 0 where
  place : ℕ
  definition : PlacedType
  stands : slice_get ds place ≡ Some definition
  of_rank : f.definition ≡ first + place
  writes : WritesMembers definition.spec.body

body_written : (first file : ℕ) (d : PlacedType) (ds : List PlacedType) (b : BodyTree) → d.spec.body ≡ b →
    All (IsWritten first (d ∷ ds)) (body_fields first file b)
body_written first file d ds (Other t) e = All-nil (IsWritten first (d ∷ ds))
body_written first file d ds (Interface k o ms c) e =
    All-map (IsWritten first (d ∷ ds)) (λ (i : Item MethodTree). record {
      definition = first;
      file = file;
      name = i.value.name;
      form = OfSignature i.value.params i.value.result;
    }) ms (λ k x lt. record { place = 0; definition = d; stands = refl; of_rank = omega arith; writes = subst WritesMembers (sym e) methods })
body_written first file d ds (Struct k o fs c) e = items fs
  where
    one : (i : Item FieldTree) (n : Item ℕ) → IsWritten first (d ∷ ds) (record {
      definition = first;
      file = file;
      name = n.value;
      form = OfType
          i.value.type_use;
    })
    one i n = record { place = 0; definition = d; stands = refl; of_rank = omega arith; writes = subst WritesMembers (sym e) fields }

    names : (i : Item FieldTree) (xs : List (Item ℕ)) → All (IsWritten first (d ∷ ds))
        (map (λ (n : Item ℕ). record { definition = first; file = file; name = n.value; form = OfType i.value.type_use }) xs)
    names i xs = All-map (IsWritten first (d ∷ ds)) (λ (n : Item ℕ). record
        { definition = first; file = file; name = n.value; form = OfType i.value.type_use }) xs (λ k x lt. one i (slice_index_or xs k x))

    items : (xs : List (Item FieldTree)) →
        All (IsWritten first (d ∷ ds)) (flat_map (λ (i : Item FieldTree). map
        (λ (n : Item ℕ). record { definition = first; file = file; name = n.value; form = OfType i.value.type_use }) i.value.names) xs)
    items [] = All-nil (IsWritten first (d ∷ ds))
    items (i ∷ is) = All-append (IsWritten first (d ∷ ds)) _ _ (names i i.value.names) (items is)

next_written : (first : ℕ) (d : PlacedType) (ds : List PlacedType) (f : PlacedField) → IsWritten (suc first) ds f → IsWritten first (d ∷ ds) f
next_written first d ds f h = record {
  place = suc h.place;
  definition = h.definition;
  stands = h.stands;
  of_rank =
      (let e : f.definition ≡ suc first + h.place = h.of_rank in omega arith);
  writes = h.writes;
}

all_written : (first : ℕ) (ds : List PlacedType) → All (IsWritten first ds) (fields_from first ds)
all_written first [] = All-nil (IsWritten first [])
all_written first (d ∷ ds) =
    All-append (IsWritten first (d ∷ ds)) (body_fields first d.file d.spec.body) (fields_from (suc first) ds) (body_written first d.file d ds d.spec.body refl)
    (All-weaker (IsWritten (suc first) ds) (IsWritten first (d ∷ ds)) (next_written first d ds) (fields_from (suc first) ds) (all_written (suc first) ds))

all_at : {X : Type 0} (P : X → Type 0) (xs : List X) (i : ℕ) (x : X) → All P xs → slice_get xs i ≡ Some x → P x
all_at P [] i x h e = absurd (none-some x e)
all_at P (y ∷ ys) zero x h e = subst P (same_Some y x e) (All-head P y ys h)
all_at P (y ∷ ys) (suc i) x h e = all_at P ys i x (All-tail P y ys h) e

-- a type definition has an underlying type
abbrev IsUnder : Package → ℕ → Type 0
IsUnder p rank = (u : Underlying) × HasUnderlying p (Defined (symbol_in p rank)) u

has_members : (p : Package) (rank : ℕ) (d : PlacedType) (b : BodyTree) → slice_get (package_types p) rank ≡ Some d → d.spec.body ≡ b → WritesMembers b →
    IsUnder p rank
has_members p rank d _ at e fields = (StructOf (symbol_in p rank), struct at e)
has_members p rank d _ at e methods = (InterfaceOf (symbol_in p rank), interface at e)

-- The type definition of a written member is a struct or an interface.
pub field_written : (p : Package) (rank : ℕ) (f : PlacedField) → slice_get (package_fields p) rank ≡ Some f →
    (u : Underlying) × HasUnderlying p (Defined (symbol_in p f.definition)) u
field_written p rank f at =
    let w = all_at (IsWritten 0 (package_types p)) (package_fields p) rank f (all_written 0 (package_types p)) at in
    let same : w.place ≡ f.definition = (let e : f.definition ≡ 0 + w.place = w.of_rank in omega arith) in
    subst (IsUnder p) same
    (has_members p w.place w.definition w.definition.spec.body w.stands refl w.writes)

-- The struct of a type definition, by the package's own definitions.
pub struct_found : (p : Package) (own : List Definition) → AreOwnDefinitions p own → (s : Symbol) → p.path ≡ s.package → (o : Option Symbol) →
    o ≡ struct_of (definition_or_none s (slice_get own s.rank)).underlying →
    IsStructFound p s.rank o
struct_found p own h s e o is = at (slice_get (package_types p) s.rank) refl
  where
    same : symbol_in p s.rank ≡ s
    same = ap (λ q. record { «package» = q; rank = s.rank }) e

    shown : o ≡ struct_of (definition_or_none (symbol_in p s.rank) (slice_get own s.rank)).underlying
    shown = is ∙ ap (λ (t : Symbol). struct_of (definition_or_none t (slice_get own s.rank)).underlying) (sym same)

    at : (x : Option PlacedType) → slice_get (package_types p) s.rank ≡ x → IsStructFound p s.rank o
    at None none = (
      StructOf (symbol_in p s.rank),
      (has_none (none_beyond p s.rank none), shown ∙ ap (λ (d : plain.Definition). struct_of d.underlying) (h.beyond s.rank none)),
    )
    at (Some d) is_there = ((definition_or_none (symbol_in p s.rank) (slice_get own s.rank)).underlying, ((h.each s.rank d is_there).underlying, shown))

-- an underlying type that is a struct
struct_is : (u : Underlying) (s : Symbol) → Some s ≡ struct_of u → u ≡ StructOf s
struct_is (Plain b) s e = absurd (none-some s (sym e))
struct_is (PointerTo t) s e = absurd (none-some s (sym e))
struct_is (SliceOf t) s e = absurd (none-some s (sym e))
struct_is (InterfaceOf t) s e = absurd (none-some s (sym e))
struct_is (StructOf t) s e = ap StructOf (same_Some t s (sym e))

-- the struct that was found is the one that the definition has
pub found_struct : (p : Package) → WellFormed p.layout → (rank : ℕ) (o : Option Symbol) (s : Symbol) → IsStructFound p rank o →
    HasUnderlying p (Defined (symbol_in p rank)) (StructOf s) → o ≡ Some s
found_struct p w rank o s h k = h.1.1 ∙ ap struct_of (same h.0 h.1.0)
  where
    same : (u : Underlying) → IsUnderlyingOf p rank u → u ≡ StructOf s
    same u (has is) = one_underlying p w (Defined (symbol_in p rank)) u (StructOf s) is k
    same _ (has_none none) = absurd (none (StructOf s) k)

-- The struct that was found is that of the type definition, or is a struct of its own, of a definition without an underlying type.
pub struct_had : (p : Package) (rank : ℕ) (s : Symbol) → IsStructFound p rank (Some s) →
    HasUnderlying p (Defined (symbol_in p rank)) (StructOf s) ⊎ ((s ≡ symbol_in p rank) × ((u : Underlying) →
    HasUnderlying p (Defined (symbol_in p rank)) u → ⊥))
struct_had p rank s h = by_underlying h.0 h.1.0 h.1.1
  where
    by_underlying : (u : Underlying) → IsUnderlyingOf p rank u → Some s ≡ struct_of u →
        HasUnderlying p (Defined (symbol_in p rank)) (StructOf s) ⊎ ((s ≡ symbol_in p rank) × ((v : Underlying) →
        HasUnderlying p (Defined (symbol_in p rank)) v → ⊥))
    by_underlying u (has is) e = inl (subst (HasUnderlying p (Defined (symbol_in p rank))) (struct_is u s e) is)
    by_underlying _ (has_none none) e = inr (same_Some s (symbol_in p rank) e, none)
