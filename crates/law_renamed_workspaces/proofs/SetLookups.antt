-- Which types implement an interface depends on few lookups: on those of the type, of the interface and of what their underlying types are.
use Rattle.std.proofs.Common.{◌≡◌, Bool, true, false, List, ℕ, ap, sym, refl, ◌∙◌}
use Rattle.std.specs.Prelude.{Option, Some, None, if◌then◌else◌}
use Rattle.std.proofs.Math.Path.{ap₂}
use Rattle.types_expr.specs.declared.symbol.Symbol.{Symbol}
use Rattle.types_expr.specs.declared.types.Basic.{Basic}
use Rattle.types_expr.specs.Types.{PlainType, BasicType, Defined, Pointer, Slice, Underlying, Plain, PointerTo, SliceOf, Struct, Interface}
use Rattle.types_expr.specs.Types.{WrittenAs, AFieldOf, AMethodOf, is_interface}
use Rattle.types_expr.specs.World.{Definition, Field, Implements, in_set_by, in_set, in_method_set, has_if_asked, has_written, received_method, as_set_method}
use Rattle.types_expr.specs.WorldView.{no_definition}

-- T, or a pointer to it behind a star
abbrev pub type_behind : (star : Bool) → Symbol → PlainType
type_behind false s = Defined s
type_behind true s = Pointer (Defined s)

pub set_of_type : (o : Symbol → Definition) (star : Bool) (s : Symbol) (name : List ℕ) → in_method_set o (type_behind star s) name ≡ in_set o star s name
unfolding in_method_set
set_of_type o false s name = refl
set_of_type o true s name = refl

-- Two families of definitions agree on a part, and the interfaces that are underlying types of the part are in it.
module _ (o x : Symbol → Definition) (In : Symbol → Type 0) (agree : (s : Symbol) → In s → o s ≡ x s)
    (home : (s i : Symbol) → In s → (o s).underlying ≡ Interface i → In i) where
  set_by : (star : Bool) (s : Symbol) → In s → (name : List ℕ) (u : Underlying) → ((i : Symbol) → u ≡ Interface i → In i) →
      in_set_by o star s u name ≡ in_set_by x star s u name
  set_by star s has name (Plain b) of = ap (λ (d : Definition). received_method star (d.method name)) (agree s has)
  set_by star s has name (PointerTo t) of = ap (λ (d : Definition). received_method star (d.method name)) (agree s has)
  set_by star s has name (SliceOf t) of = ap (λ (d : Definition). received_method star (d.method name)) (agree s has)
  set_by star s has name (Struct t) of = ap (λ (d : Definition). received_method star (d.method name)) (agree s has)
  set_by star s has name (Interface i) of = ap (λ (d : Definition). if star then None else as_set_method (d.field name)) (agree i (of i refl))

  same_set : (star : Bool) (s : Symbol) → In s → (name : List ℕ) → in_set o star s name ≡ in_set x star s name
  same_set star s has name =
      set_by star s has name (o s).underlying (λ i e. home s i has e)
      ∙ ap (λ (d : Definition). in_set_by x star s d.underlying name) (agree s has)

  same_answer : (star : Bool) (s i : Symbol) → In s → In i → (name : List ℕ) →
      has_if_asked ((o i).field name) (in_method_set o (type_behind star s) name) ≡ has_if_asked ((x i).field name) (in_method_set x (type_behind star s) name)
  same_answer star s i has also name =
      ap₂ has_if_asked (ap (λ (d : Definition). d.field name) (agree i also))
      (set_of_type o star s name ∙ same_set star s has name ∙ sym (set_of_type x star s name))

  pub implements_there : (star : Bool) (s i : Symbol) → In s → In i → Implements o (type_behind star s) i → Implements x (type_behind star s) i
  implements_there star s i has also h = record {
    writes_one = ap (λ (d : Definition). is_interface d.underlying) (sym (agree i also)) ∙ h.writes_one;
    has = λ name. sym (same_answer star s i has also name) ∙ h.has name;
  }

  pub implements_here : (star : Bool) (s i : Symbol) → In s → In i → Implements x (type_behind star s) i → Implements o (type_behind star s) i
  implements_here star s i has also h = record {
    writes_one = ap (λ (d : Definition). is_interface d.underlying) (agree i also) ∙ h.writes_one;
    has = λ name. same_answer star s i has also name ∙ h.has name;
  }

-- A type without methods

-- the type has no methods
abbrev pub HasNoMethods : (Symbol → Definition) → PlainType → Type 0
HasNoMethods o t = (name : List ℕ) → in_method_set o t name ≡ None

pub none_of_unknown : (o : Symbol → Definition) (star : Bool) (s : Symbol) → o s ≡ no_definition s → HasNoMethods o (type_behind star s)
none_of_unknown o star s e name =
    set_of_type o star s name ∙ ap (λ (d : Definition). in_set_by o star s d.underlying name) e
    ∙ ap (λ (d : Definition). received_method star (d.method name)) e

pub none_of_basic : (o : Symbol → Definition) (b : Basic) → HasNoMethods o (BasicType b)
unfolding in_method_set
none_of_basic o b name = refl

pub none_of_slice : (o : Symbol → Definition) (t : PlainType) → HasNoMethods o (Slice t)
unfolding in_method_set
none_of_slice o t name = refl

pub none_of_basic_pointer : (o : Symbol → Definition) (b : Basic) → HasNoMethods o (Pointer (BasicType b))
unfolding in_method_set
none_of_basic_pointer o b name = refl

pub none_of_slice_pointer : (o : Symbol → Definition) (t : PlainType) → HasNoMethods o (Pointer (Slice t))
unfolding in_method_set
none_of_slice_pointer o t name = refl

pub none_of_two_pointers : (o : Symbol → Definition) (t : PlainType) → HasNoMethods o (Pointer (Pointer t))
unfolding in_method_set
none_of_two_pointers o t name = refl

-- such a type has what is asked for only where that is a field, or nothing

abbrev asks_nothing : Option Field → Bool
asks_nothing f = has_if_asked f None

abbrev is_field : WrittenAs → Bool
is_field (AFieldOf t) = true
is_field (AMethodOf s) = false

form_asks : (f : Field) (t : WrittenAs) → has_written f t None ≡ is_field t
form_asks f (AFieldOf t) = refl
form_asks f (AMethodOf g) = refl

-- a member with the form of one that asks for nothing asks for nothing
asks_alike : (f g : Field) → g.form ≡ f.form → asks_nothing (Some f) ≡ true → asks_nothing (Some g) ≡ true
asks_alike f g same h = form_asks g g.form ∙ ap is_field same ∙ sym (form_asks f f.form) ∙ h

-- Where each member that an interface writes afterwards has the form of one that it wrote, a type without methods implements it as before.
pub nothing_implements : (o x : Symbol → Definition) (t : PlainType) (i : Symbol) → HasNoMethods o t → HasNoMethods x t →
    (x i).underlying ≡ (o i).underlying →
    ((name : List ℕ) (g : Field) → (x i).field name ≡ Some g → (old : List ℕ) × ((f : Field) × (((o i).field old ≡ Some f) × (g.form ≡ f.form)))) →
    Implements o t i → Implements x t i
nothing_implements o x t i none none_now same was h = record {
  writes_one = ap is_interface same ∙ h.writes_one;
  has = λ name. ap (has_if_asked ((x i).field name)) (none_now name) ∙ by_field name ((x i).field name) refl;
}
  where
    by_field : (name : List ℕ) (z : Option Field) → (x i).field name ≡ z → asks_nothing ((x i).field name) ≡ true
    by_field name None e = ap asks_nothing e
    by_field name (Some g) e =
        let c = was name g e in
        let asked : asks_nothing (Some c.1.0) ≡ true = sym (ap₂ has_if_asked c.1.1.0 (none c.0)) ∙ h.has c.0 in
        ap asks_nothing e ∙ asks_alike c.1.0 g c.1.1.1 asked
