-- What the names of a file are bound to, the members of types, and the types of local variables.
use Rattle.std.specs.Prelude.{ℕ, ◌≡◌, ◌==◌, Bool, true, false, ◌&&◌, ◌||◌, if◌then◌else◌, List, Option, Some, None}
use Rattle.std.specs.List.{list_all}
use Rattle.types_expr.specs.declared.symbol.Symbol.{Symbol}
use Rattle.types_expr.specs.Types.{PlainType, Defined, Pointer, Underlying, PointerTo, Struct, Interface, Typed, Signature, Meaning, Value, Broken}
use Rattle.types_expr.specs.Types.{WrittenAs, AFieldOf, AMethodOf, same_path, underlying_by, is_interface, identical_signatures}

-- What a name is bound to: a parameter or a local, by the token that declares it; or something that all its uses mean; or a variable,
-- function or type whose written type, parameters, results or underlying type has a broken part. A name that is bound to nothing means
-- Broken.
pub data Bound : Type 0 where
  Local : ℕ → Bound
  Means : Meaning → Bound
  BrokenVariable : Bound
  BrokenFunction : Bound
  BrokenType : Bound

-- a written member: a field of a struct, or a method that an interface asks for; a method of a receiver; such a method whose parameters or
-- results have a broken part
pub data Member : Type 0 where
  AField : Symbol → WrittenAs → Member
  AMethod : Symbol → (on_pointer : Bool) → Signature → Member
  ABrokenMethod : Symbol → Member

abbrev pub member_symbol : Member → Symbol
member_symbol (AField s form) = s
member_symbol (AMethod s on_pointer signature) = s
member_symbol (ABrokenMethod s) = s

-- What a file is judged by: the binding of the name at a token, also of one after the name of a package; the member that the name at a
-- token, a selector or a key, denotes for the type before it; the underlying type of a definition; whether a type implements an interface,
-- which is given by the definition that writes it.
pub record World : Type 0 where
  pub bound : ℕ → Bound
  pub member : ℕ → PlainType → Option Member
  pub definition : Symbol → Underlying
  pub implements : PlainType → Symbol → Bool

-- the underlying type of a type
abbrev pub underlying : World → PlainType → Underlying
underlying w t = underlying_by w.definition t

-- Whether values may enter an interface: those of expressions of their own may always. One of several results of a call may only if its type
-- is an interface already.
abbrev pub may_enter : (own from_interface : Bool) → Bool
may_enter true from_interface = true
may_enter false from_interface = from_interface

-- the world as the targets of values see it, where own says whether each value is that of an expression of its own
abbrev pub giving : (own : Bool) → World → World
giving own w = record {
  bound = w.bound;
  member = w.member;
  definition = w.definition;
  implements = λ t s. may_enter own (is_interface (underlying w t)) && w.implements t s;
}

-- Local variables: the type of the parameter or local that the name at a token declares. There is none where the type is broken, and where
-- none has been declared there yet.
abbrev pub Locals : Type 0
Locals = ℕ → Option PlainType

abbrev pub no_locals : Locals
no_locals = λ place. None

-- the locals, with one more whose name is at token `name`; it has no type where that is broken
abbrev pub declared : Locals → ℕ → Option PlainType → Locals
declared locals name t = λ place. if place == name then t else locals place

-- the meaning of a variable; Broken where its type is broken
abbrev pub variable : Option PlainType → Meaning
variable None = Broken
variable (Some t) = Value (Typed t) true

-- the meaning of a name with this binding
abbrev pub meaning_of_bound : Locals → Bound → Meaning
meaning_of_bound locals (Local place) = variable (locals place)
meaning_of_bound locals (Means m) = m
meaning_of_bound locals b = Broken

-- the meaning of the name at token `place`
abbrev pub name_meaning : World → Locals → ℕ → Meaning
name_meaning w locals place = meaning_of_bound locals (w.bound place)

-- Members by name

-- a member that a definition writes: a field of a struct, or a method that an interface asks for
pub record Field : Type 0 where
  pub symbol : Symbol
  pub exported : Bool
  pub form : WrittenAs

-- a method; it has no signature where a parameter or result is broken
pub record Method : Type 0 where
  pub symbol : Symbol
  pub exported : Bool
  pub on_pointer : Bool
  pub signature : Option Signature

-- A type definition: its underlying type, and by name the members that it writes and the methods of receivers of its type. Only members that
-- count are there.
pub record Definition : Type 0 where
  pub underlying : Underlying
  pub field : List ℕ → Option Field
  pub method : List ℕ → Option Method

abbrev pub struct_of : Underlying → Option Symbol
struct_of (Struct s) = Some s
struct_of u = None

abbrev pub struct_or_target : (Symbol → Underlying) → Underlying → Option Symbol
struct_or_target definition (PointerTo t) = struct_of (underlying_by definition t)
struct_or_target definition (Interface s) = Some s
struct_or_target definition u = struct_of u

-- The definition whose written members the values of a type have: that of the type's struct or interface, or that of the struct to which they
-- point. Values that point to an interface have none.
unfoldable pub field_owner : (Symbol → Underlying) → PlainType → Option Symbol
field_owner definition t = struct_or_target definition (underlying_by definition t)

-- the definition whose methods the values of a type have: T for T and `*T`
unfoldable pub owner : PlainType → Option Symbol
owner (Defined s) = Some s
owner (Pointer (Defined s)) = Some s
owner t = None

-- whether a name in the package `own` denotes the declaration s where the two are spelled alike: s is exported, or declared in that package
abbrev pub is_seen : (own : List ℕ) → Symbol → (exported : Bool) → Bool
is_seen own s exported = exported || same_path own s.package

-- the field, if its name is seen in the package `own`
abbrev pub seen_field : List ℕ → Option Field → Option Field
seen_field own None = None
seen_field own (Some f) = if is_seen own f.symbol f.exported then Some f else None

-- the method, if its name is seen in the package `own`
abbrev pub seen_method : List ℕ → Option Method → Option Method
seen_method own None = None
seen_method own (Some m) = if is_seen own m.symbol m.exported then Some m else None

-- the field that `name` denotes in the package `own`, of the struct of this definition
abbrev pub field_of : (Symbol → Definition) → (own name : List ℕ) → Option Symbol → Option Field
field_of definition own name None = None
field_of definition own name (Some s) = seen_field own ((definition s).field name)

-- the method that `name` denotes in the package `own`, of the type of this definition
abbrev pub method_of : (Symbol → Definition) → (own name : List ℕ) → Option Symbol → Option Method
method_of definition own name None = None
method_of definition own name (Some s) = seen_method own ((definition s).method name)

abbrev pub a_method : Symbol → Bool → Option Signature → Member
a_method s on_pointer None = ABrokenMethod s
a_method s on_pointer (Some signature) = AMethod s on_pointer signature

-- the written member if there is one, else the method
abbrev pub first_member : Option Field → Option Method → Option Member
first_member (Some f) m = Some (AField f.symbol f.form)
first_member None None = None
first_member None (Some m) = Some (a_method m.symbol m.on_pointer m.signature)

-- The member that `name`, written in the package `own`, denotes for the type t before it: a member that the struct or interface writes, else
-- a method of the definition.
unfoldable pub member_by : (Symbol → Definition) → (own name : List ℕ) → PlainType → Option Member
member_by definition own name t = first_member (field_of definition own name (field_owner (λ s. (definition s).underlying) t))
    (method_of definition own name (owner t))

-- Method sets (Go specification, "Method sets")

-- a method of a method set; it has no signature where a parameter or result is broken
pub record SetMethod : Type 0 where
  pub symbol : Symbol
  pub exported : Bool
  pub signature : Option Signature

-- a written member as a method of the interface that writes it; a field is none
abbrev pub asked_as : Symbol → (exported : Bool) → WrittenAs → Option SetMethod
asked_as s exported (AFieldOf t) = None
asked_as s exported (AMethodOf signature) = Some (record { symbol = s; exported = exported; signature = Some signature })

abbrev pub as_set_method : Option Field → Option SetMethod
as_set_method None = None
as_set_method (Some f) = asked_as f.symbol f.exported f.form

-- whether a method set holds a method of a receiver: that of T holds those of T, that of `*T` (behind_star) also those of `*T`
abbrev pub reaches : (behind_star on_pointer : Bool) → Bool
reaches false true = false
reaches behind_star on_pointer = true

-- a method of T as one of the method set of T, or of `*T`
abbrev pub received_method : (behind_star : Bool) → Option Method → Option SetMethod
received_method behind_star None = None
received_method behind_star (Some m) =
    if reaches behind_star m.on_pointer then Some (record { symbol = m.symbol; exported = m.exported; signature = m.signature }) else None

-- The method of this name in the method set of the definition s with the given underlying type, or (behind_star) of pointers to its values. An
-- interface has the methods that it asks for, and a pointer to one has none.
abbrev pub in_set_by : (Symbol → Definition) → (behind_star : Bool) → Symbol → Underlying → (name : List ℕ) → Option SetMethod
in_set_by definition behind_star s (Interface i) name = if behind_star then None else as_set_method ((definition i).field name)
in_set_by definition behind_star s u name = received_method behind_star ((definition s).method name)

abbrev pub in_set : (Symbol → Definition) → (behind_star : Bool) → Symbol → (name : List ℕ) → Option SetMethod
in_set definition behind_star s name = in_set_by definition behind_star s (definition s).underlying name

-- the method of this name in the method set of a type
unfoldable pub in_method_set : (Symbol → Definition) → PlainType → (name : List ℕ) → Option SetMethod
in_method_set definition (Defined s) name = in_set definition false s name
in_method_set definition (Pointer (Defined s)) name = in_set definition true s name
in_method_set definition t name = None

-- Implementing (Go specification, "Implementing an interface")

-- whether two signatures, none where they are broken, are identical; no type is identical to a broken one
abbrev pub has_signature : Option Signature → Signature → Bool
has_signature None wanted = false
has_signature (Some signature) wanted = identical_signatures signature wanted

-- Whether a method, which is spelled as the written member a, is the method of the signature `wanted` that a asks for. The two names are one
-- where they are exported or of one package.
abbrev pub is_as_asked : Field → Signature → Option SetMethod → Bool
is_as_asked a wanted None = false
is_as_asked a wanted (Some m) = is_seen a.symbol.package m.symbol m.exported && has_signature m.signature wanted

-- whether a method set has what the written member a asks for, which is nothing where a is a field
abbrev pub has_written : Field → WrittenAs → Option SetMethod → Bool
has_written a (AFieldOf t) m = true
has_written a (AMethodOf wanted) m = is_as_asked a wanted m

-- the same for what an interface writes under a name, if it writes something; m is what the method set has under that name
abbrev pub has_if_asked : Option Field → Option SetMethod → Bool
has_if_asked None m = true
has_if_asked (Some a) m = has_written a a.form m

-- The type t implements the interface that the definition of a symbol writes: it has what the interface asks for under each name.
pub record Implements (definition : Symbol → Definition) (t : PlainType) (interface : Symbol) : Type 0 where
  pub writes_one : is_interface (definition interface).underlying ≡ true
  pub has : (name : List ℕ) → has_if_asked ((definition interface).field name) (in_method_set definition t name) ≡ true

-- whether t implements the interface, which writes members under these names alone
unfoldable pub implements_by : (Symbol → Definition) → (names : List (List ℕ)) → PlainType → Symbol → Bool
implements_by definition names t interface = is_interface (definition interface).underlying &&
    list_all (λ name. has_if_asked ((definition interface).field name) (in_method_set definition t name)) names
