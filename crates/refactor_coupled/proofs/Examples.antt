-- Which types implement an interface, and what is renamed with a method, in one small package:
--
--   type I interface { M() int }
--   type T struct{}
--   func (t T) M() int { return 1 }   // or with the receiver `t *T`, or with another name
use Rattle.std.proofs.Common.{ℕ, ◌≡◌, ◌==◌, Bool, true, false, List, [], ◌∷◌, inr, refl, ap, if◌then◌else◌}
use Rattle.std.specs.Prelude.{Option, Some, None}
use Rattle.types_expr.specs.declared.types.Basic.TheVariants as basic
use Rattle.types_expr.specs.declared.symbol.Symbol.{Symbol}
use Rattle.types_expr.specs.Types.{BasicType, Defined, Pointer, Struct, Interface, Signature, AMethodOf, identical_signatures, same_path, same_type}
use Rattle.types_expr.specs.World.{Definition, Implements, has_if_asked, in_method_set, Field as Written, Method as Received, received_method}
use Rattle.refs_binding.specs.declared.declaration.Declaration.{Declaration}
use Rattle.refs_binding.specs.declared.declaration.Declaration.TheVariants.{Field, Method}
use Rattle.refactor_coupled.specs.Coupling.{Meets, IsAskedMethod, AsksFor, RenamedWith, itself, coupled}

-- the names M and N
abbrev name_m : List ℕ
name_m = 77 ∷ []

abbrev name_n : List ℕ
name_n = 78 ∷ []

-- I and T, and the methods of both
abbrev the_interface : Symbol
the_interface = record { «package» = 97 ∷ []; rank = 0 }

abbrev the_type : Symbol
the_type = record { «package» = 97 ∷ []; rank = 1 }

abbrev the_method : Symbol
the_method = record { «package» = 97 ∷ []; rank = 0 }

-- the method () int
abbrev gives_int : Signature
gives_int = record { parameters = []; results = BasicType basic.Int ∷ [] }

abbrev asked : Written
asked = record { symbol = the_method; exported = true; form = AMethodOf gives_int }

abbrev received : Bool → Received
received on_pointer = record { symbol = the_method; exported = true; on_pointer = on_pointer; signature = Some gives_int }

-- what there is under the tested name
abbrev if_named : {X : Type 0} → Bool → X → Option X
if_named named x = if named then Some x else None

-- the definitions, where the method of T has this name and kind of receiver
abbrev definitions : (name : List ℕ) → (on_pointer : Bool) → Symbol → Definition
definitions name on_pointer s = if s.rank == 0 then record {
  underlying = Interface the_interface;
  field = λ n. if_named (same_path n name_m) asked;
  method = λ n. None;
} else record {
  underlying = Struct the_type;
  field = λ n. None;
  method = λ n. if_named (same_path n name) (received on_pointer);
}

-- Implementing

-- under each name a method set has what is asked for where both have it under that name
has_both : (star on_pointer : Bool) → received_method star (Some (received on_pointer)) ≡ Some (record {
  symbol = the_method;
  exported = true;
  signature =
      Some gives_int;
}) →
    (named : Bool) → has_if_asked (if_named named asked) (received_method star (if_named named (received on_pointer))) ≡ true
unfolding identical_signatures same_type
has_both star on_pointer e true = ap (has_if_asked (Some asked)) e
has_both star on_pointer e false = refl

-- T implements I
value_implements : Implements (definitions name_m false) (Defined the_type) the_interface
unfolding in_method_set
value_implements = record { writes_one = refl; has = λ name. has_both false false refl (same_path name name_m) }

-- so does `*T`
pointer_implements : Implements (definitions name_m false) (Pointer (Defined the_type)) the_interface
unfolding in_method_set
pointer_implements = record { writes_one = refl; has = λ name. has_both true false refl (same_path name name_m) }

-- where the receiver is `*T`, T does not implement I
value_has_none : Implements (definitions name_m true) (Defined the_type) the_interface → ⊥
unfolding in_method_set
value_has_none h = let e : false ≡ true = h.has name_m in cc

-- but `*T` does
star_implements : Implements (definitions name_m true) (Pointer (Defined the_type)) the_interface
unfolding in_method_set
star_implements = record { writes_one = refl; has = λ name. has_both true true refl (same_path name name_m) }

-- T does not implement I once its method alone is renamed
renamed_alone : Implements (definitions name_n false) (Defined the_type) the_interface → ⊥
unfolding in_method_set
renamed_alone h = let e : false ≡ true = h.has name_m in cc

-- Coupling

asks_for_m : (on_pointer : Bool) → AsksFor (definitions name_m on_pointer) the_interface name_m (Field the_method)
asks_for_m on_pointer = record { written = asked; is_written = refl; signature = gives_int; is_method = refl; is_declaration = refl }

-- the method of T has what I asks for, by T or by `*T`
met_by_value : Meets (definitions name_m false) (Method the_method) (Field the_method)
met_by_value = record {
  of = the_type;
  star = false;
  interface = the_interface;
  implements = value_implements;
  name = name_m;
  asked = asks_for_m false;
  has = record { method = record { symbol = the_method; exported = true; signature = Some gives_int }; is_method = refl; is_declaration = refl };
}

met_behind_star : Meets (definitions name_m true) (Method the_method) (Field the_method)
met_behind_star = record {
  of = the_type;
  star = true;
  interface = the_interface;
  implements = star_implements;
  name = name_m;
  asked = asks_for_m true;
  has = record { method = record { symbol = the_method; exported = true; signature = Some gives_int }; is_method = refl; is_declaration = refl };
}

asked_m : (on_pointer : Bool) → IsAskedMethod (definitions name_m on_pointer) (Field the_method)
asked_m on_pointer = record { interface = the_interface; name = name_m; asked = asks_for_m on_pointer }

-- so a rename that begins at I renames the method of T too
renamed_with : RenamedWith (definitions name_m false) (Field the_method) (Method the_method)
renamed_with = coupled (asked_m false) itself (inr met_by_value)

renamed_behind_star : RenamedWith (definitions name_m true) (Field the_method) (Method the_method)
renamed_behind_star = coupled (asked_m true) itself (inr met_behind_star)

-- and one that begins at T renames its method alone: no interface asks for that declaration
not_asked : (definition : Symbol → Definition) (s : Symbol) → IsAskedMethod definition (Method s) → ⊥
not_asked definition s h = let e : Method s ≡ Field h.asked.written.symbol = h.asked.is_declaration in cc

alone : (definition : Symbol → Definition) (s : Symbol) (e : Declaration) → RenamedWith definition (Method s) e → e ≡ Method s
alone definition s _ itself = refl
alone definition s _ (coupled asked with is) = absurd (not_asked definition s asked)
