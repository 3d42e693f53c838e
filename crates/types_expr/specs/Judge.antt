-- The judgement of expressions: the meaning of each, its faults and its uses of members' names, by one rule for each form. A rule reports a
-- fault only where the parts are whole. For a broken part it answers Broken, without another fault.
use Rattle.std.specs.Prelude.{ℕ, ◌==◌, Bool, true, false, ◌&&◌, ◌||◌, if◌then◌else◌, List, [], ◌∷◌, ◌++◌, Option, Some, None, length, option_map}
use Rattle.go_ast.specs.declared.syntax.BinaryOp.{BinaryOp}
use Rattle.go_ast.specs.declared.syntax.PrefixOp.{PrefixOp}
use Rattle.go_ast.specs.Tree.{TypeTree, ExprTree, Number, Text, Name, Blank, Composite, Paren, Prefix, Address, Chain, Binary, OperandTrees, no_operand}
use Rattle.go_ast.specs.Tree.{operand, LinkTrees, no_link, selector, index, call, ArgumentTrees, no_argument, argument, LiteralTree, literal, ElementTrees}
use Rattle.go_ast.specs.Tree.{no_element, element}
use Rattle.go_ast.specs.Tree.{Local as LocalType, Imported as ImportedType, Pointer as PointerType, Slice as SliceType}
use Rattle.types_expr.specs.declared.types.Basic.TheVariants as basic
use Rattle.types_expr.specs.declared.types.Builtin.{Builtin}
use Rattle.types_expr.specs.declared.types.Builtin.TheVariants as builtin
use Rattle.types_expr.specs.declared.symbol.Symbol.{Symbol}
use Rattle.types_expr.specs.Places.{first_token, first_of_type, place_of}
use Rattle.types_expr.specs.Types.{PlainType, BasicType, Pointer, Slice, Underlying, SliceOf, Struct, ValueKind, Typed, Untyped, Signature, Meaning, Value}
use Rattle.types_expr.specs.Types.{TypeName, Function, BuiltinName, Package, Results, Broken, AFieldOf, AMethodOf, is_pointer, points, element_of}
use Rattle.types_expr.specs.Types.{Nil, is_interface}
use Rattle.types_expr.specs.World.{World, Locals, Bound, Local, Means, BrokenVariable, BrokenType, Member, AField, AMethod, ABrokenMethod, member_symbol}
use Rattle.types_expr.specs.World.{underlying, name_meaning}
use Rattle.types_expr.specs.Operations.{enters, fits, converts, operate, class_of, is_int, has_length, is_printed, element_of_kind, prefixed}

-- A use of a member's name: the name after the dot of a selection, or a key of a composite literal. `place` is its token, `before` the type
-- of the operand or of the literal, `member` the field or method, if any.
pub record MemberUse : Type 0 where
  pub place : ℕ
  pub before : PlainType
  pub member : Option Symbol

-- A value that enters an interface, by the place of its faults. Its own type is no interface; that of a constant is its basic type.
pub record Entering : Type 0 where
  pub place : ℕ
  pub own : PlainType

-- what the judgement of a file notes, in order: uses of members' names, and entries of values into interfaces
pub data Noted : Type 0 where
  OfMember : MemberUse → Noted
  OfEntering : Entering → Noted

-- the uses of members' names among what is noted
abbrev pub members_of : List Noted → List MemberUse
members_of [] = []
members_of (OfMember u ∷ ns) = u ∷ members_of ns
members_of (OfEntering e ∷ ns) = members_of ns

-- the entries among what is noted
abbrev pub enterings_of : List Noted → List Entering
enterings_of [] = []
enterings_of (OfMember u ∷ ns) = enterings_of ns
enterings_of (OfEntering e ∷ ns) = e ∷ enterings_of ns

-- the judgement of an expression: its meaning, the tokens of its faults, and its uses of members' names and its entries
pub record Judged : Type 0 where
  pub meaning : Meaning
  pub faults : List ℕ
  pub uses : List Noted

-- meaning m, without a fault
abbrev pub means : Meaning → Judged
means m = record { meaning = m; faults = []; uses = [] }

-- a fault at token `place`
abbrev pub wrong : ℕ → Judged
wrong place = record { meaning = Broken; faults = place ∷ []; uses = [] }

-- meaning m without a fault, or a fault at `place` where there is no meaning
abbrev pub means_or_wrong : Option Meaning → ℕ → Judged
means_or_wrong None place = wrong place
means_or_wrong (Some m) place = means m

-- a value of kind k, not addressable, or a fault at `place` where there is no kind
abbrev pub value_or_wrong : Option ValueKind → ℕ → Judged
value_or_wrong None place = wrong place
value_or_wrong (Some k) place = means (Value k false)

-- the faults and uses of j, followed by those of k, with the meaning of k
abbrev pub also : Judged → Judged → Judged
also j k = record { meaning = k.meaning; faults = j.faults ++ k.faults; uses = j.uses ++ k.uses }

-- the judgement j of a part, followed by that of a rule for the part's meaning
abbrev pub followed : Judged → (Meaning → Judged) → Judged
followed j rule = also j (rule j.meaning)

-- The meaning of an operand where a value is required. The name of a type, package, function or builtin, and a call with none or several
-- results, is a fault at `place`.
unfoldable pub as_value : ℕ → Meaning → Judged
as_value place (Value k a) = means (Value k a)
as_value place Broken = means Broken
as_value place m = wrong place

-- the kind of a value, none for any other meaning
unfoldable pub value_kind : Meaning → Option ValueKind
value_kind (Value k a) = Some k
value_kind m = None

-- Selectors

-- The meaning of a member of a value of type t. There is none where there is no member, or where a method of `*T` is selected from a T that
-- is not addressable.
--   func (t *T) m() {}
--   var t T
--   t.m      // a method
--   T{}.m    // none
abbrev pub member_meaning : World → PlainType → (addressable : Bool) → Option Member → Option Meaning
member_meaning w t addressable None = None
member_meaning w t addressable (Some (AField s (AFieldOf ft))) = Some (Value (Typed ft) (points (underlying w t) || addressable))
member_meaning w t addressable (Some (AField s (AMethodOf signature))) = Some (Function signature)
member_meaning w t addressable (Some (AMethod s on_pointer signature)) =
    if on_pointer then (if is_pointer t || addressable then Some (Function signature) else None) else Some (Function signature)
member_meaning w t addressable (Some (ABrokenMethod s)) = Some Broken

-- j, with these before its own uses and entries
abbrev pub noting : List Noted → Judged → Judged
noting notes j = record { meaning = j.meaning; faults = j.faults; uses = notes ++ j.uses }

-- j, with one more member use before its own
abbrev pub with_use : MemberUse → Judged → Judged
with_use u j = record { meaning = j.meaning; faults = j.faults; uses = OfMember u ∷ j.uses }

-- The selection, from a value of type t, of the member whose name is at token `name`. It is a fault at the name where there is no such
-- member.
unfoldable pub select_member : World → ℕ → PlainType → (addressable : Bool) → Judged
select_member w name t a =
    with_use (record { place = name; before = t; member = option_map member_symbol (w.member name t) })
    (means_or_wrong (member_meaning w t a (w.member name t)) name)

-- The selector whose name is at token `name`, after an operand that reports its faults at `place`. After the name of a package it is a
-- qualified identifier.
unfoldable pub select : World → Locals → (place name : ℕ) → Meaning → Judged
select w locals place name (Value (Typed t) a) = select_member w name t a
select w locals place name (Value v a) = wrong name
select w locals place name Package = means (name_meaning w locals name)
select w locals place name Broken = means Broken
select w locals place name m = wrong place

-- Lists of values

-- a value of a list: the token of its faults, and its kind, none where it is broken
pub record ListValue : Type 0 where
  pub place : ℕ
  pub kind : Option ValueKind

-- the judgement of a list of expressions: their values, faults and member uses
pub record JudgedList : Type 0 where
  pub values : List ListValue
  pub faults : List ℕ
  pub uses : List Noted

-- whether a value is not broken
abbrev pub is_whole : Option ValueKind → Bool
is_whole None = false
is_whole (Some k) = true

-- whether no value of the list is broken
unfoldable pub all_whole : List ListValue → Bool
all_whole [] = true
all_whole (v ∷ vs) = is_whole v.kind && all_whole vs

-- a fault at `place` where a value of kind k does not fit type t; none for a broken value
unfoldable pub misfit : World → ℕ → Option ValueKind → PlainType → List ℕ
misfit w place None t = []
misfit w place (Some k) t = if fits w k t then [] else place ∷ []

-- the faults of the values that do not fit the types at their positions
unfoldable pub misfits : World → List ListValue → List PlainType → List ℕ
misfits w [] ts = []
misfits w (v ∷ vs) [] = []
misfits w (v ∷ vs) (t ∷ ts) = misfit w v.place v.kind t ++ misfits w vs ts

-- the faults of the values that do not fit one type
unfoldable pub all_misfits : World → List ListValue → PlainType → List ℕ
all_misfits w [] t = []
all_misfits w (v ∷ vs) t = misfit w v.place v.kind t ++ all_misfits w vs t

-- The entry of a value of type v into type t: t is an interface that v implements, and v is no interface.
abbrev pub enters_at : World → ℕ → (v t : PlainType) → List Noted
enters_at w place v t =
    if is_interface (underlying w v) then [] else (if enters w v (underlying w t) then OfEntering (record { place = place; own = v }) ∷ [] else [])

-- the entry, if there is one, of a value of kind k at `place` that has to fit type t; nil enters nothing
unfoldable pub entering : World → ℕ → Option ValueKind → PlainType → List Noted
entering w place None t = []
entering w place (Some (Typed v)) t = enters_at w place v t
entering w place (Some (Untyped b)) t = enters_at w place (BasicType b) t
entering w place (Some Nil) t = []

-- the entries of values into the types at their positions
unfoldable pub enterings : World → List ListValue → List PlainType → List Noted
enterings w [] ts = []
enterings w (v ∷ vs) [] = []
enterings w (v ∷ vs) (t ∷ ts) = entering w v.place v.kind t ++ enterings w vs ts

-- the entries of values into one type
unfoldable pub all_enterings : World → List ListValue → PlainType → List Noted
all_enterings w [] t = []
all_enterings w (v ∷ vs) t = entering w v.place v.kind t ++ all_enterings w vs t

-- Calls

-- the meaning of a call with these results: a value where there is exactly one
abbrev pub result_meaning : List PlainType → Meaning
result_meaning (t ∷ []) = Value (Typed t) false
result_meaning ts = Results ts

-- meaning m where there is no fault and `whole` is true; else Broken, with these faults
unfoldable pub unless_faults : List ℕ → Bool → Meaning → Judged
unless_faults [] true m = means m
unless_faults places whole m = record { meaning = Broken; faults = places; uses = [] }

-- a fault at `place`, but only where the parts of the operation are whole
abbrev pub wrong_if_whole : Bool → ℕ → Judged
wrong_if_whole true place = wrong place
wrong_if_whole false place = means Broken

-- The call of a function. An argument that does not fit its parameter is a fault of its own; a wrong count is a fault at `start`.
unfoldable pub call_function : World → ℕ → Signature → List ListValue → Judged
call_function w start s vs =
    if length vs == length s.parameters
    then noting (enterings w vs s.parameters) (unless_faults (misfits w vs s.parameters) (all_whole vs) (result_meaning s.results))
    else wrong_if_whole (all_whole vs) start

-- the conversion of a value to type t
abbrev pub convert_one : World → ℕ → PlainType → Option ValueKind → Judged
convert_one w start t None = means Broken
convert_one w start t (Some k) = if converts w k t then means (Value (Typed t) false) else wrong start

-- the conversion `T(x)` to type t, which takes exactly one value
unfoldable pub convert : World → ℕ → PlainType → List ListValue → Judged
convert w start t (v ∷ []) = noting (entering w v.place v.kind t) (convert_one w start t v.kind)
convert w start t vs = wrong_if_whole (all_whole vs) start

-- the call of `append` whose first argument has kind k, with elements of the given type, if it is a slice
abbrev pub append_to : World → ℕ → ValueKind → Option PlainType → List ListValue → Judged
append_to w start k None vs = wrong_if_whole (all_whole vs) start
append_to w start k (Some t) vs = noting (all_enterings w vs t) (unless_faults (all_misfits w vs t) (all_whole vs) (Value k false))

-- the call of `append` whose first argument has the given kind, none where it is broken
abbrev pub append_first : World → ℕ → Option ValueKind → List ListValue → Judged
append_first w start None vs = means Broken
append_first w start (Some k) vs = append_to w start k (element_of_kind w k) vs

-- the call of `append`
unfoldable pub append : World → ℕ → List ListValue → Judged
append w start [] = wrong start
append w start (v ∷ vs) = append_first w start v.kind vs

-- whether `len` takes the value: it has a length, or is broken
abbrev pub len_value : World → Option ValueKind → Bool
len_value w None = true
len_value w (Some k) = has_length (class_of w k)

-- whether the arguments are as `len` takes them: one value that has a length, or is broken
abbrev pub len_fits : World → List ListValue → Bool
len_fits w (v ∷ []) = len_value w v.kind
len_fits w vs = false

-- whether `print` and `println` take the value: it is a bool, int or string, or is broken
abbrev pub is_printed_value : World → Option ValueKind → Bool
is_printed_value w None = true
is_printed_value w (Some k) = is_printed (class_of w k)

-- whether `print` and `println` take all the values
unfoldable pub all_printed : World → List ListValue → Bool
all_printed w [] = true
all_printed w (v ∷ vs) = is_printed_value w v.kind && all_printed w vs

-- the call of a builtin: meaning m where `fine` is true, else a fault at `start`; Broken where an argument is broken
abbrev pub call_when : Bool → List ListValue → ℕ → Meaning → Judged
call_when fine vs start m = if all_whole vs then (if fine then means m else wrong start) else means Broken

-- the call of a predeclared function
unfoldable pub call_builtin : World → ℕ → Builtin → List ListValue → Judged
call_builtin w start builtin.Append vs = append w start vs
call_builtin w start builtin.Len vs = call_when (len_fits w vs) vs start (Value (Typed (BasicType basic.Int)) false)
call_builtin w start builtin.Panic vs = call_when (length vs == 1) vs start (Results [])
call_builtin w start builtin.Print vs = call_when (all_printed w vs) vs start (Results [])
call_builtin w start builtin.Println vs = call_when (all_printed w vs) vs start (Results [])

-- the call of an operand that reports its faults at `place`, in a chain whose first token is `start`
unfoldable pub call_of : World → (start place : ℕ) → List ListValue → Meaning → Judged
call_of w start place vs (Function s) = call_function w start s vs
call_of w start place vs (TypeName t) = convert w start t vs
call_of w start place vs (BuiltinName b) = call_builtin w start b vs
call_of w start place vs (Value k a) = wrong_if_whole (all_whole vs) start
call_of w start place vs Broken = means Broken
call_of w start place vs m = wrong place

-- the judgement of a list of values, followed by that of a rule for these values
abbrev pub with_values : JudgedList → (List ListValue → Judged) → Judged
with_values vs rule = record { meaning = (rule vs.values).meaning; faults = vs.faults ++ (rule vs.values).faults; uses = vs.uses ++ (rule vs.values).uses }

-- Indexes and operators

-- an index that is no int is a fault at its place
unfoldable pub bad_index : World → ℕ → Option ValueKind → List ℕ
bad_index w place None = []
bad_index w place (Some k) = if is_int (class_of w k) then [] else place ∷ []

-- the element of an indexed slice, none where the operand is no slice
abbrev pub element_meaning : Option PlainType → ℕ → Judged
element_meaning None start = wrong start
element_meaning (Some t) start = means (Value (Typed t) true)

-- the element of an operand of meaning m, where the index has no fault and is whole
unfoldable pub indexed : World → ℕ → List ℕ → Bool → Meaning → Judged
indexed w start [] true (Value k a) = element_meaning (element_of_kind w k) start
indexed w start faults whole m = record { meaning = Broken; faults = faults; uses = [] }

-- the index expression of an operand that means s, with an index that means i and reports its faults at `place`
unfoldable pub index_of : World → (start place : ℕ) → Meaning → Meaning → Judged
index_of w start place s i = indexed w start (bad_index w place (value_kind i)) (is_whole (value_kind i)) s

-- a binary operation on operands of these kinds, none where one is broken
abbrev pub operation_on : World → BinaryOp → ℕ → Option ValueKind → Option ValueKind → Judged
operation_on w o start (Some a) (Some b) = value_or_wrong (operate w o a b) start
operation_on w o start a b = means Broken

-- a binary operation on operands that mean a and b, in an expression whose first token is `start`
unfoldable pub operation : World → BinaryOp → ℕ → Meaning → Meaning → Judged
operation w o start a b = operation_on w o start (value_kind a) (value_kind b)

-- the prefix operator at token `place`, before an operand of the given meaning
unfoldable pub prefix_of : World → PrefixOp → ℕ → Meaning → Judged
prefix_of w o place (Value k a) = means_or_wrong (prefixed w o k) place
prefix_of w o place m = means Broken

-- Types

-- the judgement of a written type: the type, none where it is broken, and the tokens of its faults
pub record TypeJudged : Type 0 where
  pub type_of : Option PlainType
  pub faults : List ℕ

-- type t, without a fault
abbrev pub good_type : PlainType → TypeJudged
good_type t = record { type_of = Some t; faults = [] }

-- a fault at token `place`, where no type is written
abbrev pub no_type_at : ℕ → TypeJudged
no_type_at place = record { type_of = None; faults = place ∷ [] }

-- the type that a name of this meaning denotes, or a fault at the name
abbrev pub named_meaning : Meaning → ℕ → TypeJudged
named_meaning (TypeName t) place = good_type t
named_meaning m place = no_type_at place

-- The type that a name denotes by its binding. A name that is bound to no type is a fault. The name of a broken type definition is no fault
-- again.
unfoldable pub named_type : Bound → ℕ → TypeJudged
named_type (Means m) place = named_meaning m place
named_type BrokenType place = record { type_of = None; faults = [] }
named_type b place = no_type_at place

-- The type that `p.n` denotes, where p means m. It is a fault at n where p is a variable or another value, at p where p is a type, function
-- or builtin.
abbrev pub imported_meaning : World → Meaning → ℕ → ℕ → TypeJudged
imported_meaning w Package p n = named_type (w.bound n) n
imported_meaning w (Value k a) p n = no_type_at n
imported_meaning w m p n = no_type_at p

-- the type that `p.n` denotes, where p has the given binding
unfoldable pub imported_type : World → Bound → ℕ → ℕ → TypeJudged
imported_type w (Means m) p n = imported_meaning w m p n
imported_type w (Local place) p n = no_type_at n
imported_type w BrokenVariable p n = no_type_at n
imported_type w b p n = no_type_at p

-- the judgement of a pointer or slice type, by that of the type after `*` or `[]`
abbrev pub under : (PlainType → PlainType) → TypeJudged → TypeJudged
under f j = record { type_of = option_map f j.type_of; faults = j.faults }

-- The judgement of a written type. A name that is bound to no type is always a fault. The use of a broken
-- definition has no type, and is no fault.
unfoldable pub judge_type : World → TypeTree → TypeJudged
judge_type w (LocalType n) = named_type (w.bound n) n
judge_type w (ImportedType p d n) = imported_type w (w.bound p) p n
judge_type w (PointerType s t) = under Pointer (judge_type w t)
judge_type w (SliceType o c t) = under Slice (judge_type w t)

-- Literals

-- the meaning of `&` before a literal
unfoldable pub address_of : Meaning → Judged
address_of (Value (Typed t) a) = means (Value (Typed (Pointer t)) false)
address_of m = means Broken

-- What a key of a struct literal is: a field by its rank, with its type; a method whose signature is broken, which is no fault again; or a
-- fault. All fields of a struct are declared in one package, so their ranks tell them apart.
pub data KeyMeaning : Type 0 where
  FieldKey : ℕ → PlainType → KeyMeaning
  BrokenKey : KeyMeaning
  WrongKey : KeyMeaning

-- the ranks of the fields that earlier keys named
abbrev pub Seen : Type 0
Seen = ℕ → Bool

abbrev pub none_seen : Seen
none_seen = λ rank. false

-- The key whose name denotes this member. A field that an earlier key named is a fault, and so is a method.
abbrev pub key_of_member : Seen → Option Member → KeyMeaning
key_of_member seen (Some (AField s (AFieldOf t))) = if seen s.rank then WrongKey else FieldKey s.rank t
key_of_member seen (Some (ABrokenMethod s)) = BrokenKey
key_of_member seen m = WrongKey

-- the key in a literal of this underlying type; a fault where that is no struct
abbrev pub key_in : Underlying → Seen → Option Member → KeyMeaning
key_in (Struct s) seen m = key_of_member seen m
key_in u seen m = WrongKey

-- the member that a key's name denotes; none where the literal is no struct
abbrev pub symbol_of_key : Underlying → Option Member → Option Symbol
symbol_of_key (Struct s) m = option_map member_symbol m
symbol_of_key u m = None

-- the fault of a key at token `place`, if it is one
abbrev pub key_faults : KeyMeaning → ℕ → List ℕ
key_faults WrongKey place = place ∷ []
key_faults k place = []

-- whether a key names a field that no earlier key named
abbrev pub is_whole_key : KeyMeaning → Bool
is_whole_key (FieldKey rank t) = true
is_whole_key k = false

-- the fields that keys named, with this key's
abbrev pub seen_with : KeyMeaning → Seen → Seen
seen_with (FieldKey rank t) seen = λ other. other == rank || seen other
seen_with k seen = seen

-- The type that the value after a key has to fit: the field's type. In a slice literal it is the element type, though a key is a fault
-- there.
abbrev pub wanted_after_key : KeyMeaning → Underlying → Option PlainType
wanted_after_key (FieldKey rank t) u = Some t
wanted_after_key k u = element_of u

-- the judgement of a literal's elements: whether none has a fault or is broken, whether one has no key, and their faults and member uses
pub record JudgedElements : Type 0 where
  pub whole : Bool
  pub unkeyed : Bool
  pub faults : List ℕ
  pub uses : List Noted

-- a fault where a value does not fit the type that it has to fit, if that is known
abbrev pub misfit_if : World → ℕ → Option ValueKind → Option PlainType → List ℕ
misfit_if w place k None = []
misfit_if w place k (Some t) = misfit w place k t

-- the entry of such a value
abbrev pub entering_if : World → ℕ → Option ValueKind → Option PlainType → List Noted
entering_if w place k None = []
entering_if w place k (Some t) = entering w place k t

abbrev pub is_empty : List ℕ → Bool
is_empty [] = true
is_empty (x ∷ xs) = false

-- the judgement of what precedes an element's value: whether the key is whole, whether there is none, the type that the value has to fit,
-- and the key's faults and member uses
pub record JudgedKey : Type 0 where
  pub whole : Bool
  pub unkeyed : Bool
  pub wanted : Option PlainType
  pub faults : List ℕ
  pub uses : List Noted

-- an element of a literal whose type is broken: its key is not judged
abbrev pub unjudged_key : JudgedKey
unjudged_key = record { whole = true; unkeyed = false; wanted = None; faults = []; uses = [] }

-- an element without a key, in a literal of type t
abbrev pub no_key : World → PlainType → JudgedKey
no_key w t = record { whole = true; unkeyed = true; wanted = element_of (underlying w t); faults = []; uses = [] }

-- an element with the key k at token `place`, in a literal of type t
abbrev pub judge_key : World → PlainType → ℕ → KeyMeaning → JudgedKey
judge_key w t place k = record {
  whole = is_whole_key k;
  unkeyed = false;
  wanted = wanted_after_key k (underlying w t);
  faults = key_faults k place;
  uses = OfMember (record { place = place; before = t; member = symbol_of_key (underlying w t) (w.member place t) }) ∷ [];
}

-- what the key at token `place` is, in a literal of type t
abbrev pub key_at : World → Seen → PlainType → ℕ → KeyMeaning
key_at w seen t place = key_in (underlying w t) seen (w.member place t)

-- the judgement of the key, if any, of an element of a literal; the literal's type is none where it is broken
abbrev pub element_key : World → Option PlainType → Seen → Option (ℕ × ℕ) → JudgedKey
element_key w None seen k = unjudged_key
element_key w (Some t) seen None = no_key w t
element_key w (Some t) seen (Some k) = judge_key w t k.0 (key_at w seen t k.0)

-- the fields that keys named, after the key of one more element, if it has one
abbrev pub seen_after : World → Option PlainType → Seen → Option (ℕ × ℕ) → Seen
seen_after w (Some t) seen (Some k) = seen_with (key_at w seen t k.0) seen
seen_after w t seen k = seen

-- an element before the others (`rest`): its key, then its value, judged as j with faults at `place`, then whether the value fits
abbrev pub with_element : World → JudgedKey → ℕ → Judged → JudgedElements → JudgedElements
with_element w k place j rest = record {
  whole = k.whole && (is_whole (value_kind j.meaning) && (is_empty (misfit_if w place (value_kind j.meaning) k.wanted) && rest.whole));
  unkeyed = k.unkeyed || rest.unkeyed;
  faults = k.faults ++ (j.faults ++ (misfit_if w place (value_kind j.meaning) k.wanted ++ rest.faults));
  uses = k.uses ++ (j.uses ++ (entering_if w place (value_kind j.meaning) k.wanted ++ rest.uses));
}

-- A literal of type t with the given underlying type, by whether its elements are whole and whether one has no key. A struct literal with
-- an element without a key is a fault, and so is a literal of any other type but a slice.
abbrev pub literal_result : ℕ → PlainType → Underlying → (whole unkeyed : Bool) → Judged
literal_result start t (Struct s) true true = wrong start
literal_result start t (Struct s) true false = means (Value (Typed t) false)
literal_result start t (SliceOf e) true unkeyed = means (Value (Typed t) false)
literal_result start t u true unkeyed = wrong start
literal_result start t u false unkeyed = means Broken

-- the literal of the given type, none where that is broken
abbrev pub literal_meaning : World → ℕ → Option PlainType → (whole unkeyed : Bool) → Judged
literal_meaning w start None whole unkeyed = means Broken
literal_meaning w start (Some t) whole unkeyed = literal_result start t (underlying w t) whole unkeyed

-- the judgement of a literal, by those of its type and elements
abbrev pub literal_of : World → ℕ → TypeJudged → JudgedElements → Judged
literal_of w start t es = also (record { meaning = Broken; faults = t.faults ++ es.faults; uses = es.uses })
    (literal_meaning w start t.type_of es.whole es.unkeyed)

-- Expressions

-- the judgement j of expression e, where a value is required
abbrev pub value_at : ExprTree → Judged → Judged
value_at e j = followed j (as_value (place_of e))

-- a value, judged as j with its faults at `place`, before the other values of a list
abbrev pub value_before : ℕ → Judged → JudgedList → JudgedList
value_before place j rest = record {
  values = record { place = place; kind = value_kind j.meaning } ∷ rest.values;
  faults = j.faults ++ rest.faults;
  uses =
      j.uses ++ rest.uses;
}

-- the index expression with the index e, judged as i, of an operand that means m
abbrev pub index_rule : World → (start place : ℕ) → ExprTree → Judged → Meaning → Judged
index_rule w start place e i m = followed (as_value place m) (λ s. followed i (index_of w start (place_of e) s))

-- the call of an operand that means m, with arguments judged as `args`
abbrev pub call_rule : World → (start place : ℕ) → JudgedList → Meaning → Judged
call_rule w start place args m = with_values args (λ vs. call_of w start place vs m)

unfoldable mutual
  -- the judgement of an expression
  pub judge : World → Locals → ExprTree → Judged
  judge w locals (Number p) = means (Value (Untyped basic.Int) false)
  judge w locals (Text p) = means (Value (Untyped basic.String) false)
  judge w locals (Name p) = means (name_meaning w locals p)
  judge w locals (Blank p) = means Broken
  judge w locals (Composite l) = judge_literal w locals l
  judge w locals (Paren o e c) = value_at e (judge w locals e)
  judge w locals (Prefix op p e) = followed (value_at e (judge w locals e)) (prefix_of w op p)
  judge w locals (Address p l) = followed (judge_literal w locals l) address_of
  judge w locals (Chain e links) = judge_links w locals (first_token e) (place_of e) (judge w locals e) links
  judge w locals (Binary e rest) = judge_operands w locals (first_token e) (value_at e (judge w locals e)) rest

  -- j: the judgement of the operand and operations so far
  pub judge_operands : World → Locals → (start : ℕ) → Judged → OperandTrees → Judged
  judge_operands w locals start j no_operand = j
  judge_operands w locals start j (operand op p e rest) =
      judge_operands w locals start (followed j (λ a. followed (value_at e (judge w locals e)) (operation w op start a))) rest

  -- start: the chain's first token; place: the token at which the chain so far reports its faults; j: the judgement of the chain so far
  pub judge_links : World → Locals → (start place : ℕ) → Judged → LinkTrees → Judged
  judge_links w locals start place j no_link = j
  judge_links w locals start place j (selector d n rest) = judge_links w locals start n (followed j (select w locals place n)) rest
  judge_links w locals start place j (index o e c rest) =
      judge_links w locals start start (followed j (index_rule w start place e (value_at e (judge w locals e)))) rest
  judge_links w locals start place j (call o args c rest) =
      judge_links w locals start start (followed j (call_rule w start place (judge_arguments w locals args))) rest

  pub judge_arguments : World → Locals → ArgumentTrees → JudgedList
  judge_arguments w locals no_argument = record { values = []; faults = []; uses = [] }
  judge_arguments w locals (argument e c rest) = value_before (place_of e) (value_at e (judge w locals e)) (judge_arguments w locals rest)

  pub judge_literal : World → Locals → LiteralTree → Judged
  judge_literal w locals (literal t o es c) = literal_of w (first_of_type t) (judge_type w t) (judge_elements w locals (judge_type w t).type_of none_seen es)

  -- t: the literal's type, none where it is broken
  pub judge_elements : World → Locals → Option PlainType → Seen → ElementTrees → JudgedElements
  judge_elements w locals t seen no_element = record { whole = true; unkeyed = false; faults = []; uses = [] }
  judge_elements w locals t seen (element k e c rest) =
      with_element w (element_key w t seen k) (place_of e) (value_at e (judge w locals e)) (judge_elements w locals t (seen_after w t seen k) rest)

-- the judgement of an expression where a value is required
abbrev pub judge_value : World → Locals → ExprTree → Judged
judge_value w locals e = value_at e (judge w locals e)

-- one link of a chain, after an operand that means m and reports its faults at `place`
unfoldable pub judge_link : World → Locals → (start place : ℕ) → LinkTrees → Meaning → Judged
judge_link w locals start place no_link m = means m
judge_link w locals start place (selector d n rest) m = select w locals place n m
judge_link w locals start place (index o e c rest) m = index_rule w start place e (judge_value w locals e) m
judge_link w locals start place (call o args c rest) m = call_rule w start place (judge_arguments w locals args) m
