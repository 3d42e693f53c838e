-- The rules for written types, keys, elements and literals give moved findings for moved parts.
use Rattle.std.proofs.Common.{ℕ, ◌≡◌, Bool, ◌&&◌, ◌||◌, true, false, List, [], ◌∷◌, ◌++◌, map, Option, Some, None, option_map, refl, ap, ◌∙◌}
use Rattle.go_ast.specs.Tree.{TypeTree}
use Rattle.go_ast.specs.Tree as tree
use Rattle.types_expr.specs.declared.symbol.Symbol.{Symbol}
use Rattle.types_expr.specs.Types.{PlainType, Pointer, Slice, Underlying, Plain, PointerTo, SliceOf}
use Rattle.types_expr.specs.Types.{Struct, Interface, ValueKind, Typed, Untyped, Nil, Meaning, Value}
use Rattle.types_expr.specs.Types.{TypeName, Function, BuiltinName, Package, Results, Broken, element_of, AFieldOf, AMethodOf}
use Rattle.types_expr.specs.World.{Bound, Local, Means, BrokenVariable, BrokenFunction, BrokenType, Member, AField, AMethod, ABrokenMethod, underlying}
use Rattle.types_expr.specs.Judge.{Noted, OfMember, Judged, also, value_kind, is_whole, TypeJudged, named_meaning, named_type, imported_meaning, entering_if}
use Rattle.types_expr.specs.Judge.{imported_type, under, judge_type, address_of, KeyMeaning, FieldKey}
use Rattle.types_expr.specs.Judge.{BrokenKey, WrongKey, Seen, key_of_member, key_in, symbol_of_key}
use Rattle.types_expr.specs.Judge.{key_faults, is_whole_key, seen_with, wanted_after_key, JudgedElements, misfit_if, is_empty, JudgedKey, element_key}
use Rattle.types_expr.specs.Judge.{seen_after, with_element, literal_result, literal_meaning, literal_of}
use Rattle.law_changed_types.specs.Moved.{moved_symbol, moved_type, moved_underlying, moved_kind, moved_meaning, moved_bound, moved_member, moved_noted}
use Rattle.law_changed_types.specs.Moved.{moved_found}
use Rattle.law_changed_types.proofs.Moving.{Move, Moves, at_first, ap2, ap3, if_moves}
use Rattle.law_changed_types.proofs.TypesMove.{underlying_moves, element_moves}
use Rattle.law_changed_types.proofs.RulesMove.{also_moves, three_uses, value_kind_moves, member_symbol_moves, whole_stays, same_misfit}
use Rattle.law_changed_types.proofs.RulesMove.{entering_moves, two_uses}

-- what is found of a written type, of a key and of elements
abbrev pub moved_written : Move → TypeJudged → TypeJudged
moved_written m t = record { type_of = option_map (moved_type m.path) t.type_of; faults = t.faults }

abbrev pub moved_judged_key : Move → JudgedKey → JudgedKey
moved_judged_key m k = record {
  whole = k.whole;
  unkeyed = k.unkeyed;
  wanted = option_map (moved_type m.path) k.wanted;
  faults = k.faults;
  uses = map (moved_noted m.path) k.uses;
}

abbrev pub moved_elements : Move → JudgedElements → JudgedElements
moved_elements m es = record { whole = es.whole; unkeyed = es.unkeyed; faults = es.faults; uses = map (moved_noted m.path) es.uses }

abbrev moved_key : Move → KeyMeaning → KeyMeaning
moved_key m (FieldKey rank t) = FieldKey rank (moved_type m.path t)
moved_key m BrokenKey = BrokenKey
moved_key m WrongKey = WrongKey

-- written types

named_meaning_moves : (m : Move) (x : Meaning) (place : ℕ) → named_meaning (moved_meaning m.path x) place ≡ moved_written m (named_meaning x place)
named_meaning_moves m (Value k a) place = refl
named_meaning_moves m (TypeName t) place = refl
named_meaning_moves m (Function s) place = refl
named_meaning_moves m (BuiltinName b) place = refl
named_meaning_moves m Package place = refl
named_meaning_moves m (Results ts) place = refl
named_meaning_moves m Broken place = refl

named_bound_moves : (m : Move) (b : Bound) (place : ℕ) → named_type (moved_bound m.path b) place ≡ moved_written m (named_type b place)
unfolding named_type
named_bound_moves m (Local p) place = refl
named_bound_moves m (Means x) place = named_meaning_moves m x place
named_bound_moves m BrokenVariable place = refl
named_bound_moves m BrokenFunction place = refl
named_bound_moves m BrokenType place = refl

pub named_type_moves : (m : Move) (place : ℕ) → named_type (m.new.bound place) place ≡ moved_written m (named_type (m.old.bound place) place)
named_type_moves m place = ap (λ z. named_type z place) (m.bound place) ∙ named_bound_moves m (m.old.bound place) place

imported_meaning_moves : (m : Move) (x : Meaning) (p n : ℕ) →
    imported_meaning m.new (moved_meaning m.path x) p n ≡ moved_written m (imported_meaning m.old x p n)
imported_meaning_moves m (Value k a) p n = refl
imported_meaning_moves m (TypeName t) p n = refl
imported_meaning_moves m (Function s) p n = refl
imported_meaning_moves m (BuiltinName b) p n = refl
imported_meaning_moves m Package p n = named_type_moves m n
imported_meaning_moves m (Results ts) p n = refl
imported_meaning_moves m Broken p n = refl

imported_moves : (m : Move) (b : Bound) (p n : ℕ) → imported_type m.new (moved_bound m.path b) p n ≡ moved_written m (imported_type m.old b p n)
unfolding imported_type
imported_moves m (Local place) p n = refl
imported_moves m (Means x) p n = imported_meaning_moves m x p n
imported_moves m BrokenVariable p n = refl
imported_moves m BrokenFunction p n = refl
imported_moves m BrokenType p n = refl

pub under_pointer : (m : Move) (t : TypeJudged) → under Pointer (moved_written m t) ≡ moved_written m (under Pointer t)
under_pointer m t = ap (λ (z : Option PlainType). record { type_of = z; faults = t.faults }) (inside t.type_of) where
  inside : (o : Option PlainType) → option_map Pointer (option_map (moved_type m.path) o) ≡ option_map (moved_type m.path) (option_map Pointer o)
  inside None = refl
  inside (Some x) = refl

under_slice : (m : Move) (t : TypeJudged) → under Slice (moved_written m t) ≡ moved_written m (under Slice t)
under_slice m t = ap (λ (z : Option PlainType). record { type_of = z; faults = t.faults }) (inside t.type_of) where
  inside : (o : Option PlainType) → option_map Slice (option_map (moved_type m.path) o) ≡ option_map (moved_type m.path) (option_map Slice o)
  inside None = refl
  inside (Some x) = refl

pub type_moves : (m : Move) (t : TypeTree) → judge_type m.new t ≡ moved_written m (judge_type m.old t)
unfolding judge_type
type_moves m (tree.Local n) = named_type_moves m n
type_moves m (tree.Imported p d n) = ap (λ z. imported_type m.new z p n) (m.bound p) ∙ imported_moves m (m.old.bound p) p n
type_moves m (tree.Pointer s t) = ap (under Pointer) (type_moves m t) ∙ under_pointer m (judge_type m.old t)
type_moves m (tree.Slice o c t) = ap (under Slice) (type_moves m t) ∙ under_slice m (judge_type m.old t)

-- keys

key_of_member_moves : (m : Move) (seen : Seen) (x : Option Member) →
    key_of_member seen (option_map (moved_member m.path) x) ≡ moved_key m (key_of_member seen x)
key_of_member_moves m seen None = refl
key_of_member_moves m seen (Some (AField s (AFieldOf t))) = if_moves (moved_key m) (seen s.rank) (seen s.rank) WrongKey (FieldKey s.rank t) refl
key_of_member_moves m seen (Some (AField s (AMethodOf signature))) = refl
key_of_member_moves m seen (Some (AMethod s on_pointer signature)) = refl
key_of_member_moves m seen (Some (ABrokenMethod s)) = refl

key_in_moves : (m : Move) (u : Underlying) (seen : Seen) (x : Option Member) →
    key_in (moved_underlying m.path u) seen (option_map (moved_member m.path) x) ≡ moved_key m (key_in u seen x)
key_in_moves m (Plain b) seen x = refl
key_in_moves m (PointerTo t) seen x = refl
key_in_moves m (SliceOf t) seen x = refl
key_in_moves m (Interface s) seen x = refl
key_in_moves m (Struct s) seen x = key_of_member_moves m seen x

symbol_of_key_moves : (m : Move) (u : Underlying) (x : Option Member) →
    symbol_of_key (moved_underlying m.path u) (option_map (moved_member m.path) x) ≡ option_map (moved_symbol m.path) (symbol_of_key u x)
symbol_of_key_moves m (Plain b) x = refl
symbol_of_key_moves m (PointerTo t) x = refl
symbol_of_key_moves m (SliceOf t) x = refl
symbol_of_key_moves m (Interface s) x = refl
symbol_of_key_moves m (Struct s) x = member_symbol_moves m x

key_faults_stay : (m : Move) (k : KeyMeaning) (place : ℕ) → key_faults (moved_key m k) place ≡ key_faults k place
key_faults_stay m (FieldKey rank t) place = refl
key_faults_stay m BrokenKey place = refl
key_faults_stay m WrongKey place = refl

whole_key_stays : (m : Move) (k : KeyMeaning) → is_whole_key (moved_key m k) ≡ is_whole_key k
whole_key_stays m (FieldKey rank t) = refl
whole_key_stays m BrokenKey = refl
whole_key_stays m WrongKey = refl

seen_stays : (m : Move) (k : KeyMeaning) (seen : Seen) → seen_with (moved_key m k) seen ≡ seen_with k seen
seen_stays m (FieldKey rank t) seen = refl
seen_stays m BrokenKey seen = refl
seen_stays m WrongKey seen = refl

wanted_moves : (m : Move) (k : KeyMeaning) (u : Underlying) →
    wanted_after_key (moved_key m k) (moved_underlying m.path u) ≡ option_map (moved_type m.path) (wanted_after_key k u)
wanted_moves m (FieldKey rank t) u = refl
wanted_moves m BrokenKey u = element_moves m u
wanted_moves m WrongKey u = element_moves m u

-- the judgement of a key k that denotes the member s, in a literal of type t whose underlying type is u
keyed_as : PlainType → ℕ → Underlying → KeyMeaning → Option Symbol → JudgedKey
keyed_as t place u k s = record {
  whole = is_whole_key k;
  unkeyed = false;
  wanted = wanted_after_key k u;
  faults = key_faults k place;
  uses = OfMember (record { place = place; before = t; member = s }) ∷ [];
}

keyed_as_moves : (m : Move) (t : PlainType) (place : ℕ) (u : Underlying) (k : KeyMeaning) (s : Option Symbol) →
    keyed_as (moved_type m.path t) place (moved_underlying m.path u) (moved_key m k) (option_map (moved_symbol m.path) s) ≡
    moved_judged_key m (keyed_as t place u k s)
unfolding keyed_as
keyed_as_moves m t place u k s =
    ap3 (λ (b : Bool) (x : Option PlainType) (fs : List ℕ). record {
      whole = b;
      unkeyed = false;
      wanted = x;
      faults = fs;
      uses = OfMember (record { place = place; before = moved_type m.path t; member = option_map (moved_symbol m.path) s }) ∷ [];
    }) (whole_key_stays m k) (wanted_moves m k u) (key_faults_stay m k place)

-- the key at token `place` that denotes the member x, in a literal of type t whose underlying type is u
keyed : PlainType → ℕ → Seen → Underlying → Option Member → JudgedKey
keyed t place seen u x = keyed_as t place u (key_in u seen x) (symbol_of_key u x)

keyed_moves : (m : Move) (t : PlainType) (place : ℕ) (seen : Seen) (u : Underlying) (x : Option Member) →
    keyed (moved_type m.path t) place seen (moved_underlying m.path u) (option_map (moved_member m.path) x) ≡ moved_judged_key m (keyed t place seen u x)
unfolding keyed
keyed_moves m t place seen u x =
    ap2 (keyed_as (moved_type m.path t) place (moved_underlying m.path u)) (key_in_moves m u seen x) (symbol_of_key_moves m u x)
    ∙ keyed_as_moves m t place u (key_in u seen x) (symbol_of_key u x)

pub key_moves : (m : Move) (t : Option PlainType) (seen : Seen) (k : Option (ℕ × ℕ)) → Moves m (element_key m.old t seen k).uses →
    element_key m.new (option_map (moved_type m.path) t) seen k ≡ moved_judged_key m (element_key m.old t seen k)
unfolding keyed keyed_as
key_moves m None seen k h = refl
key_moves m (Some t) seen None h =
    ap (λ (x : Option PlainType). record { whole = true; unkeyed = true; wanted = x; faults = []; uses = [] })
    (ap element_of (underlying_moves m t) ∙ element_moves m (underlying m.old t))
key_moves m (Some t) seen (Some k) h =
    ap2 (keyed (moved_type m.path t) k.0 seen) (underlying_moves m t) (at_first _ [] h)
    ∙ keyed_moves m t k.0 seen (underlying m.old t) (m.old.member k.0 t)

pub seen_after_stays : (m : Move) (t : Option PlainType) (seen : Seen) (k : Option (ℕ × ℕ)) → Moves m (element_key m.old t seen k).uses →
    seen_after m.new (option_map (moved_type m.path) t) seen k ≡ seen_after m.old t seen k
seen_after_stays m None seen k h = refl
seen_after_stays m (Some t) seen None h = refl
seen_after_stays m (Some t) seen (Some k) h =
    let u = underlying m.old t in
    let x = m.old.member k.0 t in
    ap2 (λ z y. seen_with (key_in z seen y) seen) (underlying_moves m t) (at_first _ [] h)
    ∙ (ap (λ z. seen_with z seen) (key_in_moves m u seen x) ∙ seen_stays m (key_in u seen x) seen)

-- elements and literals

misfit_if_stays : (m : Move) (place : ℕ) (k : Option ValueKind) (t : Option PlainType) →
    misfit_if m.new place (option_map (moved_kind m.path) k) (option_map (moved_type m.path) t) ≡ misfit_if m.old place k t
misfit_if_stays m place k None = refl
misfit_if_stays m place k (Some t) = same_misfit m place k t

entering_if_moves : (m : Move) (place : ℕ) (k : Option ValueKind) (t : Option PlainType) →
    entering_if m.new place (option_map (moved_kind m.path) k) (option_map (moved_type m.path) t) ≡ map (moved_noted m.path) (entering_if m.old place k t)
entering_if_moves m place k None = refl
entering_if_moves m place k (Some t) = entering_moves m place k t

pub with_element_moves : (m : Move) (k : JudgedKey) (place : ℕ) (j : Judged) (rest : JudgedElements) →
    with_element m.new (moved_judged_key m k) place (moved_found m.path j) (moved_elements m rest) ≡ moved_elements m (with_element m.old k place j rest)
with_element_moves m k place j rest =
    let g = moved_noted m.path in
    let entry = entering_if m.old place (value_kind j.meaning) k.wanted in
    let built : Bool → List ℕ → List Noted → JudgedElements = λ b fs us. record {
      whole = k.whole && (b && (is_empty fs && rest.whole));
      unkeyed = k.unkeyed || rest.unkeyed;
      faults = k.faults ++ (j.faults ++ (fs ++ rest.faults));
      uses = us;
    } in
    ap3 built (ap is_whole (value_kind_moves m j.meaning) ∙ whole_stays m (value_kind j.meaning))
    (ap (λ z. misfit_if m.new place z (option_map (moved_type m.path) k.wanted)) (value_kind_moves m j.meaning)
    ∙ misfit_if_stays m place (value_kind j.meaning) k.wanted)
    (ap (λ (us : List Noted). map g k.uses ++ (map g j.uses ++ (us ++ map g rest.uses)))
    (ap (λ z. entering_if m.new place z (option_map (moved_type m.path) k.wanted)) (value_kind_moves m j.meaning)
    ∙ entering_if_moves m place (value_kind j.meaning) k.wanted)
    ∙ (ap (λ (us : List Noted). map g k.uses ++ (map g j.uses ++ us)) (two_uses m entry rest.uses) ∙ three_uses m k.uses j.uses (entry ++ rest.uses)))

literal_result_moves : (m : Move) (start : ℕ) (t : PlainType) (u : Underlying) (whole unkeyed : Bool) →
    literal_result start (moved_type m.path t) (moved_underlying m.path u) whole unkeyed ≡ moved_found m.path (literal_result start t u whole unkeyed)
literal_result_moves m start t (Plain b) true unkeyed = refl
literal_result_moves m start t (Plain b) false unkeyed = refl
literal_result_moves m start t (PointerTo e) true unkeyed = refl
literal_result_moves m start t (PointerTo e) false unkeyed = refl
literal_result_moves m start t (SliceOf e) true unkeyed = refl
literal_result_moves m start t (SliceOf e) false unkeyed = refl
literal_result_moves m start t (Interface s) true unkeyed = refl
literal_result_moves m start t (Interface s) false unkeyed = refl
literal_result_moves m start t (Struct s) true true = refl
literal_result_moves m start t (Struct s) true false = refl
literal_result_moves m start t (Struct s) false unkeyed = refl

literal_meaning_moves : (m : Move) (start : ℕ) (t : Option PlainType) (whole unkeyed : Bool) →
    literal_meaning m.new start (option_map (moved_type m.path) t) whole unkeyed ≡ moved_found m.path (literal_meaning m.old start t whole unkeyed)
literal_meaning_moves m start None whole unkeyed = refl
literal_meaning_moves m start (Some t) whole unkeyed =
    ap (λ z. literal_result start (moved_type m.path t) z whole unkeyed) (underlying_moves m t)
    ∙ literal_result_moves m start t (underlying m.old t) whole unkeyed

pub literal_of_moves : (m : Move) (start : ℕ) (t : TypeJudged) (es : JudgedElements) →
    literal_of m.new start (moved_written m t) (moved_elements m es) ≡ moved_found m.path (literal_of m.old start t es)
literal_of_moves m start t es =
    let parts : Judged = record { meaning = Broken; faults = t.faults ++ es.faults; uses = es.uses } in
    ap (also (moved_found m.path parts)) (literal_meaning_moves m start t.type_of es.whole es.unkeyed)
    ∙ also_moves m parts (literal_meaning m.old start t.type_of es.whole es.unkeyed)

pub address_of_moves : (m : Move) (x : Meaning) → address_of (moved_meaning m.path x) ≡ moved_found m.path (address_of x)
unfolding address_of
address_of_moves m (Value (Typed t) a) = refl
address_of_moves m (Value (Untyped b) a) = refl
address_of_moves m (Value Nil a) = refl
address_of_moves m (TypeName t) = refl
address_of_moves m (Function s) = refl
address_of_moves m (BuiltinName b) = refl
address_of_moves m Package = refl
address_of_moves m (Results ts) = refl
address_of_moves m Broken = refl
