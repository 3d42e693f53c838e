-- The rules for written types, keys, elements and literals find at the new tokens what they found at the old ones.
use Rattle.std.proofs.Common.{ℕ, ◌≡◌, Bool, ◌&&◌, ◌||◌, true, false, List, [], ◌∷◌, ◌++◌, map, Option, Some, None, refl, ap, ◌∙◌}
use Rattle.go_ast.specs.Tree.{TypeTree}
use Rattle.go_ast.specs.Tree as tree
use Rattle.types_expr.specs.Types.{PlainType, Pointer, Slice, Underlying, Plain, PointerTo, SliceOf}
use Rattle.types_expr.specs.Types.{Struct, Interface, ValueKind, Typed, Untyped, Nil, Meaning, Value}
use Rattle.types_expr.specs.Types.{TypeName, Function, BuiltinName, Package, Results, Broken}
use Rattle.types_expr.specs.World.{Bound, Local, Means, BrokenVariable, BrokenFunction, BrokenType, Member, underlying}
use Rattle.types_expr.specs.Judge.{Noted, OfMember, Judged, also, value_kind, is_whole, TypeJudged, named_meaning, named_type, imported_meaning, entering_if}
use Rattle.types_expr.specs.Judge.{imported_type, under, judge_type, address_of, KeyMeaning, FieldKey, BrokenKey, WrongKey, Seen, key_in, symbol_of_key}
use Rattle.types_expr.specs.Judge.{key_faults, is_whole_key, seen_with, wanted_after_key, JudgedElements, misfit_if, is_empty, JudgedKey, element_key}
use Rattle.types_expr.specs.Judge.{seen_after, with_element, literal_result, literal_meaning, literal_of}
use Rattle.law_rename.specs.Renumbered.{type_by, key_by}
use Rattle.law_changed_types.specs.Renumbering.{renumbered_bound, renumbered_noted, renumbered_uses, renumbered_found}
use Rattle.law_changed_types.proofs.Renumber.{Renumber, new, ap2, two, four}
use Rattle.law_changed_types.proofs.RenumberedTokensRules.{also_found, misfit_found, entering_found}

-- what is found of a written type, of a key and of elements
abbrev pub type_found : Renumber → TypeJudged → TypeJudged
type_found m t = record { type_of = t.type_of; faults = map m.to t.faults }

abbrev pub key_found : Renumber → JudgedKey → JudgedKey
key_found m k = record {
  whole = k.whole;
  unkeyed = k.unkeyed;
  wanted = k.wanted;
  faults = map m.to k.faults;
  uses = renumbered_uses m.to k.uses;
}

abbrev pub elements_found : Renumber → JudgedElements → JudgedElements
elements_found m es = record { whole = es.whole; unkeyed = es.unkeyed; faults = map m.to es.faults; uses = renumbered_uses m.to es.uses }

-- written types

named_meaning_found : (m : Renumber) (x : Meaning) (place : ℕ) → named_meaning x (m.to place) ≡ type_found m (named_meaning x place)
named_meaning_found m (Value k a) place = refl
named_meaning_found m (TypeName t) place = refl
named_meaning_found m (Function s) place = refl
named_meaning_found m (BuiltinName b) place = refl
named_meaning_found m Package place = refl
named_meaning_found m (Results ts) place = refl
named_meaning_found m Broken place = refl

named_bound_found : (m : Renumber) (b : Bound) (place : ℕ) → named_type (renumbered_bound m.to b) (m.to place) ≡ type_found m (named_type b place)
unfolding named_type
named_bound_found m (Local p) place = refl
named_bound_found m (Means x) place = named_meaning_found m x place
named_bound_found m BrokenVariable place = refl
named_bound_found m BrokenFunction place = refl
named_bound_found m BrokenType place = refl

pub named_type_found : (m : Renumber) (place : ℕ) → named_type (m.bound (m.to place)) (m.to place) ≡ type_found m (named_type (m.old.bound place) place)
named_type_found m place = ap (λ z. named_type z (m.to place)) (m.binds place) ∙ named_bound_found m (m.old.bound place) place

imported_meaning_found : (m : Renumber) (x : Meaning) (p n : ℕ) →
    imported_meaning (new m) x (m.to p) (m.to n) ≡ type_found m (imported_meaning m.old x p n)
imported_meaning_found m (Value k a) p n = refl
imported_meaning_found m (TypeName t) p n = refl
imported_meaning_found m (Function s) p n = refl
imported_meaning_found m (BuiltinName b) p n = refl
imported_meaning_found m Package p n = named_type_found m n
imported_meaning_found m (Results ts) p n = refl
imported_meaning_found m Broken p n = refl

imported_found : (m : Renumber) (b : Bound) (p n : ℕ) →
    imported_type (new m) (renumbered_bound m.to b) (m.to p) (m.to n) ≡ type_found m (imported_type m.old b p n)
unfolding imported_type
imported_found m (Local place) p n = refl
imported_found m (Means x) p n = imported_meaning_found m x p n
imported_found m BrokenVariable p n = refl
imported_found m BrokenFunction p n = refl
imported_found m BrokenType p n = refl

pub written_found : (m : Renumber) (t : TypeTree) → judge_type (new m) (type_by m.to t) ≡ type_found m (judge_type m.old t)
unfolding judge_type type_by
written_found m (tree.Local n) = named_type_found m n
written_found m (tree.Imported p d n) =
    ap (λ z. imported_type (new m) z (m.to p) (m.to n)) (m.binds p) ∙ imported_found m (m.old.bound p) p n
written_found m (tree.Pointer s t) = ap (under Pointer) (written_found m t)
written_found m (tree.Slice o c t) = ap (under Slice) (written_found m t)

-- keys

key_faults_found : (m : Renumber) (k : KeyMeaning) (place : ℕ) → key_faults k (m.to place) ≡ map m.to (key_faults k place)
key_faults_found m (FieldKey rank t) place = refl
key_faults_found m BrokenKey place = refl
key_faults_found m WrongKey place = refl

-- the key at token `place` that denotes the member x, in a literal of type t whose underlying type is u
keyed : PlainType → ℕ → Seen → Underlying → Option Member → JudgedKey
keyed t place seen u x = record {
  whole = is_whole_key (key_in u seen x);
  unkeyed = false;
  wanted = wanted_after_key (key_in u seen x) u;
  faults = key_faults (key_in u seen x) place;
  uses = OfMember (record { place = place; before = t; member = symbol_of_key u x }) ∷ [];
}

keyed_found : (m : Renumber) (t : PlainType) (place : ℕ) (seen : Seen) (u : Underlying) (x : Option Member) →
    keyed t (m.to place) seen u x ≡ key_found m (keyed t place seen u x)
unfolding keyed
keyed_found m t place seen u x =
    ap (λ (fs : List ℕ). record {
      whole = is_whole_key (key_in u seen x);
      unkeyed = false;
      wanted = wanted_after_key (key_in u seen x) u;
      faults = fs;
      uses = OfMember (record { place = m.to place; before = t; member = symbol_of_key u x }) ∷ [];
    }) (key_faults_found m (key_in u seen x) place)

pub element_key_found : (m : Renumber) (t : Option PlainType) (seen : Seen) (k : Option (ℕ × ℕ)) →
    element_key (new m) t seen (key_by m.to k) ≡ key_found m (element_key m.old t seen k)
unfolding keyed
element_key_found m None seen k = refl
element_key_found m (Some t) seen None = refl
element_key_found m (Some t) seen (Some k) =
    ap (keyed t (m.to k.0) seen (underlying m.old t)) (m.has k.0 t) ∙ keyed_found m t k.0 seen (underlying m.old t) (m.old.member k.0 t)

pub seen_after_stays : (m : Renumber) (t : Option PlainType) (seen : Seen) (k : Option (ℕ × ℕ)) →
    seen_after (new m) t seen (key_by m.to k) ≡ seen_after m.old t seen k
seen_after_stays m None seen k = refl
seen_after_stays m (Some t) seen None = refl
seen_after_stays m (Some t) seen (Some k) = ap (λ y. seen_with (key_in (underlying m.old t) seen y) seen) (m.has k.0 t)

-- elements and literals

misfit_if_found : (m : Renumber) (place : ℕ) (k : Option ValueKind) (t : Option PlainType) →
    misfit_if (new m) (m.to place) k t ≡ map m.to (misfit_if m.old place k t)
misfit_if_found m place k None = refl
misfit_if_found m place k (Some t) = misfit_found m place k t

entering_if_found : (m : Renumber) (place : ℕ) (k : Option ValueKind) (t : Option PlainType) →
    entering_if (new m) (m.to place) k t ≡ renumbered_uses m.to (entering_if m.old place k t)
entering_if_found m place k None = refl
entering_if_found m place k (Some t) = entering_found m place k t

empty_stays : (m : Renumber) (fs : List ℕ) → is_empty (map m.to fs) ≡ is_empty fs
empty_stays m [] = refl
empty_stays m (f ∷ fs) = refl

pub with_element_found : (m : Renumber) (k : JudgedKey) (place : ℕ) (j : Judged) (rest : JudgedElements) →
    with_element (new m) (key_found m k) (m.to place) (renumbered_found m.to j) (elements_found m rest) ≡
    elements_found m (with_element m.old k place j rest)
with_element_found m k place j rest =
    let bad = misfit_if m.old place (value_kind j.meaning) k.wanted in
    let built : Bool → List ℕ → List Noted → JudgedElements = λ b fs us. record {
      whole = k.whole && (is_whole (value_kind j.meaning) && (b && rest.whole));
      unkeyed = k.unkeyed || rest.unkeyed;
      faults = fs;
      uses = us;
    } in
    let entry = entering_if m.old place (value_kind j.meaning) k.wanted in
    let noted : List Noted → List Noted = λ ns.
    renumbered_uses m.to k.uses ++ (renumbered_uses m.to j.uses ++ (ns ++ renumbered_uses m.to rest.uses)) in
    ap2 (λ (fs : List ℕ) (ns : List Noted). built (is_empty fs) (map m.to k.faults ++ (map m.to j.faults ++ (fs ++ map m.to rest.faults))) (noted ns))
    (misfit_if_found m place (value_kind j.meaning) k.wanted) (entering_if_found m place (value_kind j.meaning) k.wanted)
    ∙ (ap (λ (b : Bool). built b (map m.to k.faults ++ (map m.to j.faults ++ (map m.to bad ++ map m.to rest.faults))) (noted (renumbered_uses m.to entry)))
    (empty_stays m bad)
    ∙ ap2 (built (is_empty bad)) (four m.to k.faults j.faults bad rest.faults) (four (renumbered_noted m.to) k.uses j.uses entry rest.uses))

literal_result_found : (m : Renumber) (start : ℕ) (t : PlainType) (u : Underlying) (whole unkeyed : Bool) →
    literal_result (m.to start) t u whole unkeyed ≡ renumbered_found m.to (literal_result start t u whole unkeyed)
literal_result_found m start t (Plain b) true unkeyed = refl
literal_result_found m start t (Plain b) false unkeyed = refl
literal_result_found m start t (PointerTo e) true unkeyed = refl
literal_result_found m start t (PointerTo e) false unkeyed = refl
literal_result_found m start t (SliceOf e) true unkeyed = refl
literal_result_found m start t (SliceOf e) false unkeyed = refl
literal_result_found m start t (Interface s) true unkeyed = refl
literal_result_found m start t (Interface s) false unkeyed = refl
literal_result_found m start t (Struct s) true true = refl
literal_result_found m start t (Struct s) true false = refl
literal_result_found m start t (Struct s) false unkeyed = refl

literal_meaning_found : (m : Renumber) (start : ℕ) (t : Option PlainType) (whole unkeyed : Bool) →
    literal_meaning (new m) (m.to start) t whole unkeyed ≡ renumbered_found m.to (literal_meaning m.old start t whole unkeyed)
literal_meaning_found m start None whole unkeyed = refl
literal_meaning_found m start (Some t) whole unkeyed = literal_result_found m start t (underlying m.old t) whole unkeyed

pub literal_of_found : (m : Renumber) (start : ℕ) (t : TypeJudged) (es : JudgedElements) →
    literal_of (new m) (m.to start) (type_found m t) (elements_found m es) ≡ renumbered_found m.to (literal_of m.old start t es)
literal_of_found m start t es =
    let parts : Judged = record { meaning = Broken; faults = t.faults ++ es.faults; uses = es.uses } in
    ap2 (λ (fs : List ℕ) (z : Judged). also (record { meaning = Broken; faults = fs; uses = renumbered_uses m.to es.uses }) z)
    (two m.to t.faults es.faults) (literal_meaning_found m start t.type_of es.whole es.unkeyed)
    ∙ also_found m parts (literal_meaning m.old start t.type_of es.whole es.unkeyed)

pub address_found : (m : Renumber) (x : Meaning) → address_of x ≡ renumbered_found m.to (address_of x)
unfolding address_of
address_found m (Value (Typed t) a) = refl
address_found m (Value (Untyped b) a) = refl
address_found m (Value Nil a) = refl
address_found m (TypeName t) = refl
address_found m (Function s) = refl
address_found m (BuiltinName b) = refl
address_found m Package = refl
address_found m (Results ts) = refl
address_found m Broken = refl
