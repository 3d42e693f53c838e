-- Moved types implement the moved interfaces, and no others.
use Rattle.std.proofs.Common.{ℕ, ◌≡◌, Bool, true, false, ◌&&◌, ◌||◌, if◌then◌else◌, List, [], ◌∷◌, map, Option, Some, None, option_map, refl, sym, ap, ◌∙◌}
use Rattle.types_expr.specs.declared.symbol.Symbol.{Symbol}
use Rattle.types_expr.specs.Types.{PlainType, BasicType, Defined, Pointer, Slice, Underlying, Plain, PointerTo, SliceOf, Struct, Interface, Signature}
use Rattle.types_expr.specs.Types.{WrittenAs}
use Rattle.types_expr.specs.Types.{AFieldOf, AMethodOf, identical_types, identical_signatures, is_interface}
use Rattle.types_expr.specs.World.{Definition, Field, Method, SetMethod, as_set_method, asked_as, reaches, received_method, in_set_by, in_set}
use Rattle.types_expr.specs.World.{in_method_set, has_signature, is_as_asked, has_written, has_if_asked, Implements}
use Rattle.law_changed_types.specs.Moved.{PathMap, moved_symbol, moved_type, moved_underlying, moved_signature, moved_form}
use Rattle.law_changed_types.specs.MovedPackage.{moved_field, moved_method, moved_definition}
use Rattle.law_changed_types.proofs.Moving.{Move, ap2, if_moves}
use Rattle.law_changed_types.proofs.TypesMove.{same_paths, same_types, same_interface}

-- signatures

identical_stay : (m : Move) (a b : List PlainType) → identical_types (map (moved_type m.path) a) (map (moved_type m.path) b) ≡ identical_types a b
identical_stay m [] [] = refl
identical_stay m [] (y ∷ ys) = refl
identical_stay m (x ∷ xs) [] = refl
identical_stay m (x ∷ xs) (y ∷ ys) = ap2 (λ u v. u && v) (same_types m x y) (identical_stay m xs ys)

signatures_stay : (m : Move) (a b : Signature) →
    identical_signatures (moved_signature m.path a) (moved_signature m.path b) ≡ identical_signatures a b
unfolding identical_signatures
signatures_stay m a b = ap2 (λ u v. u && v) (identical_stay m a.parameters b.parameters) (identical_stay m a.results b.results)

has_stays : (m : Move) (a : Option Signature) (b : Signature) →
    has_signature (option_map (moved_signature m.path) a) (moved_signature m.path b) ≡ has_signature a b
has_stays m None b = refl
has_stays m (Some a) b = signatures_stay m a b

-- method sets

abbrev moved_set_method : PathMap → SetMethod → SetMethod
moved_set_method g x = record { symbol = moved_symbol g x.symbol; exported = x.exported; signature = option_map (moved_signature g) x.signature }

asked_as_moves : (g : PathMap) (s : Symbol) (e : Bool) (f : WrittenAs) →
    asked_as (moved_symbol g s) e (moved_form g f) ≡ option_map (moved_set_method g) (asked_as s e f)
asked_as_moves g s e (AFieldOf t) = refl
asked_as_moves g s e (AMethodOf x) = refl

as_set_moves : (g : PathMap) (f : Option Field) → as_set_method (option_map (moved_field g) f) ≡ option_map (moved_set_method g) (as_set_method f)
as_set_moves g None = refl
as_set_moves g (Some f) = asked_as_moves g f.symbol f.exported f.form

received_moves : (m : Move) (behind : Bool) (x : Option Method) →
    received_method behind (option_map (moved_method m.path) x) ≡ option_map (moved_set_method m.path) (received_method behind x)
received_moves m behind None = refl
received_moves m behind (Some x) =
    if_moves (option_map (moved_set_method m.path)) (reaches behind x.on_pointer) (reaches behind x.on_pointer)
    (Some (record { symbol = x.symbol; exported = x.exported; signature = x.signature })) None refl

module _ (m : Move) (c d : Symbol → Definition) (same : (s : Symbol) → d (moved_symbol m.path s) ≡ moved_definition m.path (c s)) where
  received_by : (behind : Bool) (s : Symbol) (name : List ℕ) →
      received_method behind ((d (moved_symbol m.path s)).method name) ≡ option_map (moved_set_method m.path) (received_method behind ((c s).method name))
  received_by behind s name =
      ap (λ (x : Definition). received_method behind (x.method name)) (same s) ∙ received_moves m behind ((c s).method name)

  by_underlying : (behind : Bool) (s : Symbol) (u : Underlying) (name : List ℕ) →
      in_set_by d behind (moved_symbol m.path s) (moved_underlying m.path u) name ≡ option_map (moved_set_method m.path) (in_set_by c behind s u name)
  by_underlying true s (Interface i) name = refl
  by_underlying false s (Interface i) name =
      ap (λ (x : Definition). as_set_method (x.field name)) (same i) ∙ as_set_moves m.path ((c i).field name)
  by_underlying true s (Plain b) name = received_by true s name
  by_underlying true s (PointerTo t) name = received_by true s name
  by_underlying true s (SliceOf t) name = received_by true s name
  by_underlying true s (Struct i) name = received_by true s name
  by_underlying false s (Plain b) name = received_by false s name
  by_underlying false s (PointerTo t) name = received_by false s name
  by_underlying false s (SliceOf t) name = received_by false s name
  by_underlying false s (Struct i) name = received_by false s name

  set_moves : (behind : Bool) (s : Symbol) (name : List ℕ) →
      in_set d behind (moved_symbol m.path s) name ≡ option_map (moved_set_method m.path) (in_set c behind s name)
  set_moves behind s name =
      ap (λ (x : Definition). in_set_by d behind (moved_symbol m.path s) x.underlying name) (same s) ∙ by_underlying behind s (c s).underlying name

  method_set_moves : (t : PlainType) (name : List ℕ) →
      in_method_set d (moved_type m.path t) name ≡ option_map (moved_set_method m.path) (in_method_set c t name)
  unfolding in_method_set
  method_set_moves (BasicType b) name = refl
  method_set_moves (Defined s) name = set_moves false s name
  method_set_moves (Pointer (BasicType b)) name = refl
  method_set_moves (Pointer (Defined s)) name = set_moves true s name
  method_set_moves (Pointer (Pointer t)) name = refl
  method_set_moves (Pointer (Slice t)) name = refl
  method_set_moves (Slice t) name = refl

  -- what is asked for

  is_asked_stays : (a : Field) (wanted : Signature) (x : Option SetMethod) →
      is_as_asked (moved_field m.path a) (moved_signature m.path wanted) (option_map (moved_set_method m.path) x) ≡ is_as_asked a wanted x
  is_asked_stays a wanted None = refl
  is_asked_stays a wanted (Some x) =
      ap2 (λ u v. (x.exported || u) && v) (same_paths m a.symbol.package x.symbol.package) (has_stays m x.signature wanted)

  written_stays : (a : Field) (f : WrittenAs) (x : Option SetMethod) →
      has_written (moved_field m.path a) (moved_form m.path f) (option_map (moved_set_method m.path) x) ≡ has_written a f x
  written_stays a (AFieldOf t) x = refl
  written_stays a (AMethodOf wanted) x = is_asked_stays a wanted x

  asked_stays : (f : Option Field) (x : Option SetMethod) →
      has_if_asked (option_map (moved_field m.path) f) (option_map (moved_set_method m.path) x) ≡ has_if_asked f x
  asked_stays None x = refl
  asked_stays (Some a) x = written_stays a a.form x

  has_stays_named : (t : PlainType) (i : Symbol) (name : List ℕ) →
      has_if_asked ((d (moved_symbol m.path i)).field name) (in_method_set d (moved_type m.path t) name) ≡
      has_if_asked ((c i).field name) (in_method_set c t name)
  has_stays_named t i name =
      ap2 has_if_asked (ap (λ (x : Definition). x.field name) (same i)) (method_set_moves t name) ∙ asked_stays ((c i).field name) (in_method_set c t name)

  writes_stays : (i : Symbol) → is_interface (d (moved_symbol m.path i)).underlying ≡ is_interface (c i).underlying
  writes_stays i = ap (λ (x : Definition). is_interface x.underlying) (same i) ∙ same_interface m (c i).underlying

  pub implementing_moves : (t : PlainType) (i : Symbol) → Implements c t i → Implements d (moved_type m.path t) (moved_symbol m.path i)
  implementing_moves t i h = record {
    writes_one = writes_stays i ∙ h.writes_one;
    has = λ name. has_stays_named t i name ∙ h.has name;
  }

  pub implementing_back : (t : PlainType) (i : Symbol) → Implements d (moved_type m.path t) (moved_symbol m.path i) → Implements c t i
  implementing_back t i h = record {
    writes_one = sym (writes_stays i) ∙ h.writes_one;
    has = λ name. sym (has_stays_named t i name) ∙ h.has name;
  }
