-- The decisions on types are the same of moved types, and underlying types are moved.
use Rattle.std.proofs.Common.{ℕ, ◌≡◌, Bool, true, false, ◌&&◌, ◌==◌, List, option_map, refl, sym, ap, ◌∙◌}
use Rattle.std.specs.Cmp.Lexicographic.{bytes_decides}
use Rattle.types_expr.specs.declared.symbol.Symbol.{Symbol}
use Rattle.types_expr.specs.Types.{PlainType, BasicType, Defined, Pointer, Slice, Underlying, Plain, PointerTo, SliceOf, Struct, Interface}
use Rattle.types_expr.specs.Types.{same_path, same_symbol, same_type, same_underlying, is_named, has_nil, is_pointer, points, takes_no_methods, element_of}
use Rattle.types_expr.specs.Types.{is_interface}
use Rattle.types_expr.specs.World.{may_enter, giving, underlying}
use Rattle.types_expr.specs.Operations.{class_of_underlying}
use Rattle.law_changed_types.specs.Moved.{moved_symbol, moved_type, moved_underlying}
use Rattle.law_changed_types.proofs.Moving.{Move}

same_answers : (s t : Bool) → (s ≡ true → t ≡ true) → (t ≡ true → s ≡ true) → s ≡ t
same_answers true t f g = sym (f refl)
same_answers false true f g = g refl
same_answers false false f g = refl

pub same_paths : (m : Move) (a b : List ℕ) → same_path (m.path a) (m.path b) ≡ same_path a b
same_paths m a b =
    same_answers (same_path (m.path a) (m.path b)) (same_path a b)
    (λ e. (bytes_decides a b).1 (m.injective a b ((bytes_decides (m.path a) (m.path b)).0 e)))
    (λ e. (bytes_decides (m.path a) (m.path b)).1 (ap m.path ((bytes_decides a b).0 e)))

pub same_symbols : (m : Move) (a b : Symbol) → same_symbol (moved_symbol m.path a) (moved_symbol m.path b) ≡ same_symbol a b
same_symbols m a b = ap (λ z. a.rank == b.rank && z) (same_paths m a.package b.package)

pub same_types : (m : Move) (a b : PlainType) → same_type (moved_type m.path a) (moved_type m.path b) ≡ same_type a b
unfolding same_type
same_types m (BasicType a) (BasicType b) = refl
same_types m (BasicType a) (Defined b) = refl
same_types m (BasicType a) (Pointer b) = refl
same_types m (BasicType a) (Slice b) = refl
same_types m (Defined a) (BasicType b) = refl
same_types m (Defined a) (Defined b) = same_symbols m a b
same_types m (Defined a) (Pointer b) = refl
same_types m (Defined a) (Slice b) = refl
same_types m (Pointer a) (BasicType b) = refl
same_types m (Pointer a) (Defined b) = refl
same_types m (Pointer a) (Pointer b) = same_types m a b
same_types m (Pointer a) (Slice b) = refl
same_types m (Slice a) (BasicType b) = refl
same_types m (Slice a) (Defined b) = refl
same_types m (Slice a) (Pointer b) = refl
same_types m (Slice a) (Slice b) = same_types m a b

pub same_underlyings : (m : Move) (a b : Underlying) →
    same_underlying (moved_underlying m.path a) (moved_underlying m.path b) ≡ same_underlying a b
unfolding same_underlying
same_underlyings m (Plain a) (Plain b) = refl
same_underlyings m (Plain a) (PointerTo b) = refl
same_underlyings m (Plain a) (SliceOf b) = refl
same_underlyings m (Plain a) (Struct b) = refl
same_underlyings m (PointerTo a) (Plain b) = refl
same_underlyings m (PointerTo a) (PointerTo b) = same_types m a b
same_underlyings m (PointerTo a) (SliceOf b) = refl
same_underlyings m (PointerTo a) (Struct b) = refl
same_underlyings m (SliceOf a) (Plain b) = refl
same_underlyings m (SliceOf a) (PointerTo b) = refl
same_underlyings m (SliceOf a) (SliceOf b) = same_types m a b
same_underlyings m (SliceOf a) (Struct b) = refl
same_underlyings m (Struct a) (Plain b) = refl
same_underlyings m (Struct a) (PointerTo b) = refl
same_underlyings m (Struct a) (SliceOf b) = refl
same_underlyings m (Struct a) (Struct b) = same_symbols m a b
same_underlyings m (Struct a) (Interface b) = refl
same_underlyings m (Interface a) (Plain b) = refl
same_underlyings m (Interface a) (PointerTo b) = refl
same_underlyings m (Interface a) (SliceOf b) = refl
same_underlyings m (Interface a) (Struct b) = refl
same_underlyings m (Interface a) (Interface b) = same_symbols m a b
same_underlyings m (Plain a) (Interface b) = refl
same_underlyings m (PointerTo a) (Interface b) = refl
same_underlyings m (SliceOf a) (Interface b) = refl

pub underlying_moves : (m : Move) (t : PlainType) → underlying m.new (moved_type m.path t) ≡ moved_underlying m.path (underlying m.old t)
underlying_moves m (BasicType b) = refl
underlying_moves m (Defined s) = m.definition s
underlying_moves m (Pointer t) = refl
underlying_moves m (Slice t) = refl

pub same_interface : (m : Move) (u : Underlying) → is_interface (moved_underlying m.path u) ≡ is_interface u
same_interface m (Plain b) = refl
same_interface m (PointerTo t) = refl
same_interface m (SliceOf t) = refl
same_interface m (Struct s) = refl
same_interface m (Interface s) = refl

pub interface_stays : (m : Move) (t : PlainType) → is_interface (underlying m.new (moved_type m.path t)) ≡ is_interface (underlying m.old t)
interface_stays m t = ap is_interface (underlying_moves m t) ∙ same_interface m (underlying m.old t)

-- the move of the worlds as the targets of values see them
abbrev pub giving_move : (own : Bool) → Move → Move
giving_move own m = record {
  path = m.path;
  injective = m.injective;
  old = giving own m.old;
  new = giving own m.new;
  bound = m.bound;
  definition = m.definition;
  implements = λ t s.
      ap (λ x. may_enter own x && m.new.implements (moved_type m.path t) (moved_symbol m.path s)) (interface_stays m t)
      ∙ ap (λ x. may_enter own (is_interface (underlying m.old t)) && x) (m.implements t s);
}

pub same_named : (m : Move) (t : PlainType) → is_named (moved_type m.path t) ≡ is_named t
unfolding is_named
same_named m (BasicType b) = refl
same_named m (Defined s) = refl
same_named m (Pointer t) = refl
same_named m (Slice t) = refl

pub same_pointer : (m : Move) (t : PlainType) → is_pointer (moved_type m.path t) ≡ is_pointer t
same_pointer m (BasicType b) = refl
same_pointer m (Defined s) = refl
same_pointer m (Pointer t) = refl
same_pointer m (Slice t) = refl

pub same_takes : (m : Move) (u : Underlying) → takes_no_methods (moved_underlying m.path u) ≡ takes_no_methods u
same_takes m (Plain b) = refl
same_takes m (PointerTo t) = refl
same_takes m (SliceOf t) = refl
same_takes m (Struct s) = refl
same_takes m (Interface s) = refl

pub same_nil : (m : Move) (u : Underlying) → has_nil (moved_underlying m.path u) ≡ has_nil u
unfolding has_nil
same_nil m (Plain b) = refl
same_nil m (PointerTo t) = refl
same_nil m (SliceOf t) = refl
same_nil m (Struct s) = refl
same_nil m (Interface s) = refl

pub same_points : (m : Move) (u : Underlying) → points (moved_underlying m.path u) ≡ points u
same_points m (Plain b) = refl
same_points m (PointerTo t) = refl
same_points m (SliceOf t) = refl
same_points m (Struct s) = refl
same_points m (Interface s) = refl

pub same_class : (m : Move) (u : Underlying) → class_of_underlying (moved_underlying m.path u) ≡ class_of_underlying u
same_class m (Plain b) = refl
same_class m (PointerTo t) = refl
same_class m (SliceOf t) = refl
same_class m (Struct s) = refl
same_class m (Interface s) = refl

pub element_moves : (m : Move) (u : Underlying) → element_of (moved_underlying m.path u) ≡ option_map (moved_type m.path) (element_of u)
element_moves m (Plain b) = refl
element_moves m (PointerTo t) = refl
element_moves m (SliceOf t) = refl
element_moves m (Struct s) = refl
element_moves m (Interface s) = refl
