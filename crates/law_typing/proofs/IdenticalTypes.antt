-- The functions that compare types and underlying types find exactly the identical ones.
use Rattle.std.proofs.Common.{◌≡◌, ◌==◌, true, refl, sym, ap, true≢false, eqb-true, eq-eqb}
use Rattle.std.specs.Cmp.Lexicographic.{bytes_decides}
use Rattle.types_expr.specs.declared.types.Basic.{Basic}
use Rattle.types_expr.specs.declared.types.Basic.TheVariants as basic
use Rattle.types_expr.specs.declared.symbol.Symbol.{Symbol}
use Rattle.types_expr.specs.Types.{PlainType, BasicType, Defined, Pointer, Slice, Underlying}
use Rattle.types_expr.specs.Types.{Plain, PointerTo, SliceOf, Struct, Interface, same_basic, same_path}
use Rattle.types_expr.specs.Types.{same_symbol, same_type, same_underlying}
use Rattle.law_typing.proofs.Tests.{and_first, and_second, and_both}

pub basics_same : (a b : Basic) → same_basic a b ≡ true → a ≡ b
basics_same basic.Bool basic.Bool h = refl
basics_same basic.Int basic.Int h = refl
basics_same basic.String basic.String h = refl
basics_same a b h = absurd (true≢false (sym h))

pub same_basics : (a : Basic) → same_basic a a ≡ true
same_basics basic.Bool = refl
same_basics basic.Int = refl
same_basics basic.String = refl

symbols_same : (a b : Symbol) → same_symbol a b ≡ true → a ≡ b
symbols_same a b h = let r : a.rank ≡ b.rank = eqb-true a.rank b.rank (and_first (a.rank == b.rank) (same_path a.package b.package) h) in
    let p : a.package ≡ b.package = (bytes_decides a.package b.package).0 (and_second (a.rank == b.rank) (same_path a.package b.package) h) in
    λ i. record { «package» = p i; rank = r i }

same_symbols : (a : Symbol) → same_symbol a a ≡ true
same_symbols a = and_both (a.rank == a.rank) (same_path a.package a.package) (eq-eqb a.rank a.rank refl) ((bytes_decides a.package a.package).1 refl)

pub types_same : (a b : PlainType) → same_type a b ≡ true → a ≡ b
unfolding same_type
types_same (BasicType a) (BasicType b) h = ap BasicType (basics_same a b h)
types_same (Defined a) (Defined b) h = ap Defined (symbols_same a b h)
types_same (Pointer a) (Pointer b) h = ap Pointer (types_same a b h)
types_same (Slice a) (Slice b) h = ap Slice (types_same a b h)
types_same a b h = absurd (true≢false (sym h))

pub same_types : (a : PlainType) → same_type a a ≡ true
unfolding same_type
same_types (BasicType a) = same_basics a
same_types (Defined a) = same_symbols a
same_types (Pointer a) = same_types a
same_types (Slice a) = same_types a

pub underlying_same : (a b : Underlying) → same_underlying a b ≡ true → a ≡ b
unfolding same_underlying
underlying_same (Plain a) (Plain b) h = ap Plain (basics_same a b h)
underlying_same (PointerTo a) (PointerTo b) h = ap PointerTo (types_same a b h)
underlying_same (SliceOf a) (SliceOf b) h = ap SliceOf (types_same a b h)
underlying_same (Struct a) (Struct b) h = ap Struct (symbols_same a b h)
underlying_same (Interface a) (Interface b) h = ap Interface (symbols_same a b h)
underlying_same a b h = absurd (true≢false (sym h))

pub same_underlyings : (a : Underlying) → same_underlying a a ≡ true
unfolding same_underlying
same_underlyings (Plain a) = same_basics a
same_underlyings (PointerTo a) = same_types a
same_underlyings (SliceOf a) = same_types a
same_underlyings (Struct a) = same_symbols a
same_underlyings (Interface a) = same_symbols a
