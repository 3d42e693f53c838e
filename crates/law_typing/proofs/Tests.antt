-- Tests that hold.
pub use Rattle.std.proofs.lemmas.Bool.{and_from as and_both, or_left as or_first, or_right as or_second, or_cases, or_parts as or_none}
use Rattle.std.proofs.Common.{◌≡◌, Bool, true, false, ◌&&◌, refl, sym, true≢false, Some, None}

pub and_first : (a b : Bool) → (a && b) ≡ true → a ≡ true
and_first true b h = refl
and_first false b h = absurd (true≢false (sym h))

pub and_second : (a b : Bool) → (a && b) ≡ true → b ≡ true
and_second true b h = h
and_second false b h = absurd (true≢false (sym h))

pub none_is_some : {A B : Type 0} (x : A) → None ≡ Some x → B
none_is_some x h = cc
