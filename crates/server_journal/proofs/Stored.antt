-- Stores that grow, and are cut back.
use Rattle.std.proofs.Common.{◌≡◌, ℕ, List, ◌++◌, Option, Some, None, take, sym, ap, ◌∙◌, arith}
use Rattle.std.proofs.lemmas.List.{take-append-le, take_all}
use Rattle.std.proofs.lemmas.Option.{none-some, same_Some}
use Rattle.server_journal.specs.Stores.{Grows, GrowsInPart, HoldsBytes, Returns}

-- what was added in part is taken away
pub cut_back : (before mid after : Option (List ℕ)) (n : ℕ) → HoldsBytes before n → GrowsInPart before mid → Returns mid n after → after ≡ before
cut_back None None after n has grows returns = returns
cut_back None (Some more) after n has grows returns = absurd (none-some more (sym grows))
cut_back (Some held) None after n has grows returns = absurd (none-some (held ++ grows.0) grows.1)
cut_back (Some held) (Some more) after n has grows returns =
    let is : more ≡ held ++ grows.0 = same_Some more (held ++ grows.0) grows.1 in
    let first : take n more ≡ held =
    ap (λ (x : List ℕ). take n x) is ∙ take-append-le n held grows.0 (omega (arith, has)) ∙ take_all n held (omega (arith, has)) in
    returns ∙ ap Some first

-- bytes of which some may be missing at first
pub grows_in_part : (before after : Option (List ℕ)) (bytes : List ℕ) → Grows before bytes after → GrowsInPart before after
grows_in_part None after bytes grows = grows
grows_in_part (Some held) after bytes grows = (bytes, grows)
