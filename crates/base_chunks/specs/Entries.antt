-- The place of a key among entries in order.
use Rattle.std.specs.Prelude.{◌≡◌, Bool, false, not, List, [], ◌∷◌, filter, ⊤}
use Rattle.std.specs.List.{AllByRecursion}
use Rattle.std.specs.Ordering.{eq_by_cmp, is_lt, is_eq, is_gt}
use Rattle.std.specs.declared.cmp.Ordering.{Ordering}
use Rattle.std.specs.declared.cmp.Ordering.TheVariants.{Less, Greater}

module _ {K X : Type 0} (R : K → K → Ordering) where
  -- The entries without those whose keys compare equal to `k`.
  abbrev pub without : K → List (K × X) → List (K × X)
  without k es = filter (λ e. not (eq_by_cmp R k e.0)) es

  -- `k` is greater than all keys of the entries.
  abbrev pub IsAfterAll : K → List (K × X) → Type 0
  IsAfterAll k es = AllByRecursion (λ e. R k e.0 ≡ Greater) es

  -- `k` is less than all keys of the entries.
  abbrev pub IsBeforeAll : K → List (K × X) → Type 0
  IsBeforeAll k es = AllByRecursion (λ e. R k e.0 ≡ Less) es

  -- The keys rise: each is less than all behind it.
  abbrev pub Rises : List (K × X) → Type 0
  Rises [] = ⊤
  Rises (e ∷ es) = IsBeforeAll e.0 es × Rises es

  -- Whether there is a first entry, and `k` is less than its key.
  abbrev pub is_before : K → List (K × X) → Bool
  is_before k [] = false
  is_before k (e ∷ es) = is_lt (R k e.0)

  -- Whether there is a first entry, and `k` is greater than its key.
  abbrev pub is_after : K → List (K × X) → Bool
  is_after k [] = false
  is_after k (e ∷ es) = is_gt (R k e.0)

  -- Whether there is a first entry, and `k` compares equal to its key.
  abbrev pub is_at : K → List (K × X) → Bool
  is_at k [] = false
  is_at k (e ∷ es) = is_eq (R k e.0)
