-- The importers that links keep, as queries need them.
use Rattle.std.proofs.Common.{ℕ, ◌<◌, ◌≤◌, List, [], length, sym, subst, ⊎_elim, arith}
use Rattle.std.specs.List.{Contains}
use Rattle.std.specs.List.Sorted.{IsStrictlyIncreasing}
use Rattle.std.proofs.lemmas.Bool.{cases_lt}
use Rattle.std.proofs.lemmas.List.{get_or_past}
use Rattle.workspace_graph.specs.Imports.{LinkTable, Imports, row_of, AreImporters, AreImporterRows}

-- only a package imports
pub importer_below : (g : LinkTable) (p q : ℕ) → Imports g p q → p < length g
importer_below g p q i =
    ⊎_elim
    (λ (h : p < length g). h)
    (λ (h : length g ≤ p). let none : Contains [] q = subst (λ (xs : List ℕ). Contains xs q) (get_or_past g p [] h) i in absurd (omega (arith, none.1)))
    (cases_lt p (length g))

pub importers_of_all : (g noted : LinkTable) → AreImporterRows g (length g) noted → (q : ℕ) → AreImporters g q (row_of noted q)
importers_of_all g noted s q = λ p. (λ c. ((s.each q p).0 c).1, λ i. (s.each q p).1 (importer_below g p q i, i))

-- beyond the last package there are no imports, which rise
pub all_rising : (g : LinkTable) → ((p : ℕ) → p < length g → IsStrictlyIncreasing (row_of g p)) → (p : ℕ) → IsStrictlyIncreasing (row_of g p)
all_rising g up p =
    ⊎_elim (λ (h : p < length g). up p h) (λ (h : length g ≤ p). subst IsStrictlyIncreasing (sym (get_or_past g p [] h)) (λ k less. absurd (omega arith)))
    (cases_lt p (length g))
