-- Lists in chunks: their items, the invariants of a map and of a list, and the change of one chunk.
use Rattle.std.specs.Prelude.{◌≡◌, ℕ, ◌+◌, ◌<◌, IsTrue, List, ◌++◌, length, take, drop}
use Rattle.std.specs.List.{flat_map, AllByRecursion}
use Rattle.std.specs.FinMap.{is_sorted}
use Rattle.std.specs.declared.cmp.Ordering.{Ordering}

-- the items of all chunks, one chunk after another
abbrev pub joined : {X : Type 0} → List (List X) → List X
joined cs = flat_map (λ c. c) cs

-- no chunk is empty
abbrev pub AreNonempty : {X : Type 0} → List (List X) → Type 0
AreNonempty cs = AllByRecursion (λ c. 0 < length c) cs

-- each chunk has 64 items
abbrev pub AreFull : {X : Type 0} → List (List X) → Type 0
AreFull cs = AllByRecursion (λ c. length c ≡ 64) cs

-- The chunks of a map: no chunk is empty, and the keys rise from the first entry to the last.
pub record IsMapChunks {K X : Type 0} (R : K → K → Ordering) (cs : List (List (K × X))) : Type 0 where
  pub filled : AreNonempty cs
  pub ordered : IsTrue (is_sorted R (joined cs))

-- The parts of a list of `len` items: full chunks, and fewer than 64 last items, which lie in no chunk.
pub record IsListParts {X : Type 0} (full : List (List X)) (last : List X) (len : ℕ) : Type 0 where
  pub even : AreFull full
  pub short : length last < 64
  pub count : len ≡ length (joined full ++ last)

-- The chunks `new` are `old` with the items `ws` in place of those of chunk `i`. Where `i` is the number of chunks, `ws` comes behind all
-- items.
pub record ReplacesChunk {X : Type 0} (old new : List (List X)) (i : ℕ) (ws : List X) : Type 0 where
  pub parts : joined new ≡ joined (take i old) ++ (ws ++ joined (drop (i + 1) old))
  pub filled : AreNonempty old → AreNonempty new
