-- The block and the scope of a declaration, found by the number of its token among ranges of tokens.
use Rattle.std.specs.Prelude.{ℕ, ◌≡◌, ◌<◌, ◌≤◌, ◌⊎◌, true, false, List, [], ◌∷◌, Option, Some, None, Contains, slice_get}
use Rattle.std.specs.List.{AllByRecursion}
use Rattle.go_ast.specs.Tree.{FileTree}
use Rattle.go_scope.specs.declared.model.Block.{Block}
use Rattle.go_scope.specs.declared.model.Block.TheVariants.{Universe, Package, File, Inner}
use Rattle.go_scope.specs.declared.model.Position.{Position}
use Rattle.go_scope.specs.declared.model.Scope.{Scope}
use Rattle.go_scope.specs.Bindings.{Layout, is_implied}
use Rattle.go_scope.specs.FileSites.{SpelledFile}
use Rattle.go_scope.specs.Scopes.{scope_for}
use Rattle.law_blocks.specs.Ranges.{Range, BlockRange, file_blocks, file_specs, import_ranges}

-- the token t is in the range
abbrev pub Spans : Range → ℕ → Type 0
Spans r t = (r.first ≤ t) × (t < r.last)

-- the token t is in the block
abbrev pub Surrounds : BlockRange → ℕ → Type 0
Surrounds r t = (r.first ≤ t) × (t < r.last)

-- the first block ends before the second begins, or surrounds it
abbrev pub IsApartOrAround : BlockRange → BlockRange → Type 0
IsApartOrAround r s = (r.last ≤ s.first) ⊎ ((r.first < s.first) × (s.last ≤ r.last))

-- of any two blocks of the list the earlier one ends before the later one begins, or surrounds it
abbrev pub NestOrAreApart : List BlockRange → Type 0
NestOrAreApart [] = Unit {0}
NestOrAreApart (r ∷ rs) = AllByRecursion (IsApartOrAround r) rs × NestOrAreApart rs

-- r is the innermost of the blocks that surround the token t: each other one that does begins before r and ends at its end or later
pub record IsInnermost (rs : List BlockRange) (t : ℕ) (r : BlockRange) : Type 0 where
  pub listed : Contains rs r
  pub surrounds : Surrounds r t
  pub inside : AllByRecursion (λ o. Surrounds o t → (o ≡ r) ⊎ ((o.first < r.first) × (r.last ≤ o.last))) rs

-- The block of the token t among the blocks of a file of this rank: the innermost that surrounds it, or `outer` where none does.
pub data IsBlockAmong (rank : ℕ) (outer : Block) (rs : List BlockRange) (t : ℕ) (b : Block) : Type 0 where
  inside : (r : BlockRange) → IsInnermost rs t r → b ≡ Inner rank r.from r.last → IsBlockAmong rank outer rs t b
  outside : AllByRecursion (λ o. Surrounds o t → ⊥) rs → b ≡ outer → IsBlockAmong rank outer rs t b

-- what is declared in no function: an import in the block of its file, all else in that of the package
pub data IsOuterBlock (rank : ℕ) (imports : List Range) (t : ℕ) (b : Block) : Type 0 where
  imported : (i : Range) → Contains imports i → Spans i t → b ≡ File rank → IsOuterBlock rank imports t b
  not_imported : AllByRecursion (λ i. Spans i t → ⊥) imports → b ≡ Package → IsOuterBlock rank imports t b

-- b is the block in which an identifier at the token t of the file declares
pub record IsBlockAt (rank : ℕ) (f : FileTree) (t : ℕ) (b : Block) : Type 0 where
  pub outer : Block
  pub is_outer : IsOuterBlock rank (import_ranges f) t outer
  pub among : IsBlockAmong rank outer (file_blocks f) t b

-- k is the token at the end of the spec or statement that declares at the token t, and 0 where there is none
pub data IsStartAmong (rs : List Range) (t k : ℕ) : Type 0 where
  begins : (r : Range) → Contains rs r → Spans r t → k ≡ r.last → AllByRecursion (λ o. Spans o t → o.last ≡ k) rs → IsStartAmong rs t k
  at_once : AllByRecursion (λ o. Spans o t → ⊥) rs → k ≡ 0 → IsStartAmong rs t k

-- the scope of a declaration at the token t of the file begins at the token k; in the package block it is all of its block, from 0
abbrev pub IsStartAt : FileTree → ℕ → ℕ → Type 0
IsStartAt f t k = IsStartAmong (file_specs f) t k

-- the same in an optional file
abbrev pub IsBlockIn : Option SpelledFile → Position → Block → Type 0
IsBlockIn None p b = ⊥
IsBlockIn (Some f) p b = IsBlockAt p.file f.tree p.index b

abbrev pub IsStartIn : Option SpelledFile → Position → ℕ → Type 0
IsStartIn None p k = ⊥
IsStartIn (Some f) p k = IsStartAt f.tree p.index k

-- b is the block of the declaration d of a package of these files: by its token, and the universe for a predeclared name
pub data IsBlockOf (fs : List SpelledFile) (l : Layout) (d : ℕ) (b : Block) : Type 0 where
  predeclared_block : is_implied (l.role d) ≡ true → b ≡ Universe → IsBlockOf fs l d b
  written_block : is_implied (l.role d) ≡ false → IsBlockIn (slice_get fs (l.place d).file) (l.place d) b → IsBlockOf fs l d b

-- the scope of the declaration d begins at the token k of its file
pub data IsStartOf (fs : List SpelledFile) (l : Layout) (d k : ℕ) : Type 0 where
  predeclared_start : is_implied (l.role d) ≡ true → k ≡ 0 → IsStartOf fs l d k
  written_start : is_implied (l.role d) ≡ false → IsStartIn (slice_get fs (l.place d).file) (l.place d) k → IsStartOf fs l d k

-- the scope of the declaration d: from its start to the end of its block
pub record IsScopeOf (fs : List SpelledFile) (l : Layout) (d : ℕ) (s : Scope) : Type 0 where
  pub block : Block
  pub start : ℕ
  pub is_block : IsBlockOf fs l d block
  pub is_start : IsStartOf fs l d start
  pub scope : s ≡ scope_for block start
