-- Well-formed layouts: blocks and scopes lie as those of syntax trees do.
use Rattle.std.specs.Prelude.{ℕ, ◌≡◌, ◌<◌, ◌≤◌, ◌⊎◌}
use Rattle.go_scope.specs.declared.model.Block.{Block}
use Rattle.go_scope.specs.declared.model.Block.TheVariants.{File, Inner}
use Rattle.go_scope.specs.declared.model.Position.{Position}
use Rattle.go_scope.specs.Bindings.{Layout, MayDeclare, IsIdentifier, IsLeftName, SameBlock, block_of, start_of}

-- d declares in the block b
abbrev pub InBlock : Layout → ℕ → Block → Type 0
InBlock l d b = block_of (l.role d) ≡ b

-- the blocks and scopes of a layout nest as those of a syntax tree
pub record WellFormed (l : Layout) : Type 0 where
  pub size : ℕ
  pub finite : (d : ℕ) → MayDeclare l d → d < size
  -- a scope begins in its block
  pub starts : (d f a b : ℕ) → MayDeclare l d → InBlock l d (Inner f a b) → (a ≤ start_of (l.role d)) × (start_of (l.role d) ≤ b)
  -- two inner blocks of a file are equal or disjoint, or one lies in the other
  pub blocks : (d e f a b a' b' : ℕ) → MayDeclare l d → MayDeclare l e → InBlock l d (Inner f a b) → InBlock l e (Inner f a' b') →
      ((b ≤ a') ⊎ (b' ≤ a)) ⊎ (((a' < a) × (b ≤ b')) ⊎ (((a < a') × (b' ≤ b)) ⊎ ((a ≡ a') × (b ≡ b'))))
  -- no scope of an outer block begins in an inner one
  pub begins_outside : (d e f a b a' b' : ℕ) → MayDeclare l d → MayDeclare l e → InBlock l d (Inner f a b) → InBlock l e (Inner f a' b') →
      a' < a → b ≤ b' → (start_of (l.role e) < a) ⊎ (b ≤ start_of (l.role e))
  -- in one block the scopes of later declarations begin later, or at the same token
  pub in_order : (d e : ℕ) → MayDeclare l d → MayDeclare l e → SameBlock l d e → d < e → start_of (l.role d) ≤ start_of (l.role e)
  -- a left name of `:=` lies in its inner block, before its scope, and in no inner block inside that one
  pub left_inner : (x : ℕ) → IsLeftName l x → (f : ℕ) × (a : ℕ) × (b : ℕ) × InBlock l x (Inner f a b) × ((l.place x).file ≡ f) × (a ≤ (l.place x).index)
  pub left_before : (x : ℕ) → IsLeftName l x → (l.place x).index < start_of (l.role x)
  pub left_directly : (x z f a b a' b' : ℕ) → IsLeftName l x → MayDeclare l z → InBlock l x (Inner f a b) → InBlock l z (Inner f a' b') →
      a < a' → b' ≤ b → ((l.place x).index < a') ⊎ (b' ≤ (l.place x).index)

-- the scope of an import begins at the start of its file
abbrev pub ImportsCoverFiles : Layout → Type 0
ImportsCoverFiles l = (d f : ℕ) → InBlock l d (File f) → start_of (l.role d) ≡ 0

-- Declarations are numbered in the order in which blocks are opened and closed. The scope of a declaration begins before each enclosed
-- block that has a later declaration. It does not begin before the end of an enclosed block that has an earlier declaration.
pub record InBlockOrder (l : Layout) : Type 0 where
  pub before : (d e f a b a' b' : ℕ) → d < e → MayDeclare l d → MayDeclare l e → InBlock l d (Inner f a b) → InBlock l e (Inner f a' b') →
      a < a' → b' ≤ b → start_of (l.role d) < a'
  pub behind : (d e f a b a' b' : ℕ) → d < e → MayDeclare l d → MayDeclare l e → InBlock l d (Inner f a b) → InBlock l e (Inner f a' b') →
      a' < a → b ≤ b' → b ≤ start_of (l.role e)

-- the first position is the second one or precedes it
abbrev pub IsNotAfter : Position → Position → Type 0
IsNotAfter p q = (p.file < q.file) ⊎ ((p.file ≡ q.file) × (p.index ≤ q.index))

-- The first `size` identifiers are numbered in the order of their positions. A declaration in an inner block is in its file, before its
-- scope.
pub record InPlaceOrder (l : Layout) (size : ℕ) : Type 0 where
  pub rising : (u v : ℕ) → u < v → v < size → IsNotAfter (l.place u) (l.place v)
  pub before_scope : (d f a b : ℕ) → MayDeclare l d → InBlock l d (Inner f a b) → ((l.place d).file ≡ f) × ((l.place d).index < start_of (l.role d))

-- no two of the first `size` identifiers stand at one token, predeclared names apart
abbrev pub HaveOwnPlaces : Layout → ℕ → Type 0
HaveOwnPlaces l size = (u v : ℕ) → u < v → v < size → IsIdentifier l u → l.place u ≡ l.place v → ⊥

-- the layout of `size` identifiers has all properties of one that was taken from a package's files
pub record IsLaidOut (l : Layout) (size : ℕ) : Type 0 where
  pub well_formed : WellFormed l
  pub imports : ImportsCoverFiles l
  pub ordered : InBlockOrder l
  pub placed : InPlaceOrder l size
  pub apart : HaveOwnPlaces l size
