-- Layouts whose positions move and keep their order.
use Rattle.std.specs.Prelude.{ℕ, ◌≡◌, ◌<◌}
use Rattle.go_scope.specs.declared.model.Position.{Position}
use Rattle.go_scope.specs.declared.model.Block.{Block}
use Rattle.go_scope.specs.declared.model.Block.TheVariants.{Universe, Package, File, Inner}
use Rattle.go_scope.specs.declared.model.Role.{Role}
use Rattle.go_scope.specs.declared.model.Role.TheVariants.{Use, Declaring, LeftName, Implied, NotLexical}
use Rattle.go_scope.specs.Bindings.{Layout, block_of, start_of}

-- the position that `move` makes of a position
abbrev pub moved_place : (ℕ → ℕ → ℕ) → Position → Position
moved_place move p = record { file = p.file; index = move p.file p.index }

-- the block that `move` makes of a block
abbrev pub moved_block : (ℕ → ℕ → ℕ) → Block → Block
moved_block move (Inner file from to) = Inner file (move file from) (move file to)
moved_block move (File file) = File file
moved_block move Package = Package
moved_block move Universe = Universe

-- the start that `move` makes of the start of a scope in a block
abbrev pub moved_start : (ℕ → ℕ → ℕ) → Block → ℕ → ℕ
moved_start move (Inner file from to) start = move file start
moved_start move (File file) start = start
moved_start move Package start = start
moved_start move Universe start = start

-- the role that `move` makes of a role
abbrev pub moved_role : (ℕ → ℕ → ℕ) → Role → Role
moved_role move (Declaring block start) = Declaring (moved_block move block) (moved_start move block start)
moved_role move (LeftName block start) = LeftName (moved_block move block) (moved_start move block start)
moved_role move (Implied block start) = Implied (moved_block move block) (moved_start move block start)
moved_role move Use = Use
moved_role move (NotLexical purpose) = NotLexical purpose

-- `Known` includes the token indices of the block's ends and of the scope's start
abbrev pub HasKnownEnds : (ℕ → ℕ → Type 0) → Block → ℕ → Type 0
HasKnownEnds Known (Inner file from to) start = Known file from × Known file to × Known file start
HasKnownEnds Known (File file) start = Unit {0}
HasKnownEnds Known Package start = Unit {0}
HasKnownEnds Known Universe start = Unit {0}

-- k is l with its positions moved; `move` keeps the order of the indices in `Known`, which include all that the layout has
pub record IsMoved (Known : ℕ → ℕ → Type 0) (move : ℕ → ℕ → ℕ) (l k : Layout) : Type 0 where
  pub roles : (d : ℕ) → k.role d ≡ moved_role move (l.role d)
  pub places : (d : ℕ) → k.place d ≡ moved_place move (l.place d)
  pub increasing : (f a b : ℕ) → Known f a → Known f b → a < b → move f a < move f b
  pub known_place : (d : ℕ) → Known (l.place d).file (l.place d).index
  pub known_block : (d : ℕ) → HasKnownEnds Known (block_of (l.role d)) (start_of (l.role d))
