-- The blocks that are no inner blocks, and their declarations.
use Rattle.std.specs.Prelude.{ℕ, Option, Some, None, [], ◌∷◌}
use Rattle.indexmap.specs.IndexMap.{IndexMap, get}
use Rattle.go_scope.specs.declared.model.Block.{Block}
use Rattle.go_scope.specs.declared.model.Block.TheVariants.{Universe, Package, File, Inner}
use Rattle.go_scope.specs.declared.outer_blocks.OuterBlock.{OuterBlock}
use Rattle.go_scope.specs.declared.outer_blocks.OuterBlock.TheVariants as outer
use Rattle.go_scope.specs.declared.outer_blocks.OuterName.{OuterName}
use Rattle.go_scope.specs.contracts.outer_blocks.OuterNamePartialEq.TheImpl as equal
use Rattle.go_scope.specs.Bindings.{Layout, Names}
use Rattle.go_scope.specs.Leading.{IsFirstIn}

-- the block as one that is no inner block, none for an inner block
abbrev pub outer_of : Block → Option OuterBlock
outer_of Universe = Some outer.Universe
outer_of Package = Some outer.Package
outer_of (File file) = Some (outer.File file)
outer_of (Inner file from to) = None

-- the block that a block which is no inner block stands for
abbrev pub block_in : OuterBlock → Block
block_in outer.Universe = Universe
block_in outer.Package = Package
block_in (outer.File file) = File file

-- `found` gives for each name's number and each such block the first of n identifiers that declares the name there
abbrev pub AreOuter : {S : Type 0} → Layout → Names → ℕ → IndexMap OuterName ℕ S → Type 0
AreOuter l names n found = (key : OuterName) → IsFirstIn l names (key.name ∷ []) (block_in key.block) n (get equal.ghosts.eq found key)
