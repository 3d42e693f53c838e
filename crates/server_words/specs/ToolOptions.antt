-- The options of the subcommands that read a folder of Go files, from what the parser of command lines found.
use Rattle.std.specs.Prelude.{◌≡◌, ◌↔◌, List, Option, Some, None, IsTrue, codes}
use Rattle.clap.specs.Words.{Row, first_of}
use Rattle.server_words.specs.declared.tools.RenameOptions.{RenameOptions}
use Rattle.server_words.specs.declared.tools.MoveOptions.{MoveOptions}
use Rattle.server_words.specs.declared.tools.UsesOptions.{UsesOptions}
use Rattle.server_words.specs.declared.tools.FaultsOptions.{FaultsOptions}
use Rattle.server_words.specs.declared.tools.LspOptions.{LspOptions}

-- the options of `rename`
pub record AreRenameOptions (rows : List Row) (options : RenameOptions) : Type 0 where
  pub root : first_of (codes "root") rows ≡ Some options.root.now
  pub dry_run : IsTrue options.dry_run ↔ (first_of (codes "dry-run") rows ≡ Some (codes "true"))
  pub place : first_of (codes "PLACE") rows ≡ Some options.place.now
  pub name : first_of (codes "NAME") rows ≡ Some options.name.now

-- the options of `move`
pub record AreMoveOptions (rows : List Row) (options : MoveOptions) : Type 0 where
  pub root : first_of (codes "root") rows ≡ Some options.root.now
  pub dry_run : IsTrue options.dry_run ↔ (first_of (codes "dry-run") rows ≡ Some (codes "true"))
  pub from : first_of (codes "FROM") rows ≡ Some options.from.now
  pub to : first_of (codes "TO") rows ≡ Some options.to.now

-- the options of `uses`
pub record AreUsesOptions (rows : List Row) (options : UsesOptions) : Type 0 where
  pub root : first_of (codes "root") rows ≡ Some options.root.now
  pub place : first_of (codes "PLACE") rows ≡ Some options.place.now

-- the options of `faults`
abbrev pub AreFaultsOptions : List Row → FaultsOptions → Type 0
AreFaultsOptions rows options = first_of (codes "root") rows ≡ Some options.root.now

-- the options of `lsp`
abbrev pub AreLspOptions : List Row → LspOptions → Type 0
AreLspOptions rows options = first_of (codes "root") rows ≡ Some options.root.now

-- the options of `rename`, or none where one is missing
abbrev pub FindsRename : List Row → Option RenameOptions → Type 0
FindsRename rows (Some options) = AreRenameOptions rows options
FindsRename rows None = (options : RenameOptions) → AreRenameOptions rows options → ⊥

-- the options of `move`, or none where one is missing
abbrev pub FindsMove : List Row → Option MoveOptions → Type 0
FindsMove rows (Some options) = AreMoveOptions rows options
FindsMove rows None = (options : MoveOptions) → AreMoveOptions rows options → ⊥

-- the options of `uses`, or none where one is missing
abbrev pub FindsUses : List Row → Option UsesOptions → Type 0
FindsUses rows (Some options) = AreUsesOptions rows options
FindsUses rows None = (options : UsesOptions) → AreUsesOptions rows options → ⊥

-- the options of `faults`, or none where one is missing
abbrev pub FindsFaults : List Row → Option FaultsOptions → Type 0
FindsFaults rows (Some options) = AreFaultsOptions rows options
FindsFaults rows None = (options : FaultsOptions) → AreFaultsOptions rows options → ⊥

-- the options of `lsp`, or none where one is missing
abbrev pub FindsLsp : List Row → Option LspOptions → Type 0
FindsLsp rows (Some options) = AreLspOptions rows options
FindsLsp rows None = (options : LspOptions) → AreLspOptions rows options → ⊥
