-- The files that have no tree.
use Rattle.std.specs.Prelude.{ℕ, List}
use Rattle.go_scanner.specs.declared.refusal.TextFault.{TextFault}

-- A file without a tree: its path, its text, and the first fault of the text.
pub record FaultyParts : Type 0 where
  pub path : List ℕ
  pub text : List ℕ
  pub fault : TextFault
