-- When a refusal to cut a text is right.
use Rattle.std.specs.Prelude.{ℕ, List}
use Rattle.go_scanner.specs.declared.refusal.ScanRefusal.{ScanRefusal}
use Rattle.go_scanner.specs.declared.refusal.ScanRefusal.TheVariants.{Fault, Memory}
use Rattle.go_scanner.specs.Cuts.{IsFirstFault}

-- a refusal by a fault names the first fault of the text; want of memory claims nothing
abbrev pub IsRefusalOfCut : List ℕ → ScanRefusal → Type 0
IsRefusalOfCut text (Fault fault) = IsFirstFault text fault
IsRefusalOfCut text Memory = Unit {0}
