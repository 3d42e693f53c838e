-- Code that stays within its function: each jump leads to one of its lines, and each parameter or local has one of its slots.
use Rattle.std.specs.Prelude.{ℕ, suc, ◌≡◌, ◌<◌, ◌≤◌, ⊤, List, ◌∷◌, ◌++◌, length}
use Rattle.build_object.specs.Lines.{CodeLine, Local, LocalAddress, Set, Jump, JumpUnless, JumpIf, JumpBack}
use Rattle.build_object.specs.Objects.{ObjectFunction}

-- The line fits in a function with so many slots. `before` of its lines stand before this one, and `behind` stand behind it.
abbrev pub FitsAt : (slots before behind : ℕ) → CodeLine → Type 0
FitsAt slots before behind (Local slot) = slot < slots
FitsAt slots before behind (LocalAddress slot) = slot < slots
FitsAt slots before behind (Set slot) = slot < slots
FitsAt slots before behind (Jump n) = n < behind
FitsAt slots before behind (JumpUnless n) = n < behind
FitsAt slots before behind (JumpIf n) = n < behind
FitsAt slots before behind (JumpBack n) = n ≤ suc before
FitsAt slots before behind line = ⊤

-- Each line of the function fits in it.
abbrev pub HasFittingCode : ObjectFunction → Type 0
HasFittingCode f = (before behind : List CodeLine) (line : CodeLine) → f.code ≡ before ++ (line ∷ behind) → FitsAt f.slots (length before) (length behind) line
