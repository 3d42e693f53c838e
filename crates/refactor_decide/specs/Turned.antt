-- Which uses in other packages a rename turns: those of one declaration, which are all lost, or all captured by another declaration.
use Rattle.std.specs.Prelude.{ℕ, ◌≡◌, List, Option, Some, None, if◌then◌else◌, nat_lt}
use Rattle.types_check.specs.Exports.{DoesExport}
use Rattle.types_declared.specs.Package.{Package}
use Rattle.law_agreement.specs.Behind.{TurnsBehind}
use Rattle.refactor_decide.specs.declared.turned.TurnedUses.{TurnedUses}

-- Of all declarations that the package exports only that of `t` has uses that turn, and they turn as `t` says; none where none has.
abbrev pub TellsTurned : Package → (n : ℕ) → (name : List ℕ) → Option TurnedUses → Type 0
TellsTurned p n name None = (old : ℕ) (by : Option ℕ) → DoesExport p old → TurnsBehind p.layout p.names n name old by → ⊥
TellsTurned p n name (Some t) = TurnsBehind p.layout p.names n name t.declaration t.by ×
    ((old : ℕ) (by : Option ℕ) → DoesExport p old → TurnsBehind p.layout p.names n name old by → old ≡ t.declaration)

-- Of two declarations that would have one name the later one, which the earlier one captures.
abbrev pub later_of : ℕ → ℕ → TurnedUses
later_of n e = if nat_lt e n then record { declaration = n; by = Some e } else record { declaration = e; by = Some n }
