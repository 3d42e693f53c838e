-- Equality of entries of maps.
use Rattle.std.specs.Prelude.{ℕ, ◌≡◌}
use Rattle.std.specs.Global.{Vec}

-- the two entries have the same name, and their values are related by alike
abbrev pub AreNamedAlike : {X : Type 0} → (X → X → Type 0) → Vec ℕ × X → Vec ℕ × X → Type 0
AreNamedAlike alike e f = (e.0.items ≡ f.0.items) × alike e.1 f.1
