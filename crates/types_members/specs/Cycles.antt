-- Cycles of links, and values of numbers that show where cycles are.
use Rattle.std.specs.Prelude.{ℕ, suc, ◌≡◌, ◌<◌, ◌≤◌, Bool, true, List, length, slice_index_or, Contains}
use Rattle.std.specs.Global.{Vec}
use Rattle.types_declared.specs.Reachability.{LinksTo, IsReachable}

-- the number lies on a cycle: it leads back to itself
abbrev pub IsOnCycle : List (Vec ℕ) → ℕ → Type 0
IsOnCycle links number = IsReachable links (LinksTo links number) number

-- the number to is from, or links lead to it from there
abbrev pub LinksLeadTo : List (Vec ℕ) → ℕ → ℕ → Type 0
LinksLeadTo links from to = IsReachable links (λ q. q ≡ from) to

-- origins has for each number one that reaches it
pub record AreOrigins (links : List (Vec ℕ)) (origins : List ℕ) : Type 0 where
  pub size : length origins ≡ length links
  pub each : (q : ℕ) → q < length origins → LinksLeadTo links (slice_index_or origins q 0) q

-- every link of back is a reversed one of links
pub record IsReversed (links back : List (Vec ℕ)) : Type 0 where
  pub size : length back ≡ suc (length links)
  pub only : (a b : ℕ) → LinksTo back a b → LinksTo links b a

-- the values of the numbers are at most this one
abbrev pub AreAtMost : List ℕ → List ℕ → ℕ → Type 0
AreAtMost values numbers most = (q : ℕ) → Contains numbers q → slice_index_or values q 0 ≤ most

-- no number links to one with a greater value
abbrev pub NeverRises : List (Vec ℕ) → List ℕ → Type 0
NeverRises links values = (a b : ℕ) → LinksTo links a b → slice_index_or values b 0 ≤ slice_index_or values a 0

-- one of the numbers has this value
abbrev pub HasValueAmong : List ℕ → List ℕ → ℕ → Type 0
HasValueAmong values numbers value = (q : ℕ) × (Contains numbers q × (slice_index_or values q 0 ≡ value))

-- The values don't rise along links, if falls is true. The lists have for each number an origin that reaches it and an end that it reaches.
pub record AreComponents (links : List (Vec ℕ)) (values : List ℕ) (falls : Bool) (origins ends : List ℕ) : Type 0 where
  pub falling : falls ≡ true → NeverRises links values
  pub origin : (q : ℕ) → q < length links → LinksLeadTo links (slice_index_or origins q 0) q
  pub end : (q : ℕ) → q < length links → LinksLeadTo links q (slice_index_or ends q 0)
