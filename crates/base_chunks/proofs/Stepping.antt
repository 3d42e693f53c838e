-- Iterators whose value is the list of the items that they have yet to give.
use Rattle.std.proofs.Common.{List, length, Option, Some, None, ap, arith}
use Rattle.std.proofs.iter.runs.Sources.{from_front}
use Rattle.std.specs.Iterator.{MakesProgress, at_most}
use Rattle.std.specs.Map.Iter.{TakesFirst, ShowsInOrder}

module _ {A X : Type 0} (shows : A → X) where
  -- what calls of `next` show, one after another
  pub shows_in_order : ShowsInOrder shows
  shows_in_order = from_front (TakesFirst shows) shows (λ s. s) (λ s t h. ap length h.0) (λ s x t h. h)

  pub first_progress : (s t : List X) (r : Option A) → TakesFirst shows s r t → MakesProgress (λ _. Unit {0}) (λ l. at_most (length l)) s r t
  first_progress s t None h = record { on = λ _. tt; keeps = tt; rests = λ _. tt }
  first_progress s t (Some x) h = record { on = λ _. (tt, tt, omega (arith, ap length h)); keeps = tt; rests = λ _. tt }
