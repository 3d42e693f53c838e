-- Lists that grow at their end, compared by the values of their items.
use Rattle.std.specs.Prelude.{◌≡◌, List, ◌++◌, map}

-- the new list is the old one followed by items whose values under f are more
pub record Appends {X Y : Type 0} (f : X → Y) (old new : List X) (more : List Y) : Type 0 where
  pub added : map f new ≡ map f old ++ more
