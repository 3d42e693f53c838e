-- Identifiers whose token indices change, with their blocks and scopes.
use Rattle.std.specs.Prelude.{ℕ}
use Rattle.go_scope.specs.Moves.{moved_place, moved_role}
use Rattle.go_scope.specs.Site.{Site}

-- The identifier with all token indices changed by `move`, a function of the file's rank and the index.
abbrev pub moved_site : (ℕ → ℕ → ℕ) → Site → Site
moved_site move x = record { place = moved_place move x.place; name = x.name; role = moved_role move x.role }
