-- The program's identifiers and files as the definitions have them.
use Rattle.std.specs.Prelude.{◌≡◌, List, ◌++◌, map}
use Rattle.go_ast.specs.SourceFile as parsed
use Rattle.go_scope.specs.declared.model.Identifier.{Identifier}
use Rattle.go_scope.specs.declared.source.RankedFile.{RankedFile}
use Rattle.go_scope.specs.Site.{Site, TokenSpellings}

-- the identifier that the program's identifier stands for
abbrev pub site_of : Identifier → Site
site_of x = record { place = x.place; name = x.name.now; role = x.role }

-- the file that the program's file stands for
abbrev pub as_source : RankedFile → TokenSpellings
as_source f = record { rank = f.rank; spell = parsed.spelling_of (parsed.source_of f.tree.now) }

-- the list `new` is `old` with the identifiers `more` at its end
pub record AddsTo (old new : List Identifier) (more : List Site) : Type 0 where
  pub added : map site_of new ≡ map site_of old ++ more
