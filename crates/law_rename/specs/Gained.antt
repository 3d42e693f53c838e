-- The identifiers of a package in which an import without a name gains one.
use Rattle.std.specs.Prelude.{◌≡◌, ℕ, ◌+◌, List, ◌∷◌, ◌++◌, Option, true, cond, length, map, nat_eq, slice_get}
use Rattle.go_scanner.specs.CutText.{CutText, tokens_in}
use Rattle.go_scope.specs.declared.model.Block.TheVariants.{File}
use Rattle.go_scope.specs.declared.model.Role.TheVariants.{Declaring, NotLexical}
use Rattle.go_scope.specs.declared.model.Purpose.TheVariants.{ImportPath, UnnamedImport}
use Rattle.go_scope.specs.FileSites.{SpelledFile, file_sites}
use Rattle.go_scope.specs.Named.{is_unnamed_import}
use Rattle.go_scope.specs.Site.{Site, sites_layout}
use Rattle.go_ast.specs.SourceFile.{spelling_at}
use Rattle.go_ast.specs.Tree.{FileTree}
use Rattle.law_rename.specs.Around.{AroundImport, around_by, bare_import, file_with, from_on, import_with_name}
use Rattle.law_rename.specs.Named.{NamePut, after_put, before_put}
use Rattle.law_rename.specs.MovedSites.{moved_site}

-- The bytes of the token of index `n`; none beyond the last token.
abbrev pub token_bytes : CutText → ℕ → List ℕ
token_bytes c n = spelling_at c.text (slice_get (tokens_in c) n)

-- The tree, with the bytes of the tokens of its text.
abbrev pub spelled_tree : CutText → FileTree → SpelledFile
spelled_tree c t = record { tree = t; spell = token_bytes c }

-- The identifiers of the file of that rank.
abbrev pub sites_in : ℕ → SpelledFile → List Site
sites_in rank f = file_sites (record { rank = rank; spell = f.spell }) f.tree

-- An import without a name that gains one: the rank of its file, the token index and the bytes of its string literal, and the name.
pub record Gain : Type 0 where
  pub rank : ℕ
  pub number : ℕ
  pub literal : List ℕ
  pub name : List ℕ

-- The index after the gain of the token of index `n` in the file of that rank. The name's token comes in before the literal's.
abbrev pub moved_by : Gain → ℕ → ℕ → ℕ
moved_by i file n = cond (nat_eq file i.rank) (from_on i.number n) n

-- The identifier of the import's string literal before the gain, which declares nothing.
abbrev pub unnamed_site : Gain → Site
unnamed_site i = record { place = record { file = i.rank; index = i.number }; name = i.literal; role = NotLexical UnnamedImport }

-- The declaring identifier of the import in its file, at the import's first token, with the given name.
abbrev pub import_site : Gain → List ℕ → Site
import_site i name = record { place = record { file = i.rank; index = i.number }; name = name; role = Declaring (File i.rank) 0 }

-- The identifier of the import's string literal after the gain, behind the name.
abbrev pub path_site : Gain → Site
path_site i = record { place = record { file = i.rank; index = i.number + 1 }; name = i.literal; role = NotLexical ImportPath }

-- The identifiers `new` are those of `old`, moved. In place of the one of number `at`, which is `stood`, there are two: the import's name
-- and its literal.
pub record HasGained (i : Gain) (stood : Site) (at : ℕ) (old new : List Site) : Type 0 where
  pub before : List Site
  pub behind : List Site
  pub placed : length before ≡ at
  pub old_is : old ≡ before ++ stood ∷ behind
  pub new_is : new ≡ map (moved_site (moved_by i)) before ++ import_site i i.name ∷ path_site i ∷ map (moved_site (moved_by i)) behind

-- The other imports without a name keep the names of their packages: `names` gives them by the old numbers of identifiers, and `later` by
-- the new ones.
abbrev pub KeepNames : ℕ → List Site → (ℕ → Option (List ℕ)) → (ℕ → Option (List ℕ)) → Type 0
KeepNames at old names later = (d : ℕ) → (d ≡ at → ⊥) → is_unnamed_import ((sites_layout old).role d) ≡ true → later (from_on at d) ≡ names d

-- The gain of the import whose string literal is the token of index `number` in the file of that rank.
abbrev pub gain_of : ℕ → ℕ → NamePut → Gain
gain_of rank number p = record { rank = rank; number = number; literal = p.literal; name = p.name }

-- The file before the gain, in which the literal is the path of an import without a name.
abbrev pub bare_file : ℕ → AroundImport → NamePut → SpelledFile
bare_file number a p = spelled_tree (before_put p) (file_with (bare_import number) a)

-- The file after the gain, in which the import has the name.
abbrev pub named_file : ℕ → AroundImport → NamePut → SpelledFile
named_file number a p = spelled_tree (after_put p) (file_with (import_with_name number) (around_by (from_on number) a))
