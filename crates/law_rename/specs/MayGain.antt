-- String literals of imports without a name, before which a name may be inserted.
use Rattle.std.specs.Prelude.{◌≡◌, ℕ, List, Bool, Some, slice_get}
use Rattle.base_edits.specs.declared.edit.Edit.{Edit}
use Rattle.go_scanner.specs.CutText.{tokens_in}
use Rattle.go_ast.specs.SourceFile.{SourceFile}
use Rattle.law_rename.specs.Around.{AroundImport, bare_import, file_with}
use Rattle.law_rename.specs.Named.{MayPut, NamePut, before_put, literal_piece}

-- The token of index `number` is the string literal of an import without a name, and `name` may be inserted before it. `blank_first` says
-- whether a blank is inserted before the name too.
pub record MayGain (f : SourceFile) (number : ℕ) (name : List ℕ) (blank_first : Bool) : Type 0 where
  pub put : NamePut
  pub around : AroundImport
  pub may : MayPut put
  pub named : put.name ≡ name
  pub blank : put.blank_first ≡ blank_first
  pub cut_is : f.cut ≡ before_put put
  pub tree_is : f.tree ≡ file_with (bare_import number) around
  pub literal : slice_get (tokens_in (before_put put)) number ≡ Some (literal_piece put)

-- The edit that inserts the bytes at an offset.
abbrev pub inserted : ℕ → List ℕ → Edit
inserted at bytes = record { span = record { start = at; end = at }; text = bytes }
