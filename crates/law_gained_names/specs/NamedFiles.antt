-- The program's file after one of its imports got a name.
use Rattle.std.specs.Prelude.{ℕ, ◌≡◌, List, [], ◌∷◌, Bool}
use Rattle.base_edits.specs.Edits.{edited_text}
use Rattle.go_ast.specs.declared.syntax.Kind.TheVariants as kind
use Rattle.go_ast.specs.FileView.{file_view}
use Rattle.go_ast.specs.Kinds.{kind_of_name}
use Rattle.go_ast.specs.SourceFile.{FileParts, IsSourceFile, SourceFile, offset_of, source_of}
use Rattle.law_rename.specs.Around.{around_by, file_with, from_on, import_with_name}
use Rattle.law_rename.specs.MayGain.{MayGain, inserted}
use Rattle.law_rename.specs.Named.{after_put, put_bytes}

-- `after` is the file `f` after its import, whose string literal is the token of index `number`, got the name.
pub record IsNamedFile (f : SourceFile) (number : ℕ) (name : List ℕ) (blank_first : Bool) (g : MayGain f number name blank_first) (after : FileParts) :
    Type 0 where
  pub path : after.path ≡ f.path
  pub cut : after.cut ≡ after_put g.put
  pub tree : file_view after.file ≡ file_with (import_with_name number) (around_by (from_on number) g.around)
  pub is_file : IsSourceFile (source_of after)
  pub text : edited_text (inserted (offset_of f number) (put_bytes g.put) ∷ []) f.cut.text ≡ after.cut.text

-- There is such a file.
abbrev pub NamedFilesExist : Type 0
NamedFilesExist = (before : FileParts) (number : ℕ) (name : List ℕ) (blank_first : Bool) → IsSourceFile (source_of before) →
    kind_of_name name ≡ kind.Name → (g : MayGain (source_of before) number name blank_first) →
    (after : FileParts) × IsNamedFile (source_of before) number name blank_first g after
