-- The program's file after one of its imports got a name.
use Rattle.std.proofs.Common.{ℕ, ◌≡◌, ◌+◌, ◌-◌, ◌++◌, Bool, List, [], ◌∷◌, length, take, drop, ap, sym, subst, refl, ◌∙◌, arith}
use Rattle.std.specs.Prelude.{slice_get}
use Rattle.std.specs.List.{slice_range}
use Rattle.std.proofs.lemmas.List.{drop_at, take_at}
use Rattle.base_edits.specs.Edits.{edited_text}
use Rattle.go_scanner.specs.CutText.{CutText, tokens_in}
use Rattle.go_ast.specs.declared.syntax.Kind.TheVariants as kind
use Rattle.go_ast.specs.Kinds.{kind_of_name}
use Rattle.go_ast.specs.SourceFile.{FileParts, IsSourceFile, SourceFile, offset_at, offset_of, source_of}
use Rattle.go_ast.specs.Tree.{FileTree}
use Rattle.law_rename.specs.Around.{around_by, bare_import, file_with, from_on, import_with_name}
use Rattle.law_rename.specs.MayGain.{MayGain, inserted}
use Rattle.law_rename.specs.Named.{after_put, before_put, put_bytes}
use Rattle.law_rename.specs.Renumbered.{import_by, renumbered}
use Rattle.law_rename.proofs.WholeFile.{source_kept}
use Rattle.law_gained_names.specs.NamedFiles.{IsNamedFile, NamedFilesExist}
use Rattle.law_gained_names.specs.ProgramTrees.{HasProgramTree, ImportsMayChange, TokenNumbersMayChange}
use Rattle.law_gained_names.proofs.Around.{renumbered_around}
use Rattle.law_gained_names.proofs.Files.{token_numbers_may_change}
use Rattle.law_gained_names.proofs.Imports.{imports_may_change}

-- the text

put_after : (front put rest : List ℕ) → edited_text (inserted (length front) put ∷ []) (front ++ rest) ≡ front ++ (put ++ rest)
put_after front put rest =
    let whole = front ++ rest in
    let kept : slice_range whole 0 (length front) ≡ front =
    ap (λ k. take k whole) (let e : length front - 0 ≡ length front = omega arith in e) ∙ take_at front rest (length front) refl in
    ap (λ xs. xs ++ (put ++ drop (length front) whole)) kept ∙ ap (λ ys. front ++ (put ++ ys)) (drop_at front rest (length front) refl)

module _ (f : SourceFile) (number : ℕ) (name : List ℕ) (blank_first : Bool) (g : MayGain f number name blank_first) where
  begins : offset_of f number ≡ length g.put.front
  begins =
      ap (λ (c : CutText). offset_at c.text (slice_get (tokens_in c) number)) g.cut_is
      ∙ ap (offset_at (before_put g.put).text) g.literal

  text_put : edited_text (inserted (offset_of f number) (put_bytes g.put) ∷ []) f.cut.text ≡ (after_put g.put).text
  text_put =
      ap (λ n. edited_text (inserted n (put_bytes g.put) ∷ []) f.cut.text) begins
      ∙ ap (λ (c : CutText). edited_text (inserted (length g.put.front) (put_bytes g.put) ∷ []) c.text) g.cut_is
      ∙ put_after g.put.front (put_bytes g.put) (g.put.literal ++ g.put.rest)

  abbrev new_tree : FileTree
  new_tree = file_with (import_with_name number) (around_by (from_on number) g.around)

  new_source : IsSourceFile f → kind_of_name name ≡ kind.Name → IsSourceFile (record { path = f.path; cut = after_put g.put; tree = new_tree })
  new_source is named =
      let same : f ≡ record { path = f.path; cut = before_put g.put; tree = file_with (bare_import number) g.around } =
      λ m. record { path = f.path; cut = g.cut_is m; tree = g.tree_is m } in
      source_kept f.path g.put number g.around g.may g.literal (ap kind_of_name g.named ∙ named) (subst IsSourceFile same is)

module _ (numbers : TokenNumbersMayChange) (change : ImportsMayChange) (before : FileParts) (number : ℕ) (name : List ℕ) (blank_first : Bool)
    (is : IsSourceFile (source_of before)) (named : kind_of_name name ≡ kind.Name) (g : MayGain (source_of before) number name blank_first) where
  moved : HasProgramTree (file_with (import_by (from_on number) (bare_import number)) (around_by (from_on number) g.around))
  moved =
      subst HasProgramTree
      (ap (renumbered (from_on number)) g.tree_is ∙ renumbered_around (from_on number) (bare_import number) g.around)
      (numbers (from_on number) before.file)

  shown : HasProgramTree (new_tree (source_of before) number name blank_first g)
  shown =
      change moved.file (import_by (from_on number) (bare_import number)) (import_with_name number) (around_by (from_on number) g.around) moved.shows

  after : FileParts
  after = record { path = before.path; cut = after_put g.put; file = shown.file }

  after_named : IsNamedFile (source_of before) number name blank_first g after
  unfolding after
  after_named = record {
    path = refl;
    cut = refl;
    tree = shown.shows;
    is_file =
        subst (λ t. IsSourceFile (record { path = before.path; cut = after_put g.put; tree = t })) (sym shown.shows)
        (new_source (source_of before) number name blank_first g is named);
    text = text_put (source_of before) number name blank_first g;
  }

by_laws : TokenNumbersMayChange → ImportsMayChange → NamedFilesExist
by_laws numbers change before number name blank_first is named g =
    (after numbers change before number name blank_first is named g, after_named numbers change before number name blank_first is named g)

pub named_files_exist : NamedFilesExist
named_files_exist = by_laws token_numbers_may_change imports_may_change
