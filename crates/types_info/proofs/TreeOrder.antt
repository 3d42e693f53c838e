-- The tokens in the trees of parsed files are in order.
use Rattle.std.proofs.Common.{ℕ, ◌≡◌, ◌+◌, ◌<◌, inl, inr, List, length, get_or, ap, sym, subst, refl, ◌∙◌, arith}
use Rattle.std.specs.Prelude.{Some, slice_get, map, option_map}
use Rattle.std.proofs.lemmas.Bool.{cases_lt}
use Rattle.std.proofs.lemmas.Option.{slice_get_within, slice_get_read, slice_get-map, same_Some}
use Rattle.std.proofs.Math.ListN.{length-map}
use Rattle.go_ast.specs.Flatten.{flatten}
use Rattle.go_ast.specs.SourceFile.{SourceFile, FileParts, IsSourceFile, source_of}
use Rattle.go_scope.specs.Trees.{AreRising}
use Rattle.go_scope.proofs.Declared.{file_numbered}
use Rattle.types_info.specs.Uniqueness.{TokensRise}

abbrev pub InOrderBelow : List FileParts → ℕ → Type 0
InOrderBelow files n = (file : ℕ) (s : SourceFile) → file < n → slice_get (map source_of files) file ≡ Some s → AreRising 0 (flatten s.tree)

pub none_in_order : (files : List FileParts) → InOrderBelow files 0
none_in_order files file s lt at = absurd (omega arith)

pub next_in_order : (files : List FileParts) (n : ℕ) (x : FileParts) → n < length files → x ≡ get_or files n x → IsSourceFile (source_of x) →
    InOrderBelow files n → InOrderBelow files (n + 1)
next_in_order files n x lt ex is h file s below at = elim (cases_lt file n) [
  | inl before ↦ h file s before at
  | inr ge ↦
      let same : n ≡ file = omega arith in
      let here : slice_get (map source_of files) file ≡ Some (source_of x) =
      ap (slice_get (map source_of files)) (sym same) ∙ slice_get-map source_of files n ∙
      ap (option_map source_of) (slice_get_read files (length files) n x refl lt ex) in
      subst (λ z. AreRising 0 (flatten z.tree)) (same_Some (source_of x) s (sym here ∙ at)) (file_numbered x is).rising
]

pub all_in_order : (files : List FileParts) (n : ℕ) → n ≡ length files → InOrderBelow files n → TokensRise (map source_of files)
all_in_order files n e h = λ file s at.
    let lt : file < length (map source_of files) = slice_get_within (map source_of files) file s at in
    let size : length (map source_of files) ≡ length files = length-map files source_of in
    h file s (omega (arith, lt, size, e)) at
