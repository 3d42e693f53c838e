-- The marks of the path literals of a file's imports.
use Rattle.std.proofs.Common.{ℕ, ◌≡◌, ◌<◌, ◌+◌, inl, inr, Bool, List, length, take, get_or, refl, sym, ap, subst}
use Rattle.std.proofs.Common.{◌∙◌, arith}
use Rattle.std.specs.Prelude.{Contains}
use Rattle.std.proofs.lemmas.List.Elements.{Contains-get_or}
use Rattle.base_lemmas.proofs.Elements.{nothing_in}
use Rattle.go_ast.specs.SourceFile.{SourceFile}
use Rattle.workspace_graph.specs.FileImports.{import_literals, HasValue, ListsImports}
use Rattle.workspace_graph.specs.declared.file_imports.FileImport.{FileImport}
use Rattle.workspace_graph.proofs.Collected.{one_more, no_import, zip_at, zip_length}
use Rattle.refactor_move.specs.Steps.{NewMarks, IsLiteralAmong, AreMarksOf}

pub none_marked : (imports : List FileImport) (marks : List Bool) → NewMarks marks marks (IsLiteralAmong (take 0 imports))
none_marked imports marks = record { size = refl; each = λ i lt. ((λ t. inl t), (λ x. elim x [ inl t ↦ t | inr h ↦ absurd (nothing_in h.0 h.1) ])) }

pub next_marked : (imports : List FileImport) (k : ℕ) (item : FileImport) (first old new : List Bool) → k < length imports → item ≡ get_or imports k item →
    NewMarks first old (IsLiteralAmong (take k imports)) → NewMarks old new (λ i. i ≡ item.literal) → NewMarks first new (IsLiteralAmong (take (k + 1) imports))
next_marked imports k item first old new lt is h m = record {
  size = m.size ∙ h.size;
  each = λ i within.
      let inside : i < length old = subst (λ n. i < n) (sym h.size) within in
      let more = one_more (λ (x : FileImport) (j : ℕ). x.literal ≡ j) imports k item lt is i in (
        (λ t. elim ((m.each i inside).0 t) [
          | inl o ↦ elim ((h.each i within).0 o) [ inl f ↦ inl f | inr x ↦ inr (more.1 (inl x)) ]
          | inr e ↦ inr (more.1 (inr (sym e)))
        ]),
        (λ x. (m.each i inside).1 (elim x [
          | inl f ↦ inl ((h.each i within).1 (inl f))
          | inr y ↦ elim (more.0 y) [ inl z ↦ inl ((h.each i within).1 (inr z)) | inr e ↦ inr (sym e) ]
        ])),
      );
}

abbrev pub tells : SourceFile → ℕ → FileImport → Type 0
tells file token found = (found.literal ≡ token) × HasValue file token found.path

literal_of_import : (file : SourceFile) (imports : List FileImport) → ListsImports file imports → (i : ℕ) → IsLiteralAmong imports i →
    Contains (import_literals file.tree) i
literal_of_import file imports lists i x =
    let lits = import_literals file.tree in
    let k = x.1.0 in
    let within : k < length lits = omega (arith, x.1.1, zip_length (tells file) lits imports lists) in
    let told : tells file (get_or lits k i) (get_or imports k x.0) = zip_at (tells file) lits imports lists k i x.0 within in
    subst (Contains lits) (sym told.0 ∙ ap (λ (f : FileImport). f.literal) x.1.2 ∙ x.2) (Contains-get_or lits k i within)

pub import_of_literal : (file : SourceFile) (imports : List FileImport) → ListsImports file imports → (i : ℕ) → Contains (import_literals file.tree) i →
    IsLiteralAmong imports i
import_of_literal file imports lists i has =
    let lits = import_literals file.tree in
    let k = has.0 in
    let told : tells file (get_or lits k i) (get_or imports k no_import) = zip_at (tells file) lits imports lists k i no_import has.1 in
    (get_or imports k no_import, Contains-get_or imports k no_import (omega (arith, has.1, zip_length (tells file) lits imports lists)), told.0 ∙ has.2)

pub all_marked : (file : SourceFile) (imports : List FileImport) (count : ℕ) (old new : List Bool) → ListsImports file imports →
    AreMarksOf (λ i. ⊥) count old → NewMarks old new (IsLiteralAmong imports) → AreMarksOf (Contains (import_literals file.tree)) count new
all_marked file imports count old new lists none h = record {
  size = h.size ∙ none.size;
  each = λ i lt.
      let inside : i < length old = subst (λ n. i < n) h.size lt in (
        (λ t. elim ((h.each i inside).0 t) [ inl o ↦ absurd ((none.each i inside).0 o) | inr x ↦ literal_of_import file imports lists i x ]),
        (λ has. (h.each i inside).1 (inr (import_of_literal file imports lists i has))),
      );
}
