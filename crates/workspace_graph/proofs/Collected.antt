-- Rows of package numbers that are being collected, and the imports that they come from.
use Rattle.std.proofs.Common.{◌≡◌, ℕ, zero, suc, ◌<◌, ◌+◌, ◌↔◌, ◌⊎◌, List, [], ◌∷◌, ◌++◌, length, take, Option, Some, None, slice_get, get_or, refl, sym}
use Rattle.std.proofs.Common.{ap, subst, ◌∙◌, ⊎_elim, inl, inr, arith, Global, eqb}
use Rattle.std.specs.Prelude.{Vec}
use Rattle.std.specs.List.{Contains, AllZip}
use Rattle.std.specs.List.Sorted.{IsPermutation, IsSorted}
use Rattle.std.specs.List.{dedup}
use Rattle.std.specs.Ordering.{nat_cmp}
use Rattle.std.proofs.lemmas.List.Elements.{Contains-push, Contains-push_cases, Contains-append_left, Contains-append_right, Contains-append_cases}
use Rattle.std.proofs.lemmas.List.Elements.{Contains-get_or}
use Rattle.std.proofs.lemmas.List.{take_more}
use Rattle.std.proofs.lemmas.List.Sorted.{Contains-permutation, IsPermutation-sym}
use Rattle.std.proofs.lemmas.List.Kept.{Contains-dedup_nat, Contains-from_dedup}
use Rattle.std.proofs.lemmas.Map.Keys.{IsStrictlyIncreasing-dedup}
use Rattle.std.proofs.lemmas.Option.{none-some}
use Rattle.base_lemmas.proofs.Elements.{nothing_in}
use Rattle.go_scanner.specs.declared.piece.Piece.{Piece}
use Rattle.go_scanner.specs.Cuts.{bytes_of}
use Rattle.go_scanner.specs.CutText.{tokens_in}
use Rattle.go_scanner.proofs.StringValueLemmas.{one_string_value}
use Rattle.go_ast.specs.SourceFile.{SourceFile, FileParts, source_of}
use Rattle.workspace_graph.specs.FileImports.{import_literals, HasValue, HasPieceValue, ListsImports}
use Rattle.workspace_graph.specs.Imports.{ListsExactly}
use Rattle.workspace_graph.specs.ImportPaths.{bytes_of_paths, ListsPaths, IsOneOf, AnyImports}
use Rattle.workspace_graph.specs.Packages.{ImportsPath}
use Rattle.workspace_graph.specs.Rows.{AddsNumbers, ImportsNumber, AnyImportsNumber, IsRow}
use Rattle.workspace_graph.specs.declared.file_imports.FileImport.{FileImport}

-- ---- numbers
pub adds_one : (P : ℕ → Type 0) (old : List ℕ) (n : ℕ) → P n → ((j : ℕ) → P j → j ≡ n) → AddsNumbers P old (old ++ n ∷ [])
adds_one P old n here only j = (
  λ has. ⊎_elim (λ (o : Contains old j). inl o) (λ (e : n ≡ j). inr (subst P e here)) (Contains-push_cases old n j has),
  λ either. ⊎_elim
      (λ (o : Contains old j). Contains-append_left old (n ∷ []) j o)
      (λ (p : P j). subst (Contains (old ++ n ∷ [])) (sym (only j p)) (Contains-push old n))
      either,
)

pub adds_none : (P : ℕ → Type 0) (old : List ℕ) → ((j : ℕ) → P j → ⊥) → AddsNumbers P old old
adds_none P old not j = (λ has. inl has, λ either. ⊎_elim (λ (o : Contains old j). o) (λ (p : P j). absurd (not j p)) either)

-- ---- one element more of a list
pub more_cases : {X : Type 0} (xs : List X) (k : ℕ) (d x : X) → k < length xs → Contains (take (k + 1) xs) x → Contains (take k xs) x ⊎ (get_or xs k d ≡ x)
more_cases xs k d x within has = Contains-push_cases (take k xs) (get_or xs k d) x (subst (λ ys. Contains ys x) (take_more xs k d within) has)

one_more_at : {X : Type 0} (R : X → ℕ → Type 0) (xs : List X) (k : ℕ) (d : X) → k < length xs → (j : ℕ)
    → ((x : X) × Contains (take (k + 1) xs) x × R x j) ↔ (((x : X) × Contains (take k xs) x × R x j) ⊎ R (get_or xs k d) j)
one_more_at R xs k d within j = (
  λ w. ⊎_elim (λ (o : Contains (take k xs) w.0). inl (w.0, o, w.2)) (λ (e : get_or xs k d ≡ w.0). inr (subst (λ x. R x j) (sym e) w.2))
      (more_cases xs k d w.0 within w.1),
  λ either. ⊎_elim
      (λ w. (w.0, subst (λ ys. Contains ys w.0) (sym (take_more xs k d within)) (Contains-append_left (take k xs) (get_or xs k d ∷ []) w.0 w.1), w.2))
      (λ r. (get_or xs k d, subst (λ ys. Contains ys (get_or xs k d)) (sym (take_more xs k d within)) (Contains-push (take k xs) (get_or xs k d)), r))
      either,
)

pub one_more : {X : Type 0} (R : X → ℕ → Type 0) (xs : List X) (k : ℕ) (item : X) → k < length xs → item ≡ get_or xs k item → (j : ℕ)
    → ((x : X) × Contains (take (k + 1) xs) x × R x j) ↔ (((x : X) × Contains (take k xs) x × R x j) ⊎ R item j)
one_more R xs k item within is j = subst (λ (y : _).
    ((x : _) × Contains (take (k + 1) xs) x × R x j) ↔ (((x : _) × Contains (take k xs) x × R x j) ⊎ R y j)) (sym is) (one_more_at R xs k item within j)

-- ---- the element of the other list at an index
abbrev pub no_import : FileImport
no_import = record { literal = 0; path = None }

pub zip_at : {A B : Type 0} (R : A → B → Type 0) (xs : List A) (ys : List B) → AllZip R xs ys → (k : ℕ) (d : A) (e : B) → k < length xs →
    R (get_or xs k d) (get_or ys k e)
zip_at R [] ys all k d e h = absurd (omega arith)
zip_at R (x ∷ xs) [] all k d e h = absurd all
zip_at R (x ∷ xs) (y ∷ ys) all zero d e h = all.0
zip_at R (x ∷ xs) (y ∷ ys) all (suc k) d e h = zip_at R xs ys all.1 k d e (omega arith)

pub zip_length : {A B : Type 0} (R : A → B → Type 0) (xs : List A) (ys : List B) → AllZip R xs ys → length xs ≡ length ys
zip_length R [] [] all = refl
zip_length R [] (y ∷ ys) all = absurd all
zip_length R (x ∷ xs) [] all = absurd all
zip_length R (x ∷ xs) (y ∷ ys) all = ap suc (zip_length R xs ys all.1)

-- The package of that number has the path of the import.
abbrev pub HasNumber : {Z : Type 0} → List (List ℕ) → ℕ → Option (Vec ℕ Z) → Type 0
HasNumber paths j None = ⊥
HasNumber paths j (Some value) = slice_get paths j ≡ Some value.items

value_at : (file : SourceFile) (token : ℕ) (paths : List (List ℕ)) (j : ℕ) (value : Option (Vec ℕ Global)) (piece : Option Piece) →
    Contains (import_literals file.tree) token → slice_get (tokens_in file.cut) token ≡ piece → HasPieceValue file.cut.text piece value →
    HasNumber paths j value
    → (q : List ℕ) × (slice_get paths j ≡ Some q) × ImportsPath file q
value_at file token paths j None piece has at stands number = absurd number
value_at file token paths j (Some v) None has at stands number = absurd (none-some v (sym stands))
value_at file token paths j (Some v) (Some p) has at stands number =
    (v.items, number, record { token = token; literal = has; piece = p; at = at; is_string = stands.0; value = stands.1 })

number_at : (file : SourceFile) (q : List ℕ) (paths : List (List ℕ)) (j : ℕ) (value : Option (Vec ℕ Global)) (i : ImportsPath file q) →
    HasPieceValue file.cut.text (Some i.piece) value → slice_get paths j ≡ Some q → HasNumber paths j value
number_at file q paths j None i stands at = absurd (stands i.is_string)
number_at file q paths j (Some v) i stands at = at ∙ ap Some (one_string_value (bytes_of file.cut.text i.piece) q v.items i.value stands.1)

abbrev tells : SourceFile → ℕ → FileImport → Type 0
tells file token found = (found.literal ≡ token) × HasValue file token found.path

-- One of the imports has the path of the package of that number.
abbrev AreImported : List (List ℕ) → List FileImport → ℕ → Type 0
AreImported paths imports j = (found : FileImport) × Contains imports found × HasNumber paths j found.path

imported : (file : SourceFile) (paths : List (List ℕ)) (imports : List FileImport) → ListsImports file imports → (j : ℕ) (q : List ℕ) →
    slice_get paths j ≡ Some q → ImportsPath file q → AreImported paths imports j
imported file paths imports lists j q at i =
    let lits = import_literals file.tree in
    let k = i.literal.0 in
    let told : tells file (get_or lits k i.token) (get_or imports k no_import) = zip_at (tells file) lits imports lists k i.token no_import i.literal.1 in
    let stands : HasValue file i.token (get_or imports k no_import).path =
    subst (λ (n : ℕ). HasValue file n (get_or imports k no_import).path) i.literal.2 told.1 in
    let here : HasPieceValue file.cut.text (Some i.piece) (get_or imports k no_import).path =
    subst (λ (p : Option Piece). HasPieceValue file.cut.text p (get_or imports k no_import).path) i.at stands in (
      get_or imports k no_import,
      Contains-get_or imports k no_import (omega (arith, i.literal.1, zip_length (tells file) lits imports lists)),
      number_at file q paths j (get_or imports k no_import).path i here at,
    )

imports_path : (file : SourceFile) (paths : List (List ℕ)) (imports : List FileImport) → ListsImports file imports → (j : ℕ) (found : FileImport) →
    Contains imports found → HasNumber paths j found.path → (q : List ℕ) × (slice_get paths j ≡ Some q) × ImportsPath file q
imports_path file paths imports lists j found has number =
    let lits = import_literals file.tree in
    let k = has.0 in
    let within : k < length lits = omega (arith, has.1, zip_length (tells file) lits imports lists) in
    let told : tells file (get_or lits k 0) (get_or imports k found) = zip_at (tells file) lits imports lists k 0 found within in
    let stands : HasValue file (get_or lits k 0) found.path = subst (λ (f : FileImport). HasValue file (get_or lits k 0) f.path) has.2 told.1 in
    value_at file (get_or lits k 0) paths j found.path (slice_get (tokens_in file.cut) (get_or lits k 0)) (Contains-get_or lits k 0 within) refl stands number

pub are_imports : (file : FileParts) (paths : List (List ℕ)) (imports : List FileImport) → ListsImports (source_of file) imports → (j : ℕ) →
    ImportsNumber paths file j ↔ AreImported paths imports j
are_imports file paths imports lists j = (
  λ w. imported (source_of file) paths imports lists j w.0 w.1 w.2,
  λ w. imports_path (source_of file) paths imports lists j w.0 w.1 w.2,
)

-- ---- the row in order
pub row_is : (paths : List (List ℕ)) (files : List FileParts) (found sorted row : List ℕ) → ListsExactly found (AnyImportsNumber paths files) →
    IsPermutation found sorted → IsSorted nat_cmp sorted → row ≡ dedup eqb sorted → IsRow paths files row
row_is paths files found sorted row holds same order is = rw is (record {
  each = λ j. (
    λ has. (holds j).0 (Contains-permutation sorted found j (IsPermutation-sym found sorted same) (Contains-from_dedup eqb sorted j has)),
    λ some. Contains-dedup_nat sorted j (Contains-permutation found sorted j same ((holds j).1 some)),
  );
  rising = IsStrictlyIncreasing-dedup sorted order;
})

-- ---- the packages of some paths
-- those of the paths that are not left were added
abbrev pub AreLeft : List (List ℕ) → List (List ℕ) → List (List ℕ) → List ℕ → Type 0
AreLeft paths some left row = (j : ℕ) → IsOneOf paths some j ↔ (Contains row j ⊎ IsOneOf paths left j)

pub left_all : (paths some : List (List ℕ)) (numbers : List ℕ) → numbers ≡ [] → AreLeft paths some some numbers
left_all paths some numbers empty j = (
  λ one. inr one,
  λ either.
      ⊎_elim (λ (has : Contains numbers j). absurd (nothing_in j (subst (λ (l : List ℕ). Contains l j) empty has))) (λ (one : IsOneOf paths some j). one)
      either,
)

one_later : (paths : List (List ℕ)) (path : List ℕ) (left : List (List ℕ)) (j : ℕ) → IsOneOf paths left j → IsOneOf paths (path ∷ left) j
one_later paths path left j one = (one.0, (Contains-append_right (path ∷ []) left one.0 one.1.0, one.1.1))

one_here : (paths : List (List ℕ)) (path : List ℕ) (left : List (List ℕ)) (j : ℕ) → slice_get paths j ≡ Some path → IsOneOf paths (path ∷ left) j
one_here paths path left j at = (path, (Contains-append_left (path ∷ []) left path (Contains-push [] path), at))

one_cases : (paths : List (List ℕ)) (path : List ℕ) (left : List (List ℕ)) (j : ℕ) → IsOneOf paths (path ∷ left) j → (slice_get paths j ≡ Some path) ⊎
    IsOneOf paths left j
one_cases paths path left j one = ⊎_elim
    (λ (first : Contains (path ∷ []) one.0). ⊎_elim
    (λ (none : Contains [] one.0). absurd (nothing_in one.0 none))
    (λ (same : path ≡ one.0). inl (one.1.1 ∙ ap Some (sym same)))
    (Contains-push_cases [] path one.0 first))
    (λ (later : Contains left one.0). inr (one.0, (later, one.1.1)))
    (Contains-append_cases (path ∷ []) left one.0 one.1.0)

pub left_more : (paths some : List (List ℕ)) (path : List ℕ) (left : List (List ℕ)) (old new : List ℕ) → AreLeft paths some (path ∷ left) old →
    AddsNumbers (λ j. slice_get paths j ≡ Some path) old new → AreLeft paths some left new
left_more paths some path left old new are adds j = (
  λ one. ⊎_elim
      (λ (has : Contains old j). inl ((adds j).1 (inl has)))
      (λ (rest : IsOneOf paths (path ∷ left) j). ⊎_elim (λ (at : slice_get paths j ≡ Some path). inl ((adds j).1 (inr at)))
      (λ (later : IsOneOf paths left j). inr later) (one_cases paths path left j rest))
      ((are j).0 one),
  λ either. (are j).1 (⊎_elim
      (λ (has : Contains new j). ⊎_elim (λ (o : Contains old j). inl o) (λ (at : slice_get paths j ≡ Some path). inr (one_here paths path left j at))
      ((adds j).0 has))
      (λ (later : IsOneOf paths left j). inr (one_later paths path left j later))
      either),
)

pub left_none : (paths some : List (List ℕ)) (row : List ℕ) → AreLeft paths some [] row → ListsExactly row (IsOneOf paths some)
left_none paths some row are j = (
  λ has. (are j).1 (inl has),
  λ one. ⊎_elim (λ (has : Contains row j). has) (λ (none : IsOneOf paths [] j). absurd (nothing_in none.0 none.1.0)) ((are j).0 one),
)

-- the packages of the paths that files import are those that the files import
pub numbers_held : (paths : List (List ℕ)) (files : List FileParts) (keys : List (Vec ℕ Global)) (row : List ℕ) → ListsPaths (AnyImports files) keys →
    ListsExactly row (IsOneOf paths (bytes_of_paths keys)) → ListsExactly row (AnyImportsNumber paths files)
numbers_held paths files keys row imports holds j = (
  λ has.
      let one = (holds j).0 has in
      let some = (imports.each one.0).0 one.1.0 in
      (some.0, some.1.0, (one.0, one.1.1, some.1.1)),
  λ some. (holds j).1 (some.2.0, ((imports.each some.2.0).1 (some.0, (some.1, some.2.2)), some.2.1)),
)
