-- What functions are called and where fields stand, by the parts that the program goes over.
use Rattle.std.proofs.Common.{ℕ, ◌≡◌, ◌+◌, ◌-◌, ◌<◌, ◌≤◌, ◌∷◌, ◌++◌, [], List, None, ap, sym, ◌∙◌, refl, append_assoc, append-nil, length, length-append}
use Rattle.std.proofs.Common.{drop, take, map, get_or, arith, zero, suc, Bool, true, false, if◌then◌else◌}
use Rattle.std.specs.Prelude.{Some, option_map, slice_get}
use Rattle.std.proofs.Math.ListN.{drop_of_length-le}
use Rattle.std.proofs.lemmas.List.{drop_more}
use Rattle.go_ast.specs.declared.tree.Item as items
use Rattle.go_ast.specs.declared.tree.FieldDecl.{FieldDecl}
use Rattle.go_ast.specs.Tree.{Item}
use Rattle.go_ast.specs.View.{list_view}
use Rattle.go_ast.specs.FileView.{field_view}
use Rattle.go_ast.specs.SourceFile.{SourceFile}
use Rattle.types_declared.specs.declared.declared.Function.{Function}
use Rattle.types_declared.specs.DeclaredView.{function_of as placed_function}
use Rattle.types_expr.proofs.Items.{next_item}
use Rattle.build_object.specs.Lines.{FunctionName, Initializer}
use Rattle.build_object.specs.Names.{function_behind, function_called, functions_behind, initializers_among, initializers_with, is_initializer}
use Rattle.build_object.specs.Names.{names_of_fields, positions_from}

-- Functions

pub names_step : (path : List ℕ) (files : List SourceFile) (k n : ℕ) (fs : List Function) (i : ℕ) (f : Function) (now new total : List FunctionName) →
    i < length fs → f ≡ get_or fs i f →
    now ++ functions_behind path files k (map placed_function (drop i fs)) ≡ total → new ≡ now ++ (function_behind path files k (placed_function f) ∷ []) →
    n ≡ initializers_with files k (placed_function f) → new ++ functions_behind path files n (map placed_function (drop (i + 1) fs)) ≡ total
names_step path files k n fs i f now new total lt is h e m =
    ap (λ z. z ++ functions_behind path files n (map placed_function (drop (i + 1) fs))) e
    ∙ (append_assoc now (function_behind path files k (placed_function f) ∷ []) (functions_behind path files n (map placed_function (drop (i + 1) fs)))
    ∙ (ap (λ j. now ++ (function_behind path files k (placed_function f) ∷ functions_behind path files j (map placed_function (drop (i + 1) fs)))) m
    ∙ (ap (λ xs. now ++ functions_behind path files k (map placed_function xs)) (sym (next_item fs i f lt is)) ∙ h)))

-- how many of them are functions `init`

pub count_step : (files : List SourceFile) (k n : ℕ) (fs : List Function) (i : ℕ) (f : Function) (total : ℕ) → i < length fs → f ≡ get_or fs i f →
    initializers_among files k (map placed_function (drop i fs)) ≡ total → n ≡ initializers_with files k (placed_function f) →
    initializers_among files n (map placed_function (drop (i + 1) fs)) ≡ total
count_step files k n fs i f total lt is h m =
    ap (λ j. initializers_among files j (map placed_function (drop (i + 1) fs))) m
    ∙ (ap (λ xs. initializers_among files k (map placed_function xs)) (sym (next_item fs i f lt is)) ∙ h)

pub count_end : (files : List SourceFile) (k : ℕ) (fs : List Function) (i total : ℕ) → length fs ≤ i →
    initializers_among files k (map placed_function (drop i fs)) ≡ total → k ≡ total
count_end files k fs i total past h = ap (λ xs. initializers_among files k (map placed_function xs)) (sym (drop_of_length-le fs past)) ∙ h

-- what the function of a rank is called

name_at : (path : List ℕ) (files : List SourceFile) (k : ℕ) (fs : List Function) (n : ℕ) →
    slice_get (functions_behind path files k (map placed_function fs)) n
    ≡ option_map (λ f. function_behind path files (initializers_among files k (map placed_function (take n fs))) (placed_function f)) (slice_get fs n)
name_at path files k [] n = refl
name_at path files k (f ∷ fs) zero = refl
name_at path files k (f ∷ fs) (suc n) = name_at path files (initializers_with files k (placed_function f)) fs n

pub nothing_at : (path : List ℕ) (files : List SourceFile) (fs : List Function) (n : ℕ) → slice_get fs n ≡ None →
    None ≡ slice_get (functions_behind path files 0 (map placed_function fs)) n
nothing_at path files fs n none =
    sym (name_at path files 0 fs n
    ∙ ap (option_map (λ f. function_behind path files (initializers_among files 0 (map placed_function (take n fs))) (placed_function f))) none)

module _ (path : List ℕ) (files : List SourceFile) (fs : List Function) (n : ℕ) (f : Function) (at : slice_get fs n ≡ Some f) where
  behind : slice_get (functions_behind path files 0 (map placed_function fs)) n
      ≡ Some (function_behind path files (initializers_among files 0 (map placed_function (take n fs))) (placed_function f))
  behind = name_at path files 0 fs n
      ∙ ap (option_map (λ g. function_behind path files (initializers_among files 0 (map placed_function (take n fs))) (placed_function g))) at

  by_test : (b : Bool) (k : ℕ) → b ≡ true → (if b then Initializer path k else function_called path files (placed_function f)) ≡ Initializer path k
  by_test b k e = ap (λ c. if c then Initializer path k else function_called path files (placed_function f)) e

  by_other : (b : Bool) (k : ℕ) → b ≡ false → (if b then Initializer path k else function_called path files (placed_function f)) ≡
      function_called path files (placed_function f)
  by_other b k e = ap (λ c. if c then Initializer path k else function_called path files (placed_function f)) e

  pub initializer_at : (number : ℕ) → is_initializer files (placed_function f) ≡ true → number ≡ initializers_among files 0 (map placed_function (take n fs)) →
      Some (Initializer path number) ≡ slice_get (functions_behind path files 0 (map placed_function fs)) n
  initializer_at number is counted =
      ap (λ k. Some (Initializer path k)) counted
      ∙ sym (behind ∙ ap Some (by_test (is_initializer files (placed_function f)) (initializers_among files 0 (map placed_function (take n fs))) is))

  pub called_at : is_initializer files (placed_function f) ≡ false →
      Some (function_called path files (placed_function f)) ≡ slice_get (functions_behind path files 0 (map placed_function fs)) n
  called_at other =
      sym (behind ∙ ap Some (by_other (is_initializer files (placed_function f)) (initializers_among files 0 (map placed_function (take n fs))) other))

-- Fields

pub positions_length : {X : Type 0} (k : ℕ) (xs : List X) → length (positions_from k xs) ≡ length xs
positions_length k [] = refl
positions_length k (x ∷ xs) = ap suc (positions_length (suc k) xs)

positions_append : {X : Type 0} (k : ℕ) (xs ys : List X) → positions_from k (xs ++ ys) ≡ positions_from k xs ++ positions_from (k + length xs) ys
positions_append k [] ys = let e : k ≡ k + 0 = omega arith in ap (λ n. positions_from n ys) e
positions_append k (x ∷ xs) ys =
    let e : suc k + length xs ≡ k + suc (length xs) = omega arith in
    ap (λ z. k ∷ z) (positions_append (suc k) xs ys ∙ ap (λ n. positions_from (suc k) xs ++ positions_from n ys) e)

pub positions_within : (begin p : ℕ) (now new : List ℕ) → begin ≤ length now → new ≡ now ++ (p ∷ []) → begin ≤ length new
positions_within begin p now new h e = let grown : length new ≡ length now + 1 = ap length e ∙ length-append now (p ∷ []) in omega arith

pub no_name : items.Item ℕ
no_name = record { value = 0; separator = None }

module _ {X Y : Type 0} (view : X → Y) (begin : ℕ) (now total : List ℕ) (xs : List (items.Item X)) (i : ℕ) where
  pub positions_step : (new : List ℕ) (x : items.Item X) → begin ≤ length now → i < length xs →
      now ++ positions_from (length now - begin) (list_view view (drop i xs)) ≡ total → new ≡ now ++ ((length now - begin) ∷ []) →
      new ++ positions_from (length new - begin) (list_view view (drop (i + 1) xs)) ≡ total
  positions_step new x within lt h e =
      let grown : length new ≡ length now + 1 = ap length e ∙ length-append now ((length now - begin) ∷ []) in
      let next : length new - begin ≡ suc (length now - begin) = omega arith in
      ap (λ z. z ++ positions_from (length new - begin) (list_view view (drop (i + 1) xs))) e
      ∙ (append_assoc now ((length now - begin) ∷ []) (positions_from (length new - begin) (list_view view (drop (i + 1) xs)))
      ∙ (ap (λ k. now ++ ((length now - begin) ∷ positions_from k (list_view view (drop (i + 1) xs)))) next
      ∙ (ap (λ ys. now ++ positions_from (length now - begin) (list_view view ys)) (sym (drop_more xs i x lt)) ∙ h)))

  pub positions_end : length xs ≤ i → now ++ positions_from (length now - begin) (list_view view (drop i xs)) ≡ total → now ≡ total
  positions_end all h = sym (append-nil now) ∙
      (ap (λ ys. now ++ positions_from (length now - begin) (list_view view ys)) (sym (drop_of_length-le xs all)) ∙ h)

-- the names of the fields of a struct
abbrev pub struct_names : List (items.Item FieldDecl) → List (Item ℕ)
struct_names fs = names_of_fields (list_view field_view fs)

pub fields_within : (begin k : ℕ) (now new : List ℕ) (xs : List (Item ℕ)) → begin ≤ length now → new ≡ now ++ positions_from k xs → begin ≤ length new
fields_within begin k now new xs h e = let grown : length new ≡ length now + length (positions_from k xs) = ap length e ∙
    length-append now (positions_from k xs) in omega arith

pub fields_step : (begin : ℕ) (now new total : List ℕ) (fs : List (items.Item FieldDecl)) (i : ℕ) (f : items.Item FieldDecl) → begin ≤ length now →
    i < length fs →
    f ≡ get_or fs i f →
    now ++ positions_from (length now - begin) (struct_names (drop i fs)) ≡ total →
    new ≡ now ++ positions_from (length now - begin) (field_view f.value).names →
    new ++ positions_from (length new - begin) (struct_names (drop (i + 1) fs)) ≡ total
fields_step begin now new total fs i f within lt is h e =
    let grown : length new ≡ length now + length (field_view f.value).names = ap length e ∙
    (length-append now (positions_from (length now - begin) (field_view f.value).names)
    ∙ ap (λ n. length now + n) (positions_length (length now - begin) (field_view f.value).names)) in
    let next : length new - begin ≡ length now - begin + length (field_view f.value).names = omega arith in
    ap (λ z. z ++ positions_from (length new - begin) (struct_names (drop (i + 1) fs))) e
    ∙ (append_assoc now (positions_from (length now - begin) (field_view f.value).names) (positions_from (length new - begin) (struct_names (drop (i + 1) fs)))
    ∙ (ap (λ n. now ++ (positions_from (length now - begin) (field_view f.value).names ++ positions_from n (struct_names (drop (i + 1) fs)))) next
    ∙ (ap (λ z. now ++ z) (sym (positions_append (length now - begin) (field_view f.value).names (struct_names (drop (i + 1) fs))))
    ∙ (ap (λ ys. now ++ positions_from (length now - begin) (struct_names ys)) (sym (next_item fs i f lt is)) ∙ h))))

pub fields_end : (begin : ℕ) (now total : List ℕ) (fs : List (items.Item FieldDecl)) (i : ℕ) → length fs ≤ i →
    now ++ positions_from (length now - begin) (struct_names (drop i fs)) ≡ total → now ≡ total
fields_end begin now total fs i all h = sym (append-nil now) ∙
    (ap (λ ys. now ++ positions_from (length now - begin) (struct_names ys)) (sym (drop_of_length-le fs all)) ∙ h)
