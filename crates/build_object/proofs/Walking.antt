-- What is found by going over the parts of a list, one after another.
use Rattle.std.proofs.Common.{true, false, if◌then◌else◌, ℕ, zero, suc, ◌≡◌, ◌+◌, ◌<◌, ◌≤◌, ◌∷◌, ◌++◌, [], List, length, take, map, get_or, refl, ap}
use Rattle.std.proofs.Common.{sym, ◌∙◌, ◌-◌, arith, length-append}
use Rattle.std.specs.Prelude.{None, Option, Some, option_map, slice_get}
use Rattle.std.specs.List.{flat_map, enumerate_from}
use Rattle.std.proofs.lemmas.List.{take_more, take_all}
use Rattle.std.proofs.lemmas.Grind.{flat_map-append}
use Rattle.std.proofs.lemmas.List.Folds.{flat_map-map}
use Rattle.std.proofs.lemmas.Option.{none-some, same_Some, slice_get_past, slice_get_within}
use Rattle.std.proofs.lemmas.List.{length-map}
use Rattle.go_ast.specs.declared.tree.Item as items
use Rattle.go_ast.specs.declared.tree.FieldDecl.{FieldDecl}
use Rattle.go_ast.specs.declared.tree.TypeSpec.{TypeSpec}
use Rattle.types_declared.proofs.DeclaredParts.{type_part}
use Rattle.go_ast.specs.View.{item_view, list_view}
use Rattle.go_ast.specs.FileView.{field_view, same_index, type_spec_view}
use Rattle.types_info.proofs.MeaningLists.{slice_get_some}
use Rattle.go_ast.specs.Tree.{DeclTree, VarDecl, TypeDecl, FuncDecl, Item, FieldTree}
use Rattle.go_ast.specs.SourceFile.{FileParts, SourceFile, source_of}
use Rattle.types_declared.specs.Files.{group_items}
use Rattle.types_declared.specs.Package.{PlacedFunction, decl_types, placed_type, types_in}
use Rattle.build_object.specs.Lines.{FunctionName, Initializer}
use Rattle.build_object.specs.Names.{all_asked_names, asked_names_in, field_positions, function_behind}
use Rattle.build_object.specs.Names.{function_called, functions_behind, is_initializer, initializers_among}
use Rattle.build_object.specs.Names.{initializers_with, names_of_fields, positions_from, type_positions}
use Rattle.build_object.proofs.NameParts.{positions_length}
use Rattle.build_object.specs.RankLookup.{decl_asked, decl_positions, file_asked, file_positions}

-- Two lists, one behind the other

first_of_two : {Y : Type 0} (us vs : List Y) (n : ℕ) (y : Y) → slice_get us n ≡ Some y → slice_get (us ++ vs) n ≡ Some y
first_of_two [] vs n y at = absurd (let lt : n < 0 = slice_get_within [] n y at in omega (arith, lt))
first_of_two (a ∷ us) vs zero y at = at
first_of_two (a ∷ us) vs (suc n) y at = first_of_two us vs n y at

second_of_two : {Y : Type 0} (us vs : List Y) (n m : ℕ) → n ≡ length us + m → slice_get (us ++ vs) n ≡ slice_get vs m
second_of_two [] vs n m e = ap (slice_get vs) (let z : n ≡ m = omega (arith, e) in z)
second_of_two (a ∷ us) vs zero m e = absurd (omega (arith, e))
second_of_two (a ∷ us) vs (suc n) m e = second_of_two us vs n m (let z : n ≡ length us + m = omega (arith, e) in z)

module _ {E Y : Type 0} (f : E → List Y) where
  longer : (xs : List E) (i : ℕ) (x : E) → i < length xs → x ≡ get_or xs i x →
      length (flat_map f (take (i + 1) xs)) ≡ length (flat_map f (take i xs)) + length (f x)
  longer xs i x lt is =
      let behind : length (f (get_or xs i x) ++ []) ≡ length (f (get_or xs i x)) + 0 = length-append (f (get_or xs i x)) [] in
      let all : length (flat_map f (take (i + 1) xs)) ≡ length (flat_map f (take i xs)) + length (f (get_or xs i x) ++ []) =
      ap (λ ys. length (flat_map f ys)) (take_more xs i x lt) ∙ ap length (flat_map-append f (take i xs) (get_or xs i x ∷ []))
      ∙ length-append (flat_map f (take i xs)) (f (get_or xs i x) ++ []) in
      let same : length (f x) ≡ length (f (get_or xs i x)) = ap (λ y. length (f y)) is in
      omega (arith, behind, all, same)

  -- the part at i was passed
  pub walked_next : (xs : List E) (i : ℕ) (x : E) (rank rest left : ℕ) → i < length xs → x ≡ get_or xs i x →
      rank ≡ length (flat_map f (take i xs)) + rest → rest ≡ length (f x) + left → rank ≡ length (flat_map f (take (i + 1) xs)) + left
  walked_next xs i x rank rest left lt is before here = let more = longer xs i x lt is in omega (arith, more, before, here)

  -- it is in the part at i
  pub walked_found : (xs : List E) (i : ℕ) (x : E) (rank rest : ℕ) (y : Y) → i < length xs → x ≡ get_or xs i x →
      rank ≡ length (flat_map f (take i xs)) + rest → slice_get (f x) rest ≡ Some y → slice_get (flat_map f xs) rank ≡ Some y
  walked_found [] i x rank rest y lt is before at = absurd (omega (arith, lt))
  walked_found (z ∷ zs) zero x rank rest y lt is before at =
      let same : rank ≡ rest = omega (arith, before) in
      first_of_two (f z) (flat_map f zs) rank y (ap (slice_get (f z)) same ∙ (ap (λ u. slice_get (f u) rest) (sym is) ∙ at))
  walked_found (z ∷ zs) (suc i) x rank rest y lt is before at =
      let longer_by : length (f z ++ flat_map f (take i zs)) ≡ length (f z) + length (flat_map f (take i zs)) = length-append (f z) (flat_map f (take i zs)) in
      second_of_two (f z) (flat_map f zs) rank (length (flat_map f (take i zs)) + rest) (omega (arith, before, longer_by))
      ∙ walked_found zs i x (length (flat_map f (take i zs)) + rest) rest y (omega (arith, lt)) is refl at

  -- all parts were passed
  pub walked_all : (xs : List E) (i rank rest : ℕ) → length xs ≤ i → rank ≡ length (flat_map f (take i xs)) + rest → rank ≡ length (flat_map f xs) + rest
  walked_all xs i rank rest past before = before ∙ ap (λ ys. length (flat_map f ys) + rest) (take_all i xs past)

pub nothing_there : {Y : Type 0} (list : List Y) (rank rest : ℕ) → rank ≡ length list + rest → None ≡ slice_get list rank
nothing_there list rank rest e = sym (slice_get_past list rank (omega (arith, e)))

-- Functions `init`

one_more : (files : List SourceFile) (k : ℕ) (fs : List PlacedFunction) (i : ℕ) (f : PlacedFunction) → slice_get fs i ≡ Some f →
    initializers_among files k (take (suc i) fs) ≡ initializers_with files (initializers_among files k (take i fs)) f
one_more files k [] i f at = absurd (let lt : i < 0 = slice_get_within [] i f at in omega (arith, lt))
one_more files k (g ∷ fs) zero f at = ap (initializers_with files k) (same_Some g f at)
one_more files k (g ∷ fs) (suc i) f at = one_more files (initializers_with files k g) fs i f at

pub one_initializer_more : (files : List SourceFile) (fs : List PlacedFunction) (i number new : ℕ) (f : PlacedFunction) → Some f ≡ slice_get fs i →
    number ≡ initializers_among files 0 (take i fs) → new ≡ initializers_with files number f → new ≡ initializers_among files 0 (take (i + 1) fs)
one_initializer_more files fs i number new f at counted with =
    with ∙ ap (λ k. initializers_with files k f) counted ∙ sym (one_more files 0 fs i f (sym at))
    ∙ ap (λ m. initializers_among files 0 (take m fs)) (let e : suc i ≡ i + 1 = omega arith in e)

pub none_within : {Y : Type 0} (list : List Y) (n : ℕ) → None ≡ slice_get list n → n < length list → ⊥
none_within list n none lt = let some = slice_get_some list n lt in none-some some.0 (none ∙ some.1)

-- Type definitions in parentheses

pub item_at : (file : ℕ) (xs : List (items.Item TypeSpec)) (n : ℕ) (x : items.Item TypeSpec) → n < length xs → x ≡ get_or xs n x →
    slice_get (flat_map (type_part file) xs) n ≡ Some (placed_type file (type_spec_view x.value))
item_at file [] n x lt is = absurd (omega (arith, lt))
item_at file (z ∷ zs) zero x lt is = ap (λ y. Some (placed_type file (type_spec_view y.value))) (sym is)
item_at file (z ∷ zs) (suc n) x lt is = item_at file zs n x (omega (arith, lt)) is

pub item_count : (file : ℕ) (xs : List (items.Item TypeSpec)) → length (flat_map (type_part file) xs) ≡ length xs
item_count file [] = refl
item_count file (x ∷ xs) = ap suc (item_count file xs)

-- what the function of a rank is called

named_at : (path : List ℕ) (files : List SourceFile) (k : ℕ) (fs : List PlacedFunction) (n : ℕ) →
    slice_get (functions_behind path files k fs) n
    ≡ option_map (λ f. function_behind path files (initializers_among files k (take n fs)) f) (slice_get fs n)
named_at path files k [] n = refl
named_at path files k (f ∷ fs) zero = refl
named_at path files k (f ∷ fs) (suc n) = named_at path files (initializers_with files k f) fs n

pub unnamed_at : (path : List ℕ) (files : List SourceFile) (fs : List PlacedFunction) (n : ℕ) → None ≡ slice_get fs n →
    None ≡ slice_get (functions_behind path files 0 fs) n
unnamed_at path files fs n none = sym (named_at path files 0 fs n
    ∙ ap (option_map (λ f. function_behind path files (initializers_among files 0 (take n fs)) f)) (sym none))

module _ (path : List ℕ) (files : List SourceFile) (fs : List PlacedFunction) (n : ℕ) (f : PlacedFunction) (at : slice_get fs n ≡ Some f) where
  behind : slice_get (functions_behind path files 0 fs) n ≡ Some (function_behind path files (initializers_among files 0 (take n fs)) f)
  behind = named_at path files 0 fs n ∙ ap (option_map (λ g. function_behind path files (initializers_among files 0 (take n fs)) g)) at

  pub initializer_found : (number : ℕ) → is_initializer files f ≡ true → number ≡ initializers_among files 0 (take n fs) →
      Some (Initializer path number) ≡ slice_get (functions_behind path files 0 fs) n
  initializer_found number is counted =
      ap (λ k. Some (Initializer path k)) counted
      ∙ sym (behind ∙ ap (λ b. Some (if b then Initializer path (initializers_among files 0 (take n fs)) else function_called path files f)) is)

  pub called_found : is_initializer files f ≡ false → Some (function_called path files f) ≡ slice_get (functions_behind path files 0 fs) n
  called_found other = sym (behind ∙ ap (λ b. Some (if b then Initializer path (initializers_among files 0 (take n fs)) else function_called path files f))
      other)

-- Fields

pub position_here : {X : Type 0} (begin : ℕ) (xs : List X) (n : ℕ) → n < length xs → slice_get (positions_from begin xs) n ≡ Some (begin + n)
position_here begin [] n lt = absurd (omega (arith, lt))
position_here begin (x ∷ xs) zero lt = ap Some (let e : begin ≡ begin + 0 = omega arith in e)
position_here begin (x ∷ xs) (suc n) lt = position_here (suc begin) xs n (omega (arith, lt)) ∙
    ap Some (let e : suc begin + n ≡ begin + suc n = omega arith in e)

abbrev pub field_names : items.Item FieldDecl → List (Item ℕ)
field_names f = (field_view f.value).names

pub named : (f : items.Item FieldDecl) → length (field_names f) ≡ length f.value.names.items
unfolding field_view
named f = length-map f.value.names.items (item_view same_index)

same_names : (fs : List (items.Item FieldDecl)) → names_of_fields (list_view field_view fs) ≡ flat_map field_names fs
same_names fs = flat_map-map (λ (i : Item FieldTree). i.value.names) (item_view field_view) fs

pub field_here : (fs : List (items.Item FieldDecl)) (i : ℕ) (f : items.Item FieldDecl) (rank rest : ℕ) → i < length fs → f ≡ get_or fs i f →
    rank ≡ length (flat_map field_names (take i fs)) + rest → rest < length f.value.names.items →
    slice_get (positions_from 0 (names_of_fields (list_view field_view fs))) rank ≡ Some rank
field_here fs i f rank rest lt is before less =
    let name = slice_get_some (field_names f) rest (let short : rest < length (field_names f) = omega (arith, named f, less) in short) in
    let found : slice_get (flat_map field_names fs) rank ≡ Some name.0 = walked_found field_names fs i f rank rest name.0 lt is before name.1 in
    ap (λ ns. slice_get (positions_from 0 ns) rank) (same_names fs)
    ∙ position_here 0 (flat_map field_names fs) rank (slice_get_within (flat_map field_names fs) rank name.0 found)
    ∙ ap Some (let e : 0 + rank ≡ rank = omega arith in e)

pub fields_behind : (fs : List (items.Item FieldDecl)) (rank rest : ℕ) → rank ≡ length (flat_map field_names fs) + rest →
    rank ≡ length (positions_from 0 (names_of_fields (list_view field_view fs))) + rest
fields_behind fs rank rest e =
    let same : length (positions_from 0 (names_of_fields (list_view field_view fs))) ≡ length (flat_map field_names fs) =
    positions_length 0 (names_of_fields (list_view field_view fs)) ∙ ap length (same_names fs) in
    omega (arith, e, same)

-- the methods that an interface asks for

module _ {X Y : Type 0} (view : X → Y) (xs : List (items.Item X)) (rank : ℕ) where
  counted : length (list_view view xs) ≡ length xs
  counted = length-map xs (item_view view)

  pub asked_here : rank < length xs → slice_get (positions_from 0 (list_view view xs)) rank ≡ Some rank
  asked_here lt = position_here 0 (list_view view xs) rank (let short : rank < length (list_view view xs) = omega (arith, lt, counted) in short)
      ∙ ap Some (let e : 0 + rank ≡ rank = omega arith in e)

  pub asked_behind : length xs ≤ rank → rank ≡ length (positions_from 0 (list_view view xs)) + (rank - length xs)
  asked_behind all =
      let same : length (positions_from 0 (list_view view xs)) ≡ length xs = positions_length 0 (list_view view xs) ∙ counted in
      omega (arith, all, same)

in_each : {A B C : Type 0} (f : B → List C) (g : A → List B) (xs : List A) → flat_map f (flat_map g xs) ≡ flat_map (λ x. flat_map f (g x)) xs
in_each f g [] = refl
in_each f g (x ∷ xs) = flat_map-append f (g x) (flat_map g xs) ∙ ap (λ z. flat_map f (g x) ++ z) (in_each f g xs)

alike : {A C : Type 0} (f g : A → List C) (xs : List A) → ((x : A) → f x ≡ g x) → flat_map f xs ≡ flat_map g xs
alike f g [] same = refl
alike f g (x ∷ xs) same = ap (λ z. z ++ flat_map f xs) (same x) ∙ ap (λ z. g x ++ z) (alike f g xs same)

of_decl : (file : ℕ) (d : DeclTree) → flat_map type_positions (decl_types file d) ≡ decl_positions d
of_decl file (VarDecl p g s) = refl
of_decl file (TypeDecl p g s) = flat_map-map type_positions (placed_type file) (group_items g)
of_decl file (FuncDecl p f s) = refl

unranked : (k : ℕ) (fs : List SourceFile) → flat_map type_positions (flat_map types_in (enumerate_from k fs)) ≡ flat_map file_positions fs
unranked k [] = refl
unranked k (f ∷ fs) =
    flat_map-append type_positions (types_in (k, f)) (flat_map types_in (enumerate_from (k + 1) fs))
    ∙ (ap (λ z. z ++ flat_map type_positions (flat_map types_in (enumerate_from (k + 1) fs)))
    (in_each type_positions (decl_types k) f.tree.decls ∙ alike (λ d. flat_map type_positions (decl_types k d)) decl_positions f.tree.decls (of_decl k))
    ∙ ap (λ z. file_positions f ++ z) (unranked (k + 1) fs))

pub positions_of_files : (fs : List FileParts) → field_positions (map source_of fs) ≡ flat_map (λ t. file_positions (source_of t)) fs
positions_of_files fs = unranked 0 (map source_of fs) ∙ flat_map-map file_positions source_of fs

-- The names of the methods that interfaces ask for

module _ {X Y Z : Type 0} (view : X → Y) (f : Y → Z) where
  abbrev mapped : List (items.Item X) → List Z
  mapped xs = map (λ (i : Item Y). f i.value) (list_view view xs)

  mapped_size : (xs : List (items.Item X)) → length (mapped xs) ≡ length xs
  mapped_size xs = length-map (list_view view xs) (λ (i : Item Y). f i.value) ∙ length-map xs (item_view view)

  pub mapped_here : (xs : List (items.Item X)) (n : ℕ) (x : items.Item X) → n < length xs → x ≡ get_or xs n x →
      slice_get (mapped xs) n ≡ Some (f (view x.value))
  mapped_here [] n x lt is = absurd (omega (arith, lt))
  mapped_here (z ∷ zs) zero x lt is = ap (λ (y : items.Item X). Some (f (view y.value))) (sym is)
  mapped_here (z ∷ zs) (suc n) x lt is = mapped_here zs n x (omega (arith, lt)) is

  pub mapped_behind : (xs : List (items.Item X)) (rank : ℕ) → length xs ≤ rank → rank ≡ length (mapped xs) + (rank - length xs)
  mapped_behind xs rank all = let size = mapped_size xs in omega (arith, all, size)

-- a field has none
module _ {X : Type 0} where
  abbrev no_names : List X → List (Option FunctionName)
  no_names xs = map (λ (x : X). None) xs

  pub no_name_here : (begin : ℕ) (xs : List X) (n k : ℕ) → slice_get (positions_from begin xs) n ≡ Some k → slice_get (no_names xs) n ≡ Some None
  no_name_here begin [] n k at = absurd (let lt : n < 0 = slice_get_within [] n k at in omega (arith, lt))
  no_name_here begin (x ∷ xs) zero k at = refl
  no_name_here begin (x ∷ xs) (suc n) k at = no_name_here (suc begin) xs n k at

  pub no_name_behind : (begin : ℕ) (xs : List X) (rank rest : ℕ) → rank ≡ length (positions_from begin xs) + rest → rank ≡ length (no_names xs) + rest
  no_name_behind begin xs rank rest e =
      let size : length (positions_from begin xs) ≡ length xs = positions_length begin xs in
      let same : length (no_names xs) ≡ length xs = length-map xs (λ (x : X). None) in
      omega (arith, e, size, same)

asked_of_decl : (path : List ℕ) (files : List SourceFile) (file : ℕ) (d : DeclTree) →
    flat_map (asked_names_in path files) (decl_types file d) ≡ decl_asked path files file d
asked_of_decl path files file (VarDecl p g s) = refl
asked_of_decl path files file (TypeDecl p g s) = flat_map-map (asked_names_in path files) (placed_type file) (group_items g)
asked_of_decl path files file (FuncDecl p f s) = refl

pub asked_of_files : (path : List ℕ) (files : List SourceFile) →
    all_asked_names path files ≡ flat_map (file_asked path files) (enumerate_from 0 files)
asked_of_files path files =
    in_each (asked_names_in path files) types_in (enumerate_from 0 files)
    ∙ alike (λ e. flat_map (asked_names_in path files) (types_in e)) (file_asked path files) (enumerate_from 0 files)
    (λ e. in_each (asked_names_in path files) (decl_types e.0) e.1.tree.decls
    ∙ alike (λ d. flat_map (asked_names_in path files) (decl_types e.0 d)) (decl_asked path files e.0) e.1.tree.decls (asked_of_decl path files e.0))
