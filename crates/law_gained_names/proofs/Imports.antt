-- A file of the program with another import in the place of one of its imports.
use Rattle.std.proofs.Common.{ℕ, suc, ◌≡◌, ◌++◌, List, [], ◌∷◌, length, Option, Vec, map, refl, sym, ap, ◌∙◌}
use Rattle.std.specs.Vec.{with_items}
use Rattle.std.proofs.lemmas.List.{map-append}
use Rattle.go_ast.specs.FileView.{decl_view, file_view, import_view, imports_view}
use Rattle.go_ast.specs.Tree as tree
use Rattle.go_ast.specs.Tree.{FileTree, ImportTree, ImportsTree}
use Rattle.go_ast.specs.View.{group_view, item_view, list_view}
use Rattle.go_ast.specs.declared.tree.Item.{Item}
use Rattle.go_ast.specs.declared.tree.Group.{Group}
use Rattle.go_ast.specs.declared.tree.Group.TheVariants as group
use Rattle.go_ast.specs.declared.tree.ImportSpec.{ImportSpec}
use Rattle.go_ast.specs.declared.tree.ImportDecl.{ImportDecl}
use Rattle.go_ast.specs.declared.tree.File.{File}
use Rattle.law_rename.specs.Around.{AroundImport, AroundItem, alone, among, file_with, group_with, imports_with}
use Rattle.law_gained_names.specs.ProgramTrees.{HasProgramTree, ImportsMayChange}
use Rattle.law_gained_names.proofs.Lists.{Shows, held}

-- lists with one element singled out

head_same : {A : Type 0} (x y : A) (xs ys : List A) → x ∷ xs ≡ y ∷ ys → x ≡ y
head_same x y xs ys e = cc

tail_same : {A : Type 0} (x y : A) (xs ys : List A) → x ∷ xs ≡ y ∷ ys → xs ≡ ys
tail_same x y xs ys e = cc

no_cons : {A : Type 0} (x : A) (xs : List A) → [] ≡ x ∷ xs → ⊥
no_cons x xs e = let z : ⊥ = cc in z

record CutAt {A B : Type 0} (view : A → B) (xs : List A) (ts : List B) (t : B) (us : List B) : Type 0 where
  front : List A
  one : A
  back : List A
  whole : xs ≡ front ++ one ∷ back
  fronts : map view front ≡ ts
  shows : view one ≡ t
  backs : map view back ≡ us

cut_at : {A B : Type 0} (view : A → B) (xs : List A) (ts : List B) (t : B) (us : List B) → map view xs ≡ ts ++ t ∷ us → CutAt view xs ts t us
cut_at view [] [] t us e = absurd (no_cons t us e)
cut_at view [] (s ∷ ts) t us e = absurd (no_cons s (ts ++ t ∷ us) e)
cut_at view (x ∷ xs) [] t us e = record {
  front = [];
  one = x;
  back = xs;
  whole = refl;
  fronts = refl;
  shows = head_same (view x) t (map view xs) us e;
  backs = tail_same (view x) t (map view xs) us e;
}
cut_at view (x ∷ xs) (s ∷ ts) t us e =
    let rest = cut_at view xs ts t us (tail_same (view x) s (map view xs) (ts ++ t ∷ us) e) in
    let head = head_same (view x) s (map view xs) (ts ++ t ∷ us) e in
    record {
      front = x ∷ rest.front;
      one = rest.one;
      back = rest.back;
      whole = ap (λ ys. x ∷ ys) rest.whole;
      fronts = λ m. head m ∷ rest.fronts m;
      shows = rest.shows;
      backs = rest.backs;
    }

same_length : {A : Type 0} (x y : A) (front back : List A) → length (front ++ y ∷ back) ≡ length (front ++ x ∷ back)
same_length x y [] back = refl
same_length x y (z ∷ front) back = ap suc (same_length x y front back)

-- the list with another element in its place
module _ {A B : Type 0} (view : A → B) (xs : List A) (ts : List B) (t : B) (us : List B) (c : CutAt view xs ts t us) (y : A) (s : B)
    (shown : view y ≡ s) where
  changed : List A
  changed = c.front ++ y ∷ c.back

  changed_length : length changed ≡ length xs
  unfolding changed
  changed_length = same_length c.one y c.front c.back ∙ ap length (sym c.whole)

  changed_view : map view changed ≡ ts ++ s ∷ us
  unfolding changed
  changed_view = map-append view c.front (y ∷ c.back) ∙ (λ m. c.fronts m ++ shown m ∷ c.backs m)

-- groups

several_opens : (o p c d : ℕ) (xs ys : List (tree.Item ImportTree)) → tree.several o xs c ≡ tree.several p ys d → o ≡ p
several_opens o p c d xs ys e = cc

several_closes : (o p c d : ℕ) (xs ys : List (tree.Item ImportTree)) → tree.several o xs c ≡ tree.several p ys d → c ≡ d
several_closes o p c d xs ys e = cc

several_items : (o p c d : ℕ) (xs ys : List (tree.Item ImportTree)) → tree.several o xs c ≡ tree.several p ys d → xs ≡ ys
several_items o p c d xs ys e = cc

no_several : (x : ImportTree) (o c : ℕ) (xs : List (tree.Item ImportTree)) → tree.single x ≡ tree.several o xs c → ⊥
no_several x o c xs e = let z : ⊥ = cc in z

module _ (i j : ImportTree) where
  spec : ImportSpec
  spec = record { name = j.name; path = j.path }

  spec_shows : import_view spec ≡ j
  unfolding spec import_view
  spec_shows = refl

  abbrev Around : List (tree.Item ImportTree) → Option ℕ → List (tree.Item ImportTree) → ImportTree → List (tree.Item ImportTree)
  Around before separator after x = before ++ record { value = x; separator = separator } ∷ after

  items_changed : {Z : Type 0} (xs : Vec (Item ImportSpec) Z) (before : List (tree.Item ImportTree)) (separator : Option ℕ)
      (after : List (tree.Item ImportTree)) → list_view import_view xs.items ≡ Around before separator after i →
      (ws : Vec (Item ImportSpec) Z) × (list_view import_view ws.items ≡ Around before separator after j)
  items_changed xs before separator after e =
      let old : tree.Item ImportTree = record { value = i; separator = separator } in
      let new : tree.Item ImportTree = record { value = j; separator = separator } in
      let c = cut_at (item_view import_view) xs.items before old after e in
      let one : Item ImportSpec = record { value = spec; separator = c.one.separator } in
      let same : c.one.separator ≡ separator = ap (λ (x : tree.Item ImportTree). x.separator) c.shows in
      let shown : item_view import_view one ≡ new = λ m. record { value = spec_shows m; separator = same m } in
      let ws = changed (item_view import_view) xs.items before old after c one new shown in (
        with_items xs ws,
        ap (list_view import_view) (held xs ws (changed_length (item_view import_view) xs.items before old after c one new shown))
            ∙ changed_view (item_view import_view) xs.items before old after c one new shown,
      )

  group_changed : (x : Group ImportSpec) (around : AroundItem) → group_view import_view x ≡ group_with i around →
      Shows (group_view import_view) (group_with j around)
  unfolding group_view
  group_changed (group.Single s) alone e = (group.Single spec, ap tree.single spec_shows)
  group_changed (group.Single s) (among o before separator after c) e =
      absurd (no_several (import_view s) o c (Around before separator after i) e)
  group_changed (group.Several o xs c) alone e = absurd (no_several i o c (list_view import_view xs.items) (sym e))
  group_changed (group.Several o xs c) (among p before separator after d) e =
      let all = items_changed xs before separator after
      (several_items o p c d (list_view import_view xs.items) (Around before separator after i) e) in
      let opens = several_opens o p c d (list_view import_view xs.items) (Around before separator after i) e in
      let closes = several_closes o p c d (list_view import_view xs.items) (Around before separator after i) e in
      (group.Several o all.0 c, λ m. tree.several (opens m) (all.1 m) (closes m))

  declaration_changed : (d : ImportDecl) (a : AroundImport) → imports_view d ≡ imports_with i a → Shows imports_view (imports_with j a)
  unfolding imports_view
  declaration_changed d a e =
      let one = group_changed d.group a.item (ap (λ (t : ImportsTree). t.imports) e) in
      let keyword : d.at ≡ a.import_keyword = ap (λ (t : ImportsTree). t.keyword) e in
      let semicolon : d.semicolon ≡ a.import_semicolon = ap (λ (t : ImportsTree). t.semicolon) e in (
        record { at = d.at; group = one.0; semicolon = d.semicolon },
        λ m. record { keyword = keyword m; imports = one.1 m; semicolon = semicolon m },
      )

  file_changed : (f : File) (a : AroundImport) → file_view f ≡ file_with i a → HasProgramTree (file_with j a)
  unfolding file_view
  file_changed f a e =
      let c = cut_at imports_view f.imports.items a.before (imports_with i a) a.after (ap (λ (t : FileTree). t.imports) e) in
      let one = declaration_changed c.one a c.shows in
      let ws = changed imports_view f.imports.items a.before (imports_with i a) a.after c one.0 (imports_with j a) one.1 in
      let same : map imports_view (with_items f.imports ws).items ≡ a.before ++ imports_with j a ∷ a.after =
      ap (map imports_view)
      (held f.imports ws (changed_length imports_view f.imports.items a.before (imports_with i a) a.after c one.0 (imports_with j a) one.1))
      ∙ changed_view imports_view f.imports.items a.before (imports_with i a) a.after c one.0 (imports_with j a) one.1 in
      let keyword : f.package ≡ a.keyword = ap (λ (t : FileTree). t.keyword) e in
      let name : f.name ≡ a.name = ap (λ (t : FileTree). t.name) e in
      let semicolon : f.semicolon ≡ a.semicolon = ap (λ (t : FileTree). t.semicolon) e in
      let decls : map decl_view f.decls.items ≡ a.decls = ap (λ (t : FileTree). t.decls) e in
      record {
        file = record { «package» = f.package; name = f.name; semicolon = f.semicolon; imports = with_items f.imports ws; decls = f.decls };
        shows = λ m. record { keyword = keyword m; name = name m; semicolon = semicolon m; imports = same m; decls = decls m };
      }

pub imports_may_change : ImportsMayChange
imports_may_change f i j a e = file_changed i j f a e
