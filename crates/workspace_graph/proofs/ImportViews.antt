-- The trees of the code and those of the definitions have the same imports.
use Rattle.std.proofs.Common.{◌≡◌, ℕ, ◌+◌, ◌<◌, List, [], ◌∷◌, ◌++◌, length, get_or, take, map, ap, sym, ◌∙◌, refl, append_assoc, Global}
use Rattle.std.proofs.lemmas.List.{map-append, take_more}
use Rattle.std.specs.Prelude.{Vec}
use Rattle.std.specs.List.{flat_map, AllZip}
use Rattle.go_ast.specs.declared.tree.ImportSpec.{ImportSpec}
use Rattle.go_ast.specs.declared.tree.ImportDecl.{ImportDecl}
use Rattle.go_ast.specs.declared.tree.Item.{Item}
use Rattle.go_ast.specs.declared.tree.File.{File}
use Rattle.go_ast.specs.declared.tree.Group.{Group}
use Rattle.go_ast.specs.declared.tree.Group.TheVariants as group
use Rattle.go_ast.specs.View.{list_view, group_view}
use Rattle.go_ast.specs.FileView.{import_view, imports_view, file_view}
use Rattle.workspace_graph.specs.FileImports.{paths_in, import_literals}

pub item_paths : (items : List (Item ImportSpec)) → map (λ item. item.value.path) (list_view import_view items) ≡ map (λ item. item.value.path) items
unfolding import_view
item_paths [] = refl
item_paths (item ∷ items) = ap (λ rest. item.value.path ∷ rest) (item_paths items)

pub decl_paths : (decls : List ImportDecl) → flat_map (λ decl. paths_in decl.imports) (map imports_view decls) ≡ flat_map
    (λ decl. paths_in (group_view import_view decl.group)) decls
unfolding imports_view
decl_paths [] = refl
decl_paths (decl ∷ decls) = ap (λ rest. paths_in (group_view import_view decl.group) ++ rest) (decl_paths decls)

pub single_paths : (spec : ImportSpec) (decl : Group ImportSpec) → decl ≡ group.Single spec → spec.path ∷ [] ≡ paths_in (group_view import_view decl)
unfolding group_view import_view
single_paths spec decl is = ap (λ g. paths_in (group_view import_view g)) (sym is)

pub several_paths : (opening : ℕ) (items : Vec (Item ImportSpec) Global) (closing : ℕ) (decl : Group ImportSpec) →
    decl ≡ group.Several opening items closing → map (λ item. item.value.path) items.items ≡ paths_in (group_view import_view decl)
unfolding group_view
several_paths opening items closing decl is = sym (item_paths items.items) ∙ ap (λ g. paths_in (group_view import_view g)) (sym is)

pub file_paths : (f : File) → flat_map (λ decl. paths_in (group_view import_view decl.group)) f.imports.items ≡ import_literals (file_view f)
unfolding file_view
file_paths f = sym (decl_paths f.imports.items)

-- one more pair
pub zip_push : {A B : Type 0} (R : A → B → Type 0) (xs : List A) (ys : List B) (x : A) (y : B) → AllZip R xs ys → R x y → AllZip R (xs ++ x ∷ []) (ys ++ y ∷ [])
zip_push R [] [] x y all here = (here, tt)
zip_push R [] (z ∷ ys) x y all here = absurd all
zip_push R (z ∷ xs) [] x y all here = absurd all
zip_push R (z ∷ xs) (u ∷ ys) x y all here = (all.0, zip_push R xs ys x y all.1 here)

-- the numbers of one more of some items
pub one_more : {X : Type 0} (f : X → ℕ) (xs : List X) (i : ℕ) (d : X) (start : List ℕ) {before after : List ℕ} →
    i < length xs → before ≡ start ++ map f (take i xs) → after ≡ before ++ (f (get_or xs i d) ∷ []) → after ≡ start ++ map f (take (i + 1) xs)
one_more f xs i d start lt so_far more =
    more ∙ (ap (λ l. l ++ (f (get_or xs i d) ∷ [])) so_far ∙ (append_assoc start (map f (take i xs)) (f (get_or xs i d) ∷ [])
    ∙ ap (λ l. start ++ l) (sym (map-append f (take i xs) (get_or xs i d ∷ [])) ∙ ap (map f) (sym (take_more xs i d lt)))))
