-- Lists of the program's trees with other token numbers.
use Rattle.std.proofs.Common.{ℕ, suc, ◌≡◌, List, [], ◌∷◌, length, map, Option, Some, None, Vec, option_map, refl, sym, ap, ◌∙◌}
use Rattle.std.specs.Vec.{with_items}
use Rattle.std.proofs.lemmas.List.{with_items_is}
use Rattle.go_ast.specs.Tree as tree
use Rattle.go_ast.specs.View.{group_view, item_view, list_view, option_view}
use Rattle.go_ast.specs.declared.tree.Item.{Item}
use Rattle.go_ast.specs.declared.tree.Group.{Group}
use Rattle.go_ast.specs.declared.tree.Group.TheVariants as group
use Rattle.law_rename.specs.Renumbered.{group_by, item_by, items_by}

-- a value that shows the tree
abbrev pub Shows : {A B : Type 0} → (A → B) → B → Type 0
Shows {A} view t = (x : A) × (view x ≡ t)

-- a list with other elements
pub held : {A Z : Type 0} (v : Vec A Z) (ws : List A) → length ws ≡ length v.items → (with_items v ws).items ≡ ws
held v ws e = with_items_is v ws (e ∙ sym v.ok.0)

-- as many elements that show the trees
pub record ShowAll {A B : Type 0} (view : A → B) (xs : List A) (ts : List B) : Type 0 where
  pub list : List A
  pub size : length list ≡ length xs
  pub same : map view list ≡ ts

pub each_shown : {A B : Type 0} (view : A → B) (by : B → B) → ((x : A) → Shows view (by (view x))) → (xs : List A) →
    ShowAll view xs (map by (map view xs))
each_shown view by each [] = record { list = []; size = refl; same = refl }
each_shown view by each (x ∷ xs) =
    let one = each x in
    let rest = each_shown view by each xs in
    record { list = one.0 ∷ rest.list; size = ap suc rest.size; same = λ i. one.1 i ∷ rest.same i }

pub all_shown : {A B Z : Type 0} (view : A → B) (by : B → B) → ((x : A) → Shows view (by (view x))) → (v : Vec A Z) →
    (w : Vec A Z) × (map view w.items ≡ map by (map view v.items))
all_shown view by each v =
    let all = each_shown view by each v.items in
    (with_items v all.list, ap (map view) (held v all.list all.size) ∙ all.same)

-- options

pub optional : {A B : Type 0} (view : A → B) (by : B → B) → ((x : A) → Shows view (by (view x))) → (o : Option A) →
    Shows (option_view view) (option_map by (option_view view o))
optional view by each None = (None, refl)
optional view by each (Some x) = let one = each x in (Some one.0, ap Some one.1)

-- items and groups

module _ (g : ℕ → ℕ) where
  one_item : {A B : Type 0} (view : A → B) (by : B → B) → ((x : A) → Shows view (by (view x))) → (x : Item A) →
      Shows (item_view view) (item_by g by (item_view view x))
  one_item view by each x =
      let one = each x.value in
      (record { value = one.0; separator = option_map g x.separator }, λ i. record { value = one.1 i; separator = option_map g x.separator })

  pub items : {A B Z : Type 0} (view : A → B) (by : B → B) → ((x : A) → Shows view (by (view x))) → (v : Vec (Item A) Z) →
      (w : Vec (Item A) Z) × (list_view view w.items ≡ items_by g by (list_view view v.items))
  items view by each v = all_shown (item_view view) (item_by g by) (one_item view by each) v

  pub grouped : {A B : Type 0} (view : A → B) (by : B → B) → ((x : A) → Shows view (by (view x))) → (o : Group A) →
      Shows (group_view view) (group_by g by (group_view view o))
  unfolding group_view
  grouped view by each (group.Single x) = let one = each x in (group.Single one.0, ap tree.single one.1)
  grouped view by each (group.Several o xs c) =
      let all = items view by each xs in
      (group.Several (g o) all.0 (g c), ap (λ l. tree.several (g o) l (g c)) all.1)
