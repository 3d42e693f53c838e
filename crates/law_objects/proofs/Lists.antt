-- What is made of each item of a list whose tokens get new numbers, where each is made alike but for a change.
use Rattle.std.proofs.Common.{ℕ, ◌≡◌, List, [], ◌∷◌, ◌++◌, map, refl, ap, sym, ◌∙◌}
use Rattle.std.specs.List.{flat_map}
use Rattle.std.proofs.Math.Path.{ap₂}
use Rattle.std.proofs.lemmas.List.{map-append, map-id}
use Rattle.go_ast.specs.declared.syntax.Kind.{Kind}
use Rattle.go_ast.specs.declared.syntax.Kind.TheVariants as kind
use Rattle.go_ast.specs.declared.syntax.Token.{Token}
use Rattle.go_ast.specs.Flatten.{sign, sign_if, all_tokens, item_tokens, list_tokens, group_tokens}
use Rattle.go_ast.specs.Tree.{Item, Group, single, several}
use Rattle.types_declared.specs.Files.{group_items}
use Rattle.build_object.specs.Lines.{CodeLine}
use Rattle.build_object.specs.Statements.{from_last}
use Rattle.law_faultless.proofs.DeclaringNames.{AllOf, front, back}
use Rattle.law_rename.specs.Renumbered.{items_by, group_by}

module _ (K : Kind → ℕ → Type 0) (t : ℕ → ℕ) {X : Type 0} (h : X → X) (tokens : X → List Token) where
  pub own_tokens : (k : Kind) (i : Item X) (is : List (Item X)) → AllOf K (item_tokens k tokens i ++ list_tokens k tokens is) → AllOf K (tokens i.value)
  own_tokens k i is a = front K (tokens i.value) (sign_if k i.separator) (front K (item_tokens k tokens i) (list_tokens k tokens is) a)

  pub other_tokens : (k : Kind) (i : Item X) (is : List (Item X)) → AllOf K (item_tokens k tokens i ++ list_tokens k tokens is) →
      AllOf K (list_tokens k tokens is)
  other_tokens k i is a = back K (item_tokens k tokens i) (list_tokens k tokens is) a

  -- with a change

  module _ {Y : Type 0} (change : Y → Y) (f g : X → List Y) (each : (x : X) → AllOf K (tokens x) → f (h x) ≡ map change (g x)) where
    both_parts : (xs ys : List Y) → map change xs ++ map change ys ≡ map change (xs ++ ys)
    both_parts xs ys = sym (map-append change xs ys)

    pub items_changed : (k : Kind) (is : List (Item X)) → AllOf K (list_tokens k tokens is) →
        flat_map (λ (i : Item X). f i.value) (items_by t h is) ≡ map change (flat_map (λ (i : Item X). g i.value) is)
    unfolding all_tokens
    items_changed k [] a = refl
    items_changed k (i ∷ is) a =
        ap₂ (λ x y. x ++ y) (each i.value (own_tokens k i is a)) (items_changed k is (other_tokens k i is a))
        ∙ both_parts (g i.value) (flat_map (λ (j : Item X). g j.value) is)

    values_changed : (k : Kind) (is : List (Item X)) → AllOf K (list_tokens k tokens is) →
        flat_map f (map (λ (i : Item X). i.value) (items_by t h is)) ≡ map change (flat_map g (map (λ (i : Item X). i.value) is))
    unfolding all_tokens
    values_changed k [] a = refl
    values_changed k (i ∷ is) a =
        ap₂ (λ x y. x ++ y) (each i.value (own_tokens k i is a)) (values_changed k is (other_tokens k i is a))
        ∙ both_parts (g i.value) (flat_map g (map (λ (j : Item X). j.value) is))

    pub group_changed : (x : Group X) → AllOf K (group_tokens tokens x) → flat_map f (group_items (group_by t h x)) ≡ map change (flat_map g (group_items x))
    unfolding group_tokens
    group_changed (single x) a = ap (λ z. z ++ []) (each x a) ∙ both_parts (g x) []
    group_changed (several o is c) a = values_changed kind.Semicolon is (front K (list_tokens kind.Semicolon tokens is) (sign kind.RightParen c ∷ []) a.1)

  -- without one

  module _ {Y : Type 0} (f g : X → List Y) (each : (x : X) → AllOf K (tokens x) → f (h x) ≡ g x) where
    unchanged : (x : X) → AllOf K (tokens x) → f (h x) ≡ map (λ (y : Y). y) (g x)
    unchanged x a = each x a ∙ sym (map-id (g x))

    pub same_items : (k : Kind) (is : List (Item X)) → AllOf K (list_tokens k tokens is) →
        flat_map (λ (i : Item X). f i.value) (items_by t h is) ≡ flat_map (λ (i : Item X). g i.value) is
    same_items k is a = items_changed (λ (y : Y). y) f g unchanged k is a ∙ map-id (flat_map (λ (i : Item X). g i.value) is)

    pub same_values : (k : Kind) (is : List (Item X)) → AllOf K (list_tokens k tokens is) →
        flat_map f (map (λ (i : Item X). i.value) (items_by t h is)) ≡ flat_map g (map (λ (i : Item X). i.value) is)
    same_values k is a = values_changed (λ (y : Y). y) f g unchanged k is a ∙ map-id (flat_map g (map (λ (i : Item X). i.value) is))

    pub same_group : (x : Group X) → AllOf K (group_tokens tokens x) → flat_map f (group_items (group_by t h x)) ≡ flat_map g (group_items x)
    same_group x a = group_changed (λ (y : Y). y) f g unchanged x a ∙ map-id (flat_map g (group_items x))

  module _ (f g : X → List CodeLine) (each : (x : X) → AllOf K (tokens x) → f (h x) ≡ g x) where
    pub same_last : (k : Kind) (is : List (Item X)) → AllOf K (list_tokens k tokens is) → from_last f (items_by t h is) ≡ from_last g is
    unfolding all_tokens from_last
    same_last k [] a = refl
    same_last k (i ∷ is) a = ap₂ (λ x y. x ++ y) (same_last k is (other_tokens k i is a)) (each i.value (own_tokens k i is a))
