-- What is made of each item of a list, where each is made alike but for a change.
use Rattle.std.proofs.Common.{ℕ, ◌≡◌, List, [], ◌∷◌, ◌++◌, map, refl, ap, sym, ◌∙◌}
use Rattle.std.specs.List.{flat_map}
use Rattle.std.proofs.Math.Path.{ap₂}
use Rattle.std.proofs.lemmas.List.{map-append}
use Rattle.go_ast.specs.declared.syntax.Kind.{Kind}
use Rattle.go_ast.specs.declared.syntax.Kind.TheVariants as kind
use Rattle.go_ast.specs.declared.syntax.Token.{Token}
use Rattle.go_ast.specs.Flatten.{sign, sign_if, all_tokens, item_tokens, list_tokens, group_tokens}
use Rattle.go_ast.specs.Tree.{Item, Group, single, several}
use Rattle.types_declared.specs.Files.{group_items}
use Rattle.build_object.specs.Lines.{CodeLine}
use Rattle.build_object.specs.Statements.{from_last}
use Rattle.law_faultless.proofs.DeclaringNames.{AllOf, front, back}

module _ (K : Kind → ℕ → Type 0) {X : Type 0} {Y : Type 0} (change : Y → Y) (tokens : X → List Token) (f g : X → List Y)
    (each : (x : X) → AllOf K (tokens x) → f x ≡ map change (g x)) where
  both_parts : (xs ys : List Y) → map change xs ++ map change ys ≡ map change (xs ++ ys)
  both_parts xs ys = sym (map-append change xs ys)

  own_tokens : (k : Kind) (i : Item X) (is : List (Item X)) → AllOf K (item_tokens k tokens i ++ list_tokens k tokens is) → AllOf K (tokens i.value)
  own_tokens k i is h = front K (tokens i.value) (sign_if k i.separator) (front K (item_tokens k tokens i) (list_tokens k tokens is) h)

  pub items_by : (k : Kind) (is : List (Item X)) → AllOf K (list_tokens k tokens is) →
      flat_map (λ (i : Item X). f i.value) is ≡ map change (flat_map (λ (i : Item X). g i.value) is)
  unfolding all_tokens
  items_by k [] h = refl
  items_by k (i ∷ is) h =
      ap₂ (λ a b. a ++ b) (each i.value (own_tokens k i is h)) (items_by k is (back K (item_tokens k tokens i) (list_tokens k tokens is) h))
      ∙ both_parts (g i.value) (flat_map (λ (j : Item X). g j.value) is)

  values_by : (k : Kind) (is : List (Item X)) → AllOf K (list_tokens k tokens is) →
      flat_map f (map (λ (i : Item X). i.value) is) ≡ map change (flat_map g (map (λ (i : Item X). i.value) is))
  unfolding all_tokens
  values_by k [] h = refl
  values_by k (i ∷ is) h =
      ap₂ (λ a b. a ++ b) (each i.value (own_tokens k i is h)) (values_by k is (back K (item_tokens k tokens i) (list_tokens k tokens is) h))
      ∙ both_parts (g i.value) (flat_map g (map (λ (j : Item X). j.value) is))

  pub group_by : (x : Group X) → AllOf K (group_tokens tokens x) → flat_map f (group_items x) ≡ map change (flat_map g (group_items x))
  unfolding group_tokens
  group_by (single x) h = ap (λ a. a ++ []) (each x h) ∙ both_parts (g x) []
  group_by (several o is c) h = values_by kind.Semicolon is (front K (list_tokens kind.Semicolon tokens is) (sign kind.RightParen c ∷ []) h.1)

module _ (K : Kind → ℕ → Type 0) {X : Type 0} (change : CodeLine → CodeLine) (tokens : X → List Token) (f g : X → List CodeLine)
    (each : (x : X) → AllOf K (tokens x) → f x ≡ map change (g x)) where
  pub last_by : (k : Kind) (is : List (Item X)) → AllOf K (list_tokens k tokens is) → from_last f is ≡ map change (from_last g is)
  unfolding all_tokens from_last
  last_by k [] h = refl
  last_by k (i ∷ is) h =
      ap₂ (λ a b. a ++ b) (last_by k is (back K (item_tokens k tokens i) (list_tokens k tokens is) h))
      (each i.value (own_tokens K change tokens f g each k i is h))
      ∙ both_parts K change tokens f g each (from_last g is) (g i.value)
