-- Lists: properties of all their items, and the items that they have.
use Rattle.std.proofs.Common.{inl, inr, List, [], ◌∷◌, subst}
use Rattle.std.specs.Prelude.{Contains}
use Rattle.std.specs.List.{AllByRecursion, flat_map}
use Rattle.base_lemmas.proofs.Elements.{nothing_in, first_or_later}
use Rattle.base_lemmas.proofs.EachElement.{all_front, all_back}
use Rattle.types_info.proofs.DeclKinds.{Holds}

pub all_held : {X : Type 0} (P : X → Type 0) (xs : List X) (x : X) → AllByRecursion P xs → Holds xs x → P x
all_held P [] x h i = absurd i
all_held P (y ∷ ys) x h i = elim i [ inl e ↦ subst P e h.0 | inr r ↦ all_held P ys x h.1 r ]

-- of the elements of lists that are put together, and of lists that are changed one by one

pub all_flat : {X Y : Type 0} (P : Y → Type 0) (f : X → List Y) (xs : List X) (x : X) → AllByRecursion P (flat_map f xs) → Holds xs x →
    AllByRecursion P (f x)
all_flat P f [] x h i = absurd i
all_flat P f (y ∷ ys) x h i = elim i [
  | inl e ↦ subst (λ z. AllByRecursion P (f z)) e (all_front P (f y) (flat_map f ys) h)
  | inr r ↦ all_flat P f ys x (all_back P (f y) (flat_map f ys) h) r
]

pub contained : {X : Type 0} (xs : List X) (x : X) → Contains xs x → Holds xs x
contained [] x h = absurd (nothing_in x h)
contained (y ∷ ys) x h = elim (first_or_later y ys x h) [ inl e ↦ inl e | inr r ↦ inr (contained ys x r) ]
