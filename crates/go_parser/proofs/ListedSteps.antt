-- Lists whose items are read one by one are well-formed.
use Rattle.std.proofs.Common.{ℕ, ◌≡◌, Bool, true, false, List, [], ◌∷◌, ◌++◌, Option, Some, None, is_some, map, sym, ◌∙◌, subst, refl}
use Rattle.std.specs.Option.{IsSome}
use Rattle.std.specs.List.{All}
use Rattle.std.proofs.lemmas.List.Elements.{All-cons, All-nil, All-map, All-append}
use Rattle.base_lemmas.proofs.Tests.{none_from_test}
use Rattle.go_ast.specs.Tree.{Item}
use Rattle.go_parser.specs.Grouping.{Each}
use Rattle.go_ast.specs.WellFormed.{IsNonEmpty, IsSeparated, IsJoined, IsList, IsOpenList}
use Rattle.go_parser.specs.Listed.{IsJoinedBy, IsListed}
use Rattle.go_parser.proofs.Grouping.{each_push}

clash : {X : Type 0} → true ≡ false → X
clash e = absurd (let f : ⊥ = cc in f)

push_joined : {X : Type 0} (f : X → Option ℕ) (xs : List X) (x : X) → Each (λ y. IsSome (f y)) xs → f x ≡ None → IsJoinedBy f (xs ++ (x ∷ []))
push_joined f [] x w e = e
push_joined f (y ∷ []) x w e = (w.0, e)
push_joined f (y ∷ (z ∷ zs)) x w e = (w.0, push_joined f (z ∷ zs) x w.1 e)

pub listed_none : {X Y : Type 0} (P : Y → Type 0) (item : X → Item Y) (xs : List X) → xs ≡ [] → IsListed P item true xs
listed_none P item xs e = subst (λ xs. IsListed P item true xs) (sym e) (record {
  each = All-nil (λ x. P (item x).value);
  complete = λ h. tt;
  joined = λ h. clash h;
})

listed_more : {X Y : Type 0} (P : Y → Type 0) (item : X → Item Y) (xs : List X) (x : X) (more b : Bool) → IsListed P item more xs → more ≡ true →
    P (item x).value →
    b ≡ is_some (item x).separator → IsListed P item b (xs ++ (x ∷ []))
listed_more P item xs x more b w go h same = record {
  each = All-append (λ x. P (item x).value) xs (x ∷ []) w.each (All-cons (λ x. P (item x).value) x [] h (All-nil (λ x. P (item x).value)));
  complete = λ e. each_push (λ x. IsSome (item x).separator) xs x (w.complete go) (sym same ∙ e);
  joined = λ e. push_joined (λ x. (item x).separator) xs x (w.complete go) (none_from_test (item x).separator (sym same ∙ e));
}

pub listed_push : {X Y : Type 0} (P : Y → Type 0) (item : X → Item Y) (xs ys : List X) (x : X) (more b : Bool) → IsListed P item more xs → more ≡ true →
    P (item x).value →
    b ≡ is_some (item x).separator → ys ≡ xs ++ (x ∷ []) → IsListed P item b ys
listed_push P item xs ys x more b w go h same e = subst (λ ys. IsListed P item b ys) (sym e) (listed_more P item xs x more b w go h same)

joined_some : {X Y : Type 0} (item : X → Item Y) (xs : List X) → IsJoinedBy (λ x. (item x).separator) xs → IsNonEmpty (map item xs)
joined_some item [] h = h
joined_some item (x ∷ xs) h = tt

joined_map : {X Y : Type 0} (item : X → Item Y) (xs : List X) → IsJoinedBy (λ x. (item x).separator) xs → IsJoined (map item xs)
joined_map item [] h = absurd h
joined_map item (x ∷ []) h = h
joined_map item (x ∷ (y ∷ ys)) h = (h.0, joined_map item (y ∷ ys) h.1)

-- a list without brackets, at its end
pub listed_list : {X Y : Type 0} (P : Y → Type 0) (item : X → Item Y) (xs : List X) (more : Bool) → IsListed P item more xs → more ≡ false →
    IsList P (map item xs)
listed_list P item xs more w e = record {
  some = joined_some item xs (w.joined e);
  joined = joined_map item xs (w.joined e);
  each = All-map (λ y. P y.value) item xs w.each;
}

some_none : {X : Type 0} {A : Type 0} (o : Option X) → IsSome o → o ≡ None → A
some_none None h e = clash (sym h)
some_none (Some x) h e = absurd (let f : ⊥ = cc in f)

complete_separated : {X Y : Type 0} (item : X → Item Y) (xs : List X) → Each (λ x. IsSome (item x).separator) xs → IsSeparated (map item xs)
complete_separated item [] h = tt
complete_separated item (x ∷ xs) h = (λ e. some_none (item x).separator h.0 e, complete_separated item xs h.1)

joined_separated : {X Y : Type 0} (item : X → Item Y) (xs : List X) → IsJoinedBy (λ x. (item x).separator) xs → IsSeparated (map item xs)
joined_separated item [] h = absurd h
joined_separated item (x ∷ []) h = (λ e. refl, tt)
joined_separated item (x ∷ (y ∷ ys)) h = (λ e. some_none (item x).separator h.0 e, joined_separated item (y ∷ ys) h.1)

-- a list in brackets, at its end
pub listed_open : {X Y : Type 0} (P : Y → Type 0) (item : X → Item Y) (xs : List X) (more : Bool) → IsListed P item more xs → IsOpenList P (map item xs)
listed_open P item xs true w = record { separated = complete_separated item xs (w.complete refl); each = All-map (λ y. P y.value) item xs w.each }
listed_open P item xs false w = record { separated = joined_separated item xs (w.joined refl); each = All-map (λ y. P y.value) item xs w.each }

-- at the end of a list without brackets
pub listed_false : {X Y : Type 0} (P : Y → Type 0) (item : X → Item Y) (xs : List X) (more : Bool) → IsListed P item more xs → more ≡ false →
    IsListed P item false xs
listed_false P item xs more w e = subst (λ b. IsListed P item b xs) e w

-- all of a list

pub all_none : {X : Type 0} (P : X → Type 0) (xs : List X) → xs ≡ [] → All P xs
all_none P xs e = subst (All P) (sym e) (All-nil P)

pub all_push : {X : Type 0} (P : X → Type 0) (xs ys : List X) (x : X) → All P xs → P x → ys ≡ xs ++ (x ∷ []) → All P ys
all_push P xs ys x w h e = subst (All P) (sym e) (All-append P xs (x ∷ []) w (All-cons P x [] h (All-nil P)))
