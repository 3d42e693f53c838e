-- The tokens of a part of a tree among the tokens of the whole.
use Rattle.std.proofs.Common.{ℕ, suc, ◌≡◌, inl, inr, List, [], ◌∷◌, ◌++◌, subst, sym}
use Rattle.std.specs.Prelude.{All, map, Bool, true, false, cond, if◌then◌else◌, Contains}
use Rattle.std.specs.List.{flat_map}
use Rattle.std.proofs.lemmas.List.Elements.{All-nil, All-cons, All-head, All-tail, All-append, All-weaker, All-map}
use Rattle.base_lemmas.proofs.Elements.{first_in, later_in}
use Rattle.go_ast.specs.declared.syntax.Kind.{Kind}
use Rattle.go_ast.specs.declared.syntax.Kind.TheVariants as kind
use Rattle.go_ast.specs.declared.syntax.Token.{Token}
use Rattle.go_ast.specs.Flatten.{sign_if, all_tokens, item_tokens, list_tokens, group_tokens, sign}
use Rattle.go_ast.specs.Tree.{Item, Group, single, several, TypeTree, ParamTree, MethodTree}
use Rattle.types_declared.specs.Written.{signature_types, asked_types}
use Rattle.types_declared.specs.MeaningOf.{parameter_types}
use Rattle.types_declared.specs.Files.{group_items}
use Rattle.go_scope.specs.IdentifierTokens.{is_header_name, is_ident_token}
use Rattle.law_tokens.specs.Tokens.{begins_declaration, names_among, identifiers_among}
use Rattle.law_tokens.proofs.Links.{AreConsecutive, HasKind}

-- The tokens `us` are among `ts`, and are consecutive if these are.
pub record IsPart (us ts : List Token) : Type 0 where
  pub consecutive : (n : ℕ) → AreConsecutive n ts → (m : ℕ) × AreConsecutive m us
  pub holds : (k : Kind) (i : ℕ) → HasKind k i us → HasKind k i ts

consecutive_front : (n : ℕ) (xs ys : List Token) → AreConsecutive n (xs ++ ys) → AreConsecutive n xs
consecutive_front n [] ys h = tt
consecutive_front n (x ∷ xs) ys h = (h.0, consecutive_front (suc n) xs ys h.1)

consecutive_back : (n : ℕ) (xs ys : List Token) → AreConsecutive n (xs ++ ys) → (m : ℕ) × AreConsecutive m ys
consecutive_back n [] ys h = (n, h)
consecutive_back n (x ∷ xs) ys h = consecutive_back (suc n) xs ys h.1

holds_front : (k : Kind) (i : ℕ) (xs ys : List Token) → HasKind k i xs → HasKind k i (xs ++ ys)
holds_front k i [] ys h = absurd h
holds_front k i (x ∷ xs) ys h = elim h [ inl here ↦ inl here | inr rest ↦ inr (holds_front k i xs ys rest) ]

holds_back : (k : Kind) (i : ℕ) (xs ys : List Token) → HasKind k i ys → HasKind k i (xs ++ ys)
holds_back k i [] ys h = h
holds_back k i (x ∷ xs) ys h = inr (holds_back k i xs ys h)

pub itself : (ts : List Token) → IsPart ts ts
itself ts = record { consecutive = λ n h. (n, h); holds = λ k i h. h }

pub front : (xs ys : List Token) → IsPart xs (xs ++ ys)
front xs ys = record { consecutive = λ n h. (n, consecutive_front n xs ys h); holds = λ k i h. holds_front k i xs ys h }

pub back : (xs ys : List Token) → IsPart ys (xs ++ ys)
back xs ys = record { consecutive = λ n h. consecutive_back n xs ys h; holds = λ k i h. holds_back k i xs ys h }

pub part_of : (us ts ss : List Token) → IsPart us ts → IsPart ts ss → IsPart us ss
part_of us ts ss a b = record {
  consecutive = λ n h. let m = b.consecutive n h in a.consecutive m.0 m.1;
  holds = λ k i h. b.holds k i (a.holds k i h);
}

-- where more stands before and behind
pub inside : (us xs ts ys : List Token) → IsPart us ts → IsPart us (xs ++ (ts ++ ys))
inside us xs ts ys h = part_of us ts (xs ++ (ts ++ ys)) h (part_of ts (ts ++ ys) (xs ++ (ts ++ ys)) (front ts ys) (back xs (ts ++ ys)))

-- lists and groups

pub of_all : {X : Type 0} (t : X → List Token) (xs : List X) → All (λ x. IsPart (t x) (all_tokens t xs)) xs
unfolding all_tokens
of_all t [] = All-nil (λ x. IsPart (t x) (all_tokens t []))
of_all t (x ∷ xs) =
    let whole = t x ++ all_tokens t xs in
    All-cons (λ y. IsPart (t y) whole) x xs (front (t x) (all_tokens t xs))
    (All-weaker (λ y. IsPart (t y) (all_tokens t xs)) (λ y. IsPart (t y) whole)
    (λ y h. part_of (t y) (all_tokens t xs) whole h (back (t x) (all_tokens t xs))) xs (of_all t xs))

pub of_list : {X : Type 0} (k : Kind) (t : X → List Token) (xs : List (Item X)) → All (λ i. IsPart (t i.value) (list_tokens k t xs)) xs
of_list k t xs =
    All-weaker (λ i. IsPart (item_tokens k t i) (list_tokens k t xs)) (λ i. IsPart (t i.value) (list_tokens k t xs))
    (λ i h. part_of (t i.value) (item_tokens k t i) (list_tokens k t xs) (front (t i.value) (sign_if k i.separator)) h) xs
    (of_all (item_tokens k t) xs)

pub of_group : {X : Type 0} (t : X → List Token) (g : Group X) → All (λ x. IsPart (t x) (group_tokens t g)) (group_items g)
unfolding group_tokens
of_group t (single x) =
    All-cons (λ y. IsPart (t y) (t x)) x [] (itself (t x)) (All-nil (λ y. IsPart (t y) (t x)))
of_group {X} t (several o xs c) =
    let items = list_tokens kind.Semicolon t xs in
    let whole = sign kind.LeftParen o ∷ (items ++ (sign kind.RightParen c ∷ [])) in
    All-map (λ x. IsPart (t x) whole) (λ (i : Item X). i.value) xs
    (All-weaker (λ i. IsPart (t i.value) items) (λ i. IsPart (t i.value) whole)
    (λ i h. inside (t i.value) (sign kind.LeftParen o ∷ []) items (sign kind.RightParen c ∷ []) h) xs (of_list kind.Semicolon t xs))

-- what holds of all that `f` gives for each of some elements
pub all_given : {X Y : Type 0} (P : Y → Type 0) (Q : X → Type 0) (f : X → List Y) → ((x : X) → Q x → All P (f x)) → (xs : List X) → All Q xs →
    All P (flat_map f xs)
all_given P Q f each [] h = All-nil P
all_given P Q f each (x ∷ xs) h = All-append P (f x) (flat_map f xs) (each x (All-head Q x xs h)) (all_given P Q f each xs (All-tail Q x xs h))

pub all_alike : {X : Type 0} (P : Type 0) → P → (xs : List X) → All (λ x. P) xs
all_alike P h xs = λ k d lt. h

-- what holds of each of two lists, one after the other

pub all_of_left : {X : Type 0} (P : X → Type 0) (xs ys : List X) → All P (xs ++ ys) → All P xs
all_of_left P [] ys h = All-nil P
all_of_left P (x ∷ xs) ys h = All-cons P x xs (All-head P x (xs ++ ys) h) (all_of_left P xs ys (All-tail P x (xs ++ ys) h))

pub all_of_right : {X : Type 0} (P : X → Type 0) (xs ys : List X) → All P (xs ++ ys) → All P ys
all_of_right P [] ys h = h
all_of_right P (x ∷ xs) ys h = all_of_right P xs ys (All-tail P x (xs ++ ys) h)

pub of_mapped : {X Y : Type 0} (P : Y → Type 0) (f : X → Y) (xs : List X) → All P (map f xs) → All (λ x. P (f x)) xs
of_mapped P f [] h = All-nil (λ x. P (f x))
of_mapped P f (x ∷ xs) h = All-cons (λ x. P (f x)) x xs (All-head P (f x) (map f xs) h) (of_mapped P f xs (All-tail P (f x) (map f xs) h))

-- the types of parameters, once for each name
pub of_parameters : (P : TypeTree → Type 0) (ps : List (Item ParamTree)) → All P (map (λ i. i.value.type_use) ps) → All P (parameter_types ps)
of_parameters P ps h =
    let Q : Item ParamTree → Type 0 = λ i. P i.value.type_use in
    all_given P Q (λ i. map (λ n. i.value.type_use) i.value.names)
    (λ i d. All-map P (λ n. i.value.type_use) i.value.names (all_alike (Q i) d i.value.names)) ps
    (of_mapped P (λ (i : Item ParamTree). i.value.type_use) ps h)

-- the types of each method that an interface asks for
pub of_asked : (P : TypeTree → Type 0) (ms : List (Item MethodTree)) → All P (asked_types ms) →
    All (λ i. All P (signature_types i.value.params i.value.result)) ms
of_asked P [] h = All-nil (λ (i : Item MethodTree). All P (signature_types i.value.params i.value.result))
of_asked P (m ∷ ms) h =
    let own = signature_types m.value.params m.value.result in
    All-cons (λ (i : Item MethodTree). All P (signature_types i.value.params i.value.result)) m ms (all_of_left P own (asked_types ms) h)
    (of_asked P ms (all_of_right P own (asked_types ms) h))

-- a name among the tokens is one of the identifiers among them

abbrev HasToken : ℕ → List Token → Type 0
HasToken i ts = (t : Token) × (Contains ts t × (t.place ≡ i))

one_more : (i : ℕ) (t : Token) (ts : List Token) → HasToken i ts → HasToken i (t ∷ ts)
one_more i t ts h = (h.0, (later_in t ts h.0 h.1.0, h.1.1))

kept_or_not : (b : Bool) (i : ℕ) (t : Token) (ts : List Token) → HasToken i ts → HasToken i (cond b (t ∷ ts) ts)
kept_or_not true i t ts h = one_more i t ts h
kept_or_not false i t ts h = h

name_among : (i : ℕ) (ts : List Token) → HasKind kind.Name i ts → HasToken i (names_among ts)
name_among i [] h = absurd h
name_among i (t ∷ ts) h = elim h [
  | inl here ↦
      let kept : HasToken i (cond (is_ident_token kind.Name) (t ∷ names_among ts) (names_among ts)) = (t, (first_in t (names_among ts), here.0)) in
      subst (λ k. HasToken i (cond (is_ident_token k) (t ∷ names_among ts) (names_among ts))) (sym here.1) kept
  | inr rest ↦ kept_or_not (is_ident_token t.kind) i t (names_among ts) (name_among i ts rest)
]

either_way : (b c : Bool) (i : ℕ) (t : Token) (ns ts : List Token) → HasToken i ns → HasToken i ts →
    HasToken i (if b then ns else (if c then t ∷ ts else ts))
either_way true c i t ns ts a h = a
either_way false true i t ns ts a h = one_more i t ts h
either_way false false i t ns ts a h = h

pub identifier_among : (i : ℕ) (ts : List Token) → HasKind kind.Name i ts → HasToken i (identifiers_among ts)
unfolding identifiers_among
identifier_among i [] h = absurd h
identifier_among i (t ∷ ts) h = elim h [
  | inl here ↦
      let names = names_among ts in
      let rest = identifiers_among ts in
      let taken : HasToken i (t ∷ rest) = (t, (first_in t rest, here.0)) in
      subst (λ k. HasToken i (if begins_declaration k then names else (if is_header_name k then t ∷ rest else rest))) (sym here.1) taken
  | inr rest ↦ either_way (begins_declaration t.kind) (is_header_name t.kind) i t (names_among ts) (identifiers_among ts)
      (name_among i ts rest) (identifier_among i ts rest)
]
