-- What is known of the locals before a part of a file, by the identifiers that stand before it.
use Rattle.std.proofs.Common.{ℕ, suc, ◌≡◌, ◌<◌, ◌≤◌, inl, inr, ◌==◌, Bool, true, false, if◌then◌else◌, List, [], ◌∷◌, ◌++◌, Option, Some, ap, sym, refl}
use Rattle.std.proofs.Common.{◌∙◌, arith, eq-eqb}
use Rattle.std.specs.List.{AllByRecursion}
use Rattle.std.proofs.lemmas.Bool.{true≢false}
use Rattle.go_scope.specs.declared.model.Block.TheVariants.{Universe, Package, File, Inner}
use Rattle.go_scope.specs.declared.model.Role.{Role}
use Rattle.go_scope.specs.declared.model.Role.TheVariants.{Use, Declaring, LeftName, Implied, NotLexical}
use Rattle.go_scope.specs.declared.model.Purpose.TheVariants as purpose
use Rattle.go_scope.specs.Bindings.{may_declare, start_of}
use Rattle.go_scope.specs.Site.{Site}
use Rattle.go_scope.proofs.Regions.{Each}
use Rattle.types_expr.specs.Types.{PlainType, Typed, Value}
use Rattle.types_expr.specs.World.{World, Locals, declared}
use Rattle.law_typing.specs.Names.{NameMeans, a_local, a_bound}
use Rattle.law_faultless.specs.ResolvedNames.{may_be_local, HoldsTokens, IsOwnLocal, IsEarlierLocal, IsResolved, AreResolved}
use Rattle.law_faultless.proofs.Lists.{contained, all_held}
use Rattle.law_faultless.proofs.Named.{IsNamed, AreNamed}

pub local_may : (r : Role) → may_be_local r ≡ true → may_declare r ≡ true
local_may (Declaring (Inner file from to) start) e = refl
local_may (LeftName (Inner file from to) start) e = refl
local_may (Declaring Universe start) e = refl
local_may (Declaring Package start) e = refl
local_may (Declaring (File file) start) e = refl
local_may (LeftName Universe start) e = refl
local_may (LeftName Package start) e = refl
local_may (LeftName (File file) start) e = refl
local_may (Implied block start) e = refl
local_may Use e = absurd (true≢false (sym e))
local_may (NotLexical p) e = absurd (true≢false (sym e))

-- The identifiers before the rest of a list: those of A, and those that were passed.
abbrev pub past : List Site → List Site → List Site
past A [] = A
past A (x ∷ xs) = past (x ∷ A) xs

pub past_append : (A xs ys : List Site) → past A (xs ++ ys) ≡ past (past A xs) ys
past_append A [] ys = refl
past_append A (x ∷ xs) ys = past_append (x ∷ A) xs ys

pub resolved_left : (w : World) (B : ℕ → Type 0) (A xs ys : List Site) → AreResolved w B A (xs ++ ys) → AreResolved w B A xs
resolved_left w B A [] ys h = tt
resolved_left w B A (x ∷ xs) ys h = (h.0, resolved_left w B (x ∷ A) xs ys h.1)

pub resolved_right : (w : World) (B : ℕ → Type 0) (A xs ys : List Site) → AreResolved w B A (xs ++ ys) → AreResolved w B (past A xs) ys
resolved_right w B A [] ys h = h
resolved_right w B A (x ∷ xs) ys h = resolved_right w B (x ∷ A) xs ys h.1

-- a local has a type; and if its scope begins before a token
abbrev pub IsKnown : Option PlainType → Type 0
IsKnown o = (t : PlainType) × (o ≡ Some t)

abbrev pub Known : World → Locals → Site → Type 0
Known w ls y = IsOwnLocal w y → IsKnown (ls y.place.index)

abbrev KnownBelow : World → Locals → ℕ → Site → Type 0
KnownBelow w ls q y = IsOwnLocal w y → suc (start_of y.role) ≤ q → IsKnown (ls y.place.index)

-- its scope does not begin before that token
abbrev pub BeginsLater : World → ℕ → Site → Type 0
BeginsLater w q y = IsOwnLocal w y → q ≤ start_of y.role

pub AllKnown : World → Locals → List Site → Type 0
AllKnown w ls A = AllByRecursion (Known w ls) A

pub known_none : (w : World) (ls : Locals) → AllKnown w ls []
unfolding AllKnown
known_none w ls = tt

-- names mean something

earlier_typed : (w : World) (ls : Locals) (q n : ℕ) (A : List Site) → AllByRecursion (KnownBelow w ls q) A → n < q → IsEarlierLocal w A n →
    (t : PlainType) × NameMeans w ls n (Value (Typed t) true)
earlier_typed w ls q n A known lt e =
    let begun : start_of e.local.role ≤ n = e.begun in
    let k = all_held (KnownBelow w ls q) A e.local known (contained A e.local e.among) e.own (omega arith) in (k.0, a_local e.bound k.1)

one_named : (w : World) (B : ℕ → Type 0) (ls : Locals) (q n : ℕ) (A : List Site) → AllByRecursion (KnownBelow w ls q) A → n < q → (r : Role) →
    IsResolved w B A n r → IsNamed w B ls n r
one_named w B ls q n A known lt Use h =
    (elim h.0 [ inl m ↦ (m.0, a_bound m.1.0 m.1.1) | inr e ↦ (let t = earlier_typed w ls q n A known lt e in (Value (Typed t.0) true, t.1)) ], h.1)
one_named w B ls q n A known lt (NotLexical purpose.Selected) h = λ b e f. let m = h b e f in (m.0, a_bound m.1.0 m.1.1)
one_named w B ls q n A known lt (LeftName block start) h = elim h [ inl own ↦ inl own | inr e ↦ inr (earlier_typed w ls q n A known lt e) ]
one_named w B ls q n A known lt r h = tt

named_below : (w : World) (B : ℕ → Type 0) (ls : Locals) (q : ℕ) (A xs : List Site) → AllByRecursion (KnownBelow w ls q) A →
    AllByRecursion (λ x. x.place.index < q) xs → AllByRecursion (BeginsLater w q) xs → AreResolved w B A xs → AreNamed w B ls xs
named_below w B ls q A [] known lt later h = tt
named_below w B ls q A (x ∷ xs) known lt later h = (
  one_named w B ls q x.place.index A known lt.0 x.role h.0,
  named_below w B ls q (x ∷ A) xs ((λ own less. let le : q ≤ start_of x.role = later.0 own in absurd (omega arith)), known) lt.1 later.1 h.1,
)

below : (w : World) (ls : Locals) (q : ℕ) (A : List Site) → AllByRecursion (Known w ls) A → AllByRecursion (KnownBelow w ls q) A
below w ls q [] h = tt
below w ls q (x ∷ xs) h = ((λ own less. h.0 own), below w ls q xs h.1)

pub all_named : (w : World) (B : ℕ → Type 0) (ls : Locals) (q : ℕ) (A xs : List Site) → AllKnown w ls A → AllByRecursion (λ x. x.place.index < q) xs →
    AllByRecursion (BeginsLater w q) xs → AreResolved w B A xs → AreNamed w B ls xs
unfolding AllKnown
all_named w B ls q A xs known lt later h = named_below w B ls q A xs (below w ls q A known) lt later h

-- behind a part

abbrev pub Kept : Locals → Locals → Type 0
Kept before after = (n : ℕ) → IsKnown (before n) → IsKnown (after n)

kept_known : (w : World) (before after : Locals) → Kept before after → (A : List Site) → AllByRecursion (Known w before) A → AllByRecursion (Known w after) A
kept_known w before after k [] h = tt
kept_known w before after k (x ∷ xs) h = ((λ own. k x.place.index (h.0 own)), kept_known w before after k xs h.1)

past_known : (w : World) (ls : Locals) (A xs : List Site) → AllByRecursion (Known w ls) A → AllByRecursion (Known w ls) xs →
    AllByRecursion (Known w ls) (past A xs)
past_known w ls A [] a h = a
past_known w ls A (x ∷ xs) a h = past_known w ls (x ∷ A) xs (h.0, a) h.1

pub known_past : (w : World) (before after : Locals) (A xs : List Site) → Kept before after → AllKnown w before A → AllByRecursion (Known w after) xs →
    AllKnown w after (past A xs)
unfolding AllKnown
known_past w before after A xs k a h = past_known w after A xs (kept_known w before after k A a) h

-- what declares nothing
pub plain_known : (w : World) (ls : Locals) (xs : List Site) → Each (λ x. may_declare x.role ≡ false) xs → AllByRecursion (Known w ls) xs
plain_known w ls [] h = tt
plain_known w ls (x ∷ xs) h = ((λ own. absurd (true≢false (sym (local_may x.role own.1) ∙ h.0))), plain_known w ls xs h.1)

pub plain_later : (w : World) (q : ℕ) (xs : List Site) → Each (λ x. may_declare x.role ≡ false) xs → AllByRecursion (BeginsLater w q) xs
plain_later w q [] h = tt
plain_later w q (x ∷ xs) h = ((λ own. absurd (true≢false (sym (local_may x.role own.1) ∙ h.0))), plain_later w q xs h.1)

pub plain_past : (w : World) (ls : Locals) (A xs : List Site) → AllKnown w ls A → Each (λ x. may_declare x.role ≡ false) xs → AllKnown w ls (past A xs)
plain_past w ls A xs a h = known_past w ls ls A xs (λ n k. k) a (plain_known w ls xs h)

-- one more local

declared_if_test : (before : Locals) (p n : ℕ) (t : PlainType) (b : Bool) → IsKnown (before n) → IsKnown (if b then Some t else before n)
declared_if_test before p n t true k = (t, refl)
declared_if_test before p n t false k = k

pub declared_kept : (before : Locals) (p : ℕ) (t : PlainType) → Kept before (declared before p (Some t))
declared_kept before p t n k = declared_if_test before p n t (n == p) k

pub declared_known : (before : Locals) (p : ℕ) (t : PlainType) → IsKnown (declared before p (Some t) p)
declared_known before p t = (t, ap (λ b. if b then Some t else before p) (eq-eqb p p refl))

-- what is no local
pub abroad_known : (w : World) (ls : Locals) (xs : List Site) → AllByRecursion (λ x. may_be_local x.role ≡ false) xs → AllByRecursion (Known w ls) xs
abroad_known w ls [] h = tt
abroad_known w ls (x ∷ xs) h = ((λ own. absurd (true≢false (sym own.1 ∙ h.0))), abroad_known w ls xs h.1)

pub abroad_past : (w : World) (ls : Locals) (A xs : List Site) → AllKnown w ls A → AllByRecursion (λ x. may_be_local x.role ≡ false) xs →
    AllKnown w ls (past A xs)
abroad_past w ls A xs a h = known_past w ls ls A xs (λ n k. k) a (abroad_known w ls xs h)

-- what declares no local whose scope holds a token
abbrev pub IsShut : Site → Type 0
IsShut x = may_be_local x.role ≡ true → HoldsTokens x.role → ⊥

shut_known : (w : World) (ls : Locals) (xs : List Site) → AllByRecursion IsShut xs → AllByRecursion (Known w ls) xs
shut_known w ls [] h = tt
shut_known w ls (x ∷ xs) h = ((λ own. absurd (h.0 own.1 own.2)), shut_known w ls xs h.1)

pub shut_past : (w : World) (ls : Locals) (A xs : List Site) → AllKnown w ls A → AllByRecursion IsShut xs → AllKnown w ls (past A xs)
shut_past w ls A xs a h = known_past w ls ls A xs (λ n k. k) a (shut_known w ls xs h)
