-- The positions of the uses of members that are picked from the tokens of a file.
use Rattle.std.proofs.Common.{ℕ, zero, suc, ◌≡◌, ◌<◌, ◌≤◌, ◌⊎◌, inl, inr, List, [], ◌∷◌, Option, Some, None, true, false, length, ap, sym, ◌∙◌, refl, subst}
use Rattle.std.proofs.Common.{arith}
use Rattle.std.specs.Prelude.{Contains, slice_index_or, Bool}
use Rattle.std.specs.List.{AllByRecursion}
use Rattle.std.proofs.lemmas.Bool.{true≢false}
use Rattle.go_scanner.specs.CutText.{CutText, tokens_in}
use Rattle.go_ast.specs.declared.syntax.Kind.{Kind}
use Rattle.go_ast.specs.declared.syntax.Kind.TheVariants as kind
use Rattle.go_ast.specs.declared.syntax.Token.{Token}
use Rattle.go_ast.specs.Kinds.{kinds_of}
use Rattle.go_ast.specs.SourceFile.{SourceFile, IsSourceFile}
use Rattle.go_scope.specs.IdentifierTokens.{is_ident_token}
use Rattle.law_tokens.proofs.Links.{AreConsecutive, HasKind, kind_from}
use Rattle.law_tokens.proofs.Roles.{consecutive, of_kind, by_kind}
use Rattle.types_expr.specs.Judge.{MemberUse, members_of}
use Rattle.types_expr.specs.World.{World}
use Rattle.types_stmt.specs.Declarations.{check_file}
use Rattle.refs_lookup.specs.Places.{IsBoundToPackage, IsMemberToken, as_key, as_selected}
use Rattle.refs_lookup.proofs.Picked.{IsPackage, MayUse, Picked, stops, passes, closes, leaves, selects, keys, Passes}
use Rattle.refs_lookup.proofs.Statements.{file_pass}

abbrev IsIn : MemberUse → List MemberUse → Type 0
IsIn x [] = ⊥
IsIn x (u ∷ us) = (u ≡ x) ⊎ IsIn x us

one_in : (x : MemberUse) (us : List MemberUse) (k : ℕ) → k < length us → slice_index_or us k x ≡ x → IsIn x us
one_in x [] k lt e = absurd (omega arith)
one_in x (u ∷ us) zero lt e = inl e
one_in x (u ∷ us) (suc k) lt e = inr (one_in x us k (omega arith) e)

-- their places rise

abbrev RisesFrom : ℕ → List MemberUse → Type 0
RisesFrom n [] = Unit {0}
RisesFrom n (u ∷ us) = (n ≤ u.place) × RisesFrom (suc u.place) us

rises_before : (n m : ℕ) (us : List MemberUse) → n ≤ m → RisesFrom m us → RisesFrom n us
rises_before n m [] le h = tt
rises_before n m (u ∷ us) le h = let k : m ≤ u.place = h.0 in (omega arith, h.1)

uses_rise : (w : World) (n : ℕ) (b e : Option ℕ) (us : List MemberUse) (ts : List Token) → Picked w b us ts e → AreConsecutive n ts → RisesFrom n us
uses_rise w n b _ _ _ stops c = tt
uses_rise w n b e us _ (passes {t = t} {ts = ts} p) c = rises_before n (suc n) us (omega arith) (uses_rise w (suc n) (Some t.place) e us ts p c.1)
uses_rise w n b e us _ (closes {ts = ts} k p) c = rises_before n (suc n) us (omega arith) (uses_rise w (suc n) None e us ts p c.1)
uses_rise w n b e us _ (leaves {ts = ts} k p) c = rises_before n (suc (suc n)) us (omega arith) (uses_rise w (suc (suc n)) None e us ts p c.1.1)
uses_rise w n b e _ _ (selects {u = u} {us = us} {d = d} {t = t} {ts = ts} m k i p) c =
    let at : u.place ≡ t.place = i in
    let second : t.place ≡ suc n = c.1.0 in
    (omega arith, rises_before (suc u.place) (suc (suc n)) us (omega arith) (uses_rise w (suc (suc n)) None e us ts p c.1.1))
uses_rise w n b e _ _ (keys {u = u} {us = us} {t = t} {ts = ts} k i p) c =
    let at : u.place ≡ t.place = i in
    let first : t.place ≡ n = c.0 in
    (omega arith, rises_before (suc u.place) (suc (suc n)) us (omega arith) (uses_rise w (suc (suc n)) None e us ts p c.1.1))

at_least : (n : ℕ) (us : List MemberUse) → RisesFrom n us → (x : MemberUse) → IsIn x us → n ≤ x.place
at_least n [] h x is = absurd is
at_least n (u ∷ us) h x is = elim is [
  | inl e ↦ (let same : u.place ≡ x.place = ap (λ (z : MemberUse). z.place) e in let le : n ≤ u.place = h.0 in omega arith)
  | inr rest ↦ (let le : n ≤ u.place = h.0 in let more : suc u.place ≤ x.place = at_least (suc u.place) us h.1 x rest in omega arith)
]

one_use : (n : ℕ) (us : List MemberUse) → RisesFrom n us → (x y : MemberUse) → IsIn x us → IsIn y us → x.place ≡ y.place → x ≡ y
one_use n [] h x y a b at = absurd a
one_use n (u ∷ us) h x y a b at = elim a [
  | inl e ↦ elim b [
    | inl f ↦ sym e ∙ f
    | inr rest ↦
        (let same : u.place ≡ x.place = ap (λ (z : MemberUse). z.place) e in
        let more : suc u.place ≤ y.place = at_least (suc u.place) us h.1 y rest in absurd (omega arith))
  ]
  | inr rest ↦ elim b [
    | inl f ↦
        (let same : u.place ≡ y.place = ap (λ (z : MemberUse). z.place) f in
        let more : suc u.place ≤ x.place = at_least (suc u.place) us h.1 x rest in absurd (omega arith))
    | inr other ↦ one_use (suc u.place) us h.1 x y rest other at
  ]
]

-- The dots and colons beside them. L: the tokens that are names of packages, with no dot before.

abbrev Local : (ℕ → Type 0) → Token → Type 0
Local L t = (L t.place → is_ident_token t.kind ≡ true) × (t.kind ≡ kind.Dot → L (suc t.place) → ⊥)

-- If the token before `n` is one of `L`, `b` is that token.
abbrev Faithful : (ℕ → Type 0) → ℕ → Option ℕ → Type 0
Faithful L n b = (k : ℕ) → suc k ≡ n → L k → b ≡ Some k

abbrev Beside : (ℕ → Type 0) → List Token → ℕ → Type 0
Beside L ts place = HasKind kind.Colon (suc place) ts ⊎ (((i : ℕ) × ((suc i ≡ place) × HasKind kind.Dot i ts)) × ((k : ℕ) → suc (suc k) ≡ place → L k → ⊥))

beside_more : (L : ℕ → Type 0) (t : Token) (ts : List Token) (place : ℕ) → Beside L ts place → Beside L (t ∷ ts) place
beside_more L t ts place h = elim h [
  | inl colon ↦ inl (inr colon)
  | inr q ↦ inr ((q.0.0, (q.0.1.0, inr q.0.1.1)), q.1)
]

no_name : (k : Kind) → k ≡ kind.Colon → is_ident_token k ≡ false
no_name k e = ap is_ident_token e

module _ (w : World) (L : ℕ → Type 0) (named : (k : ℕ) → L k → IsPackage w k) where
  told_some : (n : ℕ) (t : Token) → t.place ≡ n → Faithful L (suc n) (Some t.place)
  told_some n t at k e l = ap Some (let f : t.place ≡ n = at in let g : suc k ≡ suc n = e in let h : t.place ≡ k = omega arith in h)

  told_none : (n : ℕ) (t : Token) → t.place ≡ n → is_ident_token t.kind ≡ false → Local L t → Faithful L (suc n) None
  told_none n t at other h k e l =
      let f : t.place ≡ n = at in
      let g : suc k ≡ suc n = e in
      let same : k ≡ t.place = omega arith in
      absurd (true≢false (sym (h.0 (subst L same l)) ∙ other))

  told_dotted : (n : ℕ) (d : Token) → d.place ≡ n → d.kind ≡ kind.Dot → Local L d → Faithful L (suc (suc n)) None
  told_dotted n d at dot h k e l =
      let f : d.place ≡ n = at in
      let g : suc k ≡ suc (suc n) = e in
      let same : k ≡ suc d.place = omega arith in
      absurd (h.1 dot (subst L same l))

  each_beside : (n : ℕ) (b e : Option ℕ) (us : List MemberUse) (ts : List Token) → Picked w b us ts e → AreConsecutive n ts → Faithful L n b →
      AllByRecursion (Local L) ts → (x : MemberUse) → IsIn x us → Beside L ts x.place
  each_beside n b _ _ _ stops c f a x is = absurd is
  each_beside n b e us _ (passes {t = t} {ts = ts} p) c f a x is =
      beside_more L t ts x.place (each_beside (suc n) (Some t.place) e us ts p c.1 (told_some n t c.0) a.1 x is)
  each_beside n b e us _ (closes {t = t} {ts = ts} k p) c f a x is =
      beside_more L t ts x.place (each_beside (suc n) None e us ts p c.1 (told_none n t c.0 k a.0) a.1 x is)
  each_beside n b e us _ (leaves {d = d} {t = t} {ts = ts} k p) c f a x is =
      beside_more L d (t ∷ ts) x.place
      (beside_more L t ts x.place (each_beside (suc (suc n)) None e us ts p c.1.1 (told_dotted n d c.0 k a.0) a.1.1 x is))
  each_beside n b e _ _ (selects {u = u} {us = us} {d = d} {t = t} {ts = ts} may k i p) c f a x is = elim is [
    | inl same ↦
        (let at : u.place ≡ t.place = i in
        let here : u.place ≡ x.place = ap (λ (z : MemberUse). z.place) same in
        let first : d.place ≡ n = c.0 in
        let second : t.place ≡ suc n = c.1.0 in
        inr (
          (n, ((omega arith), inl (c.0, k))),
          λ j g l. let far : suc (suc j) ≡ x.place = g in
              let before : suc j ≡ n = omega arith in
              let use_of : MayUse w (Some j) = subst (MayUse w) (f j before l) may in use_of (named j l),
        ))
    | inr rest ↦
        beside_more L d (t ∷ ts) x.place
        (beside_more L t ts x.place (each_beside (suc (suc n)) None e us ts p c.1.1 (told_dotted n d c.0 k a.0) a.1.1 x rest))
  ]
  each_beside n b e _ _ (keys {u = u} {us = us} {t = t} {c = colon} {ts = ts} k i p) c f a x is = elim is [
    | inl same ↦
        (let at : u.place ≡ t.place = i in
        let here : u.place ≡ x.place = ap (λ (z : MemberUse). z.place) same in
        let first : t.place ≡ n = c.0 in
        let second : colon.place ≡ suc n = c.1.0 in
        inl (inr (inl ((omega arith), k))))
    | inr rest ↦
        beside_more L t (colon ∷ ts) x.place
        (beside_more L colon ts x.place
        (each_beside (suc (suc n)) None e us ts p c.1.1 (told_none (suc n) colon c.1.0 (no_name colon.kind k) a.1.0) a.1.1 x rest))
  ]

-- in a file

one_kind : (n : ℕ) (ts : List Token) → AreConsecutive n ts → (j k : Kind) (i : ℕ) → HasKind j i ts → HasKind k i ts → j ≡ k
one_kind n [] c j k i a b = absurd a
one_kind n (t ∷ ts) c j k i a b = elim a [
  | inl x ↦ elim b [
    | inl y ↦ sym x.1 ∙ y.1
    | inr rest ↦
        (let at : t.place ≡ i = x.0 in let first : t.place ≡ n = c.0 in let le : suc n ≤ i = kind_from (suc n) ts c.1 k i rest in absurd (omega arith))
  ]
  | inr rest ↦ elim b [
    | inl y ↦
        (let at : t.place ≡ i = y.0 in let first : t.place ≡ n = c.0 in let le : suc n ≤ i = kind_from (suc n) ts c.1 j i rest in absurd (omega arith))
    | inr other ↦ one_kind (suc n) ts c.1 j k i rest other
  ]
]

local_all : (w : World) (cut : CutText) (ts : List Token) → ((k : Kind) (i : ℕ) → HasKind k i ts → HasKind k i (kinds_of cut)) →
    AllByRecursion (Local (IsBoundToPackage w cut)) ts
local_all w cut [] within = tt
local_all w cut (t ∷ ts) within = (
  (
    (λ l. ap is_ident_token (one_kind 0 (kinds_of cut) (consecutive 0 cut.text (tokens_in cut)) t.kind l.kind t.place (within t.kind t.place (inl (refl, refl)))
        (by_kind cut l.kind t.place l.of_kind)) ∙ l.named),
    (λ dot l. l.undotted (t.place, (refl, of_kind cut kind.Dot t.place (within kind.Dot t.place (inl (refl, dot)))))),
  ),
  local_all w cut ts (λ k i h. within k i (inr h)),
)

file_picked : (w : World) (is_init : ℕ → Bool) (f : SourceFile) → IsSourceFile f → Passes w (check_file w is_init f.tree).uses (kinds_of f.cut)
file_picked w is_init f is = subst (λ ts. Passes w (check_file w is_init f.tree).uses ts) is.is_tree.written (file_pass w is_init f.tree)

pub one_at_token : (w : World) (is_init : ℕ → Bool) (f : SourceFile) → IsSourceFile f → (x y : MemberUse) →
    Contains (members_of (check_file w is_init f.tree).uses) x →
    Contains (members_of (check_file w is_init f.tree).uses) y → x.place ≡ y.place → x ≡ y
one_at_token w is_init f is x y a b at =
    let us = members_of (check_file w is_init f.tree).uses in
    let p = file_picked w is_init f is None in
    one_use 0 us (uses_rise w 0 None p.0 us (kinds_of f.cut) p.1 (consecutive 0 f.cut.text (tokens_in f.cut))) x y (one_in x us a.0 a.1 a.2)
    (one_in y us b.0 b.1 b.2) at

at_link : (w : World) (cut : CutText) (place : ℕ) → Beside (IsBoundToPackage w cut) (kinds_of cut) place → IsMemberToken w cut place
at_link w cut place h = elim h [
  | inl colon ↦ as_key (of_kind cut kind.Colon (suc place) colon)
  | inr q ↦ as_selected (q.0.0, (q.0.1.0, of_kind cut kind.Dot q.0.0 q.0.1.1)) q.1
]

pub stands_at_link : (w : World) (is_init : ℕ → Bool) (f : SourceFile) → IsSourceFile f → (x : MemberUse) →
    Contains (members_of (check_file w is_init f.tree).uses) x →
    IsMemberToken w f.cut x.place
stands_at_link w is_init f is x a =
    let us = members_of (check_file w is_init f.tree).uses in
    let p = file_picked w is_init f is None in
    at_link w f.cut x.place
    (each_beside w (IsBoundToPackage w f.cut) (λ k l. l.names) 0 None p.0 us (kinds_of f.cut) p.1 (consecutive 0 f.cut.text (tokens_in f.cut))
    (λ k e l. absurd (omega arith)) (local_all w f.cut (kinds_of f.cut) (λ k i h. h)) x (one_in x us a.0 a.1 a.2))
