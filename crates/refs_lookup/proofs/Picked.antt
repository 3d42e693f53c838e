-- The uses of members among tokens.
use Rattle.std.proofs.Common.{ℕ, ◌≡◌, List, [], ◌∷◌, ◌++◌, Option, Some, None, false, append-nil, sym, subst}
use Rattle.go_ast.specs.declared.syntax.Kind.{Kind}
use Rattle.go_ast.specs.declared.syntax.Kind.TheVariants as kind
use Rattle.go_ast.specs.declared.syntax.Token.{Token}
use Rattle.go_ast.specs.Flatten.{sign}
use Rattle.go_scope.specs.IdentifierTokens.{is_ident_token}
use Rattle.types_expr.specs.Types.{Meaning, Package, Broken}
use Rattle.types_expr.specs.World.{World, Means}
use Rattle.types_expr.specs.Judge.{MemberUse, Noted, members_of}
use Rattle.types_expr.proofs.NoteLists.{NotesNoMember, members_append, members_then, members_behind}

abbrev pub IsPackage : World → ℕ → Type 0
IsPackage w k = w.bound k ≡ Means Package

-- The token before, if it may be the name of a package, is none.
abbrev pub MayUse : World → Option ℕ → Type 0
MayUse w None = Unit {0}
MayUse w (Some k) = IsPackage w k → ⊥

-- The uses are at names among the tokens, in order. Each comes after a dot or before a colon, and not after the name of a package. `before`
-- and `after`: the token there, if it may be a name that no dot precedes.
pub data Picked (w : World) : (before : Option ℕ) → List MemberUse → List Token → (after : Option ℕ) → Type 0 where
  stops : {b : Option ℕ} → Picked w b [] [] b
  passes : {b e : Option ℕ} {us : List MemberUse} {t : Token} {ts : List Token} → Picked w (Some t.place) us ts e → Picked w b us (t ∷ ts) e
  closes : {b e : Option ℕ} {us : List MemberUse} {t : Token} {ts : List Token} → is_ident_token t.kind ≡ false → Picked w None us ts e →
      Picked w b us (t ∷ ts) e
  leaves : {b e : Option ℕ} {us : List MemberUse} {d t : Token} {ts : List Token} → d.kind ≡ kind.Dot → Picked w None us ts e → Picked w b us (d ∷ (t ∷ ts)) e
  selects : {b e : Option ℕ} {u : MemberUse} {us : List MemberUse} {d t : Token} {ts : List Token} → MayUse w b → d.kind ≡ kind.Dot → u.place ≡ t.place →
      Picked w None us ts e → Picked w b (u ∷ us) (d ∷ (t ∷ ts)) e
  keys : {b e : Option ℕ} {u : MemberUse} {us : List MemberUse} {t c : Token} {ts : List Token} → c.kind ≡ kind.Colon → u.place ≡ t.place →
      Picked w None us ts e → Picked w b (u ∷ us) (t ∷ (c ∷ ts)) e

pub picked_append : (w : World) (b c e : Option ℕ) (us vs : List MemberUse) (ts rs : List Token) → Picked w b us ts c → Picked w c vs rs e →
    Picked w b (us ++ vs) (ts ++ rs) e
picked_append w b _ e _ vs _ rs stops q = q
picked_append w b c e us vs _ rs (passes {t = t} {ts = ts} p) q = passes (picked_append w (Some t.place) c e us vs ts rs p q)
picked_append w b c e us vs _ rs (closes {ts = ts} k p) q = closes k (picked_append w None c e us vs ts rs p q)
picked_append w b c e us vs _ rs (leaves {ts = ts} k p) q = leaves k (picked_append w None c e us vs ts rs p q)
picked_append w b c e _ vs _ rs (selects {us = us} {ts = ts} m k i p) q = selects m k i (picked_append w None c e us vs ts rs p q)
picked_append w b c e _ vs _ rs (keys {us = us} {ts = ts} k i p) q = keys k i (picked_append w None c e us vs ts rs p q)

noted_append : (w : World) (b c e : Option ℕ) (us vs : List Noted) (ts rs : List Token) → Picked w b (members_of us) ts c → Picked w c (members_of vs) rs e →
    Picked w b (members_of (us ++ vs)) (ts ++ rs) e
noted_append w b c e us vs ts rs p q =
    subst (λ xs. Picked w b xs (ts ++ rs) e) (sym (members_append us vs)) (picked_append w b c e (members_of us) (members_of vs) ts rs p q)

-- whatever stands before the tokens
abbrev pub Passes : World → List Noted → List Token → Type 0
Passes w us ts = (b : Option ℕ) → (e : Option ℕ) × Picked w b (members_of us) ts e

pub pass_append : (w : World) (us vs : List Noted) (ts rs : List Token) → Passes w us ts → Passes w vs rs → Passes w (us ++ vs) (ts ++ rs)
pass_append w us vs ts rs p q b = let l = p b in let r = q l.0 in (r.0, noted_append w b l.0 r.0 us vs ts rs l.1 r.1)

-- notes of no use of a member behind other notes, and before them

pub more_pass : (w : World) (us vs : List Noted) (ts : List Token) → NotesNoMember vs → Passes w us ts → Passes w (us ++ vs) ts
more_pass w us vs ts e p b = let r = p b in (r.0, subst (λ xs. Picked w b xs ts r.0) (sym (members_then us vs e)) r.1)

pub behind_pass : (w : World) (us vs : List Noted) (ts : List Token) → NotesNoMember us → Passes w vs ts → Passes w (us ++ vs) ts
behind_pass w us vs ts e p b = let r = p b in (r.0, subst (λ xs. Picked w b xs ts r.0) (sym (members_behind us vs e)) r.1)

-- tokens that use nothing
pub pass_none : (w : World) (ts : List Token) → Passes w [] ts
pass_none w [] b = (b, stops)
pass_none w (t ∷ ts) b = let r = pass_none w ts (Some t.place) in (r.0, passes r.1)

pub pass_behind : (w : World) (us : List Noted) (ts rs : List Token) → Passes w us ts → Passes w us (ts ++ rs)
pass_behind w us ts rs p = subst (λ xs. Passes w xs (ts ++ rs)) (append-nil us) (pass_append w us [] ts rs p (pass_none w rs))

pub pass_before : (w : World) (us : List Noted) (ts rs : List Token) → Passes w us rs → Passes w us (ts ++ rs)
pass_before w us ts rs p = pass_append w [] us ts rs (pass_none w ts) p

-- The operand before a selector has no value if it ends in the name of a package.

abbrev pub IsNoValue : Meaning → Type 0
IsNoValue Package = Unit {0}
IsNoValue Broken = Unit {0}
IsNoValue m = ⊥

abbrev pub Fits : World → Meaning → Option ℕ → Type 0
Fits w m None = Unit {0}
Fits w m (Some k) = IsPackage w k → IsNoValue m

abbrev pub Ends : World → Option ℕ → List Noted → List Token → Meaning → Type 0
Ends w b us ts m = (e : Option ℕ) × (Picked w b (members_of us) ts e × Fits w m e)

abbrev pub Walks : World → List Noted → List Token → Meaning → Type 0
Walks w us ts m = (b : Option ℕ) → Ends w b us ts m

pub walk_passes : (w : World) (us : List Noted) (ts : List Token) (m : Meaning) → Walks w us ts m → Passes w us ts
walk_passes w us ts m h b = let r = h b in (r.0, r.1.0)

pub walk_append : (w : World) (us vs : List Noted) (ts rs : List Token) (m n : Meaning) → Walks w us ts m →
    ((c : Option ℕ) → Fits w m c → Ends w c vs rs n) →
    Walks w (us ++ vs) (ts ++ rs) n
walk_append w us vs ts rs m n p q b = let l = p b in let r = q l.0 l.1.1 in (r.0, (noted_append w b l.0 r.0 us vs ts rs l.1.0 r.1.0, r.1.1))

pub walk_before : (w : World) (us : List Noted) (t : Token) (ts : List Token) (m : Meaning) → Walks w us ts m → Walks w us (t ∷ ts) m
walk_before w us t ts m h b = let r = h (Some t.place) in (r.0, (passes r.1.0, r.1.1))

-- a sign that closes what is walked
pub walk_closed : (w : World) (us : List Noted) (ts : List Token) (k : Kind) (c : ℕ) (m : Meaning) → is_ident_token k ≡ false → Passes w us ts →
    Walks w us (ts ++ (sign k c ∷ [])) m
walk_closed w us ts k c m other p b =
    let r = p b in (
      None,
      (
        subst (λ xs. Picked w b (members_of xs) (ts ++ (sign k c ∷ [])) None) (append-nil us)
            (noted_append w b r.0 None us [] ts (sign k c ∷ []) r.1 (closes other stops)),
        tt,
      ),
    )

pub fits_still : (w : World) (m n : Meaning) (o : Option ℕ) → (IsNoValue m → IsNoValue n) → Fits w m o → Fits w n o
fits_still w m n None f h = tt
fits_still w m n (Some k) f h = λ p. f (h p)

-- A list that notes the same uses, with a meaning that is no value if the first one is none.
pub walk_same : (w : World) (us vs : List Noted) (ts : List Token) (m n : Meaning) → members_of vs ≡ members_of us →
    (IsNoValue m → IsNoValue n) → Walks w us ts m →
    Walks w vs ts n
walk_same w us vs ts m n e f h b = let r = h b in (r.0, (subst (λ xs. Picked w b xs ts r.0) (sym e) r.1.0, fits_still w m n r.0 f r.1.1))
