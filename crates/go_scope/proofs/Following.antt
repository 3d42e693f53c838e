-- Declarations before, around and after a declaration, where declarations follow the order in which blocks are opened and closed, and
-- identifiers that of their positions.
use Rattle.std.proofs.Common.{ℕ, ◌≡◌, ◌<◌, ◌≤◌, inl, inr, refl, sym, subst, ◌∙◌, arith}
use Rattle.std.proofs.lemmas.Bool.{cases_order}
use Rattle.go_scope.specs.declared.model.Block.{Block}
use Rattle.go_scope.specs.declared.model.Block.TheVariants.{Universe, Package, File, Inner}
use Rattle.go_scope.specs.declared.model.Position.{Position}
use Rattle.go_scope.specs.Bindings.{Layout, MayDeclare, SameBlock, InScope, block_of, start_of}
use Rattle.go_scope.specs.OpenBlocks.{EndsAfter, IsOver}
use Rattle.go_scope.specs.Scopes.{scope_for, Holds, Nests}
use Rattle.go_scope.specs.WellFormed.{InBlockOrder, IsLaidOut, InBlock, IsNotAfter}
use Rattle.go_scope.proofs.Nesting.{NestsAt}

-- an inner block that lies in another inner block
same_file : (l : Layout) (e f g a b : ℕ) → f ≡ g → InBlock l e (Inner g a b) → InBlock l e (Inner f a b)
same_file l e f g a b same h = let P : ℕ → Type 0 = λ k. InBlock l e (Inner k a b) in subst P (sym same) h

reopened : (l : Layout) (size : ℕ) → IsLaidOut l size → (d f e : ℕ) → MayDeclare l d → MayDeclare l f → MayDeclare l e → f < e → e < d → (B C : Block) →
    InBlock l d B → InBlock l f B → InBlock l e C → Nests B C → Nests C Package → ⊥
reopened l size h d f e md mf me fe ed (Inner k a b) (Inner g a' b') hd hf he n i =
    let round : InBlock l e (Inner k a' b') = same_file l e k g a' b' n.0 he in
    let starts : (a ≤ start_of (l.role d)) × (start_of (l.role d) ≤ b) = h.well_formed.starts d k a b md hd in
    let before : start_of (l.role e) < a = h.ordered.before e d k a' b' a b ed me md round hd n.1 n.2 in
    let behind : b ≤ start_of (l.role e) = h.ordered.behind f e k a b a' b' fe mf me hf round n.1 n.2 in
    omega arith
reopened l size h d f e md mf me fe ed (Inner k a b) Universe hd hf he n i = absurd i
reopened l size h d f e md mf me fe ed (Inner k a b) Package hd hf he n i = absurd i
reopened l size h d f e md mf me fe ed (Inner k a b) (File g) hd hf he n i = absurd i
reopened l size h d f e md mf me fe ed Universe C hd hf he n i = absurd n
reopened l size h d f e md mf me fe ed Package (Inner g a' b') hd hf he n i = absurd n
reopened l size h d f e md mf me fe ed Package Universe hd hf he n i = absurd i
reopened l size h d f e md mf me fe ed Package Package hd hf he n i = absurd i
reopened l size h d f e md mf me fe ed Package (File g) hd hf he n i = absurd i
reopened l size h d f e md mf me fe ed (File k) (Inner g a' b') hd hf he n i = absurd n
reopened l size h d f e md mf me fe ed (File k) Universe hd hf he n i = absurd i
reopened l size h d f e md mf me fe ed (File k) Package hd hf he n i = absurd i
reopened l size h d f e md mf me fe ed (File k) (File g) hd hf he n i = absurd i

-- a declaration in a block that encloses that of a later declaration does not follow another declaration of the enclosed block
pub stays_open : (l : Layout) (size : ℕ) → IsLaidOut l size → (d f e : ℕ) → MayDeclare l d → MayDeclare l f → MayDeclare l e → f < e → e < d → SameBlock l f d →
    NestsAt l d e → Nests (block_of (l.role e)) Package → ⊥
stays_open l size h d f e md mf me fe ed same n i = reopened l size h d f e md mf me fe ed (block_of (l.role d)) (block_of (l.role e)) refl same refl n i

closed : (l : Layout) → InBlockOrder l → (e d : ℕ) → e < d → MayDeclare l e → MayDeclare l d → (B C : Block) → InBlock l e B → InBlock l d C → (p : Position) →
    Holds (scope_for B (start_of (l.role e))) p → Holds (scope_for C (start_of (l.role d))) p → Nests B C → Nests C Package → ⊥
closed l o e d lt me md (Inner f a b) (Inner g a' b') he hd p x y n i =
    let behind : b ≤ start_of (l.role d) = o.behind e d f a b a' b' lt me md he (same_file l d f g a' b' n.0 hd) n.1 n.2 in
    omega (arith, x.2, y.1)
closed l o e d lt me md (Inner f a b) Universe he hd p x y n i = absurd i
closed l o e d lt me md (Inner f a b) Package he hd p x y n i = absurd i
closed l o e d lt me md (Inner f a b) (File g) he hd p x y n i = absurd i
closed l o e d lt me md Universe C he hd p x y n i = absurd n
closed l o e d lt me md Package (Inner g a' b') he hd p x y n i = absurd n
closed l o e d lt me md Package Universe he hd p x y n i = absurd i
closed l o e d lt me md Package Package he hd p x y n i = absurd i
closed l o e d lt me md Package (File g) he hd p x y n i = absurd i
closed l o e d lt me md (File f) (Inner g a' b') he hd p x y n i = absurd n
closed l o e d lt me md (File f) Universe he hd p x y n i = absurd i
closed l o e d lt me md (File f) Package he hd p x y n i = absurd i
closed l o e d lt me md (File f) (File g) he hd p x y n i = absurd i

-- a later declaration in an inner block is not in the scope of an earlier one in a block inside of that block
pub not_seen_within : (l : Layout) → InBlockOrder l → (e d u : ℕ) → e < d → MayDeclare l e → MayDeclare l d → InScope l e u → InScope l d u →
    NestsAt l e d → Nests (block_of (l.role d)) Package → ⊥
not_seen_within l o e d u lt me md x y n i = closed l o e d lt me md (block_of (l.role e)) (block_of (l.role d)) refl refl (l.place u) x y n i

-- the ends of blocks

seen_before_end : (B : Block) (s : ℕ) (p : Position) → Holds (scope_for B s) p → EndsAfter B p
seen_before_end (Inner f a b) s p h = (h.0, h.2)
seen_before_end (File f) s p h = tt
seen_before_end Package s p h = tt
seen_before_end Universe s p h = tt

declared_before_end : (l : Layout) (size : ℕ) → IsLaidOut l size → (d : ℕ) → MayDeclare l d → (B : Block) → InBlock l d B → EndsAfter B (l.place d)
declared_before_end l size h d may (Inner f a b) is =
    let stands : ((l.place d).file ≡ f) × ((l.place d).index < start_of (l.role d)) = h.placed.before_scope d f a b may is in
    let starts : (a ≤ start_of (l.role d)) × (start_of (l.role d) ≤ b) = h.well_formed.starts d f a b may is in
    (stands.0, omega (arith, stands.1, starts.1))
declared_before_end l size h d may (File f) is = tt
declared_before_end l size h d may Package is = tt
declared_before_end l size h d may Universe is = tt

-- an identifier between a declaration and a position before the end of its block is before that end too
between : (l : Layout) (size : ℕ) → IsLaidOut l size → (e u v : ℕ) → MayDeclare l e → IsNotAfter (l.place e) (l.place u) → IsNotAfter (l.place u) (l.place v) →
    (B : Block) → InBlock l e B → EndsAfter B (l.place v) → EndsAfter B (l.place u)
between l size h e u v may first second (Inner f a b) is end =
    let file : (l.place e).file ≡ f = (h.placed.before_scope e f a b may is).0 in
    let to : (l.place v).file ≡ f = end.0 in
    let at : (l.place v).index < b = end.1 in
    elim second [
      | inl less ↦ elim first [ inl lower ↦ absurd (omega arith) | inr same ↦ (let z : (l.place e).file ≡ (l.place u).file = same.0 in absurd (omega arith)) ]
      | inr o ↦ (let le : (l.place u).index ≤ (l.place v).index = o.1 in (o.0 ∙ to, omega arith))
    ]
between l size h e u v may first second (File f) is end = tt
between l size h e u v may first second Package is end = tt
between l size h e u v may first second Universe is end = tt

-- a block that has ended at one position has ended at all later positions
pub over_from : (l : Layout) (size : ℕ) → IsLaidOut l size → (e u : ℕ) → MayDeclare l e → e < u → u < size →
    (EndsAfter (block_of (l.role e)) (l.place u) → ⊥) → IsOver l size u e
over_from l size h e u may less within ended v le lt end = elim (cases_order u v) [
  | inl same ↦ (let P : ℕ → Type 0 = λ k. EndsAfter (block_of (l.role e)) (l.place k) in ended (subst P (sym same) end))
  | inr o ↦ elim o [
    | inl before ↦ ended
        (between l size h e u v may (h.placed.rising e u less within) (h.placed.rising u v before lt) (block_of (l.role e)) refl end)
    | inr after ↦ absurd (omega arith)
  ]
]

pub over_later : (l : Layout) (size m n e : ℕ) → m ≤ n → IsOver l size m e → IsOver l size n e
over_later l size m n e le over v nv lt end = over v (let mv : m ≤ v = omega arith in mv) lt end

-- after the end of a block nothing declares in it, and nothing is in the scope of its declarations

pub over_apart : (l : Layout) (size : ℕ) → IsLaidOut l size → (m e d : ℕ) → m ≤ d → d < size → MayDeclare l d → SameBlock l e d → IsOver l size m e → ⊥
over_apart l size h m e d le lt may same over =
    let P : Block → Type 0 = λ b. EndsAfter b (l.place d) in
    over d le lt (subst P (sym same) (declared_before_end l size h d may (block_of (l.role d)) refl))

pub over_unseen : (l : Layout) (size m e u : ℕ) → m ≤ u → u < size → InScope l e u → IsOver l size m e → ⊥
over_unseen l size m e u le lt seen over = over u le lt (seen_before_end (block_of (l.role e)) (start_of (l.role e)) (l.place u) seen)

-- the scope of a declaration in an inner block begins after it

not_before : (l : Layout) (size : ℕ) → IsLaidOut l size → (e u : ℕ) → MayDeclare l e → IsNotAfter (l.place u) (l.place e) → (B : Block) → InBlock l e B →
    Holds (scope_for B (start_of (l.role e))) (l.place u) → Nests B Package → ⊥
not_before l size h e u may up (Inner f a b) is seen i =
    let stands : ((l.place e).file ≡ f) × ((l.place e).index < start_of (l.role e)) = h.placed.before_scope e f a b may is in
    let own : (l.place e).file ≡ f = stands.0 in
    let at : (l.place e).index < start_of (l.role e) = stands.1 in
    let file : (l.place u).file ≡ f = seen.0 in
    let from : start_of (l.role e) ≤ (l.place u).index = seen.1 in
    elim up [ inl less ↦ omega arith | inr o ↦ (let le : (l.place u).index ≤ (l.place e).index = o.1 in omega arith) ]
not_before l size h e u may up Universe is seen i = absurd i
not_before l size h e u may up Package is seen i = absurd i
not_before l size h e u may up (File f) is seen i = absurd i

same_place : (l : Layout) (u e : ℕ) → u ≡ e → IsNotAfter (l.place u) (l.place e)
same_place l u e same =
    let P : ℕ → Type 0 = λ k. IsNotAfter (l.place u) (l.place k) in
    subst P same (inr (refl, let le : (l.place u).index ≤ (l.place u).index = omega arith in le))

pub seen_behind : (l : Layout) (size : ℕ) → IsLaidOut l size → (e u : ℕ) → MayDeclare l e → e < size → InScope l e u →
    Nests (block_of (l.role e)) Package → e < u
seen_behind l size h e u may lt seen i = elim (cases_order e u) [
  | inl same ↦ absurd (not_before l size h e u may (same_place l u e (sym same)) (block_of (l.role e)) refl seen i)
  | inr o ↦ elim o [
    | inl less ↦ less
    | inr more ↦ absurd (not_before l size h e u may (h.placed.rising u e more lt) (block_of (l.role e)) refl seen i)
  ]
]
