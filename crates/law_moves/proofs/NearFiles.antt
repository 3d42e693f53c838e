-- What an identifier of a file is bound to depends on names in that file, and on those of the package block and the universe.
use Rattle.std.proofs.Common.{ℕ, List, ◌≡◌, ◌⊎◌, inl, inr, true, refl, sym, ap, subst, ◌∙◌}
use Rattle.std.proofs.lemmas.Bool.{true≢false}
use Rattle.go_scope.specs.declared.model.Block.{Block}
use Rattle.go_scope.specs.declared.model.Block.TheVariants.{Universe, Package, File, Inner}
use Rattle.go_scope.specs.declared.model.Position.{Position}
use Rattle.go_scope.specs.declared.model.Role.{Role}
use Rattle.go_scope.specs.declared.model.Role.TheVariants.{Use, Declaring, LeftName, Implied, NotLexical}
use Rattle.go_scope.specs.Bindings.{Layout, Names, MayDeclare, IsImport, IsPackageLevel, SameBlock, InScope, Declares, Counts, Displaces}
use Rattle.go_scope.specs.Bindings.{BindsAt, IsUse, IsBoundTo, use_bound, own, block_of, start_of, may_declare, is_use, is_left_name}
use Rattle.go_scope.specs.Numbering.{IsLexical, is_lexical}
use Rattle.go_scope.specs.Scopes.{Holds, scope_for}
use Rattle.go_scope.specs.WellFormed.{WellFormed}

-- the block is that of all files
abbrev pub IsShared : Block → Type 0
IsShared Universe = Unit {0}
IsShared Package = Unit {0}
IsShared (File f) = ⊥
IsShared (Inner f a b) = ⊥

-- the file of a block; `place` where it is shared
abbrev pub file_by : Block → (place : ℕ) → ℕ
file_by Universe place = place
file_by Package place = place
file_by (File f) place = f
file_by (Inner f a b) place = f

-- the file of an identifier: that of its block if it declares in one, else that in which it stands
abbrev pub file_in : Layout → ℕ → ℕ
file_in l u = file_by (block_of (l.role u)) (l.place u).file

-- what identifiers of the file see
abbrev pub IsSeenIn : Layout → (f : ℕ) → (x : ℕ) → Type 0
IsSeenIn l f x = IsShared (block_of (l.role x)) ⊎ (file_in l x ≡ f)

-- roles

pub may_lexical : (r : Role) → may_declare r ≡ true → is_lexical r ≡ true
may_lexical Use e = refl
may_lexical (Declaring b s) e = refl
may_lexical (LeftName b s) e = refl
may_lexical (Implied b s) e = refl
may_lexical (NotLexical p) e = absurd (true≢false (sym e))

pub use_lexical : (r : Role) → is_use r ≡ true → is_lexical r ≡ true
use_lexical Use e = refl
use_lexical (Declaring b s) e = refl
use_lexical (LeftName b s) e = refl
use_lexical (Implied b s) e = refl
use_lexical (NotLexical p) e = absurd (true≢false (sym e))

pub left_may : (r : Role) → is_left_name r ≡ true → may_declare r ≡ true
left_may Use e = absurd (true≢false (sym e))
left_may (Declaring b s) e = refl
left_may (LeftName b s) e = refl
left_may (Implied b s) e = refl
left_may (NotLexical p) e = absurd (true≢false (sym e))

use_file : (r : Role) (place : ℕ) → is_use r ≡ true → file_by (block_of r) place ≡ place
use_file Use place e = refl
use_file (Declaring b s) place e = absurd (true≢false (sym e))
use_file (LeftName b s) place e = absurd (true≢false (sym e))
use_file (Implied b s) place e = absurd (true≢false (sym e))
use_file (NotLexical p) place e = absurd (true≢false (sym e))

-- a use stands in its file
pub use_stands : (l : Layout) → WellFormed l → (names : Names) (u : ℕ) → IsUse l names u → (l.place u).file ≡ file_in l u
use_stands l formed names u (inl use_of) = sym (use_file (l.role u) (l.place u).file use_of)
use_stands l formed names u (inr left) =
    let i = formed.left_inner u left.0 in i.4 ∙ sym (ap (λ b. file_by b (l.place u).file) i.3)

-- imports

pub import_file : (l : Layout) (d : ℕ) → (i : IsImport l d) → file_in l d ≡ i.0
import_file l d i = ap (λ b. file_by b (l.place d).file) i.1

pub import_holds : (l : Layout) (d u : ℕ) → IsImport l d → InScope l d u → (l.place u).file ≡ file_in l d
import_holds l d u i h = subst (λ b. Holds (scope_for b (start_of (l.role d))) (l.place u)) i.1 h ∙ sym (import_file l d i)

pub no_shared_import : (l : Layout) (d : ℕ) → IsImport l d → IsShared (block_of (l.role d)) → ⊥
no_shared_import l d i shared = subst IsShared i.1 shared

pub level_shared : (l : Layout) (x : ℕ) → IsPackageLevel l x → IsShared (block_of (l.role x))
level_shared l x level = subst IsShared (sym level) tt

-- what is seen

seen_by : (f : ℕ) (b : Block) (one other : ℕ) → IsShared b ⊎ (file_by b one ≡ f) → IsShared b ⊎ (file_by b other ≡ f)
seen_by f Universe one other h = inl tt
seen_by f Package one other h = inl tt
seen_by f (File g) one other h = h
seen_by f (Inner g a b) one other h = h

pub block_seen : (l : Layout) (f e d : ℕ) → SameBlock l e d → IsSeenIn l f d → IsSeenIn l f e
block_seen l f e d same h =
    seen_by f (block_of (l.role e)) (l.place d).file (l.place e).file
    (subst (λ b. IsShared b ⊎ (file_by b (l.place d).file ≡ f)) (sym same) h)

scope_seen : (f : ℕ) (b : Block) (start : ℕ) (at : Position) (place : ℕ) → Holds (scope_for b start) at → at.file ≡ f → IsShared b ⊎ (file_by b place ≡ f)
scope_seen f Universe start at place h e = inl tt
scope_seen f Package start at place h e = inl tt
scope_seen f (File g) start at place h e = inr (sym h ∙ e)
scope_seen f (Inner g a b) start at place h e = inr (sym h.0 ∙ e)

pub in_scope_seen : (l : Layout) (f d u : ℕ) → InScope l d u → (l.place u).file ≡ f → IsSeenIn l f d
in_scope_seen l f d u h e = scope_seen f (block_of (l.role d)) (start_of (l.role d)) (l.place u) (l.place d).file h e

pub displacer_seen : (l : Layout) (f e d : ℕ) → Displaces l e d → IsSeenIn l f d → IsSeenIn l f e
displacer_seen l f e d (inl same) h = block_seen l f e d same.0 h
displacer_seen l f e d (inr level) h = inl (level_shared l e level.0)

-- Names that agree on what identifiers of the file see, and on the uses in it.
pub record AgreeIn (l : Layout) (f : ℕ) (a b : Names) : Type 0 where
  pub shared : (x : ℕ) → MayDeclare l x → IsShared (block_of (l.role x)) → a x ≡ b x
  pub near : (x : ℕ) → IsLexical l x → file_in l x ≡ f → a x ≡ b x

pub agree_back : (l : Layout) (f : ℕ) (a b : Names) → AgreeIn l f a b → AgreeIn l f b a
agree_back l f a b h = record { shared = λ x may s. sym (h.shared x may s); near = λ x lexical e. sym (h.near x lexical e) }

seen_same : (l : Layout) (f : ℕ) (a b : Names) → AgreeIn l f a b → (x : ℕ) → MayDeclare l x → IsSeenIn l f x → a x ≡ b x
seen_same l f a b h x may (inl s) = h.shared x may s
seen_same l f a b h x may (inr e) = h.near x (may_lexical (l.role x) may) e

declares_in : (l : Layout) (f : ℕ) (a b : Names) → AgreeIn l f a b → (d : ℕ) → IsSeenIn l f d → Declares l a d → Declares l b d
declares_in l f a b h d seen x = record {
  may = x.may;
  is_new = λ left e may block named scope.
      x.is_new left e may block
      (seen_same l f a b h e may (block_seen l f e d block seen) ∙ named ∙ sym (seen_same l f a b h d x.may seen)) scope;
}

counts_in : (l : Layout) (f : ℕ) (a b : Names) → AgreeIn l f a b → (d : ℕ) → IsSeenIn l f d → Counts l a d → Counts l b d
counts_in l f a b h d seen x = record {
  declares = declares_in l f a b h d seen x.declares;
  first = λ e de named displaces.
      let also = displacer_seen l f e d displaces seen in
      x.first e (declares_in l f b a (agree_back l f a b h) e also de)
      (seen_same l f a b h e de.may also ∙ named ∙ sym (seen_same l f a b h d x.declares.may seen)) displaces;
}

binds_in : (l : Layout) (f : ℕ) (a b : Names) → AgreeIn l f a b → (u : ℕ) → (l.place u).file ≡ f → (n m : List ℕ) (d : ℕ) → n ≡ m → BindsAt l a n u d →
    BindsAt l b m u d
binds_in l f a b h u at n m d same x =
    let seen = in_scope_seen l f d u x.in_scope at in
    record {
      counts = counts_in l f a b h d seen x.counts;
      named = sym (seen_same l f a b h d x.counts.declares.may seen) ∙ x.named ∙ same;
      in_scope = x.in_scope;
      innermost = λ e c named scope inside.
          let also = in_scope_seen l f e u scope at in
          x.innermost e (counts_in l f b a (agree_back l f a b h) e also c)
          (seen_same l f a b h e c.declares.may also ∙ named ∙ sym same) scope inside;
    }

use_is_lexical : (l : Layout) (names : Names) (u : ℕ) → IsUse l names u → IsLexical l u
use_is_lexical l names u (inl use_of) = use_lexical (l.role u) use_of
use_is_lexical l names u (inr left) = may_lexical (l.role u) (left_may (l.role u) left.0)

use_in : (l : Layout) (f : ℕ) (a b : Names) → AgreeIn l f a b → (u : ℕ) → file_in l u ≡ f → IsUse l a u → IsUse l b u
use_in l f a b h u at (inl use_of) = inl use_of
use_in l f a b h u at (inr left) = inr (left.0, λ x. left.1 (declares_in l f b a (agree_back l f a b h) u (inr at) x))

-- So the identifiers of the file have the same bindings.
pub bound_in : (l : Layout) → WellFormed l → (f : ℕ) (a b : Names) → AgreeIn l f a b → (u d : ℕ) → file_in l u ≡ f → IsBoundTo l a u d → IsBoundTo l b u d
bound_in l formed f a b h u d at (use_bound used x) =
    use_bound (use_in l f a b h u at used)
    (binds_in l f a b h u (use_stands l formed a u used ∙ at) (a u) (b u) d (h.near u (use_is_lexical l a u used) at) x)
bound_in l formed f a b h u d at (own same c) =
    own same (counts_in l f a b h d (inr (ap (file_in l) (sym same) ∙ at)) c)

-- what is bound to an import is in its file
pub bound_file : (l : Layout) → WellFormed l → (names : Names) (u d : ℕ) → IsImport l d → IsBoundTo l names u d → file_in l u ≡ file_in l d
bound_file l formed names u d import (use_bound used x) = sym (use_stands l formed names u used) ∙ import_holds l d u import x.in_scope
bound_file l formed names u d import (own same c) = ap (file_in l) same

-- what is bound has a name that is looked up
pub bound_lexical : (l : Layout) (names : Names) (u d : ℕ) → IsBoundTo l names u d → IsLexical l u
bound_lexical l names u d (use_bound used x) = use_is_lexical l names u used
bound_lexical l names u d (own same c) = subst (IsLexical l) (sym same) (may_lexical (l.role d) c.declares.may)

-- what declares in a shared block is bound to no import
pub shared_unbound : (l : Layout) → WellFormed l → (names : Names) (u d : ℕ) → MayDeclare l u → IsShared (block_of (l.role u)) → IsImport l d →
    IsBoundTo l names u d → ⊥
shared_unbound l formed names u d may shared import (use_bound (inl use_of) x) = never (l.role u) may use_of
  where
    never : (r : Role) → may_declare r ≡ true → is_use r ≡ true → ⊥
    never Use e k = true≢false (sym e)
    never (Declaring b s) e k = true≢false (sym k)
    never (LeftName b s) e k = true≢false (sym k)
    never (Implied b s) e k = true≢false (sym k)
    never (NotLexical p) e k = true≢false (sym e)
shared_unbound l formed names u d may shared import (use_bound (inr left) x) =
    let i = formed.left_inner u left.0 in subst IsShared i.3 shared
shared_unbound l formed names u d may shared import (own same c) = no_shared_import l d import (subst (λ v. IsShared (block_of (l.role v))) same shared)
