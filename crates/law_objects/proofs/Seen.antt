-- The tokens of a package in which an import gained a name: each was there with another number, or is the name or the literal of the import.
use Rattle.std.proofs.Common.{ℕ, zero, suc, ◌≡◌, ◌<◌, ◌≤◌, ◌+◌, inl, inr, List, [], ◌∷◌, ◌++◌, Some, length, refl, ap, sym, subst, ◌∙◌, arith}
use Rattle.std.specs.Prelude.{cond, nat_eq, slice_get}
use Rattle.std.proofs.lemmas.Bool.{cases_eq, eqb-true, false_from_ne_true}
use Rattle.std.proofs.lemmas.Bool.Decides.{nat_tests}
use Rattle.std.proofs.lemmas.Option.{same_Some}
use Rattle.go_ast.specs.declared.syntax.Kind.{Kind}
use Rattle.go_ast.specs.declared.syntax.Token.{Token}
use Rattle.go_ast.specs.Flatten.{flatten, all_tokens, imports_tokens, decl_tokens}
use Rattle.go_ast.specs.SourceFile.{SourceFile}
use Rattle.go_ast.specs.Tree.{FileTree}
use Rattle.go_scope.specs.Trees.{AreRising}
use Rattle.law_faultless.proofs.DeclaringNames.{AllOf, back}
use Rattle.law_rename.specs.Around.{bare_import, from_on, imports_with}
use Rattle.law_rename.specs.Gained.{Gain, moved_by}
use Rattle.law_rename.proofs.Spelling.{from_first}
use Rattle.law_rename.proofs.TokensBehind.{seam}
use Rattle.law_gained_names.specs.NamedPackage.{IsNamedPackage, KeepsLiterals}
use Rattle.law_gained_names.proofs.NamedImportsFiles.{Has, has_all, literal_in_imports, rising}
use Rattle.law_gained_names.proofs.Layouts.{from_apart, from_stays, renumbers, token, token_here}
use Rattle.law_gained_names.proofs.Literals.{here_number, other_number}
use Rattle.law_gained_names.proofs.Scopes.{from_covers}
use Rattle.types_declared.specs.Package.{Package}

-- numbers

own_missed : (k n : ℕ) → from_on k n ≡ k → ⊥
own_missed k n e = grind (arith, nat_tests)

all_covered : (k x : ℕ) → (x ≡ k → ⊥) → (n : ℕ) × (from_on k n ≡ x)
all_covered zero zero other = absurd (other refl)
all_covered zero (suc x) other = (x, from_first x)
all_covered (suc k) x other = from_covers k x other

-- the token is the literal of the import
abbrev pub IsOwnLiteral : Gain → (file n : ℕ) → Type 0
IsOwnLiteral i file n = (file ≡ i.rank) × (n ≡ i.number)

-- by the numbers that leave the import at its token
pub data Seen (i : Gain) (at file x : ℕ) : Type 0 where
  was : (n : ℕ) → (IsOwnLiteral i file n → ⊥) → token i at file n ≡ x → Seen i at file x
  is_name : file ≡ i.rank → x ≡ i.number → Seen i at file x
  is_literal : file ≡ i.rank → x ≡ i.number + 1 → Seen i at file x

-- by the numbers that the texts give
pub data Kept (i : Gain) (file x : ℕ) : Type 0 where
  stood : (n : ℕ) → moved_by i file n ≡ x → Kept i file x
  put : file ≡ i.rank → x ≡ i.number → Kept i file x

module _ (i : Gain) (at : ℕ) where
  token_else : (file n : ℕ) → (file ≡ i.rank → ⊥) → token i at file n ≡ n
  token_else file n other =
      ap (λ b. cond b (from_on (suc i.number) n) n) (false_from_ne_true (nat_eq file i.rank) (λ e. other (eqb-true file i.rank e)))

  token_there : (file n : ℕ) → file ≡ i.rank → token i at file n ≡ from_on (suc i.number) n
  token_there file n is = ap (λ f. token i at f n) is ∙ token_here i at n

  pub seen : (file x : ℕ) → Seen i at file x
  seen file x = elim (cases_eq file i.rank) [
    | inl here ↦ elim (cases_eq x (suc i.number)) [
      | inl literal ↦ is_literal here (let next : i.number + 1 ≡ suc i.number = omega arith in literal ∙ sym next)
      | inr other ↦
          let n = from_covers i.number x other in
          elim (cases_eq n.0 i.number) [
            | inl same ↦ is_name here (sym n.1 ∙ ap (from_on (suc i.number)) same ∙ from_stays i.number)
            | inr apart ↦ was n.0 (λ l. apart l.1) (token_there file n.0 here ∙ n.1)
          ]
    ]
    | inr other ↦ was x (λ l. other l.0) (token_else file x other)
  ]

  -- what is so at the old number, and something else at a new token
  pub at_seen : {A : Type 0} → A → (ℕ → A) → (file x : ℕ) → Seen i at file x → A
  at_seen none old file x (was n apart e) = old n
  at_seen none old file x (is_name here e) = none
  at_seen none old file x (is_literal here e) = none

  seen_still : {A : Type 0} (none : A) (old : ℕ → A) (file n : ℕ) → (IsOwnLiteral i file n → ⊥) → (s : Seen i at file (token i at file n)) →
      at_seen none old file (token i at file n) s ≡ old n
  unfolding at_seen
  seen_still none old file n apart (was m other e) = ap old ((renumbers i at file).injective m n e)
  seen_still none old file n apart (is_name here e) =
      absurd (apart (here, from_apart (suc i.number) n i.number (sym (token_there file n here) ∙ e ∙ sym (from_stays i.number))))
  seen_still none old file n apart (is_literal here e) =
      let next : i.number + 1 ≡ suc i.number = omega arith in
      absurd (own_missed (suc i.number) n (sym (token_there file n here) ∙ e ∙ next))

  pub seen_at : {A : Type 0} (none : A) (old : ℕ → A) (file n : ℕ) → (IsOwnLiteral i file n → ⊥) →
      at_seen none old file (token i at file n) (seen file (token i at file n)) ≡ old n
  seen_at none old file n apart = seen_still none old file n apart (seen file (token i at file n))

  pub each_seen : {A : Type 0} (none : A) (old : ℕ → A) (P : ℕ → A → Type 0) (file : ℕ) →
      ((n : ℕ) → (IsOwnLiteral i file n → ⊥) → P (token i at file n) (old n)) → (file ≡ i.rank → P i.number none) → (file ≡ i.rank → P (i.number + 1) none) →
      (x : ℕ) → P x (at_seen none old file x (seen file x))
  unfolding at_seen
  each_seen {A} none old P file old_ones name literal x = by_kind (seen file x)
    where
      by_kind : (s : Seen i at file x) → P x (at_seen none old file x s)
      by_kind (was n apart e) = subst (λ y. P y (old n)) e (old_ones n apart)
      by_kind (is_name here e) = subst (λ y. P y none) (sym e) (name here)
      by_kind (is_literal here e) = subst (λ y. P y none) (sym e) (literal here)

module _ (i : Gain) (at : ℕ) (p q : Package) (a : IsNamedPackage i at p q) (l : KeepsLiterals i at p q a.file) where
  kept : (file x : ℕ) → Kept i file x
  kept file x = elim (cases_eq file i.rank) [
    | inl here ↦ elim (cases_eq x i.number) [
      | inl same ↦ put here same
      | inr other ↦ (let n = all_covered i.number x other in stood n.0 (here_number i at p q a l file n.0 here ∙ n.1))
    ]
    | inr other ↦ stood x (other_number i at p q a l file x other)
  ]

  one_moved : (file m n : ℕ) → moved_by i file m ≡ moved_by i file n → m ≡ n
  one_moved file m n e = elim (cases_eq file i.rank) [
    | inl here ↦ from_apart i.number m n (sym (here_number i at p q a l file m here) ∙ e ∙ here_number i at p q a l file n here)
    | inr other ↦ sym (other_number i at p q a l file m other) ∙ e ∙ other_number i at p q a l file n other
  ]

  pub at_kept : {A : Type 0} → A → (ℕ → A) → (file x : ℕ) → Kept i file x → A
  at_kept none old file x (stood n e) = old n
  at_kept none old file x (put here e) = none

  kept_still : {A : Type 0} (none : A) (old : ℕ → A) (file n : ℕ) → (k : Kept i file (moved_by i file n)) → at_kept none old file (moved_by i file n) k ≡ old n
  unfolding at_kept
  kept_still none old file n (stood m e) = ap old (one_moved file m n e)
  kept_still none old file n (put here e) = absurd (own_missed i.number n (sym (here_number i at p q a l file n here) ∙ e))

  pub kept_value : {A : Type 0} → A → (ℕ → A) → (file x : ℕ) → A
  kept_value none old file x = at_kept none old file x (kept file x)

  pub kept_at : {A : Type 0} (none : A) (old : ℕ → A) (file n : ℕ) → kept_value none old file (moved_by i file n) ≡ old n
  unfolding kept_value
  kept_at none old file n = kept_still none old file n (kept file (moved_by i file n))

  pub each_kept : {A : Type 0} (none : A) (old : ℕ → A) (P : ℕ → A → Type 0) (file : ℕ) → ((n : ℕ) → P (moved_by i file n) (old n)) →
      (file ≡ i.rank → P i.number none) → (x : ℕ) → P x (kept_value none old file x)
  unfolding kept_value at_kept
  each_kept {A} none old P file old_ones new x = by_kind (kept file x)
    where
      by_kind : (k : Kept i file x) → P x (at_kept none old file x k)
      by_kind (stood n e) = subst (λ y. P y (old n)) e (old_ones n)
      by_kind (put here e) = subst (λ y. P y none) (sym e) (new here)

-- the tokens of declarations are not the literal

abbrev Other : ℕ → Kind → ℕ → Type 0
Other k kind n = n ≡ k → ⊥

above : (k m : ℕ) (ts : List Token) → k < m → AreRising m ts → AllOf (Other k) ts
above k m [] lt rise = tt
above k m (t ∷ ts) lt rise =
    let le : m ≤ t.place = rise.0 in
    ((λ e. absurd (omega arith)), above k (suc t.place) ts (omega arith) rise.1)

behind : (k m : ℕ) (xs ys : List Token) → AreRising m (xs ++ ys) → Has k xs → AllOf (Other k) ys
behind k m [] ys rise h = absurd h
behind k m (x ∷ xs) ys rise h = elim h [
  | inl here ↦ back (Other k) xs ys (above k (suc x.place) (xs ++ ys) (omega arith) rise.1)
  | inr rest ↦ behind k (suc x.place) xs ys rise.1 rest
]

pub everywhere : (K : Kind → ℕ → Type 0) → ((k : Kind) (n : ℕ) → K k n) → (ts : List Token) → AllOf K ts
everywhere K each [] = tt
everywhere K each (t ∷ ts) = (each t.kind t.place, everywhere K each ts)

module _ (i : Gain) (at : ℕ) (p q : Package) (a : IsNamedPackage i at p q) where
  abbrev Apart : ℕ → Kind → ℕ → Type 0
  Apart file kind n = IsOwnLiteral i file n → ⊥

  here_apart : AllOf (Other i.number) (all_tokens decl_tokens a.file.around.decls)
  unfolding flatten
  here_apart =
      behind i.number _ (all_tokens imports_tokens (a.file.around.before ++ imports_with (bare_import i.number) a.file.around ∷ a.file.around.after))
      (all_tokens decl_tokens a.file.around.decls) (rising i at p q a.parsed a.file).1.1.1
      (has_all i.number imports_tokens a.file.around.before (imports_with (bare_import i.number) a.file.around) a.file.around.after
      (literal_in_imports i.number a.file.around))

  before_apart : AllOf (Other i.number) (all_tokens decl_tokens a.file.before.tree.decls)
  before_apart = subst (λ (t : FileTree). AllOf (Other i.number) (all_tokens decl_tokens t.decls)) (sym a.file.bare) here_apart

  was_before : (file : ℕ) (f : SourceFile) → slice_get p.files file ≡ Some f → file ≡ i.rank → a.file.before ≡ f
  was_before file f is here =
      same_Some a.file.before f
      (sym (ap (slice_get p.files) (here ∙ sym a.file.rank) ∙ ap (λ fs. slice_get fs (length a.file.first)) a.file.before_files
      ∙ seam a.file.first a.file.rest a.file.before) ∙ is)

  all_for : (file : ℕ) → file ≡ i.rank → (ts : List Token) → AllOf (Other i.number) ts → AllOf (Apart file) ts
  all_for file here [] h = tt
  all_for file here (t ∷ ts) h = ((λ l. h.0 l.1), all_for file here ts h.1)

  pub declared_apart : (file : ℕ) (f : SourceFile) → slice_get p.files file ≡ Some f → AllOf (Apart file) (all_tokens decl_tokens f.tree.decls)
  declared_apart file f is = elim (cases_eq file i.rank) [
    | inl here ↦
        all_for file here (all_tokens decl_tokens f.tree.decls)
        (subst (λ (z : SourceFile). AllOf (Other i.number) (all_tokens decl_tokens z.tree.decls)) (was_before file f is here) before_apart)
    | inr other ↦ everywhere (Apart file) (λ k n l. other l.0) (all_tokens decl_tokens f.tree.decls)
  ]
