-- What the lists of a rename hold, and numbers within the table.
use Rattle.std.proofs.Common.{ℕ, ◌≡◌, ◌<◌, ◌≤◌, inl, inr, List, Option, Some, None, Bool, true, false, length, get_or, refl, sym, ap, subst, ◌∙◌, arith}
use Rattle.std.specs.Prelude.{⊤, MatchOption}
use Rattle.std.proofs.lemmas.Bool.{cases_lt, true≢false, false≢true}
use Rattle.std.proofs.lemmas.Option.{slice_get_past}
use Rattle.go_scope.specs.declared.model.Block.TheVariants.{Universe, File, Inner}
use Rattle.go_scope.specs.declared.model.Role.{Role}
use Rattle.go_scope.specs.declared.model.Role.TheVariants.{Use, Declaring, LeftName, Implied, NotLexical}
use Rattle.go_scope.specs.declared.model.Purpose.TheVariants.{Blank}
use Rattle.go_scope.specs.Bindings.{Declares, IsIdentifier, IsImport, IsUse, block_of, may_declare, is_use, is_left_name, is_implied}
use Rattle.go_scope.specs.Packages.{layout_in, names_in}
use Rattle.go_scope.specs.Site.{Site, or_blank, sites_layout}
use Rattle.go_scope.specs.WellFormed.{WellFormed}
use Rattle.law_rename.specs.Renaming.{HasNoConflictAt}
use Rattle.refactor_scopes.specs.declared.outcomes.RenameOutcome.{RenameOutcome}
use Rattle.refactor_scopes.specs.declared.outcomes.ScopeConflict.{ScopeConflict}
use Rattle.refactor_scopes.specs.declared.scope_rename.ScopeRename.{ScopeRename}
use Rattle.refactor_scopes.specs.Conflicts.{FirstConflictAmong, IsConflictAt, IsScopeRename, IsUseInScopes, IsWritten}
use Rattle.refactor_scopes.specs.Outcomes.{IsOutcome, IsOutcomeConflict, conflict_outcome}
use Rattle.refactor_scopes.proofs.Listing.{at_place, place_of, read_at}
use Rattle.refactor_scopes.proofs.Nearest.{Nearest}
use Rattle.refactor_scopes.proofs.OutcomeLaws.{kept_none}
use Rattle.go_scope.proofs.Nesting.{Nested}

-- what the role of a `_` is not, stands within the list
pub within_by : (K : Role → Bool) → K (NotLexical Blank) ≡ false → (sites : List Site) (d : ℕ) → K ((sites_layout sites).role d) ≡ true → d < length sites
within_by K not sites d is = elim (cases_lt d (length sites)) [
  | inl lt ↦ lt
  | inr ge ↦ absurd (true≢false (sym is ∙ ap (λ s. K (or_blank s).role) (slice_get_past sites d ge) ∙ not))
]

no_use_implied : (r : Role) → is_use r ≡ true → is_implied r ≡ false
no_use_implied Use is = refl
no_use_implied (Declaring b n) is = refl
no_use_implied (LeftName b n) is = refl
no_use_implied (Implied b n) is = absurd (false≢true is)
no_use_implied (NotLexical p) is = refl

no_left_implied : (r : Role) → is_left_name r ≡ true → is_implied r ≡ false
no_left_implied Use is = refl
no_left_implied (Declaring b n) is = refl
no_left_implied (LeftName b n) is = refl
no_left_implied (Implied b n) is = absurd (false≢true is)
no_left_implied (NotLexical p) is = refl

no_use_block : (r : Role) → is_use r ≡ true → (f : ℕ) → block_of r ≡ File f → ⊥
no_use_block Use is f e = let z : Universe ≡ File f = e in cc
no_use_block (Declaring b n) is f e = absurd (false≢true is)
no_use_block (LeftName b n) is f e = absurd (false≢true is)
no_use_block (Implied b n) is f e = absurd (false≢true is)
no_use_block (NotLexical p) is f e = absurd (false≢true is)

module _ (r : ScopeRename) (is : IsScopeRename r) where
  abbrev names : ℕ → List ℕ
  names = names_in r.table.now

  abbrev size : ℕ
  size = length r.table.now.sites

  pub declares_within : (c : ℕ) → Declares (layout_in r.table.now) names c → c < size
  declares_within c de = within_by may_declare refl r.table.now.sites c de.may

  is_use_within : (u : ℕ) → IsUse (layout_in r.table.now) names u → u < size
  is_use_within u (inl i) = within_by is_use refl r.table.now.sites u i
  is_use_within u (inr i) = within_by is_left_name refl r.table.now.sites u i.0

  pub use_within : (u : ℕ) → IsUseInScopes (layout_in r.table.now) names r.declaration u → u < size
  use_within u own = is_use_within u own.is_use

  use_identifier : (u : ℕ) → IsUse (layout_in r.table.now) names u → IsIdentifier (layout_in r.table.now) u
  use_identifier u (inl i) = no_use_implied ((layout_in r.table.now).role u) i
  use_identifier u (inr i) = no_left_implied ((layout_in r.table.now).role u) i.0

  use_no_import : WellFormed (layout_in r.table.now) → (u : ℕ) → IsUse (layout_in r.table.now) names u → IsImport (layout_in r.table.now) u → ⊥
  use_no_import formed u (inl i) import = no_use_block ((layout_in r.table.now).role u) i import.0 import.1
  use_no_import formed u (inr i) import =
      let b = formed.left_inner u i.0 in
      let z : File import.0 ≡ Inner b.0 b.1 b.2 = sym import.1 ∙ b.3 in cc

  pub own_written : WellFormed (layout_in r.table.now) → (u : ℕ) → IsUseInScopes (layout_in r.table.now) names r.declaration u →
      IsWritten (layout_in r.table.now) u
  own_written formed u own = (use_identifier u own.is_use, λ import same. use_no_import formed u own.is_use import)

  pub named_there : (i : ℕ) → i < length r.named.items → (get_or r.named.items i 0 < size) × (names (get_or r.named.items i 0) ≡ r.name.now)
  named_there i within = at_place (λ u. names u ≡ r.name.now) size r.named.items is.named i within

  -- an identifier that was read from the list of those of the new name
  pub named_at : (i x : ℕ) → i < length r.named.items → x ≡ get_or r.named.items i x → (x < size) × (names x ≡ r.name.now)
  named_at i x within at =
      let P : ℕ → Type 0 = λ v. (v < size) × (names v ≡ r.name.now) in
      subst P (sym (read_at r.named.items i x within at)) (named_there i within)

  pub use_at : (i x : ℕ) → i < length r.uses.items → x ≡ get_or r.uses.items i x → x < size
  use_at i x within at =
      let P : ℕ → Type 0 = λ v. v < size in
      subst P (sym (read_at r.uses.items i x within at))
      (at_place (IsUseInScopes (layout_in r.table.now) names r.declaration) size r.uses.items is.uses i within).0

  pub named_listed : (u : ℕ) → u < size → names u ≡ r.name.now → (j : ℕ) × (j < length r.named.items) × (get_or r.named.items j 0 ≡ u)
  named_listed u within named = place_of (λ v. names v ≡ r.name.now) size r.named.items is.named u within named

  pub declared_listed : (c : ℕ) → Declares (layout_in r.table.now) names c → names c ≡ r.name.now → (j : ℕ) × (j < length r.named.items) × (get_or
      r.named.items j 0 ≡ c)
  declared_listed c de named = named_listed c (declares_within c de) named

  pub found_within : (u i : ℕ) (found : Option ℕ) → Nearest (layout_in r.table.now) names r.named.items u i found → MatchOption found ⊤ (λ b. b < size)
  found_within u i None h = tt
  found_within u i (Some b) h = declares_within b h.holds.declares

  -- behind the last identifier there is none
  pub none_beyond : Nested (layout_in r.table.now) → (u : ℕ) → size ≤ u → HasNoConflictAt (layout_in r.table.now) names r.declaration r.name.now u
  none_beyond nested u past =
      let inside : r.declaration < size = is.in_range in
      kept_none (layout_in r.table.now) nested names r.declaration r.name.now u
      (λ same. let P : ℕ → Type 0 = λ v. v < size in let lt : u < size = subst P (sym same) inside in omega arith)
      (λ de. let lt : u < size = declares_within u de in omega arith) (λ i. let lt : u < size = is_use_within u i in omega arith)

  pub conflict_by : (u : ℕ) (by : Option ℕ) → IsOutcome (layout_in r.table.now) names r.declaration r.name.now u (conflict_outcome by) →
      IsConflictAt (layout_in r.table.now) names r.declaration r.name.now u by
  conflict_by u None h = h
  conflict_by u (Some c) h = h

  -- the outcome at the declaring identifier of what is renamed, as a conflict
  pub first_own : (outcome : RenameOutcome) (o : Option ScopeConflict) → IsOutcomeConflict (layout_in r.table.now) r.declaration outcome o →
      IsOutcome (layout_in r.table.now) names r.declaration r.name.now r.declaration outcome →
      FirstConflictAmong (layout_in r.table.now) names r.declaration r.name.now (λ u. u ≡ r.declaration) o
  first_own outcome None h is_outcome = λ u written same.
      let W : ℕ → Type 0 = λ v. IsWritten (layout_in r.table.now) v in
      let H : ℕ → Type 0 = λ v. HasNoConflictAt (layout_in r.table.now) names r.declaration r.name.now v in
      let O : RenameOutcome → Type 0 = λ v. IsOutcome (layout_in r.table.now) names r.declaration r.name.now r.declaration v in
      subst H (sym same) (subst O (h (subst W same written)) is_outcome)
  first_own outcome (Some c) h is_outcome =
      let W : ℕ → Type 0 = λ v. IsWritten (layout_in r.table.now) v in
      let C : ℕ → Type 0 = λ v. IsConflictAt (layout_in r.table.now) names r.declaration r.name.now v c.by in
      let O : RenameOutcome → Type 0 = λ v. IsOutcome (layout_in r.table.now) names r.declaration r.name.now r.declaration v in
      let same : c.identifier ≡ r.declaration = h.1 in (
        subst W (sym same) h.0,
        subst C (sym same) (conflict_by r.declaration c.by (subst O h.2 is_outcome)),
        (λ u lt written own. let L : ℕ → Type 0 = λ v. v < c.identifier in
            let less : r.declaration < c.identifier = subst L own lt in absurd (omega (arith, less, same))),
      )
