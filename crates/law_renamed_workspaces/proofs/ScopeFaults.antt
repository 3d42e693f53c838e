-- Two lists of names on one layout with the same bindings: where one brings no fault of scopes or statements, the other brings none.
use Rattle.std.proofs.Common.{ℕ, ◌≡◌, ◌+◌, ◌<◌, ◌⊎◌, inl, inr, Bool, true, false, List, [], ◌∷◌, refl, sym, subst, ◌∙◌}
use Rattle.std.proofs.lemmas.Bool.{true≢false}
use Rattle.std.specs.List.{enumerate_from}
use Rattle.base_files.specs.declared.fault_kind.FaultKind.TheVariants as kind
use Rattle.go_ast.specs.SourceFile.{SourceFile}
use Rattle.go_ast.specs.Tree.{Item, ExprTree, FileTree, Number, Text, Name, Blank, Composite, Paren, Prefix, Address, Chain, Binary}
use Rattle.go_scope.specs.declared.model.Role.{Role}
use Rattle.go_scope.specs.declared.model.Role.TheVariants.{Use, Declaring, LeftName, Implied, NotLexical}
use Rattle.go_scope.specs.Bindings.{Layout, Names, MayDeclare, IsLeftName, IsPackageLevel, IsImport, Declares, Counts, IsUse, IsBoundTo, use_bound, own}
use Rattle.go_scope.specs.Bindings.{is_left_name, is_use, may_declare}
use Rattle.law_rename.specs.Renaming.{HasSameBindings}
use Rattle.law_changed_types.specs.SameBindings.{trees_of}
use Rattle.types_declared.specs.declared.fault.Fault.{Fault}
use Rattle.types_declared.specs.Laid.{Laid, init_name, literal_of}
use Rattle.types_declared.specs.Listing.{IsOfSomeItem}
use Rattle.types_resolve.specs.Scoping.{fault_at, IsRedeclaration, IsUsedBelow, IsFaultOfIdentifier, IsScopeFault}
use Rattle.types_resolve.specs.StatementMarks.{StatementMark, Defines, Stray, DeclaresName, SomeDeclares, IsFaultOfMark, IsFaultOfMarks, IsMarkFault}
use Rattle.types_resolve.specs.StatementMarks.{file_marks}

-- what is bound counts
pub bound_counts : (l : Layout) (names : Names) (u d : ℕ) → IsBoundTo l names u d → Counts l names d
bound_counts l names u d (use_bound used at) = at.counts
bound_counts l names u d (own e counts) = counts

left_is_no_use : (r : Role) → is_left_name r ≡ true → is_use r ≡ true → ⊥
left_is_no_use Use left used = true≢false (sym left)
left_is_no_use (Declaring b s) left used = true≢false (sym used)
left_is_no_use (LeftName b s) left used = true≢false (sym used)
left_is_no_use (Implied b s) left used = true≢false (sym used)
left_is_no_use (NotLexical p) left used = true≢false (sym left)

use_declares_not : (r : Role) → may_declare r ≡ true → is_use r ≡ true → ⊥
use_declares_not Use may used = true≢false (sym may)
use_declares_not (Declaring b s) may used = true≢false (sym used)
use_declares_not (LeftName b s) may used = true≢false (sym used)
use_declares_not (Implied b s) may used = true≢false (sym used)
use_declares_not (NotLexical p) may used = true≢false (sym may)

-- a use does not declare
pub use_or_declares : (l : Layout) (names : Names) (u : ℕ) → IsUse l names u → Declares l names u → ⊥
use_or_declares l names u (inl used) declares = use_declares_not (l.role u) declares.may used
use_or_declares l names u (inr left) declares = left.1 declares

-- no declaration of the package block is called `init`
abbrev pub NoneIsInit : Layout → ℕ → Names → Type 0
NoneIsInit l n names = (u : ℕ) → u < n → IsPackageLevel l u → names u ≡ init_name → ⊥

-- the faults of the marks of trees of which the first has that rank
abbrev pub HasTreeFault : Laid → ℕ → List FileTree → Fault → Type 0
HasTreeFault p k [] f = ⊥
HasTreeFault p k (t ∷ ts) f = IsOfSomeItem (IsFaultOfMark p k) (file_marks t) f ⊎ HasTreeFault p (k + 1) ts f

in_trees : (p : Laid) (k : ℕ) (files : List SourceFile) (f : Fault) → IsOfSomeItem (IsFaultOfMarks p) (enumerate_from k files) f →
    HasTreeFault p k (trees_of files) f
in_trees p k [] f h = h
in_trees p k (x ∷ xs) f (inl h) = inl h
in_trees p k (x ∷ xs) f (inr h) = inr (in_trees p (k + 1) xs f h)

in_files : (p : Laid) (k : ℕ) (files : List SourceFile) (f : Fault) → HasTreeFault p k (trees_of files) f →
    IsOfSomeItem (IsFaultOfMarks p) (enumerate_from k files) f
in_files p k [] f h = h
in_files p k (x ∷ xs) f (inl h) = inl h
in_files p k (x ∷ xs) f (inr h) = inr (in_files p (k + 1) xs f h)

module _ (l : Layout) (n : ℕ) (before after : Names) (same : HasSameBindings l before after)
    (fine : (f : Fault) → IsScopeFault (record { layout = l; names = before; size = n }) f → ⊥) where
  abbrev old : Laid
  old = record { layout = l; names = before; size = n }

  abbrev new : Laid
  new = record { layout = l; names = after; size = n }

  fine_at : (u : ℕ) → u < n → (f : Fault) → IsFaultOfIdentifier old u f → ⊥
  fine_at u lt f h = fine f (u, lt, h)

  use_was_bound : (u : ℕ) → u < n → IsUse l before u → ((d : ℕ) → IsBoundTo l before u d → ⊥) → ⊥
  use_was_bound u lt used none = fine_at u lt (fault_at l u kind.Undeclared) (inl (record { at = refl; is_use = used; unbound = none }))

  pub all_counted : (u : ℕ) → u < n → Declares l before u → (Counts l before u → ⊥) → ⊥
  all_counted u lt declares not = fine_at u lt (fault_at l u kind.Repeated) (inr (inl (record { at = refl; repeats = inl (declares, not) })))

  pub none_was_init : NoneIsInit l n before
  none_was_init u lt level called = fine_at u lt (fault_at l u kind.Repeated) (inr (inl (record { at = refl; repeats = inr (level, called) })))

  import_was_used : (d : ℕ) → d < n → IsImport l d → (IsUsedBelow old n d → ⊥) → ⊥
  import_was_used d lt import unused =
      fine_at d lt (fault_at l (literal_of l d) kind.Unused) (inr (inr (record { at = refl; is_import = import; unused = unused })))

  still_counts : (u : ℕ) → Counts l before u → Counts l after u
  still_counts u counts = bound_counts l after u u ((same u u).0 (own refl counts))

  -- what declared declares
  pub still_declares : (u : ℕ) → u < n → Declares l before u → (Declares l after u → ⊥) → ⊥
  still_declares u lt declares not = all_counted u lt declares (λ counts. not (still_counts u counts).declares)

  declared_not : (u : ℕ) → u < n → (Declares l after u → ⊥) → Declares l before u → ⊥
  declared_not u lt not declares = still_declares u lt declares not

  was_use : (u : ℕ) → u < n → IsUse l after u → IsUse l before u
  was_use u lt (inl used) = inl used
  was_use u lt (inr left) = inr (left.0, declared_not u lt left.1)

  none_undeclared : (u : ℕ) → u < n → IsUse l after u → ((d : ℕ) → IsBoundTo l after u d → ⊥) → ⊥
  none_undeclared u lt used none = use_was_bound u lt (was_use u lt used) (λ d bound. none d ((same u d).0 bound))

  now_bound : (u d : ℕ) → Declares l after u → (Counts l after u → ⊥) → IsBoundTo l after u d → ⊥
  now_bound u d declares not (use_bound used at) = use_or_declares l after u used declares
  now_bound u d declares not (own e counts) = not (subst (Counts l after) (sym e) counts)

  did_declare : (u : ℕ) → (b : Bool) → is_left_name (l.role u) ≡ b → MayDeclare l u → (IsLeftName l u → ⊥) ⊎ IsLeftName l u
  did_declare u true e may = inr e
  did_declare u false e may = inl (λ left. true≢false (sym left ∙ e))

  none_repeated : (u : ℕ) → u < n → Declares l after u → (Counts l after u → ⊥) → ⊥
  none_repeated u lt declares not =
      let did_not : Declares l before u → ⊥ = λ did. all_counted u lt did (λ counts. not (still_counts u counts)) in
      elim (did_declare u (is_left_name (l.role u)) refl declares.may) [
        | inl none ↦ did_not (record { may = declares.may; is_new = λ left. absurd (none left) })
        | inr left ↦ use_was_bound u lt (inr (left, did_not)) (λ d bound. now_bound u d declares not ((same u d).0 bound))
      ]

  still_used : (d : ℕ) → IsUsedBelow old n d → (IsUsedBelow new n d → ⊥) → ⊥
  still_used d h none = by_binding ((same h.user d).0 h.bound)
    where
      by_binding : IsBoundTo l after h.user d → ⊥
      by_binding (use_bound used at) = none (record { user = h.user; below = h.below; is_use = used; bound = use_bound used at })
      by_binding (own e counts) =
          use_or_declares l before h.user h.is_use (subst (Declares l before) (sym e) (bound_counts l before h.user d h.bound).declares)

  none_unused : (d : ℕ) → d < n → IsImport l d → (IsUsedBelow new n d → ⊥) → ⊥
  none_unused d lt import unused = import_was_used d lt import (λ used. still_used d used unused)

  pub no_scope_fault : NoneIsInit l n after → (f : Fault) → IsScopeFault new f → ⊥
  no_scope_fault no_init f h = by_kind h.2
    where
      by_repeat : IsRedeclaration new h.0 → ⊥
      by_repeat (inl r) = none_repeated h.0 h.1 r.0 r.1
      by_repeat (inr r) = no_init h.0 h.1 r.0 r.1

      by_kind : IsFaultOfIdentifier new h.0 f → ⊥
      by_kind (inl undeclared) = none_undeclared h.0 h.1 undeclared.is_use undeclared.unbound
      by_kind (inr (inl repeated)) = by_repeat repeated.repeats
      by_kind (inr (inr unused)) = none_unused h.0 h.1 unused.is_import unused.unused

  -- statements

  name_declares : (file : ℕ) (e : ExprTree) → DeclaresName old file e → (DeclaresName new file e → ⊥) → ⊥
  name_declares file (Name k) h none =
      still_declares h.identifier h.found.within h.declares (λ declares. none (record { identifier = h.identifier; found = h.found; declares = declares }))
  name_declares file (Number k) h none = h
  name_declares file (Text k) h none = h
  name_declares file (Blank k) h none = h
  name_declares file (Composite k) h none = h
  name_declares file (Paren o e c) h none = h
  name_declares file (Prefix op at e) h none = h
  name_declares file (Address at k) h none = h
  name_declares file (Chain e ls) h none = h
  name_declares file (Binary e os) h none = h

  some_declare : (file : ℕ) (es : List (Item ExprTree)) → SomeDeclares old file es → (SomeDeclares new file es → ⊥) → ⊥
  some_declare file [] h none = h
  some_declare file (x ∷ xs) (inl h) none = name_declares file x.value h (λ d. none (inl d))
  some_declare file (x ∷ xs) (inr h) none = some_declare file xs h (λ d. none (inr d))

  mark_was : (file : ℕ) (m : StatementMark) (f : Fault) → IsFaultOfMark new file m f → IsFaultOfMark old file m f
  mark_was file (Defines es at) f h = (h.0, λ d. some_declare file es d h.1)
  mark_was file (Stray at) f h = h

  marks_were : (file : ℕ) (ms : List StatementMark) (f : Fault) → IsOfSomeItem (IsFaultOfMark new file) ms f → IsOfSomeItem (IsFaultOfMark old file) ms f
  marks_were file [] f h = h
  marks_were file (m ∷ ms) f (inl h) = inl (mark_was file m f h)
  marks_were file (m ∷ ms) f (inr h) = inr (marks_were file ms f h)

  -- the faults of the marks of trees of which the first has that rank
  pub no_tree_fault : (k : ℕ) (ts : List FileTree) → ((f : Fault) → HasTreeFault old k ts f → ⊥) → (f : Fault) → HasTreeFault new k ts f → ⊥
  no_tree_fault k [] none f h = h
  no_tree_fault k (t ∷ ts) none f (inl h) = none f (inl (marks_were k (file_marks t) f h))
  no_tree_fault k (t ∷ ts) none f (inr h) = no_tree_fault (k + 1) ts (λ g r. none g (inr r)) f h

  -- so of files with these trees
  pub no_mark_fault : (old_files new_files : List SourceFile) → trees_of new_files ≡ trees_of old_files →
      ((f : Fault) → IsMarkFault old_files old f → ⊥) → (f : Fault) → IsMarkFault new_files new f → ⊥
  no_mark_fault old_files new_files trees none f h =
      no_tree_fault 0 (trees_of old_files) (λ g t. none g (in_files old 0 old_files g t)) f
      (subst (λ ts. HasTreeFault new 0 ts f) trees (in_trees new 0 new_files f h))
