-- The changes of files, path by path, and the edit set that they make.
use Rattle.std.proofs.Common.{◌≡◌, ◌==◌, ℕ, ◌≤◌, length, ◌⊎◌, inl, inr, List, [], ◌∷◌, ◌++◌, Option, Some, None, append_assoc, append-nil, refl, sym}
use Rattle.std.proofs.Common.{ap, subst, ◌∙◌}
use Rattle.std.specs.Prelude.{Contains}
use Rattle.std.specs.Cmp.Lexicographic.{pointwise}
use Rattle.std.specs.FinMap.{get}
use Rattle.std.specs.List.{All, AllByRecursion, IsDistinct, filter_map, cons_option}
use Rattle.std.specs.List.Sorted.{IsStrictlySortedBy}
use Rattle.std.specs.declared.cmp.Ordering.TheVariants.{Less}
use Rattle.std.proofs.lemmas.List.Elements.{All-nil, All-weaker, All-contains_itself, Contains-append_left, Contains-push, Contains-push_cases}
use Rattle.std.proofs.lemmas.Option.{same_Some}
use Rattle.base_lemmas.proofs.Elements.{nothing_in, first_in, later_in, first_or_later}
use Rattle.base_files.specs.Workspace.{Workspace, path_cmp}
use Rattle.go_ast.specs.SourceFile.{SourceFile}
use Rattle.workspace_check.specs.Verdicts.{Verdicts}
use Rattle.workspace_check.proofs.Members.{cases_contains}
use Rattle.base_edits.specs.Edits.{AreInOrder}
use Rattle.base_edits.specs.EditSet.{FileChanges, path_by, paths_of, change_in}
use Rattle.base_edits.specs.Fits.{IsEditSet, HasSpans, Fits, MovesTo, new_path, path_by_change}
use Rattle.base_edits.specs.Moved.{edits_by}
use Rattle.base_edits.specs.declared.edit.Edit.{Edit}
use Rattle.base_edits.specs.declared.change.FileChange.{FileChange}
use Rattle.base_edits.specs.declared.change.Fate.TheVariants.{Stays}
use Rattle.base_edits.proofs.Changes.{change_found, none_changed}
use Rattle.base_edits.proofs.Turned.{is_there}
use Rattle.refactor_rename.specs.declared.renamed.Literal.{Literal}
use Rattle.refactor_rename.specs.declared.renamed.Renamed.{Renamed}
use Rattle.refactor_rename.specs.FileEdits.{IsLiteralAt, AreFileEdits}
use Rattle.refactor_rename.specs.RenameEdits.{IsSourceIn, AreEditsOf}
use Rattle.refactor_rename.specs.Changes.{IsPathOfLiteral, IsPathToEdit, change_to, AddsChange, none, one, ChangesSource, HasChangeOf, AreSourceChanges}
use Rattle.refactor_rename.proofs.Sources.{source_text, one_source}

-- paths in order

without_head : (p q : List ℕ) (ps qs : List (List ℕ)) → AllByRecursion (λ r. path_cmp p r ≡ Less) (ps ++ q ∷ qs) →
    AllByRecursion (λ r. path_cmp p r ≡ Less) (ps ++ qs)
without_head p q [] qs h = h.1
without_head p q (x ∷ ps) qs h = (h.0, without_head p q ps qs h.1)

without_one : (ps qs : List (List ℕ)) (q : List ℕ) → IsStrictlySortedBy path_cmp (ps ++ q ∷ qs) → IsStrictlySortedBy path_cmp (ps ++ qs)
unfolding IsStrictlySortedBy
without_one [] qs q h = h.1
without_one (p ∷ ps) qs q h = (without_head p q ps qs h.0, without_one ps qs q h.1)

paths_push : (cs : List FileChange) (c : FileChange) → paths_of (cs ++ c ∷ []) ≡ paths_of cs ++ c.path ∷ []
paths_push [] c = refl
paths_push (d ∷ cs) c = ap (λ ps. d.path ∷ ps) (paths_push cs c)

-- one more change

pub one_added : (f : SourceFile) (r : Renamed) (old new : List FileChange) (c : FileChange) → new ≡ old ++ c ∷ [] → c.path ≡ f.path → c.fate ≡ Stays →
    AreFileEdits f r c.edits → AddsChange f r old new
one_added f r old new c is at stays are =
    let same : c ≡ change_to f c.edits = ap (λ p. record { path = p; edits = c.edits; fate = c.fate }) at ∙
    ap (λ fate. record { path = f.path; edits = c.edits; fate = fate }) stays in
    subst (AddsChange f r old) (sym (is ∙ ap (λ (x : FileChange). old ++ x ∷ []) same)) (one c.edits are)

pub none_added : (f : SourceFile) (r : Renamed) (old : List FileChange) (edits : List Edit) → edits ≡ [] → AreFileEdits f r edits → AddsChange f r old old
none_added f r old edits e are = none (subst (AreFileEdits f r) e are)

-- where nothing gets the name there is no edit

literal_path : (o : Option Literal) (path : List ℕ) (i : ℕ) → IsLiteralAt o path i → IsPathOfLiteral o path
literal_path None path i h = h
literal_path (Some l) path i h = h.0

not_edited : (f : SourceFile) (r : Renamed) → (IsPathToEdit r f.path → ⊥) → AreFileEdits f r []
not_edited f r other = record {
  end_by = record { in_order = tt; ends = All-nil (λ (e : Edit). e.span.end ≤ length f.cut.text) };
  each = λ e. (
    (λ h. absurd (nothing_in e h)),
    (λ h. absurd (elim h.1 [
      | inl inserts ↦ other (inr (literal_path r.literal f.path h.0 inserts.is_literal))
      | inr replaces ↦ other (inl (record { path = f.path; offset = replaces.token.span.start }, (replaces.among, refl)))
    ])),
  );
  once = tt;
}

-- The changes of the files that were passed, with the paths that are left.
pub record Changing (w : Workspace) (known : Verdicts) (r : Renamed) (left : List (List ℕ)) (cs : List FileChange) : Type 0 where
  pub in_order : IsStrictlySortedBy path_cmp (paths_of cs ++ left)
  pub each : (c : FileChange) → Contains cs c → ChangesSource w known r c
  pub all : (f : SourceFile) → IsSourceIn w known f → Contains left f.path ⊎ HasChangeOf cs r f

module _ (w : Workspace) (known : Verdicts) (r : Renamed) where
  pub changing_first : (paths : List (List ℕ)) (cs : List FileChange) → cs ≡ [] → IsStrictlySortedBy path_cmp paths →
      ((path : List ℕ) → IsPathToEdit r path → Contains paths path) → Changing w known r paths cs
  changing_first paths cs e sorted all = subst (Changing w known r paths) (sym e) (record {
    in_order = sorted;
    each = λ c has. absurd (nothing_in c has);
    all = λ f s. elim (cases_contains paths f.path) [ inl there ↦ inl there | inr other ↦ inr (inr (not_edited f r (λ h. other (all f.path h)))) ];
  })

  -- no Go file has that path
  pub changing_past : (path : List ℕ) (left : List (List ℕ)) (cs : List FileChange) → ((f : SourceFile) → IsSourceIn w known f → f.path ≡ path → ⊥) →
      Changing w known r (path ∷ left) cs → Changing w known r left cs
  changing_past path left cs other h = record {
    in_order = without_one (paths_of cs) left path h.in_order;
    each = h.each;
    all = λ f s. elim (h.all f s) [
      | inl there ↦ elim (first_or_later path left f.path there) [ inl here ↦ absurd (other f s (sym here)) | inr later ↦ inl later ]
      | inr done ↦ inr done
    ];
  }

  -- the file of that path is not changed
  changing_none : (path : List ℕ) (left : List (List ℕ)) (f : SourceFile) (cs : List FileChange) → IsSourceIn w known f → f.path ≡ path →
      AreFileEdits f r [] → Changing w known r (path ∷ left) cs → Changing w known r left cs
  changing_none path left f cs is at empty h = record {
    in_order = without_one (paths_of cs) left path h.in_order;
    each = h.each;
    all = λ g s. elim (h.all g s) [
      | inl there ↦ elim (first_or_later path left g.path there) [
        | inr later ↦ inl later
        | inl here ↦ inr (inr (subst (λ (x : SourceFile). AreFileEdits x r []) (one_source w known f g is s (at ∙ here)) empty))
      ]
      | inr done ↦ inr done
    ];
  }

  changed_then : (cs : List FileChange) (c : FileChange) (f : SourceFile) → HasChangeOf cs r f → HasChangeOf (cs ++ c ∷ []) r f
  changed_then cs c f (inl h) = inl (h.0, (Contains-append_left cs (c ∷ []) h.0 h.1.0, h.1.1))
  changed_then cs c f (inr h) = inr h

  -- or it is
  changing_one : (path : List ℕ) (left : List (List ℕ)) (f : SourceFile) (cs : List FileChange) (edits : List Edit) → IsSourceIn w known f → f.path ≡ path →
      AreFileEdits f r edits → Changing w known r (path ∷ left) cs →
      Changing w known r left (cs ++ change_to f edits ∷ [])
  changing_one path left f cs edits is at are h =
      let c : FileChange = change_to f edits in
      let paths : paths_of (cs ++ c ∷ []) ++ left ≡ paths_of cs ++ path ∷ left = ap (λ ps. ps ++ left) (paths_push cs c) ∙
      append_assoc (paths_of cs) (f.path ∷ []) left ∙ ap (λ p. paths_of cs ++ p ∷ left) at in
      record {
        in_order = subst (IsStrictlySortedBy path_cmp) (sym paths) h.in_order;
        each = λ d has. elim (Contains-push_cases cs c d has) [
          | inl old ↦ h.each d old
          | inr same ↦ subst (ChangesSource w known r) same (record { source = f; is_source = is; edits = are; is_change = refl })
        ];
        all = λ g s. elim (h.all g s) [
          | inl there ↦ elim (first_or_later path left g.path there) [
            | inr later ↦ inl later
            | inl here ↦ inr (inl (c, (Contains-push cs c, at ∙ here)))
          ]
          | inr done ↦ inr (changed_then cs c g done)
        ];
      }

  pub changing_next : (path : List ℕ) (left : List (List ℕ)) (f : SourceFile) (old new : List FileChange) → IsSourceIn w known f → f.path ≡ path →
      AddsChange f r old new → Changing w known r (path ∷ left) old →
      Changing w known r left new
  changing_next path left f old _ is at (none empty) h = changing_none path left f old is at empty h
  changing_next path left f old _ is at (one edits are) h = changing_one path left f old edits is at are h

  pub changing_last : (left : List (List ℕ)) (cs : List FileChange) → left ≡ [] → Changing w known r left cs → AreSourceChanges w known r cs
  changing_last left cs e h =
      let last : Changing w known r [] cs = subst (λ l. Changing w known r l cs) e h in
      record {
        by_path = subst (IsStrictlySortedBy path_cmp) (append-nil (paths_of cs)) last.in_order;
        each = last.each;
        all = λ f s. elim (last.all f s) [ inl there ↦ absurd (nothing_in f.path there) | inr done ↦ done ];
      }

-- the edit set

stays_put : {w : Workspace} {known : Verdicts} {r : Renamed} (c : FileChange) → ChangesSource w known r c → c.fate ≡ Stays
stays_put c h = ap (λ (x : FileChange). x.fate) h.is_change

no_targets : (cs : List FileChange) → ((c : FileChange) → Contains cs c → c.fate ≡ Stays) → filter_map (λ (c : FileChange). new_path c.fate) cs ≡ []
no_targets [] h = refl
no_targets (c ∷ cs) h =
    ap (λ fate. cons_option (new_path fate) (filter_map (λ (d : FileChange). new_path d.fate) cs)) (h c (first_in c cs)) ∙
    no_targets cs (λ d has. h d (later_in c cs d has))

none_distinct : IsDistinct (pointwise ◌==◌) []
unfolding IsDistinct
none_distinct = tt

all_by : {X : Type 0} (P : X → Type 0) (xs : List X) → ((x : X) → Contains xs x → P x) → All P xs
all_by P xs h = All-weaker (Contains xs) P h xs (All-contains_itself xs)

module _ (w : Workspace) (known : Verdicts) (r : Renamed) (cs : List FileChange) (are : AreSourceChanges w known r cs) where
  abbrev changes : FileChanges
  changes = record { changed = cs; added = [] }

  set_of : IsEditSet changes
  set_of = record {
    in_order = all_by (λ c. AreInOrder 0 c.edits) cs (λ c has. (are.each c has).edits.end_by.in_order);
    by_path = are.by_path;
    differ = subst (IsDistinct (pointwise ◌==◌)) (sym (append-nil _ ∙ no_targets cs (λ c has. stays_put c (are.each c has)))) none_distinct;
  }

  change_path : (c : FileChange) → (h : ChangesSource w known r c) → h.source.path ≡ c.path
  change_path c h = sym (ap (λ (x : FileChange). x.path) h.is_change)

  there : (c : FileChange) → Contains cs c → HasSpans w c
  there c has =
      let h = are.each c has in
      is_there w c h.source.cut.text (ap (get w) (sym (change_path c h)) ∙ source_text w known h.source h.is_source) h.edits.end_by.ends

  path_kept : (o : Option FileChange) (path : List ℕ) → ((c : FileChange) → o ≡ Some c → c.fate ≡ Stays) → path_by_change o path ≡ Some path
  path_kept None path h = refl
  path_kept (Some c) path h = ap (λ fate. path_by fate path) (h c refl)

  same_path : (old new : List ℕ) → MovesTo changes w old new → old ≡ new
  same_path old new g =
      same_Some old new (sym (path_kept (change_in cs old) old (λ c found. stays_put c (are.each c (change_found cs old c found).0))) ∙ g.1)

  fits_of : Fits changes w
  fits_of = record {
    there = all_by (HasSpans w) cs there;
    apart = λ a b p g h. same_path a p g ∙ sym (same_path b p h);
    free = λ old file has g. nothing_in file has;
    once = λ a b x y same. absurd (nothing_in a x);
  }

  edits_at : (f : SourceFile) → IsSourceIn w known f → HasChangeOf cs r f → (o : Option FileChange) → change_in cs f.path ≡ o → AreFileEdits f r (edits_by o)
  edits_at f s (inl h) None e = absurd (none_changed cs f.path h.0 e h.1.0 h.1.1)
  edits_at f s (inr h) None e = h
  edits_at f s done (Some c) e =
      let found = change_found cs f.path c e in
      let h = are.each c found.0 in
      subst (λ (x : SourceFile). AreFileEdits x r c.edits) (one_source w known h.source f h.is_source s (change_path c h ∙ found.1)) h.edits

  edits_are : AreEditsOf w known r changes
  edits_are = record {
    each = λ f s. edits_at f s (are.all f s) (change_in cs f.path) refl;
    only = λ c has. let h = are.each c has in record { source = h.source; is_source = h.is_source; of_path = change_path c h; stays = stays_put c h };
    none_added = refl;
  }

-- of lists that make the set

abbrev made_of : List FileChange → List (List ℕ × List ℕ) → FileChanges
made_of cs es = record { changed = cs; added = es }

same_made : (cs : List FileChange) (es : List (List ℕ × List ℕ)) → es ≡ [] → made_of cs [] ≡ made_of cs es
same_made cs es e = ap (made_of cs) (sym e)

pub set_from : (w : Workspace) (known : Verdicts) (r : Renamed) (cs : List FileChange) (es : List (List ℕ × List ℕ)) → es ≡ [] →
    AreSourceChanges w known r cs → IsEditSet (made_of cs es)
set_from w known r cs es e are = subst IsEditSet (same_made cs es e) (set_of w known r cs are)

pub fits_from : (w : Workspace) (known : Verdicts) (r : Renamed) (cs : List FileChange) (es : List (List ℕ × List ℕ)) (s : FileChanges) →
    s ≡ made_of cs es → es ≡ [] → AreSourceChanges w known r cs → Fits s w
fits_from w known r cs es s is e are = subst (λ x. Fits x w) (same_made cs es e ∙ sym is) (fits_of w known r cs are)

pub edits_from : (w : Workspace) (known : Verdicts) (r : Renamed) (cs : List FileChange) (es : List (List ℕ × List ℕ)) (s : FileChanges) →
    s ≡ made_of cs es → es ≡ [] → AreSourceChanges w known r cs → AreEditsOf w known r s
edits_from w known r cs es s is e are = subst (AreEditsOf w known r) (same_made cs es e ∙ sym is) (edits_are w known r cs are)
