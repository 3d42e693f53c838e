-- The identifiers of a package in which imports without a name declare their packages' names, where one of these gains a name of its own.
use Rattle.std.proofs.Common.{ℕ, suc, ◌≡◌, List, [], ◌∷◌, ◌++◌, Option, Some, None, Bool, true, false, length, map, refl, sym, ap, ◌∙◌, subst}
use Rattle.go_scope.specs.declared.model.Role.{Role}
use Rattle.go_scope.specs.declared.model.Role.TheVariants.{Use, Declaring, LeftName, Implied, NotLexical}
use Rattle.go_scope.specs.Moves.{moved_role}
use Rattle.go_scope.specs.Named.{is_unnamed_import, named_site, named_sites, named_where}
use Rattle.go_scope.specs.Site.{Site, sites_layout}
use Rattle.law_rename.specs.MovedSites.{moved_site}
use Rattle.law_rename.specs.Gained.{KeepNames, Gain, HasGained, import_site, moved_by, path_site, unnamed_site}
use Rattle.law_rename.proofs.Spelling.{from_first, from_suc, from_zero}

-- what is called by its package's name does not depend on where it stands

unnamed_moved : (move : ℕ → ℕ → ℕ) (r : Role) → is_unnamed_import (moved_role move r) ≡ is_unnamed_import r
unnamed_moved move Use = refl
unnamed_moved move (Declaring b s) = refl
unnamed_moved move (LeftName b s) = refl
unnamed_moved move (Implied b s) = refl
unnamed_moved move (NotLexical p) = refl

where_moved : (move : ℕ → ℕ → ℕ) (b : Bool) (name : Option (List ℕ)) (x : Site) →
    named_where b name (moved_site move x) ≡ moved_site move (named_where b name x)
where_moved move true (Some name) x = refl
where_moved move true None x = refl
where_moved move false name x = refl

where_alike : (b : Bool) (name other : Option (List ℕ)) (x : Site) → (b ≡ true → other ≡ name) → named_where b other x ≡ named_where b name x
where_alike true name other x same = ap (λ o. named_where true o x) (same refl)
where_alike false name other x same = refl

site_laid : (move : ℕ → ℕ → ℕ) (name other : Option (List ℕ)) (x : Site) → (is_unnamed_import x.role ≡ true → other ≡ name) →
    named_site other (moved_site move x) ≡ moved_site move (named_site name x)
site_laid move name other x same =
    ap (λ b. named_where b other (moved_site move x)) (unnamed_moved move x.role)
    ∙ where_moved move (is_unnamed_import x.role) other x
    ∙ ap (moved_site move) (where_alike (is_unnamed_import x.role) name other x same)

-- identifiers, with the names of packages by their numbers

abbrev AreAlike : List Site → (ℕ → Option (List ℕ)) → (ℕ → Option (List ℕ)) → Type 0
AreAlike xs names later = (d : ℕ) → is_unnamed_import ((sites_layout xs).role d) ≡ true → later d ≡ names d

sites_laid : (move : ℕ → ℕ → ℕ) (xs : List Site) (names later : ℕ → Option (List ℕ)) → AreAlike xs names later →
    named_sites later (map (moved_site move) xs) ≡ map (moved_site move) (named_sites names xs)
unfolding named_sites
sites_laid move [] names later alike = refl
sites_laid move (x ∷ xs) names later alike =
    let here = site_laid move (names 0) (later 0) x (alike 0) in
    let rest = sites_laid move xs (λ u. names (suc u)) (λ u. later (suc u)) (λ d is. alike (suc d) is) in
    λ j. here j ∷ rest j

module _ (i : Gain) where
  abbrev by : Site → Site
  by = moved_site (moved_by i)

  laid_gained : (before behind : List Site) (names later : ℕ → Option (List ℕ)) →
      KeepNames (length before) (before ++ unnamed_site i ∷ behind) names later →
      HasGained i (named_site (names (length before)) (unnamed_site i)) (length before) (named_sites names (before ++ unnamed_site i ∷ behind))
      (named_sites later (map by before ++ import_site i i.name ∷ path_site i ∷ map by behind))
  unfolding named_sites
  laid_gained [] behind names later are =
      let rest = sites_laid (moved_by i) behind (λ u. names (suc u)) (λ u. later (suc (suc u)))
      (λ d is. ap later (sym (from_first (suc d))) ∙ are (suc d) (λ e. cc) is) in
      record {
        before = [];
        behind = named_sites (λ u. names (suc u)) behind;
        placed = refl;
        old_is = refl;
        new_is = λ j. import_site i i.name ∷ path_site i ∷ rest j;
      }
  laid_gained (x ∷ before) behind names later are =
      let here = site_laid (moved_by i) (names 0) (later 0) x (λ is. ap later (sym (from_zero (length before))) ∙ are 0 (λ e. cc) is) in
      let rest = laid_gained before behind (λ u. names (suc u)) (λ u. later (suc u))
      (λ d other is. ap later (sym (from_suc (length before) d)) ∙ are (suc d) (λ e. other (cc)) is) in
      record {
        before = named_site (names 0) x ∷ rest.before;
        behind = rest.behind;
        placed = ap suc rest.placed;
        old_is = ap (λ l. named_site (names 0) x ∷ l) rest.old_is;
        new_is = λ j. here j ∷ rest.new_is j;
      }

  pub gain_laid : (at : ℕ) (old new : List Site) (names later : ℕ → Option (List ℕ)) → HasGained i (unnamed_site i) at old new → KeepNames at old names later →
      HasGained i (named_site (names at) (unnamed_site i)) at (named_sites names old) (named_sites later new)
  gain_laid at old new names later g are =
      let are_here : KeepNames (length g.before) (g.before ++ unnamed_site i ∷ g.behind) names later =
      subst (λ (n : ℕ). KeepNames n (g.before ++ unnamed_site i ∷ g.behind) names later) (sym g.placed)
      (subst (λ (l : List Site). KeepNames at l names later) g.old_is are) in
      let laid = laid_gained g.before g.behind names later are_here in
      subst (λ (n : ℕ). HasGained i (named_site (names n) (unnamed_site i)) n (named_sites names old) (named_sites later new)) g.placed
      (record {
        before = laid.before;
        behind = laid.behind;
        placed = laid.placed;
        old_is = ap (named_sites names) g.old_is ∙ laid.old_is;
        new_is = ap (named_sites later) g.new_is ∙ laid.new_is;
      })

pub known_laid : (i : Gain) (at : ℕ) (old new : List Site) (names later : ℕ → Option (List ℕ)) (called : List ℕ) → HasGained i (unnamed_site i) at old new →
    KeepNames at old names later → names at ≡ Some called →
    HasGained i (import_site i called) at (named_sites names old) (named_sites later new)
known_laid i at old new names later called g are known =
    subst (λ (o : Option (List ℕ)). HasGained i (named_where true o (unnamed_site i)) at (named_sites names old) (named_sites later new)) known
    (gain_laid i at old new names later g are)

pub unknown_laid : (i : Gain) (at : ℕ) (old new : List Site) (names later : ℕ → Option (List ℕ)) → HasGained i (unnamed_site i) at old new →
    KeepNames at old names later → names at ≡ None →
    HasGained i (unnamed_site i) at (named_sites names old) (named_sites later new)
unknown_laid i at old new names later g are unknown =
    subst (λ (o : Option (List ℕ)). HasGained i (named_where true o (unnamed_site i)) at (named_sites names old) (named_sites later new)) unknown
    (gain_laid i at old new names later g are)
