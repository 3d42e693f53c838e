-- The package of the files in which an import got the name that it declares already.
use Rattle.std.proofs.Common.{ℕ, zero, suc, pred, ◌≡◌, ◌+◌, ◌<◌, ◌≤◌, ⊎_elim, true, false, cond, nat_lt, List, [], ◌∷◌, ◌++◌, Option, Some, length, map}
use Rattle.std.proofs.Common.{refl, sym, ap, ◌∙◌, subst, arith}
use Rattle.std.specs.Prelude.{slice_get}
use Rattle.std.proofs.lemmas.Bool.{cases_lt, true≢false}
use Rattle.std.proofs.lemmas.Bool.Decides.{nat_tests}
use Rattle.std.proofs.lemmas.List.{length-map}
use Rattle.go_ast.specs.SourceFile.{FileParts, source_of}
use Rattle.go_scope.specs.declared.model.Role.{Role}
use Rattle.go_scope.specs.declared.model.Role.TheVariants.{NotLexical}
use Rattle.go_scope.specs.Moves.{moved_role}
use Rattle.go_scope.specs.Named.{is_unnamed_import, with_names}
use Rattle.go_scope.specs.Packages.{scoped}
use Rattle.go_scope.specs.Site.{Site, or_blank}
use Rattle.law_tokens.specs.Covered.{AreSourceFiles}
use Rattle.law_tokens.proofs.FileIdentifiers.{role_in}
use Rattle.law_rename.specs.Around.{from_on}
use Rattle.law_rename.specs.Gained.{Gain, HasGained, import_site, moved_by, path_site, unnamed_site}
use Rattle.law_rename.specs.MovedSites.{moved_site}
use Rattle.law_rename.proofs.TokensBehind.{seam}
use Rattle.types_declared.specs.Laid.{laid_in}
use Rattle.types_declared.specs.Package.{ExportData, Package}
use Rattle.types_declared.specs.PackageNames.{ArePackageNames}
use Rattle.types_info.specs.PackageOf.{IsPackageOf, package_in}
use Rattle.law_gained_names.specs.GainedName.{ImportGainsName}
use Rattle.law_gained_names.proofs.NamedWorkspacesNamed.{IsPath, at, gain, has, path_back, path_there}
use Rattle.law_gained_names.proofs.Standing.{role_else, unnamed_within}

-- an identifier that is neither the name of the import nor its literal

back : ℕ → ℕ → ℕ
back at u = cond (nat_lt u at) u (pred u)

record WasAt (at u : ℕ) : Type 0 where
  old : ℕ
  other : old ≡ at → ⊥
  moves : from_on at old ≡ u
  is_back : back at u ≡ old

lower : (at u : ℕ) → u < at → WasAt at u
unfolding back
lower at u lt =
    let test : nat_lt u at ≡ true = grind (arith, nat_tests) in
    record {
      old = u;
      other = λ e. omega (arith, e, lt);
      moves = ap (λ b. cond b u (u + 1)) test;
      is_back = ap (λ b. cond b u (pred u)) test;
    }

higher : (at v : ℕ) → at < v → WasAt at (suc v)
unfolding back
higher at v lt =
    let test : nat_lt v at ≡ false = grind (arith, nat_tests) in
    let next : nat_lt (suc v) at ≡ false = grind (arith, nat_tests) in
    record {
      old = v;
      other = λ e. omega (arith, e, lt);
      moves = ap (λ b. cond b v (v + 1)) test ∙ (let e : v + 1 ≡ suc v = omega arith in e);
      is_back = ap (λ b. cond b (suc v) v) next;
    }

was_at : (at u : ℕ) → (u ≡ at → ⊥) → (u ≡ suc at → ⊥) → WasAt at u
was_at at zero first second = lower at zero (let z : 0 < at = by_size at first in z)
  where
    by_size : (n : ℕ) → (0 ≡ n → ⊥) → 0 < n
    by_size zero other = absurd (other refl)
    by_size (suc n) other = omega arith
was_at at (suc v) first second =
    ⊎_elim (λ (lt : suc v < at). lower at (suc v) lt) (λ (le : at ≤ suc v). higher at v (beyond at v le first second)) (cases_lt (suc v) at)
  where
    beyond : (at v : ℕ) → at ≤ suc v → (suc v ≡ at → ⊥) → (suc v ≡ suc at → ⊥) → at < v
    beyond at v le first second = grind arith

unnamed_back : (move : ℕ → ℕ → ℕ) (r : Role) → is_unnamed_import (moved_role move r) ≡ true → is_unnamed_import r ≡ true
unnamed_back move (NotLexical p) e = e
unnamed_back move r e = absurd (true≢false (sym e))

next_of : (xs ys : List Site) (x y : Site) → slice_get (xs ++ x ∷ y ∷ ys) (suc (length xs)) ≡ Some y
next_of [] ys x y = refl
next_of (z ∷ xs) ys x y = next_of xs ys x y

-- the two new identifiers

module _ (i : Gain) (stood : Site) (at : ℕ) (old new : List Site) (g : HasGained i stood at old new) where
  abbrev by : Site → Site
  by = moved_site (moved_by i)

  front : length (map by g.before) ≡ at
  front = length-map g.before by ∙ g.placed

  name_at : slice_get new at ≡ Some (import_site i i.name)
  name_at =
      (λ m. slice_get (g.new_is m) (sym front m))
      ∙ seam (map by g.before) (path_site i ∷ map by g.behind) (import_site i i.name)

  path_behind : slice_get new (suc at) ≡ Some (path_site i)
  path_behind =
      (λ m. slice_get (g.new_is m) (suc (sym front m)))
      ∙ next_of (map by g.before) (map by g.behind) (import_site i i.name) (path_site i)

  no_name : (u : ℕ) → is_unnamed_import (role_in new u) ≡ true → u ≡ at → ⊥
  no_name u e same =
      true≢false (sym e ∙ ap (λ n. is_unnamed_import (role_in new n)) same ∙ ap (λ (o : Option Site). is_unnamed_import (or_blank o).role) name_at)

  no_path : (u : ℕ) → is_unnamed_import (role_in new u) ≡ true → u ≡ suc at → ⊥
  no_path u e same =
      true≢false (sym e ∙ ap (λ n. is_unnamed_import (role_in new n)) same ∙ ap (λ (o : Option Site). is_unnamed_import (or_blank o).role) path_behind)

  from_old : (u : ℕ) → is_unnamed_import (role_in new u) ≡ true → WasAt at u
  from_old u e = was_at at u (no_name u e) (no_path u e)

  was_unnamed : (u : ℕ) (e : is_unnamed_import (role_in new u) ≡ true) → is_unnamed_import (role_in old (from_old u e).old) ≡ true
  was_unnamed u e =
      let v = from_old u e in
      unnamed_back (moved_by i) (role_in old v.old)
      (ap is_unnamed_import (sym (role_else i stood at old new g v.old v.other)) ∙ ap (λ n. is_unnamed_import (role_in new n)) v.moves ∙ e)

-- the package

module _ (number : ℕ) (first rest : List FileParts) (before after : FileParts) (g : ImportGainsName number before after)
    (sources : AreSourceFiles (first ++ before ∷ rest)) (name_of : List ℕ → Option (List ℕ)) (names : ℕ → Option (List ℕ))
    (are : ArePackageNames (map source_of (first ++ before ∷ rest)) name_of (laid_in (scoped (first ++ before ∷ rest))) names) where
  abbrev here : ℕ
  here = at number first rest before after g sources

  later : ℕ → Option (List ℕ)
  later u = names (back here u)

  are_later : ArePackageNames (map source_of (first ++ after ∷ rest)) name_of (laid_in (scoped (first ++ after ∷ rest))) later
  unfolding later
  are_later u lt unnamed =
      let i = gain number first rest before after g sources in
      let old = (scoped (first ++ before ∷ rest)).sites in
      let new = (scoped (first ++ after ∷ rest)).sites in
      let gained = has number first rest before after g sources in
      let v = from_old i (unnamed_site i) here old new gained u unnamed in
      let was = was_unnamed i (unnamed_site i) here old new gained u unnamed in
      let own = are v.old (unnamed_within old v.old was) was in
      let IsAt : ℕ → List ℕ → Type 0 = IsPath number first rest before after g sources in
      record {
        known = λ path is.
            ap names v.is_back
            ∙ own.known path (path_back number first rest before after g sources v.old v.other was path (subst (λ n. IsAt n path) (sym v.moves) is));
        unknown = λ none.
            ap names v.is_back
            ∙ own.unknown (λ path is. none path
            (subst (λ n. IsAt n path) v.moves (path_there number first rest before after g sources v.old v.other was path is)));
      }

  pub new_package : (path : List ℕ) (export_data_of : List ℕ → ExportData) →
      (q : Package) × IsPackageOf path (first ++ after ∷ rest) name_of export_data_of q
  new_package path export_data_of = (
    package_in path (map source_of (first ++ after ∷ rest)) (with_names later (scoped (first ++ after ∷ rest))) export_data_of,
    record {
      laid = with_names later (scoped (first ++ after ∷ rest));
      is_laid = record { names = later; are_names = are_later; is_named = refl };
      is_package = refl;
    },
  )
