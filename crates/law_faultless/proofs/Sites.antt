-- A property of each identifier of a file is one of each identifier of the package that stands in the file.
use Rattle.std.proofs.Common.{ℕ, zero, suc, ◌≡◌, ◌+◌, List, [], ◌∷◌, ◌++◌, false, map, ap, sym, subst, refl, ◌∙◌, arith}
use Rattle.std.specs.Prelude.{Option, Some, slice_get}
use Rattle.std.specs.List.{AllByRecursion}
use Rattle.std.proofs.lemmas.Option.{none-some, same_Some}
use Rattle.base_lemmas.proofs.EachElement.{all_append}
use Rattle.go_ast.specs.declared.syntax.Token.{Token}
use Rattle.go_ast.specs.Flatten.{flatten}
use Rattle.go_scope.specs.declared.model.Role.{Role}
use Rattle.go_scope.specs.declared.model.Role.TheVariants.{NotLexical}
use Rattle.go_scope.specs.declared.model.Purpose.{Purpose}
use Rattle.go_scope.specs.declared.model.Purpose.TheVariants as purpose
use Rattle.go_scope.specs.Bindings.{is_implied}
use Rattle.go_scope.specs.FileSites.{SpelledFile, file_sites, files_sites, universe, universe_site}
use Rattle.go_scope.specs.Named.{is_unnamed_import, named_where, named_sites}
use Rattle.go_scope.specs.Site.{Site, TokenSpellings, or_blank}
use Rattle.law_tokens.specs.Tokens.{identifiers_among}
use Rattle.law_tokens.proofs.Covering.{Pairs, file_pairs}
use Rattle.refs_lookup.proofs.Apart.{all_as}

-- each stands in the file

in_file : (s : TokenSpellings) (F : ℕ) (xs : List Site) (ts : List Token) → Pairs s xs ts → AllByRecursion (λ x. x.place.file ≡ F → s.rank ≡ F) xs
in_file s F [] ts p = tt
in_file s F (x ∷ xs) [] p = absurd p
in_file s F (x ∷ xs) (t ∷ ts) p = ((λ e. sym (ap (λ (y : Site). y.place.file) p.1) ∙ e), in_file s F xs ts p.2)

-- of one of some files
abbrev Among : ℕ → (ℕ → Role → Type 0) → List Site → Type 0
Among F P xs = AllByRecursion (λ (x : Site). x.place.file ≡ F → P x.place.index x.role) xs

spread : (F : ℕ) (P : ℕ → Role → Type 0) (A : Type 0) (xs : List Site) → AllByRecursion (λ x. x.place.file ≡ F → A) xs →
    (A → AllByRecursion (λ x. P x.place.index x.role) xs) → Among F P xs
spread F P A [] a k = tt
spread F P A (x ∷ xs) a k = ((λ e. (k (a.0 e)).0), spread F P A xs a.1 (λ z. (k z).1))

pub files_among : (F : ℕ) (P : ℕ → Role → Type 0) (rank : ℕ) (fs : List SpelledFile) →
    ((i : ℕ) (f : SpelledFile) → slice_get fs i ≡ Some f → rank + i ≡ F →
    AllByRecursion (λ x. P x.place.index x.role) (file_sites (record { rank = F; spell = f.spell }) f.tree)) →
    Among F P (files_sites rank fs)
unfolding files_sites
files_among F P rank [] k = tt
files_among F P rank (f ∷ fs) k =
    let s : TokenSpellings = record { rank = rank; spell = f.spell } in
    all_append (λ (x : Site). x.place.file ≡ F → P x.place.index x.role) (file_sites s f.tree) (files_sites (suc rank) fs)
    (spread F P (rank ≡ F) (file_sites s f.tree) (in_file s F (file_sites s f.tree) (identifiers_among (flatten f.tree)) (file_pairs s f.tree))
    (λ e. subst (λ r. AllByRecursion (λ x. P x.place.index x.role) (file_sites (record { rank = r; spell = f.spell }) f.tree)) (sym e)
    (k 0 f refl (let same : rank + 0 ≡ rank = omega arith in same ∙ e))))
    (files_among F P (suc rank) fs (λ i g at e. k (suc i) g at (let same : rank + suc i ≡ suc rank + i = omega arith in same ∙ e)))

-- by number

each_found : (P : Site → Type 0) (q : Purpose) → (NotLexical purpose.Blank ≡ NotLexical q → ⊥) → (xs : List Site) → AllByRecursion P xs → (u : ℕ) →
    (or_blank (slice_get xs u)).role ≡ NotLexical q → P (or_blank (slice_get xs u))
each_found P q other [] a u e = absurd (other e)
each_found P q other (x ∷ xs) a zero e = a.0
each_found P q other (x ∷ xs) a (suc u) e = each_found P q other xs a.1 u e

pub each_numbered : (P : Site → Type 0) (q : Purpose) → (NotLexical purpose.Blank ≡ NotLexical q → ⊥) → (names : List (List ℕ)) (xs : List Site) →
    AllByRecursion P xs → (u : ℕ) → (or_blank (slice_get (map universe_site names ++ xs) u)).role ≡ NotLexical q →
    P (or_blank (slice_get (map universe_site names ++ xs) u))
each_numbered P q other [] xs a u e = each_found P q other xs a u e
each_numbered P q other (n ∷ names) xs a zero e = let z : ⊥ = cc in absurd z
each_numbered P q other (n ∷ names) xs a (suc u) e = each_numbered P q other names xs a u e

-- the number of each

abbrev HasNumber : List Site → Site → Type 0
HasNumber xs y = (k : ℕ) × (slice_get xs k ≡ Some y)

each_number : (xs : List Site) → AllByRecursion (HasNumber xs) xs
each_number [] = tt
each_number (x ∷ xs) = ((0, refl), all_as (HasNumber xs) (HasNumber (x ∷ xs)) (λ y h. (suc h.0, h.1)) xs (each_number xs))

number_at : (xs ys : List Site) (y : Site) (k : ℕ) → slice_get xs k ≡ Some y → slice_get (xs ++ ys) k ≡ Some y
number_at [] ys y k e = absurd (none-some y e)
number_at (x ∷ xs) ys y zero e = e
number_at (x ∷ xs) ys y (suc k) e = number_at xs ys y k e

number_behind : (xs ys : List Site) (y : Site) → HasNumber ys y → HasNumber (xs ++ ys) y
number_behind [] ys y h = h
number_behind (x ∷ xs) ys y h = let r = number_behind xs ys y h in (suc r.0, r.1)

file_numbers : (rank : ℕ) (fs : List SpelledFile) (i r : ℕ) (f : SpelledFile) → slice_get fs i ≡ Some f → rank + i ≡ r →
    AllByRecursion (HasNumber (files_sites rank fs)) (file_sites (record { rank = r; spell = f.spell }) f.tree)
unfolding files_sites
file_numbers rank [] i r f e q = absurd (none-some f e)
file_numbers rank (g ∷ fs) zero r f e q =
    let own = file_sites (record { rank = rank; spell = g.spell }) g.tree in
    let all = files_sites rank (g ∷ fs) in
    let base = all_as (HasNumber own) (HasNumber all) (λ y h. (h.0, number_at own (files_sites (suc rank) fs) y h.0 h.1)) own (each_number own) in
    subst (λ (z : SpelledFile). AllByRecursion (HasNumber all) (file_sites (record { rank = r; spell = z.spell }) z.tree)) (same_Some g f e)
    (subst (λ k. AllByRecursion (HasNumber all) (file_sites (record { rank = k; spell = g.spell }) g.tree)) (let same : rank ≡ r = omega
    (arith, q) in same) base)
file_numbers rank (g ∷ fs) (suc i) r f e q =
    let own = file_sites (record { rank = rank; spell = g.spell }) g.tree in
    all_as (HasNumber (files_sites (suc rank) fs)) (HasNumber (files_sites rank (g ∷ fs))) (number_behind own (files_sites (suc rank) fs))
    (file_sites (record { rank = r; spell = f.spell }) f.tree)
    (file_numbers (suc rank) fs i r f e (let same : suc rank + i ≡ r = omega (arith, q) in same))

stand_in : (s : TokenSpellings) (xs : List Site) (ts : List Token) → Pairs s xs ts → AllByRecursion (λ x. (x.place.file ≡ s.rank) × (is_implied x.role ≡
    false)) xs
stand_in s [] ts p = tt
stand_in s (x ∷ xs) [] p = absurd p
stand_in s (x ∷ xs) (t ∷ ts) p = ((ap (λ (y : Site). y.place.file) p.1, p.0), stand_in s xs ts p.2)

both : (P Q : Site → Type 0) (xs : List Site) → AllByRecursion P xs → AllByRecursion Q xs → AllByRecursion (λ x. P x × Q x) xs
both P Q [] a b = tt
both P Q (x ∷ xs) a b = ((a.0, b.0), both P Q xs a.1 b.1)

-- an identifier of a file has its number among those of the package
pub record IsNumbered (files : List SpelledFile) (file : ℕ) (x : Site) : Type 0 where
  pub number : ℕ
  pub has_number : slice_get (map universe_site universe ++ files_sites 0 files) number ≡ Some x
  pub in_file : x.place.file ≡ file
  pub identifies : is_implied x.role ≡ false

pub all_numbered : (fs : List SpelledFile) (i : ℕ) (f : SpelledFile) → slice_get fs i ≡ Some f →
    AllByRecursion (IsNumbered fs i) (file_sites (record { rank = i; spell = f.spell }) f.tree)
all_numbered fs i f e =
    let s : TokenSpellings = record { rank = i; spell = f.spell } in
    let xs = file_sites s f.tree in
    let names = map universe_site universe in
    all_as (λ x. HasNumber (files_sites 0 fs) x × ((x.place.file ≡ i) × (is_implied x.role ≡ false))) (IsNumbered fs i)
    (λ x h. let n = number_behind names (files_sites 0 fs) x h.0 in
    record { number = n.0; has_number = n.1; in_file = h.1.0; identifies = h.1.1 }) xs
    (both (HasNumber (files_sites 0 fs)) (λ x. (x.place.file ≡ i) × (is_implied x.role ≡ false)) xs
    (file_numbers 0 fs i i f e (let same : 0 + i ≡ i = omega arith in same))
    (stand_in s xs (identifiers_among (flatten f.tree)) (file_pairs s f.tree)))

-- but for the literals of imports without a name, roles stay
pub role_stays : (names : ℕ → Option (List ℕ)) (xs : List Site) (u : ℕ) → is_unnamed_import (or_blank (slice_get xs u)).role ≡ false →
    (or_blank (slice_get (named_sites names xs) u)).role ≡ (or_blank (slice_get xs u)).role
unfolding named_sites
role_stays names [] u e = refl
role_stays names (x ∷ xs) zero e = ap (λ b. (named_where b (names 0) x).role) e
role_stays names (x ∷ xs) (suc u) e = role_stays (λ k. names (suc k)) xs u e
