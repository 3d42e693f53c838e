-- The places of the declarations of packages.
use Rattle.std.proofs.Common.{ℕ, ◌≡◌, ◌+◌, ◌<◌, ◌≤◌, inl, inr, Bool, true, false, List, [], ◌∷◌, ◌++◌, length, get_or, refl, sym, ap, subst, ◌∙◌, arith}
use Rattle.std.specs.Prelude.{Option, Some, None, IsTrue, ◌↔◌, slice_get, slice_index_or}
use Rattle.std.specs.Borrow.{Bor}
use Rattle.std.specs.Option.{option_copied}
use Rattle.std.proofs.lemmas.Bool.{cases_lt, false≢true}
use Rattle.std.proofs.lemmas.List.{get_or_append_left, get_or_push, get_or_past, length_push}
use Rattle.std.proofs.lemmas.Option.{none-some, slice_get_within}
use Rattle.base_files.specs.Packages.{package_paths}
use Rattle.base_files.specs.Workspace.{Workspace}
use Rattle.base_files.specs.declared.place.Place.{Place}
use Rattle.go_ast.specs.SourceFile.{SourceFile}
use Rattle.go_scope.specs.declared.model.Position.{Position}
use Rattle.go_scope.specs.Bindings.{Layout, Names, Declares, Counts, IsBoundTo, own}
use Rattle.go_scope.proofs.Uniqueness.{own_binding}
use Rattle.types_declared.specs.Laid.{literal_of}
use Rattle.types_declared.specs.Package.{Package}
use Rattle.workspace_check.specs.Verdicts.{Verdicts}
use Rattle.refs_binding.specs.declared.declaration.Declaration.{Declaration}
use Rattle.refs_binding.specs.declared.declaration.Declaration.TheVariants.{Predeclared, Declared, Field, Method}
use Rattle.refs_binding.specs.Binding.{IsPredeclaredNumber}
use Rattle.refs_binding.specs.Steps.{ArePlaces}
use Rattle.refs_binding.specs.Uses.{IsCheckedPackage}
use Rattle.refs_binding.proofs.NamedPlaces.{one_field_place, one_method_place}
use Rattle.refs_binding.proofs.Units.{one_package}
use Rattle.refs_binding.specs.DeclaringPlaces.{InPackage, TokenAt, IsScopeAt, IsPositionOf, HasDeclarationAt, IsDeclaredAt}
use Rattle.refs_binding.proofs.PackageNumbers.{in_package, of_package}
use Rattle.base_edits.proofs.Ending.{pushed_get}
use Rattle.refs_places.specs.declared.declared_places.DeclaredPlaces.{DeclaredPlaces}
use Rattle.refs_places.specs.DeclaredPlaces.{IsChoice, IsChoiceIn, TokenBeginsAt, ArePlacesOf, IsPlacedBy}
use Rattle.refs_places.specs.DeclaredPlaces.{AreRanked, AreDeclaredIn, AreDeclaredAt, AreDeclaredBelow, AreAllPlaces, IsPlaceIn}
use Rattle.refs_places.proofs.Found.{found_in_as, found_copied}
use Rattle.refs_places.proofs.Starts.{token_once}

-- what counts
pub not_declared : (l : Layout) (names : Names) (d : ℕ) (r : Bool) → r ≡ false → IsTrue r ↔ Declares l names d → IsTrue false ↔ Counts l names d
not_declared l names d r denied is = ((λ t. absurd (false≢true t)), (λ (c : Counts l names d). absurd (false≢true (sym denied ∙ is.1 c.declares))))

pub not_bound : (l : Layout) (names : Names) (d : ℕ) → ((e : ℕ) → IsBoundTo l names d e → ⊥) → IsTrue false ↔ Counts l names d
not_bound l names d none = ((λ t. absurd (false≢true t)), (λ c. absurd (none d (own refl c))))

pub own_bound : (l : Layout) (names : Names) (d e : ℕ) → Declares l names d → IsBoundTo l names d e → IsTrue true ↔ Counts l names d
own_bound l names d e declares bound =
    let mine = (own_binding l names d e declares).0 bound in
    ((λ t. subst (Counts l names) (sym mine.0) mine.1), (λ c. refl))

-- where a declaration of scopes stands
pub predeclared_nowhere : (p : Package) (d : ℕ) → d < 11 → (at : Position) → IsScopeAt p d at → ⊥
predeclared_nowhere p d lt at h = let is : IsPredeclaredNumber d = lt in h.own is

pub uncounted_nowhere : (p : Package) (d : ℕ) (r : Bool) → r ≡ false → IsTrue r ↔ Counts p.layout p.names d → (at : Position) → IsScopeAt p d at → ⊥
uncounted_nowhere p d r denied is at h = false≢true (sym denied ∙ is.1 h.counts)

pub counted_at : (p : Package) (d literal : ℕ) (at : Position) → 11 ≤ d → Counts p.layout p.names d → literal ≡ literal_of p.layout d →
    at ≡ p.layout.place literal → IsScopeAt p d at
counted_at p d literal at ge counts e is = record {
  own = λ known. let lt : d < 11 = known in absurd (omega arith);
  counts = counts;
  stands = ap p.layout.place (sym e) ∙ sym is;
}

pub one_scope_place : (p : Package) (d : ℕ) (a b : Position) → IsScopeAt p d a → IsScopeAt p d b → a ≡ b
one_scope_place p d a b h k = sym h.stands ∙ k.stands

-- places of positions, as the list grows
pub record ArePlacesBelow (files : List SourceFile) (positions : List (Option Position)) (count : ℕ) (places : List (Option Place)) : Type 0 where
  pub size : length places ≡ count
  pub each : (k : ℕ) → k < count → IsChoice (TokenBeginsAt files (slice_index_or positions k None)) (slice_index_or places k None)

pub no_places : (files : List SourceFile) (positions : List (Option Position)) (places : List (Option Place)) → places ≡ [] →
    ArePlacesBelow files positions 0 places
no_places files positions places e = record { size = ap length e; each = λ k lt. absurd (omega arith) }

pub next_place : (files : List SourceFile) (positions : List (Option Position)) (count : ℕ) (old new : List (Option Place)) (at : Option Position)
    (o : Option Place) → at ≡ get_or positions count None →
    new ≡ old ++ (o ∷ []) → IsChoice (TokenBeginsAt files at) o → ArePlacesBelow files positions count old → ArePlacesBelow files positions (count + 1) new
next_place files positions count old new at o is grown found h = record {
  size = ap length grown ∙ length_push old o ∙ ap (λ n. n + 1) h.size;
  each = λ k lt. elim (cases_lt k count) [
    | inl below ↦ (
        let same : get_or new k None ≡ get_or old k None = ap (λ xs. get_or xs k None) grown ∙ get_or_append_left old (o ∷ []) None k (omega (arith, h.size)) in
        subst (IsChoice (TokenBeginsAt files (slice_index_or positions k None))) (sym same) (h.each k below))
    | inr ge ↦ (
        let last : k ≡ count = omega arith in
        let same : get_or new count None ≡ o = ap (λ xs. get_or xs count None) grown ∙ get_or_push old o None count h.size in
        subst (λ n. IsChoice (TokenBeginsAt files (slice_index_or positions n None)) (slice_index_or new n None)) (sym last)
        (subst (IsChoice (TokenBeginsAt files (slice_index_or positions count None))) (sym same) (subst (λ x. IsChoice (TokenBeginsAt files x) o) is found)))
  ];
}

pub all_places : (files : List SourceFile) (positions : List (Option Position)) (count : ℕ) (places : List (Option Place)) → length positions ≤ count →
    count ≤ length positions →
    ArePlacesBelow files positions count places → ArePlacesOf files positions places
all_places files positions count places le ge h = record {
  size = (let size = h.size in omega arith);
  each = λ k. elim (cases_lt k count) [
    | inl below ↦ h.each k below
    | inr past ↦ (
        let none : get_or positions k None ≡ None = get_or_past positions k None (omega arith) in
        let nothing : get_or places k None ≡ None = get_or_past places k None (let size = h.size in omega arith) in
        subst (IsChoice (TokenBeginsAt files (slice_index_or positions k None))) (sym nothing) (λ place b. subst (λ x. TokenBeginsAt files x place) none b))
  ];
}

-- what has a rank stands at the place of its position
pub ranked_as : (IsAt : (rank : ℕ) → Position → Type 0) (p : Package) → ((rank : ℕ) (a b : Position) → IsAt rank a → IsAt rank b → a ≡ b) →
    (rank : ℕ) (at : Option Position) (o : Option Place) →
    IsChoice (IsAt rank) at → IsChoice (TokenBeginsAt p.files at) o → IsChoice (IsPlacedBy (IsAt rank) p) o
ranked_as IsAt p one rank None None none h = λ place s. none s.at s.is_at
ranked_as IsAt p one rank None (Some place) none h = absurd h
ranked_as IsAt p one rank (Some at) None is h = λ place s. h place (subst (λ x. TokenAt p x place) (one rank s.at at s.is_at is) s.begins)
ranked_as IsAt p one rank (Some at) (Some place) is h = record { at = at; is_at = is; begins = h }

pub ranked : (IsAt : (rank : ℕ) → Position → Type 0) (p : Package) (files : List SourceFile) (positions listed : List (Option Position))
    (places : List (Option Place)) →
    ((rank : ℕ) (a b : Position) → IsAt rank a → IsAt rank b → a ≡ b) → p.files ≡ files → listed ≡ positions → ArePlaces IsAt positions →
    ArePlacesOf files listed places → AreRanked IsAt p places
ranked IsAt p files positions listed places one e same are of = λ rank.
    ranked_as IsAt p one rank (slice_index_or positions rank None) (slice_index_or places rank None) (are rank)
    (subst (λ fs. IsChoice (TokenBeginsAt fs (slice_index_or positions rank None)) (slice_index_or places rank None)) (sym e)
    (subst (λ l. IsChoice (TokenBeginsAt files (slice_index_or l rank None)) (slice_index_or places rank None)) same (of.each rank)))

-- the places of one more package
pub more_packages : (w : Workspace) (known : Verdicts) (n : ℕ) (old new : List DeclaredPlaces) (places : DeclaredPlaces) → AreDeclaredAt w known n places →
    new ≡ old ++ (places ∷ []) →
    AreDeclaredBelow w known n old → AreDeclaredBelow w known (n + 1) new
more_packages w known n old new places are grown h = record {
  size = ap length grown ∙ length_push old places ∙ ap (λ m. m + 1) h.size;
  each = λ m other has. elim (pushed_get old places other m (ap (λ l. slice_get l m) (sym grown) ∙ has)) [
    | inl a ↦ h.each m other a
    | inr a ↦ subst (λ k. AreDeclaredAt w known k other) (sym (a.0 ∙ h.size)) (subst (AreDeclaredAt w known n) a.1 are)
  ];
}

pub no_packages : (w : Workspace) (known : Verdicts) (all : List DeclaredPlaces) → all ≡ [] → AreDeclaredBelow w known 0 all
no_packages w known all e = record { size = ap length e; each = λ n places has. absurd (none-some places (sym (ap (λ l. slice_get l n) e) ∙ has)) }

-- where a declaration of a package stands
pub stands_in : (p : Package) (d : Declaration) (place : Place) → IsPlacedBy (IsPositionOf p d) p place → HasDeclarationAt p d place
stands_in p d place s = record { at = s.at; is_at = s.is_at; begins = s.begins }

pub stands_by : (p : Package) (d : Declaration) (place : Place) → HasDeclarationAt p d place → IsPlacedBy (IsPositionOf p d) p place
stands_by p d place s = record { at = s.at; is_at = s.is_at; begins = s.begins }

pub place_in : (p : Package) (d : Declaration) (o : Option (Bor Place)) (x : Option Place) → option_copied o ≡ x →
    IsChoice (IsPlacedBy (IsPositionOf p d) p) x → IsPlaceIn p d o
place_in p d o x e h = found_in_as (IsPlacedBy (IsPositionOf p d) p) (HasDeclarationAt p d) o (stands_in p d) (stands_by p d)
    (found_copied (IsPlacedBy (IsPositionOf p d) p) o x e h)

-- the same in the package of a path
pub place_under : (w : Workspace) (known : Verdicts) (n : ℕ) (path : List ℕ) (d : Declaration) (all : List DeclaredPlaces) (places : DeclaredPlaces)
    (o : Option (Bor Place)) → AreAllPlaces w known all →
    slice_get (package_paths w) n ≡ Some path → slice_get all n ≡ Some places → ((p : Package) → AreDeclaredIn p places → IsPlaceIn p d o) →
    IsChoiceIn (λ (place : Place). InPackage (IsCheckedPackage w known) path (λ p. HasDeclarationAt p d place)) o
place_under w known n path d all places o are at has told =
    let here = are.each n places has in
    let p = here.inside in
    found_in_as (HasDeclarationAt p d) (λ (place : Place). InPackage (IsCheckedPackage w known) path (λ q. HasDeclarationAt q d place)) o
    (λ place s. in_package w known n p path (λ q. HasDeclarationAt q d place) here.is_package at s)
    (λ place h. of_package w known n p path (λ q. HasDeclarationAt q d place) here.is_package at h) (told p here.declared)

pub no_places_there : (w : Workspace) (known : Verdicts) (n : ℕ) (path : List ℕ) (all : List DeclaredPlaces) → AreAllPlaces w known all →
    slice_get (package_paths w) n ≡ Some path → length all ≤ n → ⊥
no_places_there w known n path all are at le = let lt = slice_get_within (package_paths w) n path at in let size = are.size in absurd (omega arith)

-- a declaration stands at one place
one_position : (p : Package) (d : Declaration) (a b : Position) → IsPositionOf p d a → IsPositionOf p d b → a ≡ b
one_position p (Predeclared n) a b h k = absurd h
one_position p (Declared path n) a b h k = one_scope_place p n a b h k
one_position p (Field s) a b h k = one_field_place p s.rank a b h k
one_position p (Method s) a b h k = one_method_place p s.rank a b h k

one_in : (p : Package) (d : Declaration) (a b : Place) → HasDeclarationAt p d a → HasDeclarationAt p d b → a ≡ b
one_in p d a b h k = token_once (slice_get p.files k.at.file) k.at.index a b
    (subst (λ x. TokenAt p x a) (one_position p d h.at k.at h.is_at k.is_at) h.begins) k.begins

one_under : (w : Workspace) (known : Verdicts) (path : List ℕ) (d : Declaration) (a b : Place) → InPackage (IsCheckedPackage w known) path (λ p.
    HasDeclarationAt p d a) →
    InPackage (IsCheckedPackage w known) path (λ p. HasDeclarationAt p d b) → a ≡ b
one_under w known path d a b h k =
    let same : h.inside ≡ k.inside = one_package w known h.inside k.inside h.is_package k.is_package (h.of_path ∙ sym k.of_path) in
    one_in k.inside d a b (subst (λ p. HasDeclarationAt p d a) same h.holds) k.holds

pub one_place : (w : Workspace) (known : Verdicts) (d : Declaration) (a b : Place) → IsDeclaredAt (IsCheckedPackage w known) d a →
    IsDeclaredAt (IsCheckedPackage w known) d b → a ≡ b
one_place w known (Predeclared n) a b h k = absurd h
one_place w known (Declared path n) a b h k = one_under w known path (Declared path n) a b h k
one_place w known (Field s) a b h k = one_under w known s.package (Field s) a b h k
one_place w known (Method s) a b h k = one_under w known s.package (Method s) a b h k
