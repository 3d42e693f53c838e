-- The names of a package's identifiers where tokens get other spellings: those of imports without a name and of predeclared names stay.
use Rattle.std.proofs.Common.{ℕ, zero, suc, ◌≡◌, ◌+◌, ◌<◌, ◌⊎◌, inl, inr, Bool, true, false, List, [], ◌∷◌, ◌++◌, Option, Some, None, length, map, ap, sym}
use Rattle.std.proofs.Common.{refl, ◌∙◌, arith}
use Rattle.std.specs.Prelude.{slice_get}
use Rattle.std.specs.List.{AllByRecursion}
use Rattle.std.proofs.Math.Path.{ap₂}
use Rattle.std.proofs.lemmas.List.{length-append, length-map}
use Rattle.go_scope.specs.Bindings.{is_implied}
use Rattle.go_scope.specs.FileSites.{SpelledFile, files_sites, package_sites, universe, universe_site}
use Rattle.go_scope.specs.Named.{is_unnamed_import, named_sites, named_where}
use Rattle.go_scope.specs.Site.{Site, or_blank, sites_layout}
use Rattle.law_rename.specs.Respelled.{Spelling, respelled, respelled_files, KeepAllRoles}
use Rattle.law_rename.proofs.Laid.{layout_stays, package_respelled}

-- Both identifiers have the number u, stand at one token of a file, and are spelled by it.
pub record AreBothSpelled (old new : Spelling) (size u : ℕ) (before after : Site) : Type 0 where
  pub within : u < size
  pub identifies : is_implied before.role ≡ false
  pub was : before.name ≡ old before.place.file before.place.index
  pub now : after.name ≡ new before.place.file before.place.index

-- The name stays, or both are spelled by the token.
abbrev pub AreSpelled : (old new : Spelling) (size u : ℕ) → (before after : Site) → Type 0
AreSpelled old new size u before after = (after.name ≡ before.name) ⊎ AreBothSpelled old new size u before after

-- an identifier of a file, spelled by its token
abbrev pub IsSpelledBy : Spelling → Site → Type 0
IsSpelledBy old x = (x.name ≡ old x.place.file x.place.index) × (is_implied x.role ≡ false)

where_spelled : (old new : Spelling) (given : Option (List ℕ)) (size : ℕ) (x : Site) → IsSpelledBy old x → (b : Bool) →
    AreSpelled old new (suc size) 0 (named_where b given x) (named_where b given (respelled new x))
where_spelled old new (Some name) size x e true = inl refl
where_spelled old new None size x e true = inr (record { within = omega arith; identifies = e.1; was = e.0; now = refl })
where_spelled old new given size x e false = inr (record { within = omega arith; identifies = e.1; was = e.0; now = refl })

later : (old new : Spelling) (size u : ℕ) (x y : Site) → AreSpelled old new size u x y → AreSpelled old new (suc size) (suc u) x y
later old new size u x y h = elim h [
  | inl same ↦ inl same
  | inr both ↦ (let lt = both.within in inr (record { within = omega arith; identifies = both.identifies; was = both.was; now = both.now }))
]

own_spelled : (old new : Spelling) (given : ℕ → Option (List ℕ)) (xs : List Site) → AllByRecursion (IsSpelledBy old) xs → (u : ℕ) →
    AreSpelled old new (length xs) u (or_blank (slice_get (named_sites given xs) u)) (or_blank (slice_get (named_sites given (map (respelled new) xs)) u))
unfolding named_sites
own_spelled old new given [] all u = inl refl
own_spelled old new given (x ∷ xs) all zero = where_spelled old new (given 0) (length xs) x all.0 (is_unnamed_import x.role)
own_spelled old new given (x ∷ xs) all (suc u) = later old new (length xs) u _ _ (own_spelled old new (λ k. given (suc k)) xs all.1 u)

pub all_spelled : (old new : Spelling) (given : ℕ → Option (List ℕ)) (names : List (List ℕ)) (xs : List Site) → AllByRecursion (IsSpelledBy old) xs →
    (u : ℕ) → AreSpelled old new (length (map universe_site names ++ xs)) u (or_blank (slice_get (named_sites given (map universe_site names ++ xs)) u))
    (or_blank (slice_get (named_sites given (map universe_site names ++ map (respelled new) xs)) u))
unfolding named_sites
all_spelled old new given [] xs all u = own_spelled old new given xs all u
all_spelled old new given (n ∷ names) xs all zero = inl refl
all_spelled old new given (n ∷ names) xs all (suc u) =
    later old new (length (map universe_site names ++ xs)) u _ _ (all_spelled old new (λ k. given (suc k)) names xs all u)

-- where no name is given, all stays
pub none_given : (xs : List Site) → named_sites (λ u. None) xs ≡ xs
unfolding named_sites
none_given [] = refl
none_given (x ∷ xs) = ap₂ (λ y ys. y ∷ ys) (by_test (is_unnamed_import x.role)) (none_given xs)
  where
    by_test : (b : Bool) → named_where b None x ≡ x
    by_test true = refl
    by_test false = refl

-- the number of identifiers

pub size_stays : (new : Spelling) (files : List SpelledFile) → KeepAllRoles new 0 files →
    length (package_sites (respelled_files new 0 files)) ≡ length (package_sites files)
unfolding package_sites
size_stays new files kept =
    let names = map universe_site universe in
    let own = files_sites 0 files in
    ap length (package_respelled new files kept) ∙ length-append names (map (respelled new) own)
    ∙ ap (λ n. length names + n) (length-map own (respelled new)) ∙ sym (length-append names own)

pub plain_stays : (new : Spelling) (files : List SpelledFile) → KeepAllRoles new 0 files →
    sites_layout (package_sites (respelled_files new 0 files)) ≡ sites_layout (package_sites files)
plain_stays new files kept =
    ap sites_layout (sym (none_given (package_sites (respelled_files new 0 files)))) ∙ layout_stays new files (λ u. None) kept
    ∙ ap sites_layout (none_given (package_sites files))
