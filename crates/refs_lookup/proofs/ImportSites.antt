-- The identifiers of imports: the literal of an import stands in the same file as its name, and is no predeclared name.
use Rattle.std.proofs.Common.{ℕ, zero, suc, ◌≡◌, ◌<◌, List, [], ◌∷◌, ◌++◌, Option, false, length, map, sym, refl, ◌∙◌, arith}
use Rattle.std.specs.Prelude.{slice_get}
use Rattle.std.specs.List.{AllByRecursion}
use Rattle.go_ast.specs.Flatten.{flatten}
use Rattle.go_scope.specs.declared.model.Block.TheVariants.{Universe, File}
use Rattle.go_scope.specs.declared.model.Purpose.TheVariants as purpose
use Rattle.go_scope.specs.declared.model.Role.{Role}
use Rattle.go_scope.specs.declared.model.Role.TheVariants.{NotLexical}
use Rattle.go_scope.specs.Bindings.{block_of, is_implied}
use Rattle.go_scope.specs.FileSites.{SpelledFile, file_sites, files_sites, universe_site}
use Rattle.go_scope.specs.Named.{named_sites}
use Rattle.go_scope.specs.Site.{Site, TokenSpellings, or_blank}
use Rattle.law_tokens.specs.Tokens.{identifiers_among}
use Rattle.law_tokens.proofs.Covering.{file_pairs}
use Rattle.law_tokens.proofs.FileIdentifiers.{AreIdentifiers, files_identify, paired_files, role_in, identifier_in}
use Rattle.go_scope.proofs.NamedSites.{identifier_stays}

abbrev pub file_in : List Site → ℕ → ℕ
file_in xs u = (or_blank (slice_get xs u)).place.file

abbrev pub IsLiteral : Role → Type 0
IsLiteral r = r ≡ NotLexical purpose.ImportPath

-- the literal of an import that has a name is one of the identifiers
pub literal_within : (xs : List Site) (u : ℕ) → IsLiteral (role_in xs u) → u < length xs
literal_within [] u e = absurd (let z : ⊥ = cc in z)
literal_within (x ∷ xs) zero e = omega arith
literal_within (x ∷ xs) (suc u) e = let lt : u < length xs = literal_within xs u e in omega arith

-- and stands in the file of the one before it

abbrev Follows : Site → List Site → Type 0
Follows x [] = Unit {0}
Follows x (y ∷ ys) = (IsLiteral y.role → y.place.file ≡ x.place.file) × Follows y ys

abbrev Runs : List Site → Type 0
Runs [] = Unit {0}
Runs (x ∷ xs) = (IsLiteral x.role → ⊥) × Follows x xs

runs_follow : (x : Site) (xs : List Site) → Runs xs → Follows x xs
runs_follow x [] r = tt
runs_follow x (y ∷ ys) r = ((λ e. absurd (r.0 e)), r.1)

one_file : (rank : ℕ) (x : Site) (xs ys : List Site) → x.place.file ≡ rank → AllByRecursion (λ (y : Site). y.place.file ≡ rank) xs → Runs ys →
    Follows x (xs ++ ys)
one_file rank x [] ys e all runs = runs_follow x ys runs
one_file rank x (z ∷ zs) ys e all runs = ((λ literal. all.0 ∙ sym e), one_file rank z zs ys all.0 all.1 runs)

abbrev source_at : ℕ → SpelledFile → TokenSpellings
source_at rank f = record { rank = rank; spell = f.spell }

abbrev Begins : List Site → Type 0
Begins [] = Unit {0}
Begins (x ∷ xs) = IsLiteral x.role → ⊥

begins_runs : (rank : ℕ) (xs ys : List Site) → Begins xs → AllByRecursion (λ (y : Site). y.place.file ≡ rank) xs → Runs ys → Runs (xs ++ ys)
begins_runs rank [] ys b all runs = runs
begins_runs rank (x ∷ xs) ys b all runs = (b, one_file rank x xs ys all.0 all.1 runs)

clause_first : (rank : ℕ) (f : SpelledFile) → Begins (file_sites (source_at rank f) f.tree)
unfolding file_sites
clause_first rank f = λ e. let z : ⊥ = cc in z

files_run : (rank : ℕ) (fs : List SpelledFile) → Runs (files_sites rank fs)
unfolding files_sites
files_run rank [] = tt
files_run rank (f ∷ fs) =
    let s = source_at rank f in
    begins_runs rank (file_sites s f.tree) (files_sites (suc rank) fs) (clause_first rank f)
    (paired_files s (file_sites s f.tree) (identifiers_among (flatten f.tree)) (file_pairs s f.tree)) (files_run (suc rank) fs)

all_run : (names : List (List ℕ)) (xs : List Site) → Runs xs → Runs (map universe_site names ++ xs)
all_run [] xs runs = runs
all_run (n ∷ names) xs runs = ((λ e. let z : ⊥ = cc in z), runs_follow (universe_site n) (map universe_site names ++ xs) (all_run names xs runs))

file_behind : (x : Site) (xs : List Site) → Follows x xs → (u : ℕ) → IsLiteral (role_in (x ∷ xs) (suc u)) → file_in (x ∷ xs) (suc u) ≡ file_in (x ∷ xs) u
file_behind x [] h u e = absurd (let z : ⊥ = cc in z)
file_behind x (y ∷ ys) h zero e = h.0 e
file_behind x (y ∷ ys) h (suc u) e = file_behind y ys h.1 u e

run_file : (xs : List Site) → Runs xs → (u : ℕ) → IsLiteral (role_in xs (suc u)) → file_in xs (suc u) ≡ file_in xs u
run_file [] r u e = absurd (let z : ⊥ = cc in z)
run_file (x ∷ xs) r u e = file_behind x xs r.1 u e

pub literal_file : (names : List (List ℕ)) (fs : List SpelledFile) (u : ℕ) → IsLiteral (role_in (map universe_site names ++ files_sites 0 fs) (suc u)) →
    file_in (map universe_site names ++ files_sites 0 fs) (suc u) ≡ file_in (map universe_site names ++ files_sites 0 fs) u
literal_file names fs u e = run_file (map universe_site names ++ files_sites 0 fs) (all_run names (files_sites 0 fs) (files_run 0 fs)) u e

-- what declares in a file is an identifier of a file

declared_in_file : (given : ℕ → Option (List ℕ)) (names : List (List ℕ)) (xs : List Site) → AreIdentifiers xs → (u f : ℕ) →
    block_of (role_in (named_sites given (map universe_site names ++ xs)) u) ≡ File f →
    is_implied (role_in (named_sites given (map universe_site names ++ xs)) u) ≡ false
unfolding named_sites
declared_in_file given [] xs h u f e = identifier_stays given xs u ∙ identifier_in xs h u
declared_in_file given (n ∷ names) xs h zero f e = absurd (let z : ⊥ = cc in z)
declared_in_file given (n ∷ names) xs h (suc u) f e = declared_in_file (λ k. given (suc k)) names xs h u f e

pub import_identifies : (given : ℕ → Option (List ℕ)) (names : List (List ℕ)) (fs : List SpelledFile) (u f : ℕ) →
    block_of (role_in (named_sites given (map universe_site names ++ files_sites 0 fs)) u) ≡ File f →
    is_implied (role_in (named_sites given (map universe_site names ++ files_sites 0 fs)) u) ≡ false
import_identifies given names fs u f e = declared_in_file given names (files_sites 0 fs) (files_identify 0 fs) u f e

-- the predeclared names stand in their own block
pub predeclared_block : (given : ℕ → Option (List ℕ)) (names : List (List ℕ)) (xs : List Site) (d : ℕ) → d < length names →
    block_of (role_in (named_sites given (map universe_site names ++ xs)) d) ≡ Universe
unfolding named_sites
predeclared_block given [] xs d lt = absurd (omega arith)
predeclared_block given (n ∷ names) xs zero lt = refl
predeclared_block given (n ∷ names) xs (suc d) lt = predeclared_block (λ k. given (suc k)) names xs d (omega arith)
