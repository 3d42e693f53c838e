-- If something holds of the identifier at each token of a file, it holds of all its identifiers. So each identifier is in one of the
-- package's files.
use Rattle.std.proofs.Common.{ℕ, suc, ◌+◌, ◌<◌, ◌≤◌, List, [], ◌∷◌, length, arith}
use Rattle.std.specs.Prelude.{map}
use Rattle.go_scope.specs.Site.{Site, TokenSpellings}
use Rattle.go_scope.specs.FileSites.{file_sites, universe, universe_site, SpelledFile, files_sites, package_sites}
use Rattle.go_scope.proofs.Regions.{Each, each_append}
use Rattle.law_tokens.proofs.EachIdentifier.{in_file}

-- the files of a package

abbrev StandsBelow : ℕ → Site → Type 0
StandsBelow n x = x.place.file < n

in_files : (n rank : ℕ) (fs : List SpelledFile) → rank + length fs ≤ n → Each (StandsBelow n) (files_sites rank fs)
unfolding files_sites
in_files n rank [] le = tt
in_files n rank (f ∷ fs) le =
    let s : TokenSpellings = record { rank = rank; spell = f.spell } in
    each_append (StandsBelow n) (file_sites s f.tree) (files_sites (suc rank) fs)
    (in_file s (StandsBelow n) (λ i role. (let lt : rank < n = omega arith in lt)) f.tree)
    (in_files n (suc rank) fs (omega arith))

in_universe : (n : ℕ) → 0 < n → (names : List (List ℕ)) → Each (StandsBelow n) (map universe_site names)
in_universe n lt [] = tt
in_universe n lt (x ∷ xs) = (lt, in_universe n lt xs)

-- each identifier of a package that has a file stands in one
pub stands_in_file : (fs : List SpelledFile) → 0 < length fs → Each (StandsBelow (length fs)) (package_sites fs)
unfolding package_sites
stands_in_file fs lt =
    each_append (StandsBelow (length fs)) (map universe_site universe) (files_sites 0 fs) (in_universe (length fs) lt universe)
    (in_files (length fs) 0 fs (omega arith))
