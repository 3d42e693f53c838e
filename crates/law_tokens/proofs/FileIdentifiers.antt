-- The identifiers of files: none of them is predeclared, and those of a file stand in it.
use Rattle.std.proofs.Common.{ℕ, zero, suc, ◌≡◌, List, [], ◌∷◌, false, refl, ap}
use Rattle.std.specs.Prelude.{slice_get}
use Rattle.std.specs.List.{AllByRecursion}
use Rattle.base_lemmas.proofs.EachElement.{all_append}
use Rattle.go_ast.specs.declared.syntax.Token.{Token}
use Rattle.go_ast.specs.Flatten.{flatten}
use Rattle.go_scope.specs.declared.model.Role.{Role}
use Rattle.go_scope.specs.Bindings.{is_implied}
use Rattle.go_scope.specs.FileSites.{SpelledFile, file_sites, files_sites}
use Rattle.go_scope.specs.Site.{Site, TokenSpellings, or_blank}
use Rattle.law_tokens.specs.Tokens.{identifiers_among}
use Rattle.law_tokens.proofs.Covering.{Pairs, file_pairs}

abbrev pub AreIdentifiers : List Site → Type 0
AreIdentifiers xs = AllByRecursion (λ (x : Site). is_implied x.role ≡ false) xs

paired : (s : TokenSpellings) (xs : List Site) (ts : List Token) → Pairs s xs ts → AreIdentifiers xs
paired s [] ts p = tt
paired s (x ∷ xs) [] p = absurd p
paired s (x ∷ xs) (t ∷ ts) p = (p.0, paired s xs ts p.2)

pub files_identify : (rank : ℕ) (fs : List SpelledFile) → AreIdentifiers (files_sites rank fs)
unfolding files_sites
files_identify rank [] = tt
files_identify rank (f ∷ fs) =
    let s : TokenSpellings = record { rank = rank; spell = f.spell } in
    all_append (λ (x : Site). is_implied x.role ≡ false) (file_sites s f.tree) (files_sites (suc rank) fs)
    (paired s (file_sites s f.tree) (identifiers_among (flatten f.tree)) (file_pairs s f.tree)) (files_identify (suc rank) fs)

-- the file of those that a file's tokens cover
pub paired_files : (s : TokenSpellings) (xs : List Site) (ts : List Token) → Pairs s xs ts → AllByRecursion (λ (x : Site). x.place.file ≡ s.rank) xs
paired_files s [] ts p = tt
paired_files s (x ∷ xs) [] p = absurd p
paired_files s (x ∷ xs) (t ∷ ts) p = (ap (λ (y : Site). y.place.file) p.1, paired_files s xs ts p.2)

-- by their numbers

abbrev pub role_in : List Site → ℕ → Role
role_in xs u = (or_blank (slice_get xs u)).role

pub identifier_in : (xs : List Site) → AreIdentifiers xs → (u : ℕ) → is_implied (role_in xs u) ≡ false
identifier_in [] h u = refl
identifier_in (x ∷ xs) h zero = h.0
identifier_in (x ∷ xs) h (suc u) = identifier_in xs h.1 u
