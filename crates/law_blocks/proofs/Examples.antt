-- A worked example: the block and the start of the scope of each declaration of a small text, and where imports are given no names.
use Rattle.std.proofs.Common.{◌≡◌, inl, inr, List, [], ◌∷◌, None, Bool, true, false, refl, ap, ap₂, arith}
use Rattle.base_lemmas.proofs.Elements.{first_in, later_in}
use Rattle.go_scope.specs.declared.model.Block.TheVariants.{Package, Inner}
use Rattle.go_scope.specs.FileSites.{package_sites}
use Rattle.go_scope.specs.Named.{is_unnamed_import, named_where, named_sites}
use Rattle.go_scope.specs.Site.{Site, sites_layout}
use Rattle.law_blocks.specs.Laws.{PlainFilesAreLaid}
use Rattle.law_blocks.specs.Lookup.{IsBlockAmong, inside, outside, IsStartAmong, begins, at_once}
use Rattle.law_blocks.specs.Ranges.{Range, BlockRange}

-- the blocks and the specs of `func f(x int) { y := x; if z := y; z { } }`, whose tokens are numbered from 0 (see the examples in specs)
abbrev function : BlockRange
function = record { first = 2; from = 6; last = 19 }

abbrev condition : BlockRange
condition = record { first = 11; from = 11; last = 19 }

abbrev braces : BlockRange
braces = record { first = 17; from = 17; last = 18 }

abbrev blocks : List BlockRange
blocks = function ∷ condition ∷ braces ∷ []

abbrev parameters : Range
parameters = record { first = 2; last = 6 }

abbrev first_define : Range
first_define = record { first = 7; last = 10 }

abbrev second_define : Range
second_define = record { first = 12; last = 15 }

abbrev specs : List Range
specs = parameters ∷ first_define ∷ second_define ∷ []

-- f, the token 1, is declared in the package, and its scope is all of it
block_of_f : IsBlockAmong 0 Package blocks 1 Package
block_of_f = outside ((λ s. omega arith), ((λ s. omega arith), ((λ s. omega arith), tt))) refl

start_of_f : IsStartAmong specs 1 0
start_of_f = at_once ((λ s. omega arith), ((λ s. omega arith), ((λ s. omega arith), tt))) refl

-- x, the token 3, is declared in the function's block, and its scope begins at the body
block_of_x : IsBlockAmong 0 Package blocks 3 (Inner 0 6 19)
block_of_x = inside function (record {
  listed = first_in function (condition ∷ braces ∷ []);
  surrounds = (omega arith, omega arith);
  inside = ((λ s. inl refl), ((λ s. absurd (omega arith)), ((λ s. absurd (omega arith)), tt)));
}) refl

start_of_x : IsStartAmong specs 3 6
start_of_x = begins parameters (first_in parameters (first_define ∷ second_define ∷ [])) (omega arith, omega arith) refl
    ((λ s. refl), ((λ s. absurd (omega arith)), ((λ s. absurd (omega arith)), tt)))

-- z, the token 12, is declared in the block of the `if`, and its scope begins at the semicolon behind `z := y`
block_of_z : IsBlockAmong 0 Package blocks 12 (Inner 0 11 19)
block_of_z = inside condition (record {
  listed = later_in function (condition ∷ braces ∷ []) condition (first_in condition (braces ∷ []));
  surrounds = (omega arith, omega arith);
  inside = ((λ s. inr (omega arith, omega arith)), ((λ s. inl refl), ((λ s. absurd (omega arith)), tt)));
}) refl

start_of_z : IsStartAmong specs 12 15
start_of_z = begins second_define (later_in parameters (first_define ∷ second_define ∷ []) second_define
    (later_in first_define (second_define ∷ []) second_define (first_in second_define []))) (omega arith, omega arith) refl
    ((λ s. absurd (omega arith)), ((λ s. absurd (omega arith)), ((λ s. refl), tt)))

-- imports that are given no names

where_none : (b : Bool) (x : Site) → named_where b None x ≡ x
where_none true x = refl
where_none false x = refl

sites_none : (xs : List Site) → named_sites (λ u. None) xs ≡ xs
unfolding named_sites
sites_none [] = refl
sites_none (x ∷ xs) = ap₂ (λ (y : Site) (ys : List Site). y ∷ ys) (where_none (is_unnamed_import x.role) x) (sites_none xs)

pub plain_files : PlainFilesAreLaid
plain_files fs = ap sites_layout (sites_none (package_sites fs))
