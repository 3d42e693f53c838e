-- The part of a path before one of its slashes.
use Rattle.std.proofs.Common.{ℕ, ◌≡◌, ◌≤◌, eqb, List, [], ◌∷◌, ◌++◌, length, refl, sym, ap, ◌∙◌, arith, length-append}
use Rattle.std.specs.List.{list_all, onto_first}
use Rattle.std.proofs.lemmas.Bool.{and_parts}
use Rattle.std.proofs.lemmas.List.Folds.{list_all-append}
use Rattle.std.proofs.lemmas.List.Splits.{length-slice_split}
use Rattle.base_files.specs.Path.{is_segment, segments, IsPath}
use Rattle.go_scanner.proofs.IntegerLemmas.{by_test}

some_segment : (bytes : List ℕ) → 1 ≤ length (segments bytes)
some_segment bytes = omega (arith, length-slice_split (λ b. eqb b 47) bytes)

joined_front : (x : ℕ) (parts more : List (List ℕ)) → 1 ≤ length parts → onto_first x (parts ++ more) ≡ onto_first x parts ++ more
joined_front x [] more some = absurd (omega (arith, some))
joined_front x (part ∷ parts) more some = refl

-- a slash divides the parts
segments_joined : (front behind : List ℕ) → segments (front ++ 47 ∷ behind) ≡ segments front ++ segments behind
segments_joined [] behind = refl
segments_joined (x ∷ xs) behind =
    let rest = segments_joined xs behind in
    by_test (eqb x 47)
    (λ slash. rw slash (ap (λ l. [] ∷ l) rest))
    (λ other. rw other (ap (onto_first x) rest ∙ joined_front x (segments xs) (segments behind) (some_segment xs)))

pub folder_is_path : (least : ℕ) (folder behind : List ℕ) → IsPath least (folder ++ 47 ∷ behind) → IsPath 1 folder
folder_is_path least folder behind is =
    let parts = sym (ap (list_all is_segment) (segments_joined folder behind) ∙ list_all-append is_segment (segments folder) (segments behind)) ∙ is.parts in
    record {
      short = omega (arith, is.short, length-append folder (47 ∷ behind));
      parts = (and_parts (list_all is_segment (segments folder)) (list_all is_segment (segments behind)) parts).0;
      enough = some_segment folder;
    }
