-- Beginnings of one list, and the last of a list.
use Rattle.std.proofs.Common.{◌≡◌, ◌≤◌, List, [], ◌∷◌, ◌++◌, length, arith, refl, sym, ◌∙◌, Option, Some}
use Rattle.std.specs.List.{last_or}
use Rattle.std.proofs.lemmas.Option.{same_Some}
use mathlib.Core.List.{IsPrefix}
use Rattle.server_versions.specs.Growing.{IsLastVersion}

-- of two beginnings of one list that have one length, each is the other
pub same_beginnings : {A : Type 0} (xs ys zs : List A) → IsPrefix xs zs → IsPrefix ys zs → length xs ≡ length ys → xs ≡ ys
same_beginnings [] [] zs p q long = refl
same_beginnings [] (y ∷ ys) zs p q long = absurd (omega arith)
same_beginnings (x ∷ xs) [] zs p q long = absurd (omega arith)
same_beginnings (x ∷ xs) (y ∷ ys) [] p q long = absurd (cc (p.1))
same_beginnings (x ∷ xs) (y ∷ ys) (z ∷ zs) p q long =
    let rest = same_beginnings xs ys zs (p.0, cc (p.1)) (q.0, cc (q.1)) (omega arith) in cc (p.1, q.1, rest)

-- a beginning as long as the whole is the whole
pub whole_beginning : {A : Type 0} (xs ys : List A) → IsPrefix xs ys → length ys ≤ length xs → xs ≡ ys
whole_beginning [] [] p le = refl
whole_beginning [] (y ∷ ys) p le = absurd (omega arith)
whole_beginning (x ∷ xs) [] p le = absurd (cc (p.1))
whole_beginning (x ∷ xs) (y ∷ ys) p le =
    let rest = whole_beginning xs ys (p.0, cc (p.1)) (omega arith) in cc (p.1, rest)

-- what stands behind a list is its last version
pub last_added : {A : Type 0} (earlier : Option A) (versions : List A) (version : A) → last_or earlier (versions ++ version ∷ []) ≡ Some version
last_added earlier [] version = refl
last_added earlier (x ∷ xs) version = last_added (Some x) xs version

-- a list has one last version
pub same_last : {A : Type 0} (versions : List A) (x y : A) → IsLastVersion versions x → IsLastVersion versions y → x ≡ y
same_last versions x y one other = same_Some x y (sym one ∙ other)
