-- A path greater than all others, which is added at the end.
use Rattle.std.proofs.Common.{◌≡◌, ℕ, List, [], ◌∷◌, ◌++◌, None, ap, subst, ◌∙◌, append-nil}
use Rattle.std.specs.Ordering.{ordering_reverse}
use Rattle.std.specs.declared.cmp.Ordering.TheVariants.{Greater}
use Rattle.std.specs.FinMap.{find, put}
use Rattle.base_files.specs.Workspace.{path_cmp}
use Rattle.base_files.proofs.WorkspaceLaws.{path_cmp_total}
use Rattle.base_lemmas.proofs.EachElement.{all_append}
use Rattle.base_chunks.proofs.Standing.{find_parts, put_parts}
use Rattle.base_files.specs.Entries.{IsAfterAllPaths}

-- A path greater than all others is not among them.
pub none_behind : {X : Type 0} (path : List ℕ) (es : List (List ℕ × X)) → IsAfterAllPaths path es → find path_cmp path es ≡ None
none_behind path es h =
    subst (λ xs. find path_cmp path xs ≡ None) (append-nil es) (find_parts path_cmp path es [] [] h tt)

-- Putting a path greater than all others adds it at the end.
pub put_behind : {X : Type 0} (path : List ℕ) (v : X) (es : List (List ℕ × X)) → IsAfterAllPaths path es → put path_cmp path v es ≡ es ++ (path, v) ∷ []
put_behind path v es h =
    subst (λ xs. put path_cmp path v xs ≡ es ++ (path, v) ∷ []) (append-nil es) (put_parts path_cmp path v es [] [] h tt)

-- A path greater than a path that is greater than all others is greater than all others.

further : (p q r : List ℕ) → path_cmp p q ≡ Greater → path_cmp q r ≡ Greater → path_cmp p r ≡ Greater
further p q r first then =
    path_cmp_total.antisymm p r
    ∙ ap ordering_reverse (path_cmp_total.trans r q p (path_cmp_total.antisymm r q ∙ ap ordering_reverse then)
    (path_cmp_total.antisymm q p ∙ ap ordering_reverse first))

pub behind_all : {X : Type 0} (p path : List ℕ) (es : List (List ℕ × X)) → path_cmp p path ≡ Greater → IsAfterAllPaths path es → IsAfterAllPaths p es
behind_all p path [] above h = tt
behind_all p path (e ∷ es) above h = (further p path e.0 above h.0, behind_all p path es above h.1)

pub behind_pushed : {X : Type 0} (p path : List ℕ) (v : X) (es : List (List ℕ × X)) → path_cmp p path ≡ Greater → IsAfterAllPaths path es →
    IsAfterAllPaths p (es ++ (path, v) ∷ [])
behind_pushed p path v es above h =
    all_append (λ e. path_cmp p e.0 ≡ Greater) es ((path, v) ∷ []) (behind_all p path es above h) (above, tt)
