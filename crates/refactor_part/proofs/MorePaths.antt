-- One more path in a list of paths.
use Rattle.std.proofs.Common.{◌≡◌, ℕ, ◌+◌, ◌<◌, ◌++◌, ◌∷◌, List, [], length, map, take, get_or, Bor, sym, ap, ◌∙◌}
use Rattle.std.proofs.lemmas.List.{append_assoc, map_more}
use Rattle.workspace_graph.specs.Borrows.{names}
use Rattle.build_carry.proofs.ChangedFolders.{names_push}

pub more_paths : {X : Type 0} (f : X → List ℕ) (xs : List X) (k : ℕ) (item : X) → k < length xs → item ≡ get_or xs k item → (before : List (List ℕ))
    (old new : List (Bor (List ℕ))) (path : Bor (List ℕ)) → path.now ≡ f item → new ≡ old ++ path ∷ [] →
    names old ≡ before ++ map f (take k xs) → names new ≡ before ++ map f (take (k + 1) xs)
more_paths f xs k item lt is before old new path named pushed passed =
    ap names pushed ∙ names_push old path ∙ ap (λ l. l ++ path.now ∷ []) passed ∙ append_assoc before (map f (take k xs)) (path.now ∷ [])
    ∙ ap (λ l. before ++ l) (ap (λ p. map f (take k xs) ++ p ∷ []) (named ∙ ap f is) ∙ sym (map_more f xs k item lt))
