-- What the judgement of a file notes, separated note by note.
use Rattle.std.proofs.Common.{◌≡◌, List, [], ◌∷◌, ◌++◌, map, ap, ◌∙◌}
use Rattle.std.proofs.lemmas.List.{map-append}
use Rattle.types_expr.specs.declared.found.Noted.{Noted as FoundNoted}
use Rattle.types_expr.specs.Found.{noted_of}
use Rattle.types_expr.specs.Judge.{members_of, enterings_of}
use Rattle.types_expr.proofs.NoteLists.{members_append, enterings_append}

pub members_snoc : (a : List FoundNoted) (x : FoundNoted) → members_of (map noted_of (a ++ (x ∷ []))) ≡
    members_of (map noted_of a) ++ members_of (noted_of x ∷ [])
members_snoc a x = ap members_of (map-append noted_of a (x ∷ [])) ∙ members_append (map noted_of a) (noted_of x ∷ [])

pub enterings_snoc : (a : List FoundNoted) (x : FoundNoted) →
    enterings_of (map noted_of (a ++ (x ∷ []))) ≡ enterings_of (map noted_of a) ++ enterings_of (noted_of x ∷ [])
enterings_snoc a x = ap enterings_of (map-append noted_of a (x ∷ [])) ∙ enterings_append (map noted_of a) (noted_of x ∷ [])
