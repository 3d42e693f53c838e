-- The states at rest as a view shows them: what each keeps is of its files.
use Rattle.std.proofs.Common.{◌≡◌, List, [], ◌∷◌, ◌++◌, map, refl, sym, ◌∙◌}
use Rattle.std.proofs.lemmas.List.{append_assoc, map-append}
use Rattle.base_files.specs.Workspace.{Workspace}
use Rattle.base_files.specs.declared.limits.Limits.{Limits}
use Rattle.base_edits.specs.EditSet.{FileChanges}
use Rattle.build_unit.specs.Jobs.{JobsOut}
use Rattle.history_machine.specs.declared.resting.Resting.{Resting}
use Rattle.history_machine.specs.Machine.{seen, seen_states}
use Rattle.history_machine.specs.Resting.{seen_resting}
use Rattle.history_book.specs.declared.states.States.{States}
use Rattle.history_book.specs.Histories.{AreAtRest, KeepStates, content_of, resting_states}

seen_at_rest : (w : Workspace) (ways : List FileChanges) (rests : List Resting) → AreAtRest w ways rests →
    map seen_resting rests ≡ map seen (resting_states w ways rests)
seen_at_rest w [] [] are = refl
seen_at_rest w [] (r ∷ rests) are = absurd are
seen_at_rest w (far ∷ near) [] are = absurd are
seen_at_rest w (far ∷ near) (r ∷ rests) are = λ i.
    (record { number = r.number; packages = are.0.packages i; finished = r.finished }) ∷ seen_at_rest w near rests are.1 i

pub all_seen : (s : States) (limits : Limits) (out : JobsOut) → KeepStates s →
    (map seen_resting s.earlier.items ++ seen s.current ∷ []) ++ map seen_resting s.later.items ≡ seen_states (content_of s limits out)
all_seen s limits out keeps =
    let earlier = resting_states s.current.files s.ways.behind s.earlier.items in
    let later = resting_states s.current.files s.ways.ahead s.later.items in
    append_assoc (map seen_resting s.earlier.items) (seen s.current ∷ []) (map seen_resting s.later.items)
    ∙ (λ i. seen_at_rest s.current.files s.ways.behind s.earlier.items keeps.earlier i
    ++ seen s.current ∷ seen_at_rest s.current.files s.ways.ahead s.later.items keeps.later i)
    ∙ sym (map-append seen earlier (s.current ∷ later))
