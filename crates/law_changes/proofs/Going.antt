-- A history goes on, and its changes with it.
use Rattle.std.proofs.Common.{◌≡◌, List, [], ◌∷◌, ◌++◌, Option, Some, None, refl, sym, ap, ◌∙◌}
use Rattle.std.proofs.lemmas.List.{append-nil}
use Rattle.std.proofs.lemmas.List.Elements.{filter_map-append}
use Rattle.std.specs.Prelude.{option_to_list}
use Rattle.std.specs.List.{cons_option, filter_map}
use Rattle.history_machine.specs.Chapters.{Occurrence}
use Rattle.history_machine.proofs.Reaching.{closes_on, runs_on}
use Rattle.history_records.specs.declared.change.KeptChange.{KeptChange}
use Rattle.law_changes.specs.Changes.{ChangesGoOn, ChangesGoOnOverBorders, NoChangesAtFirst, change_among, change_done, changes_among}
use Rattle.history_machine.specs.Machine.{opening}

pub no_changes_at_first : NoChangesAtFirst
no_changes_at_first limits = ([], [], (refl, refl), refl)

last_one : (change : Option KeptChange) → cons_option change [] ≡ option_to_list change
last_one None = refl
last_one (Some change) = refl

-- one occurrence more
more_changes : (course : List Occurrence) (last : Occurrence) (changes : List KeptChange) → changes_among course ≡ changes →
    changes_among (course ++ last ∷ []) ≡ changes ++ option_to_list (change_among last)
more_changes course last changes are =
    filter_map-append change_among course (last ∷ [])
    ∙ ap (λ (x : List KeptChange). x ++ cons_option (change_among last) []) are ∙ ap (λ (x : List KeptChange). changes ++ x) (last_one (change_among last))

pub changes_go_on : ChangesGoOn
changes_go_on limits changes old new asked reply has step = (
  has.0 ++ Some (asked, reply) ∷ [],
  has.1,
  runs_on (opening limits) has.0 has.1 old asked reply new has.2 step,
  more_changes has.0 (Some (asked, reply)) changes has.3,
)

pub changes_go_on_over_borders : ChangesGoOnOverBorders
changes_go_on_over_borders limits changes m has = (
  has.0 ++ None ∷ [],
  has.1 ++ m.journal ∷ [],
  closes_on (opening limits) has.0 has.1 m has.2,
  more_changes has.0 None changes has.3 ∙ append-nil changes,
)
