-- The edits of the second step, told one by one.
use Rattle.std.specs.Prelude.{◌≡◌, ◌<◌, ◌⊎◌, ◌↔◌, ◌+◌, List, [], ◌∷◌, Contains, length}
use Rattle.std.specs.List.{AllByRecursion}
use Rattle.base_edits.specs.declared.edit.Edit.{Edit}
use Rattle.law_gained_names.specs.TwoSteps.{AreNaming, NamingEdits, at_once, later_edit, put_first, edit_between, second_step}

-- Each edit begins behind the beginning of those before it.
abbrev pub StartsRise : List Edit → Type 0
StartsRise [] = Unit {0}
StartsRise (e ∷ edits) = AllByRecursion (λ d. e.span.start < d.span.start) edits × StartsRise edits

-- The edit replaces the name that was put first, or is one of the other edits, which is moved if it is behind the name.
abbrev pub IsSecondEdit : NamingEdits → Edit → Type 0
IsSecondEdit n e = Contains n.before e ⊎ ((e ≡ edit_between (n.at + length n.front) ((n.at + length n.front) + length n.own) n.name) ⊎
    ((d : Edit) × (Contains n.behind d × (e ≡ later_edit (length (put_first n)) d))))

-- Edits that begin one behind another, and that are just these, are the second step.
abbrev pub SecondStepsAreOne : Type 0
SecondStepsAreOne = (n : NamingEdits) (edits : List Edit) → AreNaming n → StartsRise (at_once n) → StartsRise edits →
    ((e : Edit) → Contains edits e ↔ IsSecondEdit n e) → edits ≡ second_step n
