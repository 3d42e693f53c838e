-- The entries of given values are no uses of members.
use Rattle.std.proofs.Common.{ℕ, ◌==◌, Bool, true, false, if◌then◌else◌, List, [], ◌∷◌, length, map, Option, Some, None, refl}
use Rattle.go_ast.specs.Tree.{Item, BasicTree, GlobalTree}
use Rattle.types_expr.specs.Types.{PlainType, ValueKind}
use Rattle.types_expr.specs.World.{World}
use Rattle.types_expr.specs.Judge.{Noted, ListValue, judge_type}
use Rattle.types_stmt.specs.Sides.{Target, Takes, Wants, entered_at, all_entered, given_enterings}
use Rattle.types_stmt.specs.Declarations.{literal_value, literal_enterings, value_enterings, global_enterings}
use Rattle.types_expr.proofs.NoteLists.{NotesNoMember, neither_notes, no_member_entering}

no_member_entered : (w : World) (place : ℕ) (k : Option ValueKind) (t : Target) → NotesNoMember (entered_at w place k t)
unfolding entered_at
no_member_entered w place k Takes = refl
no_member_entered w place k (Wants None) = refl
no_member_entered w place k (Wants (Some t)) = no_member_entering w place k t

no_member_entered_all : (w : World) (vs : List ListValue) (ts : List Target) → NotesNoMember (all_entered w vs ts)
unfolding all_entered
no_member_entered_all w [] ts = refl
no_member_entered_all w (v ∷ vs) [] = refl
no_member_entered_all w (v ∷ vs) (t ∷ ts) =
    neither_notes (entered_at w v.place v.kind t) (all_entered w vs ts) (no_member_entered w v.place v.kind t) (no_member_entered_all w vs ts)

no_member_if : (c : Bool) (ns : List Noted) → NotesNoMember ns → NotesNoMember (if c then ns else [])
no_member_if true ns e = e
no_member_if false ns e = refl

pub no_member_given : (w : World) (vs : List ListValue) (ts : List Target) → NotesNoMember (given_enterings w vs ts)
unfolding given_enterings
no_member_given w vs ts = no_member_if (length vs == length ts) (all_entered w vs ts) (no_member_entered_all w vs ts)

no_member_literals : (w : World) (names : List (Item ℕ)) (t : Option PlainType) (literals : List (Item BasicTree)) →
    NotesNoMember (literal_enterings w names t literals)
unfolding literal_enterings
no_member_literals w names t literals = no_member_if (length literals == length names) _
    (no_member_entered_all w (map (λ i. literal_value i.value) literals) (map (λ i. Wants t) names))

no_member_values : (w : World) (names : List (Item ℕ)) (t : Option PlainType) (v : Option (ℕ × List (Item BasicTree))) →
    NotesNoMember (value_enterings w names t v)
unfolding value_enterings
no_member_values w names t None = refl
no_member_values w names t (Some v) = no_member_literals w names t v.1

pub no_member_global : (w : World) (g : GlobalTree) → NotesNoMember (global_enterings w g)
no_member_global w g = no_member_values w g.names (judge_type w g.type_use).type_of g.values
