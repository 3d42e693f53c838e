-- The check of function headers (receivers, parameters and results) and of whole functions.
use Rattle.std.specs.Prelude.{ℕ, Bool, true, false, if◌then◌else◌, List, [], ◌∷◌, ◌++◌, Option, Some, None, is_none, ◌&&◌}
use Rattle.go_ast.specs.Tree.{Item, TypeTree, ReceiverTree, ParamTree, ResultTree, no_result, one_result, results, FuncTree}
use Rattle.types_expr.specs.Types.{PlainType, Defined, Pointer, takes_no_methods}
use Rattle.types_expr.specs.World.{World}
use Rattle.types_expr.specs.Judge.{TypeJudged, good_type, no_type_at, named_type, judge_type, under}
use Rattle.types_stmt.specs.Checked.{FoundSoFar, with_declared, with_found, fault_if, check_items}
use Rattle.types_stmt.specs.Sides.{Target, Wants, with_locals, named}
use Rattle.types_stmt.specs.Simple.{written_locals}
use Rattle.types_stmt.specs.Statements.{check_block}

-- Receivers: T or `*T`, where T is a type definition of the package whose underlying type is no pointer (Go specification, "Method
-- declarations"). A name without a qualifier that is bound to a type denotes a predeclared type or a definition of its own package.

-- whether a method may have a receiver of type t or `*t`
unfoldable pub may_receive : World → PlainType → Bool
may_receive w (Defined s) = if takes_no_methods (w.definition s) then false else true
may_receive w t = false

-- a type in a receiver at token `place`, none where it is broken: a fault where methods may not have it
unfoldable pub receiver_or_fault : World → ℕ → Option PlainType → TypeJudged
receiver_or_fault w place None = record { type_of = None; faults = [] }
receiver_or_fault w place (Some t) = if may_receive w t then good_type t else no_type_at place

-- the type j that a receiver names, with its own faults, and then the fault that no method may have it
abbrev pub received : World → ℕ → TypeJudged → TypeJudged
received w place j = record { type_of = (receiver_or_fault w place j.type_of).type_of; faults = j.faults ++ (receiver_or_fault w place j.type_of).faults }

-- the type T of a receiver T or `*T`, by the token of its name
unfoldable pub receiver_base : World → ℕ → TypeJudged
receiver_base w place = received w place (named_type (w.bound place) place)

-- the type of a receiver, with its star, if there is one
abbrev pub starred : Option ℕ → TypeJudged → TypeJudged
starred None t = t
starred (Some star) t = under Pointer t

-- the judgement of a receiver's type
unfoldable pub judge_receiver : World → ReceiverTree → TypeJudged
judge_receiver w r = starred r.star (receiver_base w r.type_name)

-- the check of a receiver: it declares its name
unfoldable pub check_receiver : World → FoundSoFar → ReceiverTree → FoundSoFar
check_receiver w s r =
    with_declared s (with_locals s.locals (named r.name ∷ []) ((judge_receiver w r).type_of ∷ [])) (judge_receiver w r).faults []

-- the check of the receiver, if there is one
abbrev pub check_optional_receiver : World → FoundSoFar → Option ReceiverTree → FoundSoFar
check_optional_receiver w s None = s
check_optional_receiver w s (Some r) = check_receiver w s r

-- Parameters

-- the check of parameters of one type: they declare their names
unfoldable pub check_param : World → FoundSoFar → ParamTree → FoundSoFar
check_param w s p = with_declared s (written_locals s.locals p.names (judge_type w p.type_use).type_of) (judge_type w p.type_use).faults []

-- Results

-- the judgement of results: each as a target of returned values, and the faults in their types
pub record ResultsJudged : Type 0 where
  pub wanted : List Target
  pub faults : List ℕ

-- a result before the others
abbrev pub with_result : TypeJudged → ResultsJudged → ResultsJudged
with_result t rest = record { wanted = Wants t.type_of ∷ rest.wanted; faults = t.faults ++ rest.faults }

-- the judgement of a list of result types
unfoldable pub judge_types : World → List (Item TypeTree) → ResultsJudged
judge_types w [] = record { wanted = []; faults = [] }
judge_types w (i ∷ is) = with_result (judge_type w i.value) (judge_types w is)

-- the judgement of a function's results
unfoldable pub judge_results : World → ResultTree → ResultsJudged
judge_results w no_result = record { wanted = []; faults = [] }
judge_results w (one_result t) = with_result (judge_type w t) (record { wanted = []; faults = [] })
judge_results w (results o ts c) = judge_types w ts

-- Functions

abbrev pub is_empty_list : {A : Type 0} → List A → Bool
is_empty_list [] = true
is_empty_list (x ∷ xs) = false

-- Whether a function breaks the rule that an `init` without a receiver has no parameters and no results (Go specification, "Package
-- initialization"). is_init: whether its name is `init`.
--   func init(x int) {}   // a fault at init
unfoldable pub is_bad_init : Bool → FuncTree → List Target → Bool
is_bad_init is_init f wanted = is_init && (is_none f.receiver && (if is_empty_list f.params then (if is_empty_list wanted then false else true) else true))

-- the check of a function's header: what it declares, and its faults
unfoldable pub check_signature : World → Bool → FoundSoFar → FuncTree → FoundSoFar
check_signature w is_init s f =
    with_found (check_items (check_param w) (check_optional_receiver w s f.receiver) f.params)
    ((judge_results w f.result).faults ++ fault_if (is_bad_init is_init f (judge_results w f.result).wanted) f.name) []

-- the check of a function: its header, then its body
unfoldable pub check_function : World → Bool → FoundSoFar → FuncTree → FoundSoFar
check_function w is_init s f = check_block w (judge_results w f.result).wanted (check_signature w is_init s f) f.body
