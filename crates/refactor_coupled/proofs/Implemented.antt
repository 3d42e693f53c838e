-- Which types implement an interface under the names that a rename gives, by what the program asks.
use Rattle.std.proofs.Common.{ℕ, ◌≡◌, ◌⊎◌, inl, inr, Bool, true, false, ◌&&◌, List, [], ◌∷◌, ◌++◌, ap, sym, refl, subst, ◌∙◌, if◌then◌else◌}
use Rattle.std.proofs.Math.Path.{fun_ext}
use Rattle.std.specs.Prelude.{Option, Some, None, option_map, ◌↔◌}
use Rattle.std.specs.List.{list_all}
use Rattle.std.specs.Cmp.Lexicographic.{bytes_decides}
use Rattle.std.proofs.lemmas.Bool.{false≢true}
use Rattle.types_expr.specs.declared.symbol.Symbol.{Symbol}
use Rattle.types_expr.specs.declared.world.Definition.{Definition as Held}
use Rattle.types_expr.specs.declared.world.Definitions.{Definitions}
use Rattle.types_expr.specs.Types.{WrittenAs, AFieldOf, AMethodOf, same_path, is_interface}
use Rattle.types_expr.specs.World.{Definition, Field as Written, Method as Received, SetMethod, Implements}
use Rattle.types_expr.specs.World.{has_if_asked, has_written, in_set, in_method_set, implements_by}
use Rattle.types_expr.specs.WorldView.{definition_or_none, imported_at, names_written}
use Rattle.types_info.proofs.DeclKinds.{Holds}
use Rattle.types_info.proofs.Implementing.{CoverMembers, cover, decided_by}
use Rattle.refactor_coupled.specs.Coupling.{type_through}
use Rattle.refactor_coupled.specs.RenamedTypes.{SetRename, moves_received, moves_written, name_before, received_as, renamed_definition}
use Rattle.refactor_coupled.specs.RenamedTypes.{under_name, unrenamed, written_as, is_new_name_of, moves_if_received, moves_if_written}
use Rattle.refactor_coupled.specs.RenamedTypesView.{definitions_after, definitions_in, has_after, implements_after}
use Rattle.refactor_coupled.specs.RenamedTypesView.{implements_held, is_changed, is_interface_of, turns_through}

-- A member asks for the same under another name.
same_form : (r : SetRename) (new : Bool) (f : Written) (form : WrittenAs) (m : Option SetMethod) → has_written (written_as r new f) form m ≡ has_written f
    form m
same_form r new f (AFieldOf t) m = refl
same_form r new f (AMethodOf g) None = refl
same_form r new f (AMethodOf g) (Some m) = refl

pub same_asked : (r : SetRename) (new : Bool) (f : Written) (m : Option SetMethod) → has_if_asked (Some (written_as r new f)) m ≡ has_if_asked (Some f) m
same_asked r new f m = same_form r new f f.form m

pub asked_alike : (r : SetRename) (new : Bool) (f : Option Written) (m : Option SetMethod) → has_if_asked (option_map (written_as r new) f) m ≡ has_if_asked f m
asked_alike r new None m = refl
asked_alike r new (Some f) m = same_asked r new f m

-- The names under which an interface asks for something after the rename: those that it had, and the new one

holds_left : (xs ys : List (List ℕ)) (x : List ℕ) → Holds xs x → Holds (xs ++ ys) x
holds_left [] ys x h = absurd h
holds_left (y ∷ xs) ys x h = elim h [ inl here ↦ inl here | inr later ↦ inr (holds_left xs ys x later) ]

holds_last : (xs : List (List ℕ)) (x : List ℕ) → Holds (xs ++ x ∷ []) x
holds_last [] x = inl refl
holds_last (y ∷ xs) x = inr (holds_last xs x)

abbrev all_names : SetRename → Option Held → List (List ℕ)
all_names r o = names_written o ++ r.new ∷ []

module _ (r : SetRename) (s : Symbol) (o : Option Held) where
  abbrev d : Definition
  d = definition_or_none s o

  by_old : (name : List ℕ) (moves old : Bool) → (under_name d.field (if moves && old then None else Some name) ≡ None) ⊎ Holds (names_written o) name
  by_old name true true = inl refl
  by_old name true false = cover s o name
  by_old name false old = cover s o name

  kept_or_new : (name : List ℕ) → (under_name d.field (if moves_written r d && same_path name r.old then None else Some name) ≡ None) ⊎ Holds (all_names r
      o) name
  kept_or_new name = elim (by_old name (moves_written r d) (same_path name r.old)) [
    | inl none ↦ inl none
    | inr among ↦ inr (holds_left (names_written o) (r.new ∷ []) name among)
  ]

  by_new : (name : List ℕ) (moves new : Bool) → same_path name r.new ≡ new → moves ≡ moves_written r d →
      (under_name d.field (if moves && new then Some r.old else (if moves && same_path name r.old then None else Some name)) ≡ None) ⊎ Holds (all_names r o)
      name
  by_new name moves true same is =
      inr (subst (Holds (all_names r o)) (sym ((bytes_decides name r.new).0 same)) (holds_last (names_written o) r.new))
  by_new name true false same is =
      subst (λ b. (under_name d.field (if b && same_path name r.old then None else Some name) ≡ None) ⊎ Holds (all_names r o) name) (sym is) (kept_or_new name)
  by_new name false false same is =
      subst (λ b. (under_name d.field (if b && same_path name r.old then None else Some name) ≡ None) ⊎ Holds (all_names r o) name) (sym is) (kept_or_new name)

  pub renamed_cover : CoverMembers (renamed_definition r d) (all_names r o)
  renamed_cover name = elim (by_new name (moves_written r d) (same_path name r.new) refl refl) [
    | inl none ↦ inl (ap (option_map (written_as r (is_new_name_of r (moves_written r d) name))) none)
    | inr among ↦ inr among
  ]

-- all of a list, and one more

and_true : (b : Bool) → b ≡ (b && true)
and_true true = refl
and_true false = refl

and_apart : (a b c : Bool) → ((a && b) && c) ≡ (a && (b && c))
and_apart true b c = refl
and_apart false b c = refl

all_push : (test : List ℕ → Bool) (xs : List (List ℕ)) (x : List ℕ) → (list_all test xs && test x) ≡ list_all test (xs ++ x ∷ [])
all_push test [] x = and_true (test x)
all_push test (y ∷ ys) x = and_apart (test y) (list_all test ys) (test x) ∙ ap (λ b. test y && b) (all_push test ys x)

-- the method set of T, or of `*T` behind a star
pub through_any : (definition : Symbol → Definition) (s : Symbol) (t : Bool) →
    ◌≡◌ {A = List ℕ → Option SetMethod} (λ name. in_method_set definition (type_through t s) name) (λ name. in_set definition t s name)
unfolding in_method_set
through_any definition s false = refl
through_any definition s true = refl

-- What the program asks is whether the type implements the interface.
module _ (ds : Definitions) (r : SetRename) (star : Bool) (s i : Symbol) where
  abbrev after : Symbol → Definition
  after = definitions_after ds r

  abbrev asked : Option Held → Bool
  asked o =
      is_interface (renamed_definition r (definition_or_none i o)).underlying
      && list_all (λ name. has_if_asked ((renamed_definition r (definition_or_none i o)).field name) (in_set after star s name)) (all_names r o)

  same_answer : (o : Option Held) → implements_held ds r star s o ≡ asked o
  same_answer None = refl
  same_answer (Some held) = ap (λ b. is_interface_of held.underlying && b) (all_push (has_after ds r star s held) (names_written (Some held)) r.new)

  by_names : asked (imported_at ds i) ≡ implements_by after (all_names r (imported_at ds i)) (type_through star s) i
  unfolding implements_by
  by_names =
      ap (λ (set : List ℕ → Option SetMethod). is_interface (after i).underlying
      && list_all (λ name. has_if_asked ((after i).field name) (set name)) (all_names r (imported_at ds i))) (sym (through_any after s star))

  abbrev names : List (List ℕ)
  names = all_names r (imported_at ds i)

  pub implemented : (implements_after ds r star s i ≡ true) ↔ Implements after (type_through star s) i
  implemented =
      let same : implements_after ds r star s i ≡ implements_by after names (type_through star s) i = same_answer (imported_at ds i) ∙ by_names in
      let decided = decided_by after names (type_through star s) i (renamed_cover r i (imported_at ds i)) in
      ((λ e. decided.0 (sym same ∙ e)), (λ h. same ∙ decided.1 h))

-- Without a rename each definition is what it was

no_written_moves : (r : SetRename) (f : Option Written) → moves_if_written (unrenamed r) f ≡ false
no_written_moves r None = refl
no_written_moves r (Some f) = refl

no_received_moves : (r : SetRename) (m : Option Received) → moves_if_received (unrenamed r) m ≡ false
no_received_moves r None = refl
no_received_moves r (Some m) = refl

pub written_same : (r : SetRename) (f : Option Written) → option_map (written_as r false) f ≡ f
written_same r None = refl
written_same r (Some f) = refl

pub received_same : (r : SetRename) (m : Option Received) → option_map (received_as r false) m ≡ m
received_same r None = refl
received_same r (Some m) = refl

abbrev with_members : Definition → (List ℕ → Option Written) → (List ℕ → Option Received) → Definition
with_members d field method = record { underlying = d.underlying; field = field; method = method }

module _ (r : SetRename) (d : Definition) where
  abbrev none : SetRename
  none = unrenamed r

  abbrev field_if : (moves : Bool) → List ℕ → Option Written
  field_if moves name = option_map (written_as none (is_new_name_of none moves name)) (under_name d.field (name_before none moves name))

  abbrev method_if : (moves : Bool) → List ℕ → Option Received
  method_if moves name = option_map (received_as none (is_new_name_of none moves name)) (under_name d.method (name_before none moves name))

  fields_same : (moves : Bool) → moves ≡ false → (name : List ℕ) → field_if moves name ≡ d.field name
  fields_same moves e name = ap (λ b. field_if b name) e ∙ written_same none (d.field name)

  methods_same : (moves : Bool) → moves ≡ false → (name : List ℕ) → method_if moves name ≡ d.method name
  methods_same moves e name = ap (λ b. method_if b name) e ∙ received_same none (d.method name)

  pub unrenamed_same : renamed_definition (unrenamed r) d ≡ d
  unrenamed_same =
      ap (λ f. with_members d f (method_if (moves_received none d))) (fun_ext (fields_same (moves_written none d) (no_written_moves r (d.field r.old))))
      ∙ ap (with_members d d.field) (fun_ext (methods_same (moves_received none d) (no_received_moves r (d.method r.old))))

pub all_unrenamed : (ds : Definitions) (r : SetRename) → definitions_after ds (unrenamed r) ≡ definitions_in ds
all_unrenamed ds r = fun_ext (λ s. unrenamed_same r (definitions_in ds s))

-- So it finds the types that begin or cease to implement it.

module _ (ds : Definitions) (r : SetRename) (star : Bool) (s i : Symbol) where
  abbrev Before : Type 0
  Before = Implements (definitions_in ds) (type_through star s) i

  abbrev After : Type 0
  After = Implements (definitions_after ds r) (type_through star s) i

  before_decided : (implements_after ds (unrenamed r) star s i ≡ true) ↔ Before
  before_decided =
      subst (λ (k : Symbol → Definition). (implements_after ds (unrenamed r) star s i ≡ true) ↔ Implements k (type_through star s) i) (all_unrenamed ds r)
      (implemented ds (unrenamed r) star s i)

  turned_by : (b a : Bool) → (b ≡ true) ↔ Before → (a ≡ true) ↔ After → (is_changed b a ≡ true) ↔ (¬ (Before ↔ After))
  turned_by true true was is = ((λ e. absurd (false≢true e)), (λ ne. absurd (ne ((λ h. is.0 refl), (λ h. was.0 refl)))))
  turned_by true false was is = ((λ e same. false≢true (is.1 (same.0 (was.0 refl)))), (λ ne. refl))
  turned_by false true was is = ((λ e same. false≢true (was.1 (same.1 (is.0 refl)))), (λ ne. refl))
  turned_by false false was is = (
    (λ e. absurd (false≢true e)),
    (λ ne. absurd (ne ((λ h. absurd (false≢true (was.1 h))), (λ h. absurd (false≢true (is.1 h)))))),
  )

  pub turned : (turns_through ds r star s i ≡ true) ↔ (¬ (Before ↔ After))
  turned = turned_by (implements_after ds (unrenamed r) star s i) (implements_after ds r star s i) before_decided (implemented ds r star s i)
