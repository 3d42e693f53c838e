-- A rename turns no type for an interface where it moves the methods of neither, or of both.
use Rattle.std.proofs.Common.{ℕ, ◌≡◌, inl, inr, Bool, true, false, ◌||◌, ◌<◌, ◌+◌}
use Rattle.std.proofs.Common.{List, [], ◌∷◌, ◌++◌, length, take, get_or, ap, sym, refl, ◌∙◌, if◌then◌else◌}
use Rattle.std.specs.Prelude.{Option, Some, None, option_map, ◌↔◌, filter}
use Rattle.std.specs.Cmp.Lexicographic.{bytes_decides}
use Rattle.std.proofs.lemmas.Bool.{and_parts, cases_Bool, false≢true, not-false, not-true}
use Rattle.std.proofs.lemmas.List.Elements.{filter_more}
use Rattle.std.proofs.lemmas.Map.Views.{any-filter_same}
use Rattle.types_declared.specs.Laid.{is_exported}
use Rattle.types_expr.specs.declared.symbol.Symbol.{Symbol}
use Rattle.types_expr.specs.declared.world.Definitions.{Definitions}
use Rattle.types_expr.specs.Types.{Underlying, Plain, PointerTo, SliceOf, Struct, Interface, same_path}
use Rattle.types_expr.specs.World.{Definition, Field as Written, Method as Received, Implements}
use Rattle.types_expr.specs.World.{as_set_method, has_if_asked, in_set, in_set_by, received_method}
use Rattle.refactor_coupled.specs.Coupling.{type_through}
use Rattle.refactor_coupled.specs.RenamedTypes.{SetRename, has_received_method, has_written_member, moves_if_received, moves_if_written, moves_received}
use Rattle.refactor_coupled.specs.RenamedTypes.{moves_written, received_as, renamed_definition, renamed_definitions, under_name, written_as}
use Rattle.refactor_coupled.specs.RenamedTypesView.{any_turns, definitions_in, either_turns, turns_through}
use Rattle.refactor_coupled.specs.Turning.{can_turn, follows, follows_by, follows_if_received, follows_if_written, keeps_exported, moves, moves_by}
use Rattle.refactor_coupled.proofs.Implemented.{asked_alike, through_any, turned}
use Rattle.refactor_coupled.proofs.Uncalled.{field_if, field_unmoved, method_if, method_unmoved, set_stays, written_stays}

-- A member that stays exported, or not exported, is the same under the new name.

kept_flag : (r : SetRename) (exported : Bool) → keeps_exported r exported ≡ true → is_exported r.new ≡ exported
kept_flag r true e = e
kept_flag r false e = not-true (is_exported r.new) e

abbrev field_with : Written → Bool → Written
field_with f exported = record { symbol = f.symbol; exported = exported; form = f.form }

abbrev method_with : Received → Bool → Received
method_with m exported = record { symbol = m.symbol; exported = exported; on_pointer = m.on_pointer; signature = m.signature }

written_follows : (r : SetRename) (o : Option Written) → follows_if_written r o ≡ true → (moves_if_written r o ≡ true) × (option_map (written_as r true) o ≡ o)
written_follows r None e = absurd (false≢true e)
written_follows r (Some f) e =
    let both = and_parts (has_written_member r.set f.symbol) (keeps_exported r f.exported) e in
    (both.0, ap (λ b. Some (field_with f b)) (kept_flag r f.exported both.1))

received_follows : (r : SetRename) (o : Option Received) → follows_if_received r o ≡ true →
    (moves_if_received r o ≡ true) × (option_map (received_as r true) o ≡ o)
received_follows r None e = absurd (false≢true e)
received_follows r (Some m) e =
    let both = and_parts (has_received_method r.set m.symbol) (keeps_exported r m.exported) e in
    (both.0, ap (λ b. Some (method_with m b)) (kept_flag r m.exported both.1))

-- A member that moves has the new name, and none has the old one.
module _ (r : SetRename) (d : Definition) where
  new_itself : same_path r.new r.new ≡ true
  new_itself = (bytes_decides r.new r.new).1 refl

  abbrev field_by : (new old : Bool) → (name : List ℕ) → Option Written
  field_by new old name = option_map (written_as r new) (under_name d.field (if new then Some r.old else (if old then None else Some name)))

  abbrev method_by : (new old : Bool) → (name : List ℕ) → Option Received
  method_by new old name = option_map (received_as r new) (under_name d.method (if new then Some r.old else (if old then None else Some name)))

  pub field_at_new : moves_written r d ≡ true → (renamed_definition r d).field r.new ≡ option_map (written_as r true) (d.field r.old)
  field_at_new moved = ap (λ b. field_if r d b r.new) moved ∙ ap (λ b. field_by b (same_path r.new r.old) r.new) new_itself

  pub method_at_new : moves_received r d ≡ true → (renamed_definition r d).method r.new ≡ option_map (received_as r true) (d.method r.old)
  method_at_new moved = ap (λ b. method_if r d b r.new) moved ∙ ap (λ b. method_by b (same_path r.new r.old) r.new) new_itself

  pub field_gone : moves_written r d ≡ true → (name : List ℕ) → same_path name r.new ≡ false → same_path name r.old ≡ true →
      (renamed_definition r d).field name ≡ None
  field_gone moved name not_new is_old =
      ap (λ b. field_if r d b name) moved ∙ ap (λ b. field_by b (same_path name r.old) name) not_new ∙ ap (λ b. field_by false b name) is_old

module _ (r : SetRename) (ds : Symbol → Definition) (star : Bool) (s i : Symbol) where
  abbrev afterwards : Symbol → Definition
  afterwards = renamed_definitions r ds

  -- what the type has to have under the name
  abbrev has_asked_in : (Symbol → Definition) → (name : List ℕ) → Bool
  has_asked_in d name = has_if_asked ((d i).field name) (in_set d star s name)

  abbrev HasAll : (Symbol → Definition) → Type 0
  HasAll d = (name : List ℕ) → has_asked_in d name ≡ true

  implements_as : (HasAll ds → HasAll afterwards) → (HasAll afterwards → HasAll ds) →
      Implements ds (type_through star s) i ↔ Implements afterwards (type_through star s) i
  implements_as to back = (
    (λ h. record {
      writes_one = h.writes_one;
      has = λ name. ap (λ f. has_if_asked ((afterwards i).field name) (f name)) (through_any afterwards s star)
          ∙ to (λ n. ap (λ f. has_if_asked ((ds i).field n) (f n)) (sym (through_any ds s star)) ∙ h.has n) name;
    }),
    (λ h. record {
      writes_one = h.writes_one;
      has = λ name. ap (λ f. has_if_asked ((ds i).field name) (f name)) (through_any ds s star)
          ∙ back (λ n. ap (λ f. has_if_asked ((afterwards i).field n) (f n)) (sym (through_any afterwards s star)) ∙ h.has n) name;
    }),
  )

  -- Nothing moves

  set_unmoved : (star : Bool) (u : Underlying) → moves_by ds r (ds s) u ≡ false → (name : List ℕ) →
      in_set_by afterwards star s u name ≡ in_set_by ds star s u name
  set_unmoved star (Plain b) e name = ap (received_method star) (method_unmoved r (ds s) (moves_received r (ds s)) e name)
  set_unmoved star (PointerTo t) e name = ap (received_method star) (method_unmoved r (ds s) (moves_received r (ds s)) e name)
  set_unmoved star (SliceOf t) e name = ap (received_method star) (method_unmoved r (ds s) (moves_received r (ds s)) e name)
  set_unmoved star (Struct t) e name = ap (received_method star) (method_unmoved r (ds s) (moves_received r (ds s)) e name)
  set_unmoved true (Interface t) e name = refl
  set_unmoved false (Interface t) e name = ap as_set_method (field_unmoved r (ds t) (moves_written r (ds t)) e name)

  pub unmoved_same : moves_written r (ds i) ≡ false → moves ds r (ds s) ≡ false →
      Implements ds (type_through star s) i ↔ Implements afterwards (type_through star s) i
  unmoved_same asked having =
      let same : (name : List ℕ) → has_asked_in afterwards name ≡ has_asked_in ds name = λ name.
      ap (λ f. has_if_asked f (in_set afterwards star s name)) (field_unmoved r (ds i) (moves_written r (ds i)) asked name)
      ∙ ap (has_if_asked ((ds i).field name)) (set_unmoved star (ds s).underlying having name)
      in
      implements_as (λ h name. same name ∙ h name) (λ h name. sym (same name) ∙ h name)

  -- Both move

  set_follows : (star : Bool) (u : Underlying) → follows_by ds r (ds s) u ≡ true → in_set_by afterwards star s u r.new ≡ in_set_by ds star s u r.old
  set_follows star (Plain b) e = let k = received_follows r ((ds s).method r.old) e in ap (received_method star) (method_at_new r (ds s) k.0 ∙ k.1)
  set_follows star (PointerTo t) e = let k = received_follows r ((ds s).method r.old) e in ap (received_method star) (method_at_new r (ds s) k.0 ∙ k.1)
  set_follows star (SliceOf t) e = let k = received_follows r ((ds s).method r.old) e in ap (received_method star) (method_at_new r (ds s) k.0 ∙ k.1)
  set_follows star (Struct t) e = let k = received_follows r ((ds s).method r.old) e in ap (received_method star) (method_at_new r (ds s) k.0 ∙ k.1)
  set_follows true (Interface t) e = refl
  set_follows false (Interface t) e = let k = written_follows r ((ds t).field r.old) e in ap as_set_method (field_at_new r (ds t) k.0 ∙ k.1)

  module _ (asked : moves_written r (ds i) ≡ true) (none : (ds i).field r.new ≡ None) (having : follows ds r (ds s) ≡ true) where
    new_as_old : has_asked_in afterwards r.new ≡ has_asked_in ds r.old
    new_as_old =
        ap (λ f. has_if_asked f (in_set afterwards star s r.new)) (field_at_new r (ds i) asked)
        ∙ asked_alike r true ((ds i).field r.old) (in_set afterwards star s r.new)
        ∙ ap (has_if_asked ((ds i).field r.old)) (set_follows star (ds s).underlying having)

    others_same : (name : List ℕ) → same_path name r.new ≡ false → same_path name r.old ≡ false → has_asked_in afterwards name ≡ has_asked_in ds name
    others_same name not_new not_old =
        ap (λ f. has_if_asked f (in_set afterwards star s name)) (written_stays r ds name not_new not_old i)
        ∙ ap (has_if_asked ((ds i).field name)) (set_stays r ds name not_new not_old star s (ds s).underlying)

    forth_by : HasAll ds → (name : List ℕ) (new old : Bool) → same_path name r.new ≡ new → same_path name r.old ≡ old → has_asked_in afterwards name ≡ true
    forth_by h name true old is_new is_old = ap (has_asked_in afterwards) ((bytes_decides name r.new).0 is_new) ∙ new_as_old ∙ h r.old
    forth_by h name false true is_new is_old =
        ap (λ f. has_if_asked f (in_set afterwards star s name)) (field_gone r (ds i) asked name is_new is_old)
    forth_by h name false false is_new is_old = others_same name is_new is_old ∙ h name

    back_again : HasAll afterwards → (name : List ℕ) (new old : Bool) → same_path name r.new ≡ new → same_path name r.old ≡ old → has_asked_in ds name ≡ true
    back_again h name true old is_new is_old =
        ap (λ f. has_if_asked f (in_set ds star s name)) (ap (ds i).field ((bytes_decides name r.new).0 is_new) ∙ none)
    back_again h name false true is_new is_old = ap (has_asked_in ds) ((bytes_decides name r.old).0 is_old) ∙ sym new_as_old ∙ h r.new
    back_again h name false false is_new is_old = sym (others_same name is_new is_old) ∙ h name

    pub following_same : Implements ds (type_through star s) i ↔ Implements afterwards (type_through star s) i
    following_same =
        implements_as (λ h name. forth_by h name (same_path name r.new) (same_path name r.old) refl refl)
        (λ h name. back_again h name (same_path name r.new) (same_path name r.old) refl refl)

-- So the rename turns only types of the part.
module _ (ds : Definitions) (r : SetRename) where
  unturned : (star : Bool) (s i : Symbol) →
      (Implements (definitions_in ds) (type_through star s) i ↔ Implements (renamed_definitions r (definitions_in ds)) (type_through star s) i) →
      turns_through ds r star s i ≡ false
  unturned star s i same = elim (cases_Bool (turns_through ds r star s i)) [
    | inl turns ↦ absurd ((turned ds r star s i).0 turns same)
    | inr never ↦ never
  ]

  neither_turns : (s i : Symbol) → ((star : Bool) → turns_through ds r star s i ≡ false) → either_turns ds r s i ≡ false
  neither_turns s i none = ap (λ b. b || turns_through ds r true s i) (none false) ∙ none true

  can_by : (moved : Bool) (s i : Symbol) → (can_turn (definitions_in ds) r moved s ≡ false → either_turns ds r s i ≡ false) →
      either_turns ds r s i ≡ true → can_turn (definitions_in ds) r moved s ≡ true
  can_by moved s i never turns = elim (cases_Bool (can_turn (definitions_in ds) r moved s)) [
    | inl can ↦ can
    | inr cannot ↦ absurd (false≢true (sym (never cannot) ∙ turns))
  ]

  pub unmoved_turns : (called : List Symbol) (i : Symbol) → moves_written r (definitions_in ds i) ≡ false →
      any_turns ds r (filter (can_turn (definitions_in ds) r false) called) i ≡ any_turns ds r called i
  unmoved_turns called i still =
      any-filter_same (λ s. either_turns ds r s i) (can_turn (definitions_in ds) r false) true
      (λ s turns. can_by false s i (λ cannot. neither_turns s i (λ star. unturned star s i (unmoved_same r (definitions_in ds) star s i still cannot))) turns)
      called

  pub moved_turns : (called : List Symbol) (i : Symbol) → moves_written r (definitions_in ds i) ≡ true → (definitions_in ds i).field r.new ≡ None →
      any_turns ds r (filter (can_turn (definitions_in ds) r true) called) i ≡ any_turns ds r called i
  moved_turns called i moved none =
      any-filter_same (λ s. either_turns ds r s i) (can_turn (definitions_in ds) r true) true
      (λ s turns. can_by true s i
      (λ cannot. neither_turns s i (λ star. unturned star s i (following_same r (definitions_in ds) star s i moved none
      (not-false (follows (definitions_in ds) r (definitions_in ds s)) cannot)))) turns)
      called

-- one type more
pub filtered_next : {X : Type 0} (test : X → Bool) (xs : List X) (k : ℕ) (x : X) → k < length xs → x ≡ get_or xs k x → (old new : List X) →
    old ≡ filter test (take k xs) → new ≡ old ++ filter test (x ∷ []) → new ≡ filter test (take (k + 1) xs)
filtered_next test xs k x lt is old new was e =
    e ∙ ap (λ (l : List _). l ++ filter test (x ∷ [])) was ∙ ap (λ y. filter test (take k xs) ++ filter test (y ∷ [])) is
    ∙ sym (filter_more test xs k x lt)
