-- A type without methods of the two names of a rename implements what it implemented. So does an interface that asks for neither change none.
use Rattle.std.proofs.Common.{ℕ, ◌≡◌, Bool, true, false, ◌&&◌, ◌||◌, List, ap, sym, refl, subst, ◌∙◌, if◌then◌else◌}
use Rattle.std.specs.Prelude.{Option, Some, None, option_map, is_some, ◌↔◌}
use Rattle.std.specs.Cmp.Lexicographic.{bytes_decides}
use Rattle.std.proofs.lemmas.Bool.{true≢false}
use Rattle.types_expr.specs.declared.symbol.Symbol.{Symbol}
use Rattle.types_expr.specs.Types.{Underlying, Plain, PointerTo, SliceOf, Struct, Interface, same_path}
use Rattle.types_expr.specs.World.{Definition, Field as Written, Method as Received, SetMethod, Implements}
use Rattle.types_expr.specs.World.{as_set_method, has_if_asked, in_method_set, in_set, in_set_by, received_method}
use Rattle.refactor_coupled.specs.Called.{has_either, has_either_by, writes_either}
use Rattle.refactor_coupled.specs.Coupling.{type_through}
use Rattle.refactor_coupled.specs.FirstTurns.{NamesAreFree}
use Rattle.refactor_coupled.specs.RenamedTypes.{SetRename, is_new_name_of, moves_if_received, moves_if_written, moves_received}
use Rattle.refactor_coupled.specs.RenamedTypes.{moves_written, name_before, received_as, renamed_definitions, under_name, written_as}
use Rattle.refactor_coupled.proofs.Implemented.{asked_alike, received_same, through_any, written_same}

pub none_of : {X : Type 0} (o : Option X) → is_some o ≡ false → o ≡ None
none_of None e = refl
none_of (Some x) e = absurd (true≢false e)

neither : (a b : Bool) → (a || b) ≡ false → (a ≡ false) × (b ≡ false)
neither true b e = absurd (true≢false e)
neither false b e = (refl, e)

-- Where nothing moves, each member has its name.

abbrev pub field_if : (r : SetRename) → Definition → (moves : Bool) → List ℕ → Option Written
field_if r d moves name = option_map (written_as r (is_new_name_of r moves name)) (under_name d.field (name_before r moves name))

abbrev pub method_if : (r : SetRename) → Definition → (moves : Bool) → List ℕ → Option Received
method_if r d moves name = option_map (received_as r (is_new_name_of r moves name)) (under_name d.method (name_before r moves name))

pub field_unmoved : (r : SetRename) (d : Definition) (moves : Bool) → moves ≡ false → (name : List ℕ) → field_if r d moves name ≡ d.field name
field_unmoved r d moves e name = ap (λ b. field_if r d b name) e ∙ written_same r (d.field name)

pub method_unmoved : (r : SetRename) (d : Definition) (moves : Bool) → moves ≡ false → (name : List ℕ) → method_if r d moves name ≡ d.method name
method_unmoved r d moves e name = ap (λ b. method_if r d b name) e ∙ received_same r (d.method name)

no_old_field : (r : SetRename) (d : Definition) → d.field r.old ≡ None → moves_written r d ≡ false
no_old_field r d none = ap (moves_if_written r) none

no_old_method : (r : SetRename) (d : Definition) → d.method r.old ≡ None → moves_received r d ≡ false
no_old_method r d none = ap (moves_if_received r) none

-- the method set of a type without methods of the two names
module _ (r : SetRename) (ds : Symbol → Definition) (s : Symbol) where
  abbrev after : Symbol → Definition
  after = renamed_definitions r ds

  -- what it has: nothing under the two names, and the same under each name
  pub record IsUncalled (star : Bool) (u : Underlying) : Type 0 where
    pub old : in_set_by ds star s u r.old ≡ None
    pub new : in_set_by ds star s u r.new ≡ None
    pub same : (name : List ℕ) → in_set_by after star s u name ≡ in_set_by ds star s u name

  by_methods : (star : Bool) → (is_some ((ds s).method r.old) || is_some ((ds s).method r.new)) ≡ false →
      (received_method star ((ds s).method r.old) ≡ None) × ((received_method star ((ds s).method r.new) ≡ None)
      × ((name : List ℕ) → received_method star ((after s).method name) ≡ received_method star ((ds s).method name)))
  by_methods star e =
      let both = neither (is_some ((ds s).method r.old)) (is_some ((ds s).method r.new)) e in
      let old = none_of ((ds s).method r.old) both.0 in (
        ap (received_method star) old,
        (
          ap (received_method star) (none_of ((ds s).method r.new) both.1),
          λ name. ap (received_method star) (method_unmoved r (ds s) (moves_received r (ds s)) (no_old_method r (ds s) old) name),
        ),
      )

  uncalled_by : (star : Bool) (u : Underlying) → has_either_by ds (ds s) u r.old r.new ≡ false → IsUncalled star u
  uncalled_by star (Plain b) e = let m = by_methods star e in record { old = m.0; new = m.1.0; same = m.1.1 }
  uncalled_by star (PointerTo t) e = let m = by_methods star e in record { old = m.0; new = m.1.0; same = m.1.1 }
  uncalled_by star (SliceOf t) e = let m = by_methods star e in record { old = m.0; new = m.1.0; same = m.1.1 }
  uncalled_by star (Struct t) e = let m = by_methods star e in record { old = m.0; new = m.1.0; same = m.1.1 }
  uncalled_by true (Interface i) e = record { old = refl; new = refl; same = λ name. refl }
  uncalled_by false (Interface i) e =
      let both = neither (is_some ((ds i).field r.old)) (is_some ((ds i).field r.new)) e in
      let old = none_of ((ds i).field r.old) both.0 in
      record {
        old = ap as_set_method old;
        new = ap as_set_method (none_of ((ds i).field r.new) both.1);
        same = λ name. ap as_set_method (field_unmoved r (ds i) (moves_written r (ds i)) (no_old_field r (ds i) old) name);
      }

  -- so it implements the same interfaces

  module _ (free : NamesAreFree ds r) (star : Bool) (uncalled : has_either ds (ds s) r.old r.new ≡ false) (i : Symbol) where
    has_none : IsUncalled star (ds s).underlying
    has_none = uncalled_by star (ds s).underlying uncalled

    abbrev S : List ℕ → Option SetMethod
    S name = in_set ds star s name

    abbrev asked : List ℕ → Option Written
    asked = (ds i).field

    abbrev Has : Type 0
    Has = (name : List ℕ) → has_if_asked (asked name) (S name) ≡ true

    abbrev HasNow : Type 0
    HasNow = (name : List ℕ) → has_if_asked ((after i).field name) (S name) ≡ true

    old_is_new : has_if_asked (asked r.old) (S r.old) ≡ has_if_asked (option_map (written_as r true) (asked r.old)) (S r.new)
    old_is_new = ap (has_if_asked (asked r.old)) (has_none.old ∙ sym has_none.new) ∙ sym (asked_alike r true (asked r.old) (S r.new))

    there_by : Has → (moves : Bool) (name : List ℕ) (new old : Bool) → same_path name r.new ≡ new → same_path name r.old ≡ old →
        has_if_asked (option_map (written_as r (moves && new)) (under_name asked (if moves && new then Some r.old else (if moves && old then None else Some
        name)))) (S name) ≡ true
    there_by h false name new old is_new is_old = asked_alike r false (asked name) (S name) ∙ h name
    there_by h true name true old is_new is_old =
        ap (λ n. has_if_asked (option_map (written_as r true) (asked r.old)) (S n)) ((bytes_decides name r.new).0 is_new) ∙ sym old_is_new ∙ h r.old
    there_by h true name false true is_new is_old = refl
    there_by h true name false false is_new is_old = asked_alike r false (asked name) (S name) ∙ h name

    pub there : Has → HasNow
    there h name = there_by h (moves_written r (ds i)) name (same_path name r.new) (same_path name r.old) refl refl

    abbrev now_if : Bool → List ℕ → Option Written
    now_if moves name = field_if r (ds i) moves name

    back_by : (moves : Bool) → moves_written r (ds i) ≡ moves → ((name : List ℕ) → has_if_asked (now_if moves name) (S name) ≡ true) → (name : List ℕ)
        (new old : Bool) → same_path name r.new ≡ new → same_path name r.old ≡ old → has_if_asked (asked name) (S name) ≡ true
    back_by false moved h name new old is_new is_old = sym (asked_alike r false (asked name) (S name)) ∙ h name
    back_by true moved h name true old is_new is_old =
        ap (λ n. has_if_asked (asked n) (S name)) ((bytes_decides name r.new).0 is_new) ∙ ap (λ f. has_if_asked f (S name)) (free.fields i moved)
    back_by true moved h name false true is_new is_old =
        ap (λ n. has_if_asked (asked n) (S n)) ((bytes_decides name r.old).0 is_old) ∙ old_is_new ∙ at_new
      where
        new_is_new : same_path r.new r.new ≡ true
        new_is_new = (bytes_decides r.new r.new).1 refl

        at_new : has_if_asked (option_map (written_as r true) (asked r.old)) (S r.new) ≡ true
        at_new =
            subst (λ b. has_if_asked (option_map (written_as r b) (under_name asked (if b then Some r.old else (if same_path r.new r.old then None else Some
            r.new)))) (S r.new) ≡ true)
            new_is_new (h r.new)
    back_by true moved h name false false is_new is_old =
        sym (asked_alike r false (asked name) (S name)) ∙
        subst (λ b. has_if_asked (option_map (written_as r b) (under_name asked (if b then Some r.old else (if same_path name r.old then None else Some
        name)))) (S name) ≡ true → has_if_asked (option_map (written_as r false) (asked name)) (S name) ≡ true)
        (sym is_new)
        (subst (λ b. has_if_asked (option_map (written_as r false) (under_name asked (if b then None else Some name))) (S name) ≡ true →
        has_if_asked (option_map (written_as r false) (asked name)) (S name) ≡ true)
        (sym is_old) (λ x. x)) (h name)

    pub back : HasNow → Has
    back h name = back_by (moves_written r (ds i)) refl h name (same_path name r.new) (same_path name r.old) refl refl

    sets_same : (name : List ℕ) → in_method_set after (type_through star s) name ≡ S name
    sets_same name = ap (λ f. f name) (through_any after s star) ∙ has_none.same name

    pub uncalled_same : Implements ds (type_through star s) i ↔ Implements after (type_through star s) i
    uncalled_same = (
      (λ h. record {
        writes_one = h.writes_one;
        has = λ name. ap (has_if_asked ((after i).field name)) (sets_same name) ∙ there (λ n. ap (λ f. has_if_asked (asked n) (f n)) (sym (through_any ds s
            star)) ∙ h.has n) name;
      }),
      (λ h. record {
        writes_one = h.writes_one;
        has = λ name. ap (λ f. has_if_asked (asked name) (f name)) (through_any ds s star) ∙ back (λ n. ap (has_if_asked ((after i).field n)) (sym
            (sets_same n)) ∙ h.has n) name;
      }),
    )

-- An interface that asks for neither name is implemented by the same types.
module _ (r : SetRename) (ds : Symbol → Definition) where
  abbrev renamed : Symbol → Definition
  renamed = renamed_definitions r ds

  other_field : (d : Definition) (name : List ℕ) (moves new old : Bool) → new ≡ false → old ≡ false →
      option_map (written_as r (moves && new)) (under_name d.field (if moves && new then Some r.old else (if moves && old then None else Some name))) ≡
      d.field name
  other_field d name moves true old e f = absurd (true≢false e)
  other_field d name moves false true e f = absurd (true≢false f)
  other_field d name true false false e f = written_same r (d.field name)
  other_field d name false false false e f = written_same r (d.field name)

  other_method : (d : Definition) (name : List ℕ) (moves new old : Bool) → new ≡ false → old ≡ false →
      option_map (received_as r (moves && new)) (under_name d.method (if moves && new then Some r.old else (if moves && old then None else Some name)))
      ≡ d.method name
  other_method d name moves true old e f = absurd (true≢false e)
  other_method d name moves false true e f = absurd (true≢false f)
  other_method d name true false false e f = received_same r (d.method name)
  other_method d name false false false e f = received_same r (d.method name)

  module _ (name : List ℕ) (not_new : same_path name r.new ≡ false) (not_old : same_path name r.old ≡ false) where
    pub written_stays : (s : Symbol) → (renamed s).field name ≡ (ds s).field name
    written_stays s = other_field (ds s) name (moves_written r (ds s)) (same_path name r.new) (same_path name r.old) not_new not_old

    received_stays : (s : Symbol) → (renamed s).method name ≡ (ds s).method name
    received_stays s = other_method (ds s) name (moves_received r (ds s)) (same_path name r.new) (same_path name r.old) not_new not_old

    pub set_stays : (star : Bool) (s : Symbol) (u : Underlying) → in_set_by renamed star s u name ≡ in_set_by ds star s u name
    set_stays star s (Plain b) = ap (received_method star) (received_stays s)
    set_stays star s (PointerTo t) = ap (received_method star) (received_stays s)
    set_stays star s (SliceOf t) = ap (received_method star) (received_stays s)
    set_stays star s (Struct t) = ap (received_method star) (received_stays s)
    set_stays true s (Interface i) = refl
    set_stays false s (Interface i) = ap as_set_method (written_stays i)

  module _ (star : Bool) (s i : Symbol) (none : writes_either (ds i) r.old r.new ≡ false) where
    no_old : (ds i).field r.old ≡ None
    no_old = none_of ((ds i).field r.old) (neither (is_some ((ds i).field r.old)) (is_some ((ds i).field r.new)) none).0

    no_new : (ds i).field r.new ≡ None
    no_new = none_of ((ds i).field r.new) (neither (is_some ((ds i).field r.old)) (is_some ((ds i).field r.new)) none).1

    asked_stays : (name : List ℕ) → (renamed i).field name ≡ (ds i).field name
    asked_stays name = field_unmoved r (ds i) (moves_written r (ds i)) (no_old_field r (ds i) no_old) name

    abbrev answer : List ℕ → Bool
    answer name = has_if_asked ((ds i).field name) (in_method_set ds (type_through star s) name)

    abbrev answer_now : List ℕ → Bool
    answer_now name = has_if_asked ((renamed i).field name) (in_method_set renamed (type_through star s) name)

    not_asked : (name : List ℕ) → (ds i).field name ≡ None → answer_now name ≡ answer name
    not_asked name at =
        ap (λ f. has_if_asked f (in_method_set renamed (type_through star s) name)) (asked_stays name ∙ at)
        ∙ sym (ap (λ f. has_if_asked f (in_method_set ds (type_through star s) name)) at)

    same_answer : (name : List ℕ) (new old : Bool) → same_path name r.new ≡ new → same_path name r.old ≡ old → answer_now name ≡ answer name
    same_answer name true old is_new is_old = not_asked name (ap (ds i).field ((bytes_decides name r.new).0 is_new) ∙ no_new)
    same_answer name false true is_new is_old = not_asked name (ap (ds i).field ((bytes_decides name r.old).0 is_old) ∙ no_old)
    same_answer name false false is_new is_old =
        ap (λ f. has_if_asked f (in_method_set renamed (type_through star s) name)) (asked_stays name)
        ∙ ap (has_if_asked ((ds i).field name))
        (ap (λ f. f name) (through_any renamed s star) ∙ set_stays name is_new is_old star s (ds s).underlying ∙ sym (ap (λ f. f name) (through_any ds s star)))

    answers_agree : (name : List ℕ) → answer_now name ≡ answer name
    answers_agree name = same_answer name (same_path name r.new) (same_path name r.old) refl refl

    pub unasked_same : Implements ds (type_through star s) i ↔ Implements renamed (type_through star s) i
    unasked_same = (
      (λ h. record { writes_one = h.writes_one; has = λ name. answers_agree name ∙ h.has name }),
      (λ h. record { writes_one = h.writes_one; has = λ name. sym (answers_agree name) ∙ h.has name }),
    )
