-- Targets as the check finds them: no value is refused exactly where each is taken.
use Rattle.std.proofs.Common.{ℕ, ◌≡◌, ◌==◌, Bool, true, false, ◌&&◌, if◌then◌else◌, List, [], ◌∷◌, map, length, Option, Some, None, refl, sym, ap, ◌∙◌}
use Rattle.std.proofs.Common.{subst, suc, arith, eq-eqb, eqb-true}
use Rattle.go_ast.specs.Tree.{Item, IdentTree}
use Rattle.types_expr.specs.Types.{PlainType, BasicType, ValueKind, Typed, Untyped, Nil}
use Rattle.types_expr.specs.World.{World, Locals, declared, giving}
use Rattle.types_expr.specs.Judge.{ListValue, all_whole}
use Rattle.types_stmt.specs.Checked.{fault_if}
use Rattle.types_stmt.specs.Sides.{Target, Wants, all_unbroken, nil_refused, refused_at, all_refused, given_faults, default_type, inferred_type, inferred_types}
use Rattle.types_stmt.specs.Sides.{inferred, with_locals, with_inferred, receiving}
use Rattle.types_stmt.specs.Sides.{all_named, named as named_of}
use Rattle.types_stmt.specs.Sides as sides
use Rattle.types_stmt.specs.Simple.{written_locals}
use Rattle.types_stmt.specs.Statements.{returned}
use Rattle.law_typing.proofs.Tests.{and_both}
use Rattle.law_typing.proofs.Judgements.{empty_first, empty_second, empty_both}
use Rattle.law_typing.proofs.BrokenRules.{no_fault}
use Rattle.law_typing.proofs.Arguments.{AreOf, whole_all, fit_silent, silent_fit, same_many}
use Rattle.law_typing.specs.Assignments.{DefaultsTo, own, by_default, Taker, Fresh, OfType, TakesValue, fresh, fitting, TakenInTurn, none_given, also_given}
use Rattle.law_typing.specs.Assignments.{Declare, no_name, no_local, new_local, DeclareAs, no_name_left, not_named, named}

abbrev pub aim : Taker → Target
aim Fresh = sides.Takes
aim (OfType t) = Wants (Some t)

gives_kind : {k : ValueKind} {t : PlainType} → DefaultsTo k t → default_type k ≡ Some t
unfolding default_type
gives_kind own = refl
gives_kind by_default = refl

not_nil : (place : ℕ) {k : ValueKind} {t : PlainType} → DefaultsTo k t → nil_refused place (Some k) ≡ []
unfolding nil_refused
not_nil place own = refl
not_nil place by_default = refl

given_type : (place : ℕ) (k : ValueKind) → nil_refused place (Some k) ≡ [] → (t : PlainType) × DefaultsTo k t
unfolding nil_refused
given_type place (Typed t) h = (t, own)
given_type place (Untyped b) h = (BasicType b, by_default)
given_type place Nil h = no_fault h

taken_silent : (w : World) (place : ℕ) {o : Option ValueKind} {k : ValueKind} {t : Taker} → o ≡ Some k → TakesValue w k t → refused_at w place o (aim t) ≡ []
unfolding refused_at
taken_silent w place e (fresh g) = ap (nil_refused place) e ∙ not_nil place g
taken_silent w place e (fitting f) = fit_silent w place e f

silent_taken : (w : World) (place : ℕ) (o : Option ValueKind) (k : ValueKind) (t : Taker) → o ≡ Some k → refused_at w place o (aim t) ≡ [] → TakesValue w k t
unfolding refused_at
silent_taken w place o k Fresh e h = fresh (given_type place k (ap (nil_refused place) (sym e) ∙ h)).1
silent_taken w place o k (OfType t) e h = fitting (silent_fit w place o k t e h)

pub as_many : (w : World) (vs : List ListValue) {ks : List ValueKind} {ts : List Taker} → AreOf vs ks → TakenInTurn w ks ts → length vs ≡ length (map aim ts)
as_many w [] a none_given = refl
as_many w [] a (also_given f more) = absurd a
as_many w (v ∷ vs) a none_given = absurd a
as_many w (v ∷ vs) a (also_given f more) = ap suc (as_many w vs a.1 more)

pub none_refused : (w : World) (vs : List ListValue) {ks : List ValueKind} {ts : List Taker} → AreOf vs ks → TakenInTurn w ks ts →
    all_refused w vs (map aim ts) ≡ []
unfolding all_refused
none_refused w [] a none_given = refl
none_refused w [] a (also_given f more) = absurd a
none_refused w (v ∷ vs) a none_given = absurd a
none_refused w (v ∷ vs) a (also_given {t = t} {ts = ts} f more) = empty_both (refused_at w v.place v.kind (aim t)) (all_refused w vs (map aim ts))
    (taken_silent w v.place a.0 f) (none_refused w vs a.1 more)

pub all_taken : (w : World) (vs : List ListValue) (ks : List ValueKind) (ts : List Taker) → AreOf vs ks → length vs ≡ length (map aim ts) →
    all_refused w vs (map aim ts) ≡ [] → TakenInTurn w ks ts
unfolding all_refused
all_taken w [] [] [] a n h = none_given
all_taken w [] [] (t ∷ ts) a n h = absurd (omega arith)
all_taken w [] (k ∷ ks) ts a n h = absurd a
all_taken w (v ∷ vs) [] ts a n h = absurd a
all_taken w (v ∷ vs) (k ∷ ks) [] a n h = absurd (omega arith)
all_taken w (v ∷ vs) (k ∷ ks) (t ∷ ts) a n h = let m : length vs ≡ length (map aim ts) = omega arith in
    also_given (silent_taken w v.place v.kind k t a.0 (empty_first (refused_at w v.place v.kind (aim t)) (all_refused w vs (map aim ts)) h))
    (all_taken w vs ks ts a.1 m (empty_second (refused_at w v.place v.kind (aim t)) (all_refused w vs (map aim ts)) h))

sound_aims : (ts : List Taker) → all_unbroken (map aim ts) ≡ true
sound_aims [] = refl
sound_aims (Fresh ∷ ts) = sound_aims ts
sound_aims (OfType t ∷ ts) = sound_aims ts

-- values given to targets, where a wrong count is a fault
pub counted : {A : Type 0} (c : Bool) (xs : List ℕ) (ys : List ℕ) → (if c then xs else ys) ≡ [] → (ys ≡ [] → A) → (c ≡ true → xs ≡ [] → A) → A
counted true xs ys h f g = g refl h
counted false xs ys h f g = f h

pub right_count : (xs ys : List ℕ) {n m : ℕ} → n ≡ m → xs ≡ [] → (if n == m then xs else ys) ≡ []
right_count xs ys {n} {m} e h = ap (λ c. if c then xs else ys) (eq-eqb n m e) ∙ h

one_fault : {A : Type 0} (c : Bool) (place : ℕ) → c ≡ true → fault_if c place ≡ [] → A
one_fault c place e h = no_fault (ap (λ z. fault_if z place) (sym e) ∙ h)

-- right sides are received by the kinds of their values as by the values
pub received_by : {X : Type 0} (w : World) (sides : List X) (vs : List ListValue) (ks : List ValueKind) → AreOf vs ks →
    receiving w sides vs ≡ receiving w sides ks
received_by w sides vs ks a = ap (λ n. giving (n == length sides) w) (same_many vs ks a)

pub taken_by : {X : Type 0} (w : World) (sides : List X) (vs : List ListValue) {ks : List ValueKind} {ts : List Taker} → AreOf vs ks →
    TakenInTurn (receiving w sides ks) ks ts → TakenInTurn (receiving w sides vs) ks ts
taken_by w sides vs {ks} {ts} a t = subst (λ z. TakenInTurn z ks ts) (sym (received_by w sides vs ks a)) t

pub taken_as : {X : Type 0} (w : World) (sides : List X) (vs : List ListValue) {ks : List ValueKind} {ts : List Taker} → AreOf vs ks →
    TakenInTurn (receiving w sides vs) ks ts → TakenInTurn (receiving w sides ks) ks ts
taken_as w sides vs {ks} {ts} a t = subst (λ z. TakenInTurn z ks ts) (received_by w sides vs ks a) t

pub given_silent : (w : World) (place : ℕ) (vs : List ListValue) {ks : List ValueKind} {ts : List Taker} → AreOf vs ks → TakenInTurn w ks ts →
    given_faults w place vs (map aim ts) ≡ []
unfolding given_faults
given_silent w place vs {ks} {ts} a t = right_count (all_refused w vs (map aim ts)) (fault_if (all_whole vs && all_unbroken (map aim ts)) place)
    (as_many w vs a t) (none_refused w vs a t)

pub silent_given : (w : World) (place : ℕ) (vs : List ListValue) (ks : List ValueKind) (ts : List Taker) → AreOf vs ks →
    given_faults w place vs (map aim ts) ≡ [] →
    TakenInTurn w ks ts
unfolding given_faults
silent_given w place vs ks ts a h = counted (length vs == length (map aim ts)) (all_refused w vs (map aim ts)) (fault_if (all_whole vs && all_unbroken
    (map aim ts)) place) h
    (λ q. one_fault (all_whole vs && all_unbroken (map aim ts)) place (and_both (all_whole vs) (all_unbroken (map aim ts)) (whole_all vs ks a) (sound_aims
    ts)) q)
    (λ c q. all_taken w vs ks ts a (eqb-true (length vs) (length (map aim ts)) c) q)

pub return_silent : (w : World) (place : ℕ) (vs : List ListValue) {ks : List ValueKind} {ts : List Taker} → AreOf vs ks → TakenInTurn w ks ts →
    returned w place vs (map aim ts) ≡ []
unfolding returned
return_silent w place vs {ks} {ts} a t = right_count (all_refused w vs (map aim ts)) (fault_if (all_whole vs) place) (as_many w vs a t) (none_refused w vs a t)

pub silent_return : (w : World) (place : ℕ) (vs : List ListValue) (ks : List ValueKind) (ts : List Taker) → AreOf vs ks →
    returned w place vs (map aim ts) ≡ [] →
    TakenInTurn w ks ts
unfolding returned
silent_return w place vs ks ts a h = counted (length vs == length (map aim ts)) (all_refused w vs (map aim ts)) (fault_if (all_whole vs) place) h
    (λ q. one_fault (all_whole vs) place (whole_all vs ks a) q)
    (λ c q. all_taken w vs ks ts a (eqb-true (length vs) (length (map aim ts)) c) q)

-- locals

type_taken : {o : Option ValueKind} {k : ValueKind} {t : PlainType} → o ≡ Some k → DefaultsTo k t → inferred_type o ≡ Some t
unfolding inferred_type
type_taken e g = ap inferred_type e ∙ gives_kind g

pub declare_many : (vs : List ListValue) {before after : Locals} {ns : List (Option ℕ)} {ks : List ValueKind} → AreOf vs ks → Declare before ns ks after →
    length vs ≡ length ns
declare_many [] a no_name = refl
declare_many [] a (no_local more) = absurd a
declare_many [] a (new_local g more) = absurd a
declare_many (v ∷ vs) a no_name = absurd a
declare_many (v ∷ vs) a (no_local more) = ap suc (declare_many vs a.1 more)
declare_many (v ∷ vs) a (new_local g more) = ap suc (declare_many vs a.1 more)

declare_types : (vs : List ListValue) {before after : Locals} {ns : List (Option ℕ)} {ks : List ValueKind} → AreOf vs ks → Declare before ns ks after →
    with_locals before ns (inferred_types vs) ≡ after
unfolding with_locals
declare_types [] a no_name = refl
declare_types [] a (no_local more) = absurd a
declare_types [] a (new_local g more) = absurd a
declare_types (v ∷ vs) a no_name = absurd a
declare_types (v ∷ vs) a (no_local more) = declare_types vs a.1 more
declare_types (v ∷ vs) a (new_local {before} {p = p} {ns = ns} g more) = ap (λ t. with_locals (declared before p t) ns (inferred_types vs))
    (type_taken a.0 g) ∙ declare_types vs a.1 more

pub declare_true : (vs : List ListValue) {before after : Locals} {ns : List (Option ℕ)} {ks : List ValueKind} → AreOf vs ks → Declare before ns ks after →
    with_inferred before ns vs ≡ after
unfolding inferred
declare_true vs {before} {ns = ns} a d = ap (λ c. with_locals before ns (if c then inferred_types vs else [])) (eq-eqb (length vs) (length ns)
    (declare_many vs a d)) ∙ declare_types vs a d

-- names of which each that declares a local is a new one
abbrev pub AreNew : List Taker → List (Option ℕ) → Type 0
AreNew [] [] = Unit {0}
AreNew (t ∷ ts) (None ∷ ns) = AreNew ts ns
AreNew (Fresh ∷ ts) (Some p ∷ ns) = AreNew ts ns
AreNew ts ns = ⊥

new_types : (w : World) (vs : List ListValue) (before : Locals) {ts : List Taker} (ns : List (Option ℕ)) {ks : List ValueKind} → AreNew ts ns → AreOf vs ks →
    TakenInTurn w ks ts →
    (length vs ≡ length ns) × Declare before ns ks (with_locals before ns (inferred_types vs))
unfolding with_locals
new_types w [] before [] u a none_given = (refl, no_name)
new_types w [] before (n ∷ ns) u a none_given = absurd u
new_types w (v ∷ vs) before ns u a none_given = absurd a
new_types w [] before ns u a (also_given f more) = absurd a
new_types w (v ∷ vs) before [] u a (also_given f more) = absurd u
new_types w (v ∷ vs) before (None ∷ ns) u a (also_given f more) = let q = new_types w vs before ns u a.1 more in (ap suc q.0, no_local q.1)
new_types w (v ∷ vs) before (Some p ∷ ns) u a (also_given (fitting f) more) = absurd u
new_types w (v ∷ vs) before (Some p ∷ ns) u a (also_given {ks = ks} (fresh {k} {t} g) more) = let q = new_types w vs (declared before p
    (Some t)) ns u a.1 more in (
      ap suc q.0,
      new_local g (subst (λ z. Declare (declared before p (Some t)) ns ks (with_locals (declared before p z) ns (inferred_types vs))) (sym
          (type_taken a.0 g)) q.1),
    )

pub declare_found : (w : World) (vs : List ListValue) (before : Locals) {ts : List Taker} (ns : List (Option ℕ)) {ks : List ValueKind} → AreNew ts ns →
    AreOf vs ks → TakenInTurn w ks ts → Declare before ns ks (with_inferred before ns vs)
unfolding inferred
declare_found w vs before ns {ks} u a t = let q = new_types w vs before ns u a t in
    subst (λ c. Declare before ns ks (with_locals before ns (if c then inferred_types vs else []))) (sym (eq-eqb (length vs) (length ns) q.0)) q.1

-- locals of one written type

none_as_true : {t : PlainType} {before after : Locals} (ts : List (Option PlainType)) → DeclareAs t before [] after → with_locals before [] ts ≡ after
unfolding with_locals
none_as_true ts no_name_left = refl

one_as_true : {t : PlainType} {before after : Locals} (n : Option ℕ) (ns : List (Option ℕ)) (ts : List (Option PlainType)) → ((ls : Locals) →
    DeclareAs t ls ns after → with_locals ls ns ts ≡ after) →
    DeclareAs t before (n ∷ ns) after → with_locals before (n ∷ ns) (Some t ∷ ts) ≡ after
unfolding with_locals
one_as_true {before = before} n ns ts f (not_named more) = f before more
one_as_true {t} {before} n ns ts f (named {p = p} more) = f (declared before p (Some t)) more

one_as_found : (t : PlainType) (before : Locals) (n : Option ℕ) (ns : List (Option ℕ)) (ts : List (Option PlainType)) → ((ls : Locals) →
    DeclareAs t ls ns (with_locals ls ns ts)) →
    DeclareAs t before (n ∷ ns) (with_locals before (n ∷ ns) (Some t ∷ ts))
unfolding with_locals
one_as_found t before None ns ts f = not_named (f before)
one_as_found t before (Some p) ns ts f = named (f (declared before p (Some t)))

none_as_found : (t : PlainType) (before : Locals) → DeclareAs t before [] (with_locals before [] [])
unfolding with_locals
none_as_found t before = no_name_left

pub declare_as_true : (xs : List (Item IdentTree)) {t : PlainType} {before after : Locals} → DeclareAs t before (all_named xs) after →
    written_locals before xs (Some t) ≡ after
declare_as_true [] d = none_as_true [] d
declare_as_true (x ∷ xs) {t} d = one_as_true (named_of x.value) (all_named xs) (map (λ i. Some t) xs) (λ ls e. declare_as_true xs e) d

pub declare_as_found : (xs : List (Item IdentTree)) (t : PlainType) (before : Locals) → DeclareAs t before (all_named xs) (written_locals before xs (Some t))
declare_as_found [] t before = none_as_found t before
declare_as_found (x ∷ xs) t before = one_as_found t before (named_of x.value) (all_named xs) (map (λ i. Some t) xs) (λ ls. declare_as_found xs t ls)

pub single_as_true : (n : IdentTree) {t : PlainType} {before after : Locals} → DeclareAs t before (named_of n ∷ []) after →
    with_locals before (named_of n ∷ []) (Some t ∷ []) ≡ after
single_as_true n d = one_as_true (named_of n) [] [] (λ ls e. none_as_true [] e) d

pub single_as_found : (n : IdentTree) (t : PlainType) (before : Locals) → DeclareAs t before (named_of n ∷ []) (with_locals before (named_of n ∷ [])
    (Some t ∷ []))
single_as_found n t before = one_as_found t before (named_of n) [] [] (λ ls. none_as_found t ls)
