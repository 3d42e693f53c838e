-- The judgement of calls agrees with the rules of calls.
use Rattle.std.proofs.Common.{ℕ, ◌≡◌, ◌==◌, Bool, true, false, List, [], ◌∷◌, length, Option, Some, None, refl, sym, ap, ◌∙◌, subst, true≢false}
use Rattle.std.proofs.Common.{if◌then◌else◌, eq-eqb, eqb-true, arith}
use Rattle.types_expr.specs.declared.types.Basic.TheVariants as basic
use Rattle.types_expr.specs.declared.types.Builtin.{Builtin}
use Rattle.types_expr.specs.declared.types.Builtin.TheVariants as builtin
use Rattle.types_expr.specs.declared.classes.ValueClass.{ValueClass}
use Rattle.types_expr.specs.declared.classes.ValueClass.TheVariants as class
use Rattle.types_expr.specs.Types.{PlainType, BasicType, Underlying, Plain, PointerTo, SliceOf, Struct}
use Rattle.types_expr.specs.Types.{Interface, ValueKind, Typed, Untyped, Nil, Signature, Meaning, Value}
use Rattle.types_expr.specs.Types.{TypeName, Function, BuiltinName, Package, Results, Broken, element_of}
use Rattle.types_expr.specs.World.{World, underlying}
use Rattle.types_expr.specs.Operations.{converts, class_of, class_of_underlying, has_length}
use Rattle.types_expr.specs.Judge.{ListValue, means, wrong, wrong_if_whole, all_whole, misfits, all_misfits, unless_faults, result_meaning, call_function}
use Rattle.types_expr.specs.Judge.{convert, convert_one, append, append_first, append_to, len_fits, len_value, all_printed, call_when, call_builtin, call_of}
use Rattle.types_expr.specs.Judge.{noting, entering, enterings, all_enterings}
use Rattle.law_typing.specs.Fits.{Converts, FitInTurn}
use Rattle.law_typing.specs.Names.{IsNotBroken}
use Rattle.law_typing.specs.Links.{ResultsMean, nothing, one, several, HasLength, a_string, a_slice}
use Rattle.law_typing.specs.Links.{CallGives, function, conversion, len, panic, print, println}
use Rattle.law_typing.specs.Links.{append as appends}
use Rattle.law_typing.specs.IsJudgedAs.{IsJudgedAs}
use Rattle.law_typing.proofs.Judgements.{value_whole, results_whole, agrees_as, noted_agrees, means_it, wrong_broken}
use Rattle.law_typing.proofs.Fitting.{converts_true, true_converts}
use Rattle.law_typing.proofs.Classes.{class_true, class_is, slice_class}
use Rattle.law_typing.proofs.Arguments.{AreOf, whole_all, kinds_of, as_many, in_turn_silent}
use Rattle.law_typing.proofs.Arguments.{silent_in_turn, each_silent, silent_each, printed_true, true_printed}

-- from the rules to the judgement

gives_meaning : {ts : List PlainType} {m : Meaning} → ResultsMean ts m → result_meaning ts ≡ m
gives_meaning nothing = refl
gives_meaning one = refl
gives_meaning several = refl

pub gives_whole : {ts : List PlainType} {m : Meaning} → ResultsMean ts m → IsNotBroken m
gives_whole nothing = results_whole
gives_whole one = value_whole
gives_whole several = results_whole

passed : (places : List ℕ) (b : Bool) (m : Meaning) → places ≡ [] → b ≡ true → unless_faults places b m ≡ means m
unfolding unless_faults
passed places b m e h = ap (λ x. unless_faults x b m) e ∙ ap (λ x. unless_faults [] x m) h

function_called : (w : World) (start : ℕ) (s : Signature) (vs : List ListValue) {ks : List ValueKind} → AreOf vs ks → FitInTurn w ks s.parameters →
    call_function w start s vs ≡ noting (enterings w vs s.parameters) (means (result_meaning s.results))
unfolding call_function
function_called w start s vs {ks} a f =
    ap (λ b. if b then noting (enterings w vs s.parameters) (unless_faults (misfits w vs s.parameters) (all_whole vs) (result_meaning s.results))
    else wrong_if_whole (all_whole vs) start)
    (eq-eqb (length vs) (length s.parameters) (as_many w vs a f))
    ∙ ap (noting (enterings w vs s.parameters)) (passed (misfits w vs s.parameters) (all_whole vs) (result_meaning s.results) (in_turn_silent w vs a f)
    (whole_all vs ks a))

one_converted : (w : World) (start : ℕ) (vs : List ListValue) {k : ValueKind} {t : PlainType} → AreOf vs (k ∷ []) → Converts w k t →
    IsJudgedAs (convert w start t vs) (Value (Typed t) false)
unfolding convert
one_converted w start [] a c = absurd a
one_converted w start (v ∷ []) {k} {t} a c = noted_agrees (entering w v.place v.kind t) (agrees_as (ap (convert_one w start t) a.0 ∙
    ap (λ (b : Bool). if b then means (Value (Typed t) false) else wrong start) (converts_true w c)) (means_it value_whole))
one_converted w start (v ∷ u ∷ vs) a c = absurd a.1

called_when : (fine : Bool) (vs : List ListValue) (ks : List ValueKind) (start : ℕ) (m : Meaning) → AreOf vs ks → fine ≡ true →
    call_when fine vs start m ≡ means m
called_when fine vs ks start m a h = ap (λ b. if b then (if fine then means m else wrong start) else means Broken) (whole_all vs ks a) ∙
    ap (λ b. if b then means m else wrong start) h

length_class : (w : World) {k : ValueKind} → HasLength w k → has_length (class_of w k) ≡ true
unfolding class_of
length_class w (a_string i) = ap has_length (class_true w i)
length_class w (a_slice e) = ap (λ u. has_length (class_of_underlying u)) e

len_found : (w : World) (vs : List ListValue) {k : ValueKind} → AreOf vs (k ∷ []) → HasLength w k → len_fits w vs ≡ true
len_found w [] a h = absurd a
len_found w (v ∷ []) a h = ap (len_value w) a.0 ∙ length_class w h
len_found w (v ∷ u ∷ vs) a h = absurd a.1

one_value : (vs : List ListValue) (k : ValueKind) → AreOf vs (k ∷ []) → (length vs == 1) ≡ true
one_value [] k a = absurd a
one_value (v ∷ []) k a = refl
one_value (v ∷ u ∷ vs) k a = absurd a.1

appended : (w : World) (start : ℕ) (vs : List ListValue) {t : PlainType} {ks : List ValueKind} (u : PlainType) → AreOf vs (Typed t ∷ ks) →
    underlying w t ≡ SliceOf u → ((us : List ListValue) → AreOf us ks → all_misfits w us u ≡ []) →
    IsJudgedAs (append w start vs) (Value (Typed t) false)
unfolding append
appended w start [] u a e f = absurd a
appended w start (v ∷ vs) {t} {ks} u a e f = agrees_as
    (ap (λ o. append_first w start o vs) a.0 ∙ ap (λ x. append_to w start (Typed t) (element_of x) vs) e)
    (noted_agrees (all_enterings w vs u) (agrees_as (passed (all_misfits w vs u) (all_whole vs) (Value (Typed t) false) (f vs a.1) (whole_all vs ks a.1))
    (means_it value_whole)))

pub calls_true : (w : World) (start place : ℕ) (vs : List ListValue) {m r : Meaning} {ks : List ValueKind} → AreOf vs ks → CallGives w m ks r →
    IsJudgedAs (call_of w start place vs m) r
unfolding call_of call_builtin
calls_true w start place vs a (function {s} f g) = agrees_as
    (function_called w start s vs a f ∙ ap (λ r. noting (enterings w vs s.parameters) (means r)) (gives_meaning g))
    (noted_agrees (enterings w vs s.parameters) (means_it (gives_whole g)))
calls_true w start place vs a (conversion c) = one_converted w start vs a c
calls_true w start place vs a (len {k} h) = agrees_as
    (called_when (len_fits w vs) vs (k ∷ []) start (Value (Typed (BasicType basic.Int)) false) a (len_found w vs a h)) (means_it value_whole)
calls_true w start place vs a (appends {t} {u} e f) = appended w start vs u a e (λ us b. each_silent w u us b f)
calls_true w start place vs a (panic {k}) = agrees_as (called_when (length vs == 1) vs (k ∷ []) start (Results []) a (one_value vs k a))
    (means_it results_whole)
calls_true w start place vs a (print {ks} p) = agrees_as (called_when (all_printed w vs) vs ks start (Results []) a (printed_true w vs a p))
    (means_it results_whole)
calls_true w start place vs a (println {ks} p) = agrees_as (called_when (all_printed w vs) vs ks start (Results []) a (printed_true w vs a p))
    (means_it results_whole)

-- from the judgement to the rules

-- none of the values of a call is broken, and the call has the meaning r by the rules
abbrev pub IsCall : World → List ListValue → Meaning → Meaning → Type 0
IsCall w vs m r = (ks : List ValueKind) × AreOf vs ks × CallGives w m ks r

pub gives : (ts : List PlainType) → ResultsMean ts (result_meaning ts)
gives [] = nothing
gives (t ∷ []) = one
gives (t ∷ u ∷ ts) = several

passes : (places : List ℕ) (b : Bool) (m : Meaning) → IsNotBroken (unless_faults places b m).meaning → (places ≡ []) × (b ≡ true) ×
    ((unless_faults places b m).meaning ≡ m)
unfolding unless_faults
passes [] true m n = (refl, refl, refl)
passes [] false m n = absurd (n refl)
passes (p ∷ ps) b m n = absurd (n refl)

fitting_call : (w : World) (s : Signature) (vs : List ListValue) → length vs ≡ length s.parameters →
    IsNotBroken (unless_faults (misfits w vs s.parameters) (all_whole vs) (result_meaning s.results)).meaning →
    IsCall w vs (Function s) (unless_faults (misfits w vs s.parameters) (all_whole vs) (result_meaning s.results)).meaning
fitting_call w s vs l n = let p = passes (misfits w vs s.parameters) (all_whole vs) (result_meaning s.results) n in
    let ks = kinds_of vs p.1 in
    (ks.0, ks.1, subst (λ x. CallGives w (Function s) ks.0 x) (sym p.2) (function (silent_in_turn w vs ks.0 s.parameters ks.1 l p.0) (gives s.results)))

counted_call : (w : World) (start : ℕ) (s : Signature) (vs : List ListValue) (b : Bool) → (length vs == length s.parameters) ≡ b →
    IsNotBroken (if b then noting (enterings w vs s.parameters) (unless_faults (misfits w vs s.parameters) (all_whole vs) (result_meaning s.results))
    else wrong_if_whole (all_whole vs) start).meaning →
    IsCall w vs (Function s) (if b then noting (enterings w vs s.parameters) (unless_faults (misfits w vs s.parameters) (all_whole vs)
    (result_meaning s.results)) else wrong_if_whole (all_whole vs) start).meaning
counted_call w start s vs true e n = fitting_call w s vs (eqb-true (length vs) (length s.parameters) e) n
counted_call w start s vs false e n = absurd (n (wrong_broken (all_whole vs) start))

function_call : (w : World) (start : ℕ) (s : Signature) (vs : List ListValue) → IsNotBroken (call_function w start s vs).meaning →
    IsCall w vs (Function s) (call_function w start s vs).meaning
unfolding call_function
function_call w start s vs n = counted_call w start s vs (length vs == length s.parameters) refl n

tested_conversion : (w : World) (start : ℕ) (t : PlainType) (v : ListValue) (k : ValueKind) (b : Bool) → v.kind ≡ Some k → converts w k t ≡ b →
    IsNotBroken (if b then means (Value (Typed t) false) else wrong start).meaning →
    IsCall w (v ∷ []) (TypeName t) (if b then means (Value (Typed t) false) else wrong start).meaning
tested_conversion w start t v k true e c n = (k ∷ [], (e, tt), conversion (true_converts w k t c))
tested_conversion w start t v k false e c n = absurd (n refl)

one_conversion : (w : World) (start : ℕ) (t : PlainType) (v : ListValue) (o : Option ValueKind) → v.kind ≡ o → IsNotBroken (convert_one w start t o).meaning →
    IsCall w (v ∷ []) (TypeName t) (convert_one w start t o).meaning
one_conversion w start t v None e n = absurd (n refl)
one_conversion w start t v (Some k) e n = tested_conversion w start t v k (converts w k t) e refl n

conversion_call : (w : World) (start : ℕ) (t : PlainType) (vs : List ListValue) → IsNotBroken (convert w start t vs).meaning →
    IsCall w vs (TypeName t) (convert w start t vs).meaning
unfolding convert
conversion_call w start t [] n = absurd (n (wrong_broken (all_whole []) start))
conversion_call w start t (v ∷ []) n = one_conversion w start t v v.kind refl n
conversion_call w start t (v ∷ u ∷ vs) n = absurd (n (wrong_broken (all_whole (v ∷ u ∷ vs)) start))

fine_when : (fine whole : Bool) (start : ℕ) (m : Meaning) → IsNotBroken (if whole then (if fine then means m else wrong start) else means Broken).meaning →
    (whole ≡ true) × (fine ≡ true) × ((if whole then (if fine then means m else wrong start) else means Broken).meaning ≡ m)
fine_when true true start m n = (refl, refl, refl)
fine_when false true start m n = absurd (n refl)
fine_when fine false start m n = absurd (n refl)

slice_length : (w : World) (k : ValueKind) → class_of w k ≡ class.Slice → HasLength w k
unfolding class_of
slice_length w (Typed t) e = a_slice (slice_class (underlying w t) e).1
slice_length w (Untyped b) e = cc
slice_length w Nil e = cc

length_kind : (w : World) (k : ValueKind) (c : ValueClass) → class_of w k ≡ c → has_length c ≡ true → HasLength w k
length_kind w k (class.Of basic.String) e h = a_string (class_is w k basic.String e)
length_kind w k class.Slice e h = slice_length w k e
length_kind w k c e h = absurd (true≢false (sym h))

len_kind : (w : World) (vs : List ListValue) (ks : List ValueKind) → AreOf vs ks → len_fits w vs ≡ true →
    CallGives w (BuiltinName builtin.Len) ks (Value (Typed (BasicType basic.Int)) false)
len_kind w [] ks a h = absurd (true≢false (sym h))
len_kind w (v ∷ []) (k ∷ []) a h = len (length_kind w k (class_of w k) refl (ap (len_value w) (sym a.0) ∙ h))
len_kind w (v ∷ []) [] a h = absurd a
len_kind w (v ∷ []) (k ∷ l ∷ ks) a h = absurd a.1
len_kind w (v ∷ u ∷ vs) ks a h = absurd (true≢false (sym h))

panic_kind : (w : World) (vs : List ListValue) (ks : List ValueKind) → AreOf vs ks → length vs ≡ 1 → CallGives w (BuiltinName builtin.Panic) ks (Results [])
panic_kind w (v ∷ []) (k ∷ []) a h = panic
panic_kind w [] ks a h = absurd (omega arith)
panic_kind w (v ∷ []) [] a h = absurd a
panic_kind w (v ∷ []) (k ∷ l ∷ ks) a h = absurd a.1
panic_kind w (v ∷ u ∷ vs) ks a h = absurd (omega arith)

builtin_when : (w : World) (b : Builtin) (fine : Bool) (vs : List ListValue) (start : ℕ) (m : Meaning) →
    ((ks : List ValueKind) → AreOf vs ks → fine ≡ true → CallGives w (BuiltinName b) ks m) → IsNotBroken (call_when fine vs start m).meaning →
    IsCall w vs (BuiltinName b) (call_when fine vs start m).meaning
builtin_when w b fine vs start m rule n = let p = fine_when fine (all_whole vs) start m n in
    let ks = kinds_of vs p.0 in
    (ks.0, ks.1, subst (λ x. CallGives w (BuiltinName b) ks.0 x) (sym p.2) (rule ks.0 ks.1 p.1))

append_element : (w : World) (start : ℕ) (v : ListValue) (vs : List ListValue) (t : PlainType) (u : Underlying) → v.kind ≡ Some (Typed t) → underlying w t ≡ u →
    IsNotBroken (append_to w start (Typed t) (element_of u) vs).meaning →
    IsCall w (v ∷ vs) (BuiltinName builtin.Append) (append_to w start (Typed t) (element_of u) vs).meaning
append_element w start v vs t (SliceOf x) e f n = let p = passes (all_misfits w vs x) (all_whole vs) (Value (Typed t) false) n in
    let ks = kinds_of vs p.1 in (
      Typed t ∷ ks.0,
      (e, ks.1),
      subst (λ z. CallGives w (BuiltinName builtin.Append) (Typed t ∷ ks.0) z) (sym p.2) (appends f (silent_each w x vs ks.0 ks.1
          p.0)),
    )
append_element w start v vs t (Plain b) e f n = absurd (n (wrong_broken (all_whole vs) start))
append_element w start v vs t (PointerTo x) e f n = absurd (n (wrong_broken (all_whole vs) start))
append_element w start v vs t (Struct s) e f n = absurd (n (wrong_broken (all_whole vs) start))
append_element w start v vs t (Interface s) e f n = absurd (n (wrong_broken (all_whole vs) start))

append_value : (w : World) (start : ℕ) (v : ListValue) (vs : List ListValue) (o : Option ValueKind) → v.kind ≡ o →
    IsNotBroken (append_first w start o vs).meaning →
    IsCall w (v ∷ vs) (BuiltinName builtin.Append) (append_first w start o vs).meaning
append_value w start v vs None e n = absurd (n refl)
append_value w start v vs (Some (Typed t)) e n = append_element w start v vs t (underlying w t) e refl n
append_value w start v vs (Some (Untyped b)) e n = absurd (n (wrong_broken (all_whole vs) start))
append_value w start v vs (Some Nil) e n = absurd (n (wrong_broken (all_whole vs) start))

append_call : (w : World) (start : ℕ) (vs : List ListValue) → IsNotBroken (append w start vs).meaning →
    IsCall w vs (BuiltinName builtin.Append) (append w start vs).meaning
unfolding append
append_call w start [] n = absurd (n refl)
append_call w start (v ∷ vs) n = append_value w start v vs v.kind refl n

builtin_call : (w : World) (start : ℕ) (b : Builtin) (vs : List ListValue) → IsNotBroken (call_builtin w start b vs).meaning →
    IsCall w vs (BuiltinName b) (call_builtin w start b vs).meaning
unfolding call_builtin
builtin_call w start builtin.Append vs n = append_call w start vs n
builtin_call w start builtin.Len vs n = builtin_when w builtin.Len (len_fits w vs) vs start (Value (Typed (BasicType basic.Int)) false) (len_kind w vs) n
builtin_call w start builtin.Panic vs n = builtin_when w builtin.Panic (length vs == 1) vs start (Results [])
    (λ ks a h. panic_kind w vs ks a (eqb-true (length vs) 1 h)) n
builtin_call w start builtin.Print vs n = builtin_when w builtin.Print (all_printed w vs) vs start (Results []) (λ ks a h. print (true_printed w vs ks a h)) n
builtin_call w start builtin.Println vs n = builtin_when w builtin.Println (all_printed w vs) vs start (Results [])
    (λ ks a h. println (true_printed w vs ks a h)) n

pub true_calls : (w : World) (start place : ℕ) (vs : List ListValue) (m : Meaning) → IsNotBroken (call_of w start place vs m).meaning →
    IsNotBroken m × ((ks : List ValueKind) × AreOf vs ks × CallGives w m ks (call_of w start place vs m).meaning)
unfolding call_of
true_calls w start place vs (Function s) n = (λ h. cc, function_call w start s vs n)
true_calls w start place vs (TypeName t) n = (λ h. cc, conversion_call w start t vs n)
true_calls w start place vs (BuiltinName b) n = (λ h. cc, builtin_call w start b vs n)
true_calls w start place vs (Value k a) n = absurd (n (wrong_broken (all_whole vs) start))
true_calls w start place vs Package n = absurd (n refl)
true_calls w start place vs (Results ts) n = absurd (n refl)
true_calls w start place vs Broken n = absurd (n refl)
