-- Each fault that a rule of the judgement finds is where the rule is broken.
use Rattle.std.proofs.Common.{ℕ, ◌≡◌, ◌==◌, Bool, true, false, inl, inr, List, [], ◌∷◌, ◌++◌, length, Option, Some, None, refl, sym, ap, ◌∙◌, subst}
use Rattle.std.proofs.Common.{true≢false, if◌then◌else◌, All, eqb-true, eq-eqb}
use Rattle.std.proofs.lemmas.List.Elements.{All-nil, All-cons}
use Rattle.go_ast.specs.declared.syntax.BinaryOp.{BinaryOp}
use Rattle.go_ast.specs.declared.syntax.PrefixOp.{PrefixOp}
use Rattle.go_ast.specs.Tree.{ExprTree, LinkTrees}
use Rattle.go_ast.specs.Tree as tree
use Rattle.types_expr.specs.declared.types.Basic.TheVariants as basic
use Rattle.types_expr.specs.declared.types.Builtin.{Builtin}
use Rattle.types_expr.specs.declared.types.Builtin.TheVariants as builtin
use Rattle.types_expr.specs.Types.{PlainType, BasicType, Underlying, Plain, PointerTo, SliceOf, Struct}
use Rattle.types_expr.specs.Types.{Interface, ValueKind, Typed, Untyped, Nil, Signature, Meaning, Value}
use Rattle.types_expr.specs.Types.{TypeName, Function, BuiltinName, Package, Results, Broken, element_of}
use Rattle.types_expr.specs.World.{World, Locals, underlying}
use Rattle.types_expr.specs.Operations.{operate, prefixed, converts, class_of, is_int, element_of_kind}
use Rattle.types_expr.specs.Judge.{ListValue, means, wrong, means_or_wrong, value_or_wrong}
use Rattle.types_expr.specs.Judge.{as_value, value_kind, member_meaning, select, select_member, is_whole}
use Rattle.types_expr.specs.Judge.{all_whole, unless_faults, wrong_if_whole, bad_index, indexed, index_of, element_meaning, operation, prefix_of, misfits}
use Rattle.types_expr.specs.Judge.{all_misfits, result_meaning, call_function, convert, convert_one, append, append_first, append_to, len_fits, all_printed}
use Rattle.types_expr.specs.Judge.{call_builtin, call_of, noting, enterings}
use Rattle.law_typing.specs.Operators.{IsBasic, Operates, Prefixes}
use Rattle.law_typing.specs.Names.{IsNotBroken}
use Rattle.law_typing.specs.Links.{SelectsMember, Indexes, element}
use Rattle.law_typing.specs.Meanings.{HasMeaning}
use Rattle.law_typing.specs.Faults.{IsNoValue, MeaningOrNone, meant, unmeant, LinksHaveFault, no_member, no_selection, behind_selector, behind_no_selector}
use Rattle.law_typing.specs.Faults.{IsNoCallee, a_package, a_call}
use Rattle.law_typing.specs.BrokenUses.{SelectsBroken, a_method, of_package}
use Rattle.law_typing.proofs.Judgements.{value_whole, function_whole, results_whole, wrong_broken}
use Rattle.law_typing.proofs.Tests.{and_both}
use Rattle.law_typing.proofs.Classes.{class_true, is_of_int}
use Rattle.law_typing.proofs.Operating.{operates_true, prefixes_true}
use Rattle.law_typing.proofs.Selecting.{selects_true, true_selects}
use Rattle.law_typing.proofs.BrokenRules.{whole_or_broken}

-- P holds of each number of the list
abbrev pub Each : (ℕ → Type 0) → List ℕ → Type 0
Each P [] = Unit {0}
Each P (x ∷ xs) = P x × Each P xs

pub each_all : (P : ℕ → Type 0) (xs : List ℕ) → Each P xs → All P xs
each_all P [] h = All-nil P
each_all P (x ∷ xs) h = All-cons P x xs h.0 (each_all P xs h.1)

pub each_append : (P : ℕ → Type 0) (xs ys : List ℕ) → Each P xs → Each P ys → Each P (xs ++ ys)
each_append P [] ys h k = k
each_append P (x ∷ xs) ys h k = (h.0, each_append P xs ys h.1 k)

-- the meaning of an operand, none where it is broken
abbrev pub status : Meaning → Option Meaning
status (Value k a) = Some (Value k a)
status (TypeName t) = Some (TypeName t)
status (Function s) = Some (Function s)
status (BuiltinName b) = Some (BuiltinName b)
status Package = Some Package
status (Results ts) = Some (Results ts)
status Broken = None

pub whole_status : (m : Meaning) → IsNotBroken m → status m ≡ Some m
whole_status (Value k a) n = refl
whole_status (TypeName t) n = refl
whole_status (Function s) n = refl
whole_status (BuiltinName b) n = refl
whole_status Package n = refl
whole_status (Results ts) n = refl
whole_status Broken n = absurd (n refl)

pub operand_status : {w : World} {locals : Locals} {e : ExprTree} (m : Meaning) → (IsNotBroken m → HasMeaning w locals e m) →
    MeaningOrNone w locals e (status m)
operand_status (Value k a) f = meant (f value_whole)
operand_status (TypeName t) f = meant (f (λ h. cc))
operand_status (Function s) f = meant (f function_whole)
operand_status (BuiltinName b) f = meant (f (λ h. cc))
operand_status Package f = meant (f (λ h. cc))
operand_status (Results ts) f = meant (f results_whole)
operand_status Broken f = unmeant

-- values

pub as_value_each : (P : ℕ → Type 0) (place : ℕ) (m : Meaning) → (IsNotBroken m → IsNoValue m → P place) → Each P (as_value place m).faults
unfolding as_value
as_value_each P place (Value k a) f = tt
as_value_each P place (TypeName t) f = (f (λ h. cc) (λ k a h. cc), tt)
as_value_each P place (Function s) f = (f (λ h. cc) (λ k a h. cc), tt)
as_value_each P place (BuiltinName b) f = (f (λ h. cc) (λ k a h. cc), tt)
as_value_each P place Package f = (f (λ h. cc) (λ k a h. cc), tt)
as_value_each P place (Results ts) f = (f (λ h. cc) (λ k a h. cc), tt)
as_value_each P place Broken f = tt

-- operators

prefix_chosen : (P : ℕ → Type 0) (w : World) (o : PrefixOp) (p : ℕ) (k : ValueKind) (r : Option Meaning) → prefixed w o k ≡ r →
    (((m : Meaning) → Prefixes w o k m → ⊥) → P p) → Each P (means_or_wrong r p).faults
prefix_chosen P w o p k None e f = (f (λ m h. let c : None ≡ Some m = sym e ∙ prefixes_true w h in cc), tt)
prefix_chosen P w o p k (Some m) e f = tt

pub prefix_each : (P : ℕ → Type 0) (w : World) (o : PrefixOp) (p place : ℕ) (m : Meaning) →
    ((k : ValueKind) (a : Bool) → m ≡ Value k a → ((r : Meaning) → Prefixes w o k r → ⊥) → P p) → Each P (prefix_of w o p (as_value place m).meaning).faults
unfolding prefix_of as_value
prefix_each P w o p place (Value k a) f = prefix_chosen P w o p k (prefixed w o k) refl (f k a refl)
prefix_each P w o p place (TypeName t) f = tt
prefix_each P w o p place (Function s) f = tt
prefix_each P w o p place (BuiltinName b) f = tt
prefix_each P w o p place Package f = tt
prefix_each P w o p place (Results ts) f = tt
prefix_each P w o p place Broken f = tt

operation_chosen : (P : ℕ → Type 0) (w : World) (o : BinaryOp) (start : ℕ) (j k : ValueKind) (r : Option ValueKind) → operate w o j k ≡ r →
    (((l : ValueKind) → Operates w o j k l → ⊥) → P start) → Each P (value_or_wrong r start).faults
operation_chosen P w o start j k None e f = (f (λ l h. let c : None ≡ Some l = sym e ∙ operates_true w h in cc), tt)
operation_chosen P w o start j k (Some l) e f = tt

pub operation_each : (P : ℕ → Type 0) (w : World) (o : BinaryOp) (start place : ℕ) (m n : Meaning) →
    ((j k : ValueKind) (a b : Bool) → m ≡ Value j a → n ≡ Value k b → ((l : ValueKind) → Operates w o j k l → ⊥) → P start) →
    Each P (operation w o start m (as_value place n).meaning).faults
unfolding operation value_kind as_value
operation_each P w o start place (Value j a) (Value k b) f = operation_chosen P w o start j k (operate w o j k) refl (f j k a b refl refl)
operation_each P w o start place (Value j a) (TypeName t) f = tt
operation_each P w o start place (Value j a) (Function s) f = tt
operation_each P w o start place (Value j a) (BuiltinName x) f = tt
operation_each P w o start place (Value j a) Package f = tt
operation_each P w o start place (Value j a) (Results ts) f = tt
operation_each P w o start place (Value j a) Broken f = tt
operation_each P w o start place (TypeName t) n f = tt
operation_each P w o start place (Function s) n f = tt
operation_each P w o start place (BuiltinName x) n f = tt
operation_each P w o start place Package n f = tt
operation_each P w o start place (Results ts) n f = tt
operation_each P w o start place Broken n f = tt

-- selectors

refused_selection : (w : World) (locals : Locals) (place name : ℕ) (m s : Meaning) → (select w locals place name m).meaning ≡ Broken →
    SelectsMember w locals m name s → ⊥
refused_selection w locals place name m s e h = let g = selects_true w locals place h in g.whole (sym g.meaning ∙ e)

no_names : {A : Type 0} (name : ℕ) → (name ∷ []) ≡ [] → A
no_names name h = cc

broken_selection : (w : World) (locals : Locals) (place : ℕ) {m : Meaning} {name : ℕ} → SelectsBroken w locals m name →
    (select w locals place name m).faults ≡ []
unfolding select select_member
broken_selection w locals place (a_method {t} {a} {name} e) = ap (λ z. (means_or_wrong (member_meaning w t a z) name).faults) e
broken_selection w locals place (of_package n) = refl

member_each : (P : ℕ → Type 0) (name : ℕ) (r : Option Meaning) → (r ≡ None → P name) → Each P (means_or_wrong r name).faults
member_each P name None f = (f refl, tt)
member_each P name (Some m) f = tt

pub select_each : (P : ℕ → Type 0) (w : World) (locals : Locals) (start place d n : ℕ) (rest : LinkTrees) (m : Meaning) →
    ((p : ℕ) → LinksHaveFault w locals start place (status m) (tree.selector d n rest) p → P p) →
    Each P (select w locals place n m).faults
unfolding select select_member
select_each P w locals start place d n rest (Value (Typed t) a) f =
    member_each P n (member_meaning w t a (w.member n t))
    (λ e. f n (no_member (λ s h. refused_selection w locals place n (Value (Typed t) a) s (ap (λ z. (means_or_wrong z n).meaning) e) h)
    (λ h. no_names n (sym (ap (λ z. (means_or_wrong z n).faults) e) ∙ broken_selection w locals place h))))
select_each P w locals start place d n rest (Value (Untyped b) a) f =
    (f n (no_member (λ s h. refused_selection w locals place n (Value (Untyped b) a) s refl h) (λ h. no_names n (broken_selection w locals place h))), tt)
select_each P w locals start place d n rest (Value Nil a) f =
    (f n (no_member (λ s h. refused_selection w locals place n (Value Nil a) s refl h) (λ h. no_names n (broken_selection w locals place h))), tt)
select_each P w locals start place d n rest (TypeName t) f = (f place (no_selection ((λ k a h. cc), (λ h. cc))), tt)
select_each P w locals start place d n rest (Function s) f = (f place (no_selection ((λ k a h. cc), (λ h. cc))), tt)
select_each P w locals start place d n rest (BuiltinName b) f = (f place (no_selection ((λ k a h. cc), (λ h. cc))), tt)
select_each P w locals start place d n rest Package f = tt
select_each P w locals start place d n rest (Results ts) f = (f place (no_selection ((λ k a h. cc), (λ h. cc))), tt)
select_each P w locals start place d n rest Broken f = tt

pub behind_select : (w : World) (locals : Locals) (start place d n p : ℕ) (rest : LinkTrees) (m : Meaning) →
    LinksHaveFault w locals start n (status (select w locals place n m).meaning) rest p →
    LinksHaveFault w locals start place (status m) (tree.selector d n rest) p
behind_select w locals start place d n p rest m h = elim (whole_or_broken (select w locals place n m).meaning) [
  | inl q ↦ (let s = true_selects w locals place n m q in
      subst (λ z. LinksHaveFault w locals start place z (tree.selector d n rest) p) (sym (whole_status m s.0))
      (behind_selector s.1 (subst (λ z. LinksHaveFault w locals start n z rest p) (whole_status (select w locals place n m).meaning q) h)))
  | inr e ↦ behind_no_selector (subst (λ z. LinksHaveFault w locals start n (status z) rest p) e h)
]

-- indexes

slice_or_not : (P : ℕ → Type 0) (w : World) (start : ℕ) (s : ValueKind) (b : Bool) (o : Option PlainType) → (o ≡ None → P start) →
    Each P (element_meaning o start).faults
slice_or_not P w start s b None f = (f refl, tt)
slice_or_not P w start s b (Some t) f = tt

int_or_not : (P : ℕ → Type 0) (w : World) (start place : ℕ) (m : Meaning) (b : Bool) → (b ≡ false → P place) →
    ((s : ValueKind) (x : Bool) → b ≡ true → m ≡ Value s x → element_of_kind w s ≡ None → P start) →
    Each P (indexed w start (if b then [] else (place ∷ [])) true m).faults
unfolding indexed
int_or_not P w start place m false f g = (f refl, tt)
int_or_not P w start place (Value s x) true f g = slice_or_not P w start s x (element_of_kind w s) (λ e. g s x refl refl e)
int_or_not P w start place (TypeName t) true f g = tt
int_or_not P w start place (Function s) true f g = tt
int_or_not P w start place (BuiltinName s) true f g = tt
int_or_not P w start place Package true f g = tt
int_or_not P w start place (Results s) true f g = tt
int_or_not P w start place Broken true f g = tt

nothing_indexed : (P : ℕ → Type 0) (w : World) (start : ℕ) (m : Meaning) → Each P (indexed w start [] false m).faults
unfolding indexed
nothing_indexed P w start m = tt

not_of_int : (w : World) (k : ValueKind) → is_int (class_of w k) ≡ false → IsBasic w k basic.Int → ⊥
not_of_int w k e i = true≢false (sym (ap is_int (class_true w i)) ∙ e)

pub no_slice_here : {w : World} {m : Meaning} {k : ValueKind} {r : Meaning} → Indexes w m k r → (s : ValueKind) (x : Bool) → m ≡ Value s x →
    element_of_kind w s ≡ None → ⊥
no_slice_here {w} (element {t} {u} {a} e i) s x same none = let q : Typed t ≡ s = cc in
    let c : Some u ≡ None = sym (ap element_of e) ∙ (ap (element_of_kind w) q ∙ none) in cc

pub index_each : (P : ℕ → Type 0) (w : World) (start place : ℕ) (m i : Meaning) → ((k : ValueKind) (a : Bool) → i ≡ Value k a → (IsBasic w k basic.Int →
    ⊥) → P place) →
    ((s k : ValueKind) (x a : Bool) → m ≡ Value s x → i ≡ Value k a → IsBasic w k basic.Int → element_of_kind w s ≡ None → P start) →
    Each P (index_of w start place m i).faults
unfolding index_of bad_index value_kind
index_each P w start place m (Value k a) f g = int_or_not P w start place m (is_int (class_of w k)) (λ e. f k a refl (not_of_int w k e))
    (λ s x b e n. g s k x a e refl (is_of_int w k b) n)
index_each P w start place m (TypeName t) f g = nothing_indexed P w start m
index_each P w start place m (Function t) f g = nothing_indexed P w start m
index_each P w start place m (BuiltinName t) f g = nothing_indexed P w start m
index_each P w start place m Package f g = nothing_indexed P w start m
index_each P w start place m (Results t) f g = nothing_indexed P w start m
index_each P w start place m Broken f g = nothing_indexed P w start m

-- calls

pub whole_each : (P : ℕ → Type 0) (b : Bool) (start : ℕ) → (b ≡ true → P start) → Each P (wrong_if_whole b start).faults
whole_each P true start f = (f refl, tt)
whole_each P false start f = tt

pub unless_each : (P : ℕ → Type 0) (places : List ℕ) (b : Bool) (m : Meaning) → Each P places → Each P (unless_faults places b m).faults
unfolding unless_faults
unless_each P [] true m h = tt
unless_each P [] false m h = tt
unless_each P (x ∷ xs) b m h = h

-- why a call of whole arguments is wrong by itself: a wrong count; nothing to append to
abbrev pub AppendsToNone : World → List ListValue → Type 0
AppendsToNone w [] = Unit {0}
AppendsToNone w (v ∷ vs) = (t u : PlainType) → v.kind ≡ Some (Typed t) → underlying w t ≡ SliceOf u → ⊥

abbrev pub IsWrong : World → List ListValue → Meaning → Type 0
IsWrong w vs (Function s) = length vs ≡ length s.parameters → ⊥
IsWrong w vs (BuiltinName builtin.Append) = AppendsToNone w vs
IsWrong w vs m = Unit {0}

count_each : (P : ℕ → Type 0) (w : World) (start : ℕ) (s : Signature) (vs : List ListValue) (b : Bool) → (b ≡ true → Each P (misfits w vs s.parameters)) →
    (b ≡ false → all_whole vs ≡ true → (if b then noting (enterings w vs s.parameters) (unless_faults (misfits w vs s.parameters) (all_whole vs)
    (result_meaning s.results)) else wrong_if_whole (all_whole vs) start).meaning ≡ Broken → P start) →
    Each P (if b then noting (enterings w vs s.parameters) (unless_faults (misfits w vs s.parameters) (all_whole vs) (result_meaning s.results))
    else wrong_if_whole (all_whole vs) start).faults
count_each P w start s vs true f g = unless_each P (misfits w vs s.parameters) (all_whole vs) (result_meaning s.results) (f refl)
count_each P w start s vs false f g = whole_each P (all_whole vs) start (λ a. g refl a (wrong_broken (all_whole vs) start))

converts_each : (P : ℕ → Type 0) (start : ℕ) (t : PlainType) (b : Bool) →
    ((if b then means (Value (Typed t) false) else wrong start).meaning ≡ Broken → P start) →
    Each P (if b then means (Value (Typed t) false) else wrong start).faults
converts_each P start t true f = tt
converts_each P start t false f = (f refl, tt)

one_each : (P : ℕ → Type 0) (w : World) (start : ℕ) (t : PlainType) (o : Option ValueKind) →
    (is_whole o ≡ true → (convert_one w start t o).meaning ≡ Broken → P start) → Each P (convert_one w start t o).faults
one_each P w start t None f = tt
one_each P w start t (Some k) f = converts_each P start t (converts w k t) (f refl)

conversion_each : (P : ℕ → Type 0) (w : World) (start : ℕ) (t : PlainType) (vs : List ListValue) →
    (all_whole vs ≡ true → (convert w start t vs).meaning ≡ Broken → P start) → Each P (convert w start t vs).faults
unfolding convert all_whole
conversion_each P w start t [] f = (f refl refl, tt)
conversion_each P w start t (v ∷ []) f = one_each P w start t v.kind (λ a. f (and_both (is_whole v.kind) true a refl))
conversion_each P w start t (v ∷ u ∷ vs) f = whole_each P (all_whole (v ∷ u ∷ vs)) start (λ a. f a (wrong_broken (all_whole (v ∷ u ∷ vs)) start))

fine_each : (P : ℕ → Type 0) (fine whole : Bool) (start : ℕ) (m : Meaning) →
    (whole ≡ true → (if whole then (if fine then means m else wrong start) else means Broken).meaning ≡ Broken → P start) →
    Each P (if whole then (if fine then means m else wrong start) else means Broken).faults
fine_each P true true start m f = tt
fine_each P false true start m f = (f refl refl, tt)
fine_each P fine false start m f = tt

-- what may be wrong with a call of append
abbrev pub ElementsMisfit : (ℕ → Type 0) → World → List ListValue → Type 0
ElementsMisfit P w [] = Unit {0}
ElementsMisfit P w (v ∷ vs) = (t u : PlainType) → v.kind ≡ Some (Typed t) → underlying w t ≡ SliceOf u → Each P (all_misfits w vs u)

element_each : (P : ℕ → Type 0) (w : World) (start : ℕ) (k : ValueKind) (vs : List ListValue) (u : Underlying) →
    ((x : PlainType) → u ≡ SliceOf x → Each P (all_misfits w vs x)) →
    (((x : PlainType) → u ≡ SliceOf x → ⊥) → all_whole vs ≡ true → (append_to w start k (element_of u) vs).meaning ≡ Broken → P start) →
    Each P (append_to w start k (element_of u) vs).faults
element_each P w start k vs (SliceOf x) f g = unless_each P (all_misfits w vs x) (all_whole vs) (Value k false) (f x refl)
element_each P w start k vs (Plain b) f g = whole_each P (all_whole vs) start (λ a. g (λ y h. cc) a (wrong_broken (all_whole vs) start))
element_each P w start k vs (PointerTo x) f g = whole_each P (all_whole vs) start (λ a. g (λ y h. cc) a (wrong_broken (all_whole vs) start))
element_each P w start k vs (Struct s) f g = whole_each P (all_whole vs) start (λ a. g (λ y h. cc) a (wrong_broken (all_whole vs) start))
element_each P w start k vs (Interface s) f g = whole_each P (all_whole vs) start (λ a. g (λ y h. cc) a (wrong_broken (all_whole vs) start))

underlying_along : (w : World) (t y : PlainType) {u : PlainType} → Some (Typed t) ≡ Some (Typed y) → underlying w y ≡ SliceOf u → underlying w t ≡ SliceOf u
underlying_along w t y h e = let same : t ≡ y = cc in ap (underlying w) same ∙ e

first_each : (P : ℕ → Type 0) (w : World) (start : ℕ) (vs : List ListValue) (o : Option ValueKind) →
    ((t u : PlainType) → o ≡ Some (Typed t) → underlying w t ≡ SliceOf u → Each P (all_misfits w vs u)) →
    (((t u : PlainType) → o ≡ Some (Typed t) → underlying w t ≡ SliceOf u → ⊥) → is_whole o ≡ true → all_whole vs ≡ true →
    (append_first w start o vs).meaning ≡ Broken → P start) → Each P (append_first w start o vs).faults
first_each P w start vs None f g = tt
first_each P w start vs (Some (Typed t)) f g = element_each P w start (Typed t) vs (underlying w t) (λ x e. f t x refl e)
    (λ n. g (λ y u h e. n u (underlying_along w t y h e)) refl)
first_each P w start vs (Some (Untyped b)) f g = whole_each P (all_whole vs) start (λ a. g (λ t u h e. cc) refl a (wrong_broken (all_whole vs) start))
first_each P w start vs (Some Nil) f g = whole_each P (all_whole vs) start (λ a. g (λ t u h e. cc) refl a (wrong_broken (all_whole vs) start))

append_each : (P : ℕ → Type 0) (w : World) (start : ℕ) (vs : List ListValue) → ElementsMisfit P w vs →
    (AppendsToNone w vs → all_whole vs ≡ true → (append w start vs).meaning ≡ Broken → P start) → Each P (append w start vs).faults
unfolding append all_whole
append_each P w start [] f g = (g tt refl refl, tt)
append_each P w start (v ∷ vs) f g = first_each P w start vs v.kind f (λ n a b. g n (and_both (is_whole v.kind) (all_whole vs) a b))

builtin_each : (P : ℕ → Type 0) (w : World) (start : ℕ) (b : Builtin) (vs : List ListValue) → (b ≡ builtin.Append → ElementsMisfit P w vs) →
    (IsWrong w vs (BuiltinName b) → all_whole vs ≡ true → (call_builtin w start b vs).meaning ≡ Broken → P start) →
    Each P (call_builtin w start b vs).faults
unfolding call_builtin
builtin_each P w start builtin.Append vs f g = append_each P w start vs (f refl) g
builtin_each P w start builtin.Len vs f g = fine_each P (len_fits w vs) (all_whole vs) start (Value (Typed (BasicType basic.Int)) false) (g tt)
builtin_each P w start builtin.Panic vs f g = fine_each P (length vs == 1) (all_whole vs) start (Results []) (g tt)
builtin_each P w start builtin.Print vs f g = fine_each P (all_printed w vs) (all_whole vs) start (Results []) (g tt)
builtin_each P w start builtin.Println vs f g = fine_each P (all_printed w vs) (all_whole vs) start (Results []) (g tt)

pub call_each : (P : ℕ → Type 0) (w : World) (start place : ℕ) (vs : List ListValue) (m : Meaning) → (IsNoCallee m → P place) →
    ((s : Signature) → m ≡ Function s → length vs ≡ length s.parameters → Each P (misfits w vs s.parameters)) →
    (m ≡ BuiltinName builtin.Append → ElementsMisfit P w vs) →
    (IsNotBroken m → IsWrong w vs m → all_whole vs ≡ true → (call_of w start place vs m).meaning ≡ Broken → P start) →
    Each P (call_of w start place vs m).faults
unfolding call_of call_function
call_each P w start place vs (Function s) f g h i =
    count_each P w start s vs (length vs == length s.parameters) (λ e. g s refl (eqb-true (length vs) (length s.parameters) e))
    (λ e. i function_whole (λ l. true≢false (sym (eq-eqb (length vs) (length s.parameters) l) ∙ e)))
call_each P w start place vs (TypeName t) f g h i = conversion_each P w start t vs (i (λ q. cc) tt)
call_each P w start place vs (BuiltinName b) f g h i = builtin_each P w start b vs (λ e. h (ap BuiltinName e)) (i (λ q. cc))
call_each P w start place vs (Value k x) f g h i = whole_each P (all_whole vs) start (λ a. i value_whole tt a (wrong_broken (all_whole vs) start))
call_each P w start place vs Package f g h i = (f a_package, tt)
call_each P w start place vs (Results ts) f g h i = (f a_call, tt)
call_each P w start place vs Broken f g h i = tt
