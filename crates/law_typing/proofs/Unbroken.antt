-- An expression with a meaning uses nothing broken.
use Rattle.std.proofs.Common.{ℕ, ◌≡◌, Bool, true, List, [], ◌∷◌, Some, refl, sym, ap, ◌∙◌, subst}
use Rattle.go_ast.specs.Tree.{TypeTree, ExprTree, LinkTrees, OperandTrees, ArgumentTrees, LiteralTree, ElementTrees}
use Rattle.types_expr.specs.Types.{PlainType, ValueKind, Typed, Meaning, Value}
use Rattle.types_expr.specs.World.{World, Locals}
use Rattle.types_expr.specs.Judge.{ListValue, TypeJudged, good_type}
use Rattle.law_typing.specs.Names.{IsType}
use Rattle.law_typing.specs.Names as names
use Rattle.law_typing.specs.Links.{SelectsMember, Indexes, CallGives}
use Rattle.law_typing.specs.Links as links
use Rattle.law_typing.specs.Meanings.{HasMeaning, LinksMean, OperandsMean, AreValues, IsLiteralOf, AreFields, AreElements}
use Rattle.law_typing.specs.Meanings as means
use Rattle.law_typing.specs.BrokenUses.{IsBrokenType, SelectsBroken, UsesBroken, LinksUseBroken, OperandsUseBroken, ArgumentsUseBroken, LiteralUsesBroken}
use Rattle.law_typing.specs.BrokenUses.{ElementsUseBroken}
use Rattle.law_typing.specs.BrokenUses as uses
use Rattle.law_typing.proofs.Naming.{type_true}
use Rattle.law_typing.proofs.Selecting.{selects_true}
use Rattle.law_typing.proofs.Arguments.{AreOf}
use Rattle.law_typing.proofs.Calling.{calls_true}
use Rattle.law_typing.proofs.ExpressionLaws.{has_one_meaning}

-- the rules determine the meaning

one_selection : (w : World) (locals : Locals) {m s r : Meaning} {n : ℕ} → SelectsMember w locals m n s → SelectsMember w locals m n r → s ≡ r
one_selection w locals a b = let x = selects_true w locals 0 a in let y = selects_true w locals 0 b in sym x.meaning ∙ y.meaning

one_element : (w : World) {m s r : Meaning} {j k : ValueKind} → Indexes w m j s → Indexes w m k r → s ≡ r
one_element w (links.element {u = u} e i) (links.element {u = v} f j) = let q : u ≡ v = cc in ap (λ z. Value (Typed z) true) q

values_at : List ValueKind → List ListValue
values_at [] = []
values_at (k ∷ ks) = record { place = 0; kind = Some k } ∷ values_at ks

values_are : (ks : List ValueKind) → AreOf (values_at ks) ks
unfolding values_at
values_are [] = tt
values_are (k ∷ ks) = (refl, values_are ks)

one_call : (w : World) {m s r : Meaning} {ks : List ValueKind} → CallGives w m ks s → CallGives w m ks r → s ≡ r
one_call w {ks = ks} a b = let x = calls_true w 0 0 (values_at ks) (values_are ks) a in let y = calls_true w 0 0 (values_at ks) (values_are ks) b in
    sym x.meaning ∙ y.meaning

one_kind : {j k : ValueKind} {a b : Bool} → Value j a ≡ Value k b → j ≡ k
one_kind e = cc

one_list : (w : World) (locals : Locals) {xs : ArgumentTrees} {js ks : List ValueKind} → AreValues w locals xs js → AreValues w locals xs ks → js ≡ ks
one_list w locals means.no_argument means.no_argument = refl
one_list w locals (means.argument {e} {k = j} {a = a} {ks = js} v more) (means.argument {k = k} {a = b} u others) =
    ap (λ z. z ∷ js) (one_kind (has_one_meaning w locals e (Value j a) (Value k b) v u)) ∙ ap (λ z. k ∷ z) (one_list w locals more others)

pub one_type : (w : World) {x : TypeTree} {t u : PlainType} → IsType w x t → IsType w x u → t ≡ u
one_type w {t = t} {u} a b = let e : good_type t ≡ good_type u = sym (type_true w a) ∙ type_true w b in
    let f : Some t ≡ Some u = ap (λ (z : TypeJudged). z.type_of) e in cc

-- types and members that are broken

pub no_type : (w : World) {x : TypeTree} {t : PlainType} → IsBrokenType w x → IsType w x t → ⊥
no_type w (uses.named e) (names.named f) = cc
no_type w (uses.imported e f) (names.imported g h) = cc
no_type w (uses.pointer b) (names.pointer i) = no_type w b i
no_type w (uses.slice b) (names.slice i) = no_type w b i

no_selection : (w : World) (locals : Locals) {m s : Meaning} {n : ℕ} → SelectsBroken w locals m n → SelectsMember w locals m n s → ⊥
no_selection w locals (uses.a_method e) (links.field f p) = cc
no_selection w locals (uses.a_method e) (links.field_through_pointer f p) = cc
no_selection w locals (uses.a_method e) (links.asked f) = cc
no_selection w locals (uses.a_method e) (links.method f) = cc
no_selection w locals (uses.a_method e) (links.method_on_pointer f) = cc
no_selection w locals (uses.a_method e) (links.method_on_variable f) = cc
no_selection w locals (uses.of_package f) (links.of_package {m = m} n) = f m n

mutual
  pub no_use : (w : World) (locals : Locals) {e : ExprTree} {m : Meaning} → UsesBroken w locals e → HasMeaning w locals e m → ⊥
  no_use w locals uses.blank h = elim h [ ]
  no_use w locals (uses.a_name f) (means.name {m = m} n) = f m n
  no_use w locals (uses.in_composite u) (means.composite l) = no_literal_use w locals u l
  no_use w locals (uses.in_address u) (means.address l) = no_literal_use w locals u l
  no_use w locals (uses.in_paren u) (means.paren h) = no_use w locals u h
  no_use w locals (uses.in_prefix u) (means.prefix h q) = no_use w locals u h
  no_use w locals (uses.in_chain u) (means.chain h more) = no_use w locals u h
  no_use w locals (uses.in_links {m = n} h u) (means.chain {e} {links = ls} {m = m} {r = r} g more) =
      no_links_use w locals u (subst (λ z. LinksMean w locals z ls r) (has_one_meaning w locals e m n g h) more)
  no_use w locals (uses.in_binary u) (means.binary h c) = no_use w locals u h
  no_use w locals (uses.in_operands u) (means.binary h c) = no_operands_use w locals u c

  no_links_use : (w : World) (locals : Locals) {m r : Meaning} {ls : LinkTrees} → LinksUseBroken w locals m ls → LinksMean w locals m ls r → ⊥
  no_links_use w locals (uses.selected b) (means.selector s more) = no_selection w locals b s
  no_links_use w locals (uses.in_index u) (means.index v i more) = no_use w locals u v
  no_links_use w locals (uses.in_call u) (means.call vs c more) = no_arguments_use w locals u vs
  no_links_use w locals (uses.behind_selector g u) (means.selector {rest = rest} {r = r} s more) =
      no_links_use w locals u (subst (λ z. LinksMean w locals z rest r) (one_selection w locals s g) more)
  no_links_use w locals (uses.behind_index g j u) (means.index {rest = rest} {r = r} v i more) = no_links_use w locals u (subst
      (λ z. LinksMean w locals z rest r) (one_element w i j) more)
  no_links_use w locals (uses.behind_call {m = m} {s = t} gs d u) (means.call {rest = rest} {r = r} vs c more) =
      no_links_use w locals u (subst (λ z. LinksMean w locals z rest r) (one_call w c (subst (λ z. CallGives w m z t) (one_list w locals gs vs) d)) more)

  no_operands_use : (w : World) (locals : Locals) {m r : Meaning} {rest : OperandTrees} → OperandsUseBroken w locals rest → OperandsMean w locals m rest r → ⊥
  no_operands_use w locals (uses.this_operand u) (means.operand v q c) = no_use w locals u v
  no_operands_use w locals (uses.other_operand u) (means.operand v q c) = no_operands_use w locals u c

  no_arguments_use : (w : World) (locals : Locals) {xs : ArgumentTrees} {ks : List ValueKind} → ArgumentsUseBroken w locals xs → AreValues w locals xs ks → ⊥
  no_arguments_use w locals (uses.this_argument u) (means.argument v more) = no_use w locals u v
  no_arguments_use w locals (uses.other_argument u) (means.argument v more) = no_arguments_use w locals u more

  no_literal_use : (w : World) (locals : Locals) {l : LiteralTree} {t : PlainType} → LiteralUsesBroken w locals l → IsLiteralOf w locals l t → ⊥
  no_literal_use w locals (uses.of_broken_type b) (means.struct_literal i e fs) = no_type w b i
  no_literal_use w locals (uses.of_broken_type b) (means.slice_literal i e vs) = no_type w b i
  no_literal_use w locals (uses.in_elements {t = t} j us) (means.struct_literal {es = es} i e fs) = no_fields_use w locals us (subst
      (λ z. AreFields w locals z [] es) (one_type w i j) fs)
  no_literal_use w locals (uses.in_elements j us) (means.slice_literal i e vs) = no_elements_use w locals us vs

  no_fields_use : (w : World) (locals : Locals) {t : PlainType} {named : List ℕ} {es : ElementTrees} → ElementsUseBroken w locals t es →
      AreFields w locals t named es → ⊥
  no_fields_use w locals (uses.a_key e) (means.field m n v f more) = cc
  no_fields_use w locals (uses.this_value u) (means.field m n v f more) = no_use w locals u v
  no_fields_use w locals (uses.other_element u) (means.field m n v f more) = no_fields_use w locals u more

  no_elements_use : (w : World) (locals : Locals) {t u : PlainType} {es : ElementTrees} → ElementsUseBroken w locals t es → AreElements w locals u es → ⊥
  no_elements_use w locals (uses.a_key e) h = elim h [ ]
  no_elements_use w locals (uses.this_value b) (means.element v f more) = no_use w locals b v
  no_elements_use w locals (uses.other_element b) (means.element v f more) = no_elements_use w locals b more
