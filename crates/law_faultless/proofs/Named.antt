-- An expression whose names all mean something uses nothing that is broken.
use Rattle.std.proofs.Common.{ℕ, suc, ◌≡◌, ◌⊎◌, Bool, true, false, List, [], ◌∷◌, ◌++◌, ap, subst, refl, ◌∙◌, arith}
use Rattle.std.specs.List.{AllByRecursion}
use Rattle.std.proofs.lemmas.Bool.{true≢false}
use Rattle.base_lemmas.proofs.EachElement.{all_front, all_back}
use Rattle.go_ast.specs.declared.syntax.Kind.TheVariants as kind
use Rattle.go_ast.specs.Flatten.{sign, sign_if, type_tokens, key_tokens, expr_tokens, operand_tokens, link_tokens, argument_tokens, literal_tokens}
use Rattle.go_ast.specs.Flatten.{element_tokens}
use Rattle.go_ast.specs.Tree.{TypeTree, ExprTree, LinkTrees, OperandTrees, ArgumentTrees, LiteralTree, ElementTrees}
use Rattle.go_scope.specs.declared.model.Role.{Role}
use Rattle.go_scope.specs.declared.model.Role.TheVariants.{Use, LeftName, NotLexical}
use Rattle.go_scope.specs.declared.model.Purpose.TheVariants as purpose
use Rattle.go_scope.specs.Site.{Site, TokenSpellings}
use Rattle.go_scope.specs.ExpressionSites.{type_sites, key_sites, expr_sites, operand_sites, link_sites, argument_sites, literal_sites, element_sites}
use Rattle.types_expr.specs.Types.{PlainType, ValueKind, Typed, Meaning, Value, Package}
use Rattle.types_expr.specs.World.{World, Locals, Local, Means}
use Rattle.law_typing.specs.Operators.{IsUntyped, Prefixes}
use Rattle.law_typing.specs.Operators as operators
use Rattle.law_typing.specs.Names.{NameMeans, a_local, a_bound}
use Rattle.law_typing.specs.Links.{SelectsMember, Indexes, CallGives, ResultsMean}
use Rattle.law_typing.specs.Links as links
use Rattle.law_typing.specs.Meanings.{HasMeaning, LinksMean, OperandsMean}
use Rattle.law_typing.specs.Meanings as means
use Rattle.law_typing.specs.BrokenUses.{IsBrokenType, UsesBroken, LinksUseBroken, OperandsUseBroken, ArgumentsUseBroken, LiteralUsesBroken}
use Rattle.law_typing.specs.BrokenUses.{ElementsUseBroken}
use Rattle.law_typing.specs.BrokenUses as uses
use Rattle.law_faultless.specs.Unbroken.{IsUnbroken}
use Rattle.law_faultless.proofs.NumberedTokens.{Strung, strung_split}

-- a name means something: a lexical use, which is no `_`; one behind the name of a package; a left name that declares nothing
abbrev pub IsNamed : World → (ℕ → Type 0) → Locals → ℕ → Role → Type 0
IsNamed w B ls n Use = ((m : Meaning) × NameMeans w ls n m) × (B n → ⊥)
IsNamed w B ls n (NotLexical purpose.Selected) = (b : ℕ) → suc (suc b) ≡ n → w.bound b ≡ Means Package → (m : Meaning) × NameMeans w ls n m
IsNamed w B ls n (LeftName block start) = (w.bound n ≡ Local n) ⊎ ((t : PlainType) × NameMeans w ls n (Value (Typed t) true))
IsNamed w B ls n r = Unit {0}

abbrev pub AreNamed : World → (ℕ → Type 0) → Locals → List Site → Type 0
AreNamed w B ls xs = AllByRecursion (λ x. IsNamed w B ls x.place.index x.role) xs

pub no_broken_type : (w : World) → IsUnbroken w → {x : TypeTree} → IsBrokenType w x → ⊥
no_broken_type w u (uses.named {n} e) = u.types n e
no_broken_type w u (uses.imported {n = n} e f) = u.types n f
no_broken_type w u (uses.pointer b) = no_broken_type w u b
no_broken_type w u (uses.slice b) = no_broken_type w u b

-- The name of a package stands right before its end.

abbrev EndsInPackage : World → Meaning → ℕ → Type 0
EndsInPackage w m k = m ≡ Package → (b : ℕ) × ((suc b ≡ k) × (w.bound b ≡ Means Package))

no_package : {A : Type 0} {k : ValueKind} {a : Bool} → Value k a ≡ Package → A
no_package e = let z : ⊥ = cc in absurd z

selection_ends : (w : World) (ls : Locals) {m s : Meaning} {n : ℕ} → SelectsMember w ls m n s → EndsInPackage w s (suc n)
selection_ends w ls (links.field e p) q = no_package q
selection_ends w ls (links.field_through_pointer e p) q = no_package q
selection_ends w ls (links.asked e) q = let z : ⊥ = cc in absurd z
selection_ends w ls (links.method e) q = let z : ⊥ = cc in absurd z
selection_ends w ls (links.method_on_pointer e) q = let z : ⊥ = cc in absurd z
selection_ends w ls (links.method_on_variable e) q = let z : ⊥ = cc in absurd z
selection_ends w ls (links.of_package (a_local e f)) q = no_package q
selection_ends w ls (links.of_package {name = n} (a_bound e h)) q = (n, (refl, e ∙ ap Means q))

given_ends : {ts : List PlainType} {m : Meaning} → ResultsMean ts m → m ≡ Package → ⊥
given_ends links.nothing q = cc
given_ends links.one q = cc
given_ends links.several q = cc

call_ends : (w : World) {m s : Meaning} {ks : List ValueKind} → CallGives w m ks s → s ≡ Package → ⊥
call_ends w (links.function f g) q = given_ends g q
call_ends w (links.conversion c) q = cc
call_ends w (links.len h) q = cc
call_ends w (links.append e f) q = cc
call_ends w links.panic q = cc
call_ends w (links.print p) q = cc
call_ends w (links.println p) q = cc

index_ends : (w : World) {m s : Meaning} {k : ValueKind} → Indexes w m k s → s ≡ Package → ⊥
index_ends w (links.element e i) q = cc

prefix_ends : (w : World) {o : _} {k : ValueKind} {m : Meaning} → Prefixes w o k m → m ≡ Package → ⊥
prefix_ends w (operators.plus h) q = cc
prefix_ends w (operators.negates h) q = cc
prefix_ends w (operators.denies h) q = cc
prefix_ends w (operators.follows e) q = cc

operands_end : (w : World) (ls : Locals) {k : ValueKind} {a : Bool} {r : Meaning} {os : OperandTrees} → OperandsMean w ls (Value k a) os r → r ≡ Package → ⊥
operands_end w ls means.no_operand q = cc
operands_end w ls (means.operand v o c) q = operands_end w ls c q

links_end : (w : World) (B : ℕ → Type 0) (ls : Locals) (n k : ℕ) {m r : Meaning} {xs : LinkTrees} → LinksMean w ls m xs r → Strung B n (link_tokens xs) k →
    EndsInPackage w m n → EndsInPackage w r k
unfolding link_tokens
links_end w B ls n k means.no_link h p = subst (EndsInPackage w _) h p
links_end w B ls n k (means.selector {n = name} {s = s} sel more) h p =
    let at : name ≡ suc n = h.1.1.0 in
    links_end w B ls (suc (suc n)) k more h.1.1.1.1 (subst (λ i. EndsInPackage w s i) (let same : suc name ≡ suc (suc n) = ap suc at in same)
    (selection_ends w ls sel))
links_end w B ls n k (means.index {e = e} {rest = rest} v i more) h p =
    let x = strung_split B (suc n) (expr_tokens e) (sign kind.RightBracket _ ∷ link_tokens rest) k h.1.1 in
    links_end w B ls (suc x.0) k more x.1.1.1.1 (λ q. absurd (index_ends w i q))
links_end w B ls n k (means.call {arguments = xs} {rest = rest} vs c more) h p =
    let x = strung_split B (suc n) (argument_tokens xs) (sign kind.RightParen _ ∷ link_tokens rest) k h.1.1 in
    links_end w B ls (suc x.0) k more x.1.1.1.1 (λ q. absurd (call_ends w c q))

expr_ends : (w : World) (B : ℕ → Type 0) (ls : Locals) (n k : ℕ) {e : ExprTree} {m : Meaning} → HasMeaning w ls e m → Strung B n (expr_tokens e) k →
    EndsInPackage w m k
unfolding expr_tokens
expr_ends w B ls n k means.number h q = no_package q
expr_ends w B ls n k means.text h q = no_package q
expr_ends w B ls n k (means.name (a_local e f)) h q = no_package q
expr_ends w B ls n k (means.name {p} (a_bound e whole)) h q = (p, (ap suc h.0 ∙ h.1.1, e ∙ ap Means q))
expr_ends w B ls n k (means.composite l) h q = no_package q
expr_ends w B ls n k (means.paren v) h q = no_package q
expr_ends w B ls n k (means.prefix v p) h q = absurd (prefix_ends w p q)
expr_ends w B ls n k (means.address l) h q = no_package q
expr_ends w B ls n k (means.chain {e} {links = xs} v more) h q =
    let x = strung_split B n (expr_tokens e) (link_tokens xs) k h in
    links_end w B ls x.0 k more x.1.1 (expr_ends w B ls n x.0 v x.1.0) q
expr_ends w B ls n k (means.binary v c) h q = absurd (operands_end w ls c q)

-- Nothing broken is used.

mutual
  unfolding expr_sites expr_tokens

  pub no_use : (w : World) (B : ℕ → Type 0) (ls : Locals) (s : TokenSpellings) (u : IsUnbroken w) (n k : ℕ) {e : ExprTree} → UsesBroken w ls e →
      AreNamed w B ls (expr_sites s e) → Strung B n (expr_tokens e) k → ⊥
  no_use w B ls s u n k uses.blank h t = h.0.1 (t.1.0 refl)
  no_use w B ls s u n k (uses.a_name f) h t = f h.0.0.0 h.0.0.1
  no_use w B ls s u n k (uses.in_composite b) h t = no_literal_use w B ls s u n k b h t
  no_use w B ls s u n k (uses.in_address b) h t = no_literal_use w B ls s u (suc n) k b h t.1.1
  no_use w B ls s u n k (uses.in_paren {c = c} {e = e} b) h t =
      let x = strung_split B (suc n) (expr_tokens e) (sign kind.RightParen c ∷ []) k t.1.1 in no_use w B ls s u (suc n) x.0 b h x.1.0
  no_use w B ls s u n k (uses.in_prefix b) h t = no_use w B ls s u (suc n) k b h t.1.1
  no_use w B ls s u n k (uses.in_chain {e} {links = xs} b) h t =
      let x = strung_split B n (expr_tokens e) (link_tokens xs) k t in
      no_use w B ls s u n x.0 b (all_front (λ y. IsNamed w B ls y.place.index y.role) (expr_sites s e) (link_sites s xs) h) x.1.0
  no_use w B ls s u n k (uses.in_links {e} {links = xs} v b) h t =
      let x = strung_split B n (expr_tokens e) (link_tokens xs) k t in
      no_links_use w B ls s u x.0 k b (all_back (λ y. IsNamed w B ls y.place.index y.role) (expr_sites s e) (link_sites s xs) h) x.1.1
      (expr_ends w B ls n x.0 v x.1.0)
  no_use w B ls s u n k (uses.in_binary {e} {rest} b) h t =
      let x = strung_split B n (expr_tokens e) (operand_tokens rest) k t in
      no_use w B ls s u n x.0 b (all_front (λ y. IsNamed w B ls y.place.index y.role) (expr_sites s e) (operand_sites s rest) h) x.1.0
  no_use w B ls s u n k (uses.in_operands {e} {rest} b) h t =
      let x = strung_split B n (expr_tokens e) (operand_tokens rest) k t in
      no_operands_use w B ls s u x.0 k b (all_back (λ y. IsNamed w B ls y.place.index y.role) (expr_sites s e) (operand_sites s rest) h) x.1.1

  no_links_use : (w : World) (B : ℕ → Type 0) (ls : Locals) (s : TokenSpellings) (u : IsUnbroken w) (n k : ℕ) {m : Meaning} {xs : LinkTrees} →
      LinksUseBroken w ls m xs → AreNamed w B ls (link_sites s xs) → Strung B n (link_tokens xs) k → EndsInPackage w m n → ⊥
  no_links_use w B ls s u n k (uses.selected (uses.a_method {t} {name = i} {s = x} e)) h t' p = u.methods i t x e
  no_links_use w B ls s u n k (uses.selected (uses.of_package {name} f)) h t p =
      let b = p refl in
      let at : name ≡ suc n = t.1.1.0 in
      let before : suc b.0 ≡ n = b.1.0 in
      let m = h.0 b.0 (let same : suc (suc b.0) ≡ name = omega arith in same) b.1.1 in f m.0 m.1
  no_links_use w B ls s u n k (uses.in_index {c = c} {e = e} {rest = rest} b) h t p =
      let x = strung_split B (suc n) (expr_tokens e) (sign kind.RightBracket c ∷ link_tokens rest) k t.1.1 in
      no_use w B ls s u (suc n) x.0 b (all_front (λ y. IsNamed w B ls y.place.index y.role) (expr_sites s e) (link_sites s rest) h) x.1.0
  no_links_use w B ls s u n k (uses.in_call {c = c} {arguments = xs} {rest = rest} b) h t p =
      let x = strung_split B (suc n) (argument_tokens xs) (sign kind.RightParen c ∷ link_tokens rest) k t.1.1 in
      no_arguments_use w B ls s u (suc n) x.0 b (all_front (λ y. IsNamed w B ls y.place.index y.role) (argument_sites s xs) (link_sites s rest) h) x.1.0
  no_links_use w B ls s u n k (uses.behind_selector {n = name} {s = r} sel b) h t p =
      let at : name ≡ suc n = t.1.1.0 in
      no_links_use w B ls s u (suc (suc n)) k b h.1 t.1.1.1.1
      (subst (λ i. EndsInPackage w r i) (let same : suc name ≡ suc (suc n) = ap suc at in same) (selection_ends w ls sel))
  no_links_use w B ls s u n k (uses.behind_index {c = c} {e = e} {rest = rest} v i b) h t p =
      let x = strung_split B (suc n) (expr_tokens e) (sign kind.RightBracket c ∷ link_tokens rest) k t.1.1 in
      no_links_use w B ls s u (suc x.0) k b (all_back (λ y. IsNamed w B ls y.place.index y.role) (expr_sites s e) (link_sites s rest) h) x.1.1.1.1
      (λ q. absurd (index_ends w i q))
  no_links_use w B ls s u n k (uses.behind_call {c = c} {arguments = xs} {rest = rest} vs d b) h t p =
      let x = strung_split B (suc n) (argument_tokens xs) (sign kind.RightParen c ∷ link_tokens rest) k t.1.1 in
      no_links_use w B ls s u (suc x.0) k b (all_back (λ y. IsNamed w B ls y.place.index y.role) (argument_sites s xs) (link_sites s rest) h) x.1.1.1.1
      (λ q. absurd (call_ends w d q))

  no_operands_use : (w : World) (B : ℕ → Type 0) (ls : Locals) (s : TokenSpellings) (u : IsUnbroken w) (n k : ℕ) {os : OperandTrees} →
      OperandsUseBroken w ls os → AreNamed w B ls (operand_sites s os) → Strung B n (operand_tokens os) k → ⊥
  no_operands_use w B ls s u n k (uses.this_operand {e = e} {rest = rest} b) h t =
      let x = strung_split B (suc n) (expr_tokens e) (operand_tokens rest) k t.1.1 in
      no_use w B ls s u (suc n) x.0 b (all_front (λ y. IsNamed w B ls y.place.index y.role) (expr_sites s e) (operand_sites s rest) h) x.1.0
  no_operands_use w B ls s u n k (uses.other_operand {e = e} {rest = rest} b) h t =
      let x = strung_split B (suc n) (expr_tokens e) (operand_tokens rest) k t.1.1 in
      no_operands_use w B ls s u x.0 k b (all_back (λ y. IsNamed w B ls y.place.index y.role) (expr_sites s e) (operand_sites s rest) h) x.1.1

  no_arguments_use : (w : World) (B : ℕ → Type 0) (ls : Locals) (s : TokenSpellings) (u : IsUnbroken w) (n k : ℕ) {xs : ArgumentTrees} →
      ArgumentsUseBroken w ls xs → AreNamed w B ls (argument_sites s xs) → Strung B n (argument_tokens xs) k → ⊥
  no_arguments_use w B ls s u n k (uses.this_argument {e} {c} {rest} b) h t =
      let x = strung_split B n (expr_tokens e) (sign_if kind.Comma c ++ argument_tokens rest) k t in
      no_use w B ls s u n x.0 b (all_front (λ y. IsNamed w B ls y.place.index y.role) (expr_sites s e) (argument_sites s rest) h) x.1.0
  no_arguments_use w B ls s u n k (uses.other_argument {e} {c} {rest} b) h t =
      let x = strung_split B n (expr_tokens e) (sign_if kind.Comma c ++ argument_tokens rest) k t in
      let y = strung_split B x.0 (sign_if kind.Comma c) (argument_tokens rest) k x.1.1 in
      no_arguments_use w B ls s u y.0 k b (all_back (λ z. IsNamed w B ls z.place.index z.role) (expr_sites s e) (argument_sites s rest) h) y.1.1

  no_literal_use : (w : World) (B : ℕ → Type 0) (ls : Locals) (s : TokenSpellings) (u : IsUnbroken w) (n k : ℕ) {l : LiteralTree} → LiteralUsesBroken w ls l →
      AreNamed w B ls (literal_sites s l) → Strung B n (literal_tokens l) k → ⊥
  no_literal_use w B ls s u n k (uses.of_broken_type b) h t = no_broken_type w u b
  no_literal_use w B ls s u n k (uses.in_elements {x = x} {o} {c} {es} i b) h t =
      let a = strung_split B n (type_tokens x) (sign kind.LeftBrace o ∷ (element_tokens es ++ (sign kind.RightBrace c ∷ []))) k t in
      let y = strung_split B (suc a.0) (element_tokens es) (sign kind.RightBrace c ∷ []) k a.1.1.1.1 in
      no_elements_use w B ls s u (suc a.0) y.0 b (all_back (λ z. IsNamed w B ls z.place.index z.role) (type_sites s x) (element_sites s es) h) y.1.0

  no_elements_use : (w : World) (B : ℕ → Type 0) (ls : Locals) (s : TokenSpellings) (u : IsUnbroken w) (n k : ℕ) {t : PlainType} {es : ElementTrees} →
      ElementsUseBroken w ls t es → AreNamed w B ls (element_sites s es) → Strung B n (element_tokens es) k → ⊥
  no_elements_use w B ls s u n k (uses.a_key {t} {key} {s = x} e) h t' = u.methods key.0 t x e
  no_elements_use w B ls s u n k (uses.this_value {key = key} {e} {c} {rest} b) h t =
      let a = strung_split B n (key_tokens key) (expr_tokens e ++ (sign_if kind.Comma c ++ element_tokens rest)) k t in
      let x = strung_split B a.0 (expr_tokens e) (sign_if kind.Comma c ++ element_tokens rest) k a.1.1 in
      no_use w B ls s u a.0 x.0 b
      (all_front (λ z. IsNamed w B ls z.place.index z.role) (expr_sites s e) (element_sites s rest)
      (all_back (λ z. IsNamed w B ls z.place.index z.role) (key_sites s key) (expr_sites s e ++ element_sites s rest) h)) x.1.0
  no_elements_use w B ls s u n k (uses.other_element {key = key} {e} {c} {rest} b) h t =
      let a = strung_split B n (key_tokens key) (expr_tokens e ++ (sign_if kind.Comma c ++ element_tokens rest)) k t in
      let x = strung_split B a.0 (expr_tokens e) (sign_if kind.Comma c ++ element_tokens rest) k a.1.1 in
      let y = strung_split B x.0 (sign_if kind.Comma c) (element_tokens rest) k x.1.1 in
      no_elements_use w B ls s u y.0 k b
      (all_back (λ z. IsNamed w B ls z.place.index z.role) (expr_sites s e) (element_sites s rest)
      (all_back (λ z. IsNamed w B ls z.place.index z.role) (key_sites s key) (expr_sites s e ++ element_sites s rest) h)) y.1.1

-- what can be assigned has a type

abbrev pub IsTyped : Meaning → Type 0
IsTyped m = (k : ValueKind) → m ≡ Value k true → IsUntyped k → ⊥

pub typed_kind : {t : PlainType} {a : Bool} → IsTyped (Value (Typed t) a)
typed_kind {t} k e un = elim (subst IsUntyped (let same : k ≡ Typed t = cc in same) un) [ ]

pub constant : {k : ValueKind} → IsTyped (Value k false)
constant k e un = let z : true ≡ false = cc in true≢false z

pub no_value : {m : Meaning} → ((k : ValueKind) → m ≡ Value k true → ⊥) → IsTyped m
no_value f k e un = f k e

name_typed : (w : World) (ls : Locals) (u : IsUnbroken w) {n : ℕ} {m : Meaning} → NameMeans w ls n m → IsTyped m
name_typed w ls u (a_local e f) = typed_kind
name_typed w ls u {n} (a_bound e whole) = λ k q un. u.typed n k (e ∙ ap Means q) un

selected_typed : (w : World) (ls : Locals) (u : IsUnbroken w) {m s : Meaning} {n : ℕ} → SelectsMember w ls m n s → IsTyped s
selected_typed w ls u (links.field e p) = typed_kind
selected_typed w ls u (links.field_through_pointer e p) = typed_kind
selected_typed w ls u (links.asked e) = no_value (λ k q. cc)
selected_typed w ls u (links.method e) = no_value (λ k q. cc)
selected_typed w ls u (links.method_on_pointer e) = no_value (λ k q. cc)
selected_typed w ls u (links.method_on_variable e) = no_value (λ k q. cc)
selected_typed w ls u (links.of_package h) = name_typed w ls u h

given_typed : {ts : List PlainType} {m : Meaning} → ResultsMean ts m → IsTyped m
given_typed links.nothing = no_value (λ k q. cc)
given_typed links.one = typed_kind
given_typed links.several = no_value (λ k q. cc)

call_typed : (w : World) {m s : Meaning} {ks : List ValueKind} → CallGives w m ks s → IsTyped s
call_typed w (links.function f g) = given_typed g
call_typed w (links.conversion c) = typed_kind
call_typed w (links.len h) = typed_kind
call_typed w (links.append e f) = typed_kind
call_typed w links.panic = no_value (λ k q. cc)
call_typed w (links.print p) = no_value (λ k q. cc)
call_typed w (links.println p) = no_value (λ k q. cc)

index_typed : (w : World) {m s : Meaning} {k : ValueKind} → Indexes w m k s → IsTyped s
index_typed w (links.element e i) = typed_kind

prefix_typed : (w : World) {o : _} {k : ValueKind} {m : Meaning} → Prefixes w o k m → IsTyped m
prefix_typed w (operators.plus h) = constant
prefix_typed w (operators.negates h) = constant
prefix_typed w (operators.denies h) = constant
prefix_typed w (operators.follows e) = typed_kind

links_typed : (w : World) (ls : Locals) (u : IsUnbroken w) {m r : Meaning} {xs : LinkTrees} → LinksMean w ls m xs r → IsTyped m → IsTyped r
links_typed w ls u means.no_link h = h
links_typed w ls u (means.selector sel more) h = links_typed w ls u more (selected_typed w ls u sel)
links_typed w ls u (means.index v i more) h = links_typed w ls u more (index_typed w i)
links_typed w ls u (means.call vs c more) h = links_typed w ls u more (call_typed w c)

operands_typed : (w : World) (ls : Locals) {k : ValueKind} {a : Bool} {r : Meaning} {os : OperandTrees} → OperandsMean w ls (Value k a) os r →
    IsTyped (Value k a) →
    IsTyped r
operands_typed w ls means.no_operand h = h
operands_typed w ls (means.operand v o c) h = operands_typed w ls c constant

pub assignable_typed : (w : World) (ls : Locals) (u : IsUnbroken w) {e : ExprTree} {m : Meaning} → HasMeaning w ls e m → (k : ValueKind) → m ≡ Value k true →
    IsUntyped k → ⊥
assignable_typed w ls u means.number = constant
assignable_typed w ls u means.text = constant
assignable_typed w ls u (means.name h) = name_typed w ls u h
assignable_typed w ls u (means.composite l) = typed_kind
assignable_typed w ls u (means.paren v) = assignable_typed w ls u v
assignable_typed w ls u (means.prefix v p) = prefix_typed w p
assignable_typed w ls u (means.address l) = typed_kind
assignable_typed w ls u (means.chain v more) = links_typed w ls u more (assignable_typed w ls u v)
assignable_typed w ls u (means.binary v c) = operands_typed w ls c (assignable_typed w ls u v)
