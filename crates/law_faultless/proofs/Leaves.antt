-- Simple statements and declarations of locals in which no fault is found are typed where all names are known.
use Rattle.std.proofs.Common.{ℕ, suc, ◌≡◌, ◌<◌, ◌≤◌, inl, inr, Bool, true, false, List, [], ◌∷◌, sym, subst, refl, arith}
use Rattle.std.specs.List.{AllByRecursion}
use Rattle.std.proofs.lemmas.Bool.{true≢false}
use Rattle.base_lemmas.proofs.EachElement.{all_append, all_front, all_back}
use Rattle.go_ast.specs.declared.syntax.Kind.TheVariants as kind
use Rattle.go_ast.specs.Flatten.{sign_if, all_tokens, item_tokens, expr_tokens, exprs_tokens}
use Rattle.go_ast.specs.Tree.{Item, ExprTree}
use Rattle.go_ast.specs.Tree as tree
use Rattle.go_scope.specs.declared.model.Block.{Block}
use Rattle.go_scope.specs.Site.{Site, TokenSpellings}
use Rattle.go_scope.specs.ExpressionSites.{list_sites, expr_sites, exprs_sites}
use Rattle.go_scope.specs.StatementSites.{left_sites, assigned_sites}
use Rattle.go_scope.proofs.PlainSites.{plain_expr}
use Rattle.go_scope.specs.IdentifierTokens.{is_ident_token}
use Rattle.go_scope.proofs.CoveredExpressions.{expr_named}
use Rattle.types_expr.specs.Types.{PlainType, ValueKind, Typed, Value}
use Rattle.types_expr.specs.World.{World, Locals}
use Rattle.types_expr.specs.Judge.{judge_value, followed}
use Rattle.types_expr.specs.Places.{place_of}
use Rattle.law_typing.specs.Operators.{IsUntyped}
use Rattle.law_typing.specs.Meanings.{HasMeaning}
use Rattle.law_typing.specs.Meanings as means
use Rattle.law_typing.specs.BrokenUses.{UsesBroken}
use Rattle.law_typing.specs.BrokenUses as uses
use Rattle.law_typing.proofs.ExpressionLaws.{has_one_meaning}
use Rattle.law_typing.proofs.Soundness.{sound}
use Rattle.law_typing.proofs.Judgements.{empty_first, empty_second, value_at_agrees}
use Rattle.types_stmt.specs.Sides.{no_name, defined_one, defined}
use Rattle.law_typing.specs.Excused.{IsNoVariable, without_type, constant, AnyUsesBroken, this_one, a_later_one, IsBlank, underscored, IsDeclaredName}
use Rattle.law_typing.specs.Excused.{bound_to_itself, AssignedIsExcused, assigned_uses, assigned_without_type, later_assigned, DefinedIsExcused}
use Rattle.law_typing.specs.Excused.{defined_uses, defined_no_variable, later_defined}
use Rattle.law_faultless.proofs.NumberedTokens.{Strung, strung_split, strung_le, stand_below}
use Rattle.law_faultless.specs.Unbroken.{IsUnbroken}
use Rattle.law_faultless.proofs.Named.{IsNamed, AreNamed, no_use, assignable_typed}
use Rattle.law_faultless.proofs.KnownLocals.{BeginsLater, plain_later}

-- identifiers stand before a later token
pub below_more : (n m : ℕ) → n ≤ m → (xs : List Site) → AllByRecursion (λ x. x.place.index < n) xs → AllByRecursion (λ x. x.place.index < m) xs
below_more n m le [] h = tt
below_more n m le (x ∷ xs) h = ((let lt : x.place.index < n = h.0 in omega arith), below_more n m le xs h.1)

-- The identifiers of left sides stand before the tokens behind these.

pub left_stands : (B : ℕ → Type 0) (s : TokenSpellings) (b : Block) (q n m : ℕ) (e : ExprTree) → Strung B n (expr_tokens e) m →
    AllByRecursion (λ x. x.place.index < m) (left_sites s b q e)
unfolding expr_tokens
left_stands B s b q n m (tree.Name p) h = ((let at : p ≡ n = h.0 in let end : suc n ≡ m = h.1.1 in omega arith), tt)
left_stands B s b q n m (tree.Blank p) h = ((let at : p ≡ n = h.0 in let end : suc n ≡ m = h.1.1 in omega arith), tt)
left_stands B s b q n m (tree.Number p) h = stand_below B is_ident_token s n m _ _ (expr_named s (tree.Number p)) h
left_stands B s b q n m (tree.Text p) h = stand_below B is_ident_token s n m _ _ (expr_named s (tree.Text p)) h
left_stands B s b q n m (tree.Composite l) h = stand_below B is_ident_token s n m _ _ (expr_named s (tree.Composite l)) h
left_stands B s b q n m (tree.Paren o e c) h = stand_below B is_ident_token s n m _ _ (expr_named s (tree.Paren o e c)) h
left_stands B s b q n m (tree.Prefix o p e) h = stand_below B is_ident_token s n m _ _ (expr_named s (tree.Prefix o p e)) h
left_stands B s b q n m (tree.Address p l) h = stand_below B is_ident_token s n m _ _ (expr_named s (tree.Address p l)) h
left_stands B s b q n m (tree.Chain e ks) h = stand_below B is_ident_token s n m _ _ (expr_named s (tree.Chain e ks)) h
left_stands B s b q n m (tree.Binary e os) h = stand_below B is_ident_token s n m _ _ (expr_named s (tree.Binary e os)) h

pub assigned_stands : (B : ℕ → Type 0) (s : TokenSpellings) (n m : ℕ) (e : ExprTree) → Strung B n (expr_tokens e) m →
    AllByRecursion (λ x. x.place.index < m) (assigned_sites s e)
unfolding expr_tokens
assigned_stands B s n m (tree.Blank p) h = ((let at : p ≡ n = h.0 in let end : suc n ≡ m = h.1.1 in omega arith), tt)
assigned_stands B s n m (tree.Name p) h = stand_below B is_ident_token s n m _ _ (expr_named s (tree.Name p)) h
assigned_stands B s n m (tree.Number p) h = stand_below B is_ident_token s n m _ _ (expr_named s (tree.Number p)) h
assigned_stands B s n m (tree.Text p) h = stand_below B is_ident_token s n m _ _ (expr_named s (tree.Text p)) h
assigned_stands B s n m (tree.Composite l) h = stand_below B is_ident_token s n m _ _ (expr_named s (tree.Composite l)) h
assigned_stands B s n m (tree.Paren o e c) h = stand_below B is_ident_token s n m _ _ (expr_named s (tree.Paren o e c)) h
assigned_stands B s n m (tree.Prefix o p e) h = stand_below B is_ident_token s n m _ _ (expr_named s (tree.Prefix o p e)) h
assigned_stands B s n m (tree.Address p l) h = stand_below B is_ident_token s n m _ _ (expr_named s (tree.Address p l)) h
assigned_stands B s n m (tree.Chain e ks) h = stand_below B is_ident_token s n m _ _ (expr_named s (tree.Chain e ks)) h
assigned_stands B s n m (tree.Binary e os) h = stand_below B is_ident_token s n m _ _ (expr_named s (tree.Binary e os)) h

pub list_stands : (B : ℕ → Type 0) (f : ExprTree → List Site) → ((n m : ℕ) (e : ExprTree) → Strung B n (expr_tokens e) m →
    AllByRecursion (λ x. x.place.index < m) (f e)) →
    (n m : ℕ) (is : List (Item ExprTree)) → Strung B n (exprs_tokens is) m → AllByRecursion (λ x. x.place.index < m) (list_sites f is)
unfolding all_tokens
list_stands B f one n m [] h = tt
list_stands B f one n m (i ∷ is) h =
    let r = strung_split B n (item_tokens kind.Comma expr_tokens i) (exprs_tokens is) m h in
    let own = strung_split B n (expr_tokens i.value) (sign_if kind.Comma i.separator) r.0 r.1.0 in
    let le : own.0 ≤ r.0 = strung_le B own.0 (sign_if kind.Comma i.separator) r.0 own.1.1 in
    let further : r.0 ≤ m = strung_le B r.0 (exprs_tokens is) m r.1.1 in
    all_append (λ (x : Site). x.place.index < m) (f i.value) (list_sites f is)
    (below_more own.0 m (omega arith) (f i.value) (one n own.0 i.value own.1.0)) (list_stands B f one r.0 m is r.1.1)

-- left sides of `:=` begin their scopes behind the statement
lefts_later : (w : World) (s : TokenSpellings) (b : Block) (q : ℕ) (e : ExprTree) → AllByRecursion (BeginsLater w q) (left_sites s b q e)
lefts_later w s b q (tree.Name p) = ((λ own. let le : q ≤ q = omega arith in le), tt)
lefts_later w s b q (tree.Blank p) = ((λ own. absurd (true≢false (sym own.1))), tt)
lefts_later w s b q (tree.Number p) = plain_later w q _ (plain_expr s (tree.Number p))
lefts_later w s b q (tree.Text p) = plain_later w q _ (plain_expr s (tree.Text p))
lefts_later w s b q (tree.Composite l) = plain_later w q _ (plain_expr s (tree.Composite l))
lefts_later w s b q (tree.Paren o e c) = plain_later w q _ (plain_expr s (tree.Paren o e c))
lefts_later w s b q (tree.Prefix o p e) = plain_later w q _ (plain_expr s (tree.Prefix o p e))
lefts_later w s b q (tree.Address p l) = plain_later w q _ (plain_expr s (tree.Address p l))
lefts_later w s b q (tree.Chain e ks) = plain_later w q _ (plain_expr s (tree.Chain e ks))
lefts_later w s b q (tree.Binary e os) = plain_later w q _ (plain_expr s (tree.Binary e os))

pub all_lefts_later : (w : World) (s : TokenSpellings) (b : Block) (q : ℕ) (is : List (Item ExprTree)) →
    AllByRecursion (BeginsLater w q) (list_sites (left_sites s b q) is)
all_lefts_later w s b q [] = tt
all_lefts_later w s b q (i ∷ is) =
    all_append (BeginsLater w q) (left_sites s b q i.value) (list_sites (left_sites s b q) is) (lefts_later w s b q i.value) (all_lefts_later w s b q is)

-- what is no identifier uses what is broken, or is a fault

module _ (w : World) (B : ℕ → Type 0) (ls : Locals) (s : TokenSpellings) (u : IsUnbroken w) where
  abbrev Says : Site → Type 0
  Says x = IsNamed w B ls x.place.index x.role

  pub each_fine : (n m : ℕ) {is : List (Item ExprTree)} → AnyUsesBroken w ls is → AreNamed w B ls (exprs_sites s is) → Strung B n (exprs_tokens is) m → ⊥
  unfolding all_tokens
  each_fine n m (this_one {i} {is} b) h t =
      let r = strung_split B n (item_tokens kind.Comma expr_tokens i) (exprs_tokens is) m t in
      let own = strung_split B n (expr_tokens i.value) (sign_if kind.Comma i.separator) r.0 r.1.0 in
      no_use w B ls s u n own.0 b (all_front Says (expr_sites s i.value) (exprs_sites s is) h) own.1.0
  each_fine n m (a_later_one {i} {is} b) h t =
      let r = strung_split B n (item_tokens kind.Comma expr_tokens i) (exprs_tokens is) m t in
      each_fine r.0 m b (all_back Says (expr_sites s i.value) (exprs_sites s is) h) r.1.1

  assigned_fine_one : (n m : ℕ) (e : ExprTree) → (IsBlank e → ⊥) → UsesBroken w ls e → AreNamed w B ls (assigned_sites s e) → Strung B n (expr_tokens e) m → ⊥
  assigned_fine_one n m (tree.Blank p) other b h t = other underscored
  assigned_fine_one n m (tree.Name p) other b h t = no_use w B ls s u n m b h t
  assigned_fine_one n m (tree.Number p) other b h t = no_use w B ls s u n m b h t
  assigned_fine_one n m (tree.Text p) other b h t = no_use w B ls s u n m b h t
  assigned_fine_one n m (tree.Composite l) other b h t = no_use w B ls s u n m b h t
  assigned_fine_one n m (tree.Paren o e c) other b h t = no_use w B ls s u n m b h t
  assigned_fine_one n m (tree.Prefix o p e) other b h t = no_use w B ls s u n m b h t
  assigned_fine_one n m (tree.Address p l) other b h t = no_use w B ls s u n m b h t
  assigned_fine_one n m (tree.Chain e ks) other b h t = no_use w B ls s u n m b h t
  assigned_fine_one n m (tree.Binary e os) other b h t = no_use w B ls s u n m b h t

  pub assigned_fine : (n m : ℕ) {is : List (Item ExprTree)} → AssignedIsExcused w ls is → AreNamed w B ls (list_sites (assigned_sites s) is) →
      Strung B n (exprs_tokens is) m → ⊥
  unfolding all_tokens
  assigned_fine n m (assigned_uses {i} {is} other b) h t =
      let r = strung_split B n (item_tokens kind.Comma expr_tokens i) (exprs_tokens is) m t in
      let own = strung_split B n (expr_tokens i.value) (sign_if kind.Comma i.separator) r.0 r.1.0 in
      assigned_fine_one n own.0 i.value other b (all_front Says (assigned_sites s i.value) (list_sites (assigned_sites s) is) h) own.1.0
  assigned_fine n m (assigned_without_type {k = k} v un) h t = assignable_typed w ls u v k refl un
  assigned_fine n m (later_assigned {i} {is} b) h t =
      let r = strung_split B n (item_tokens kind.Comma expr_tokens i) (exprs_tokens is) m t in
      assigned_fine r.0 m b (all_back Says (assigned_sites s i.value) (list_sites (assigned_sites s) is) h) r.1.1

  -- a left name of `:=`
  left_use : (n m p : ℕ) (b : Block) (q : ℕ) → (IsDeclaredName w (tree.Name p) → ⊥) → UsesBroken w ls (tree.Name p) →
      AreNamed w B ls (left_sites s b q (tree.Name p)) → ⊥
  left_use n m p b q other (uses.a_name f) h = elim h.0 [ inl own ↦ other (bound_to_itself own) | inr t ↦ f (Value (Typed t.0) true) t.1 ]

  typed_variable : (k : ValueKind) (a : Bool) (t : PlainType) → Value k a ≡ Value (Typed t) true → IsNoVariable k a → ⊥
  typed_variable k a t e (without_type un) = elim (subst IsUntyped (let same : k ≡ Typed t = cc in same) un) [ ]
  typed_variable k _ t e constant = true≢false (let same : true ≡ false = cc in same)

  left_value : (p : ℕ) (b : Block) (q : ℕ) (k : ValueKind) (a : Bool) → (IsDeclaredName w (tree.Name p) → ⊥) → HasMeaning w ls (tree.Name p) (Value k a) →
      IsNoVariable k a →
      AreNamed w B ls (left_sites s b q (tree.Name p)) → ⊥
  left_value p b q k a other v none h = elim h.0 [
    | inl own ↦ other (bound_to_itself own)
    | inr t ↦ typed_variable k a t.0 (has_one_meaning w ls (tree.Name p) (Value k a) (Value (Typed t.0) true) v (means.name t.1)) none
  ]

  -- an expression that means something is no left side
  no_left : (e : ExprTree) (k : ValueKind) (a : Bool) → HasMeaning w ls e (Value k a) → (followed (judge_value w ls e) (no_name (place_of e))).faults ≡ [] → ⊥
  unfolding no_name
  no_left e k a v h =
      let agrees = value_at_agrees e (sound w ls v) in
      let rest : (no_name (place_of e) (judge_value w ls e).meaning).faults ≡ [] =
      empty_second (judge_value w ls e).faults (no_name (place_of e) (judge_value w ls e).meaning).faults h in
      let wrong : place_of e ∷ [] ≡ [] = subst (λ m. (no_name (place_of e) m).faults ≡ []) agrees.meaning rest in
      let z : ⊥ = cc in z

  defined_use : (n m : ℕ) (b : Block) (q : ℕ) (e : ExprTree) → (IsBlank e → ⊥) → (IsDeclaredName w e → ⊥) → UsesBroken w ls e →
      AreNamed w B ls (left_sites s b q e) → Strung B n (expr_tokens e) m → ⊥
  defined_use n m b q (tree.Blank p) blank other x h t = blank underscored
  defined_use n m b q (tree.Name p) blank other x h t = left_use n m p b q other x h
  defined_use n m b q (tree.Number p) blank other x h t = no_use w B ls s u n m x h t
  defined_use n m b q (tree.Text p) blank other x h t = no_use w B ls s u n m x h t
  defined_use n m b q (tree.Composite l) blank other x h t = no_use w B ls s u n m x h t
  defined_use n m b q (tree.Paren o e c) blank other x h t = no_use w B ls s u n m x h t
  defined_use n m b q (tree.Prefix o p e) blank other x h t = no_use w B ls s u n m x h t
  defined_use n m b q (tree.Address p l) blank other x h t = no_use w B ls s u n m x h t
  defined_use n m b q (tree.Chain e ks) blank other x h t = no_use w B ls s u n m x h t
  defined_use n m b q (tree.Binary e os) blank other x h t = no_use w B ls s u n m x h t

  defined_value : (b : Block) (q : ℕ) (e : ExprTree) (k : ValueKind) (a : Bool) → (IsDeclaredName w e → ⊥) → HasMeaning w ls e (Value k a) → IsNoVariable k a →
      AreNamed w B ls (left_sites s b q e) → (defined_one w ls e).faults ≡ [] → ⊥
  unfolding defined_one
  defined_value b q (tree.Blank p) k a other v none h f = elim v [ ]
  defined_value b q (tree.Name p) k a other v none h f = left_value p b q k a other v none h
  defined_value b q (tree.Number p) k a other v none h f = no_left (tree.Number p) k a v f
  defined_value b q (tree.Text p) k a other v none h f = no_left (tree.Text p) k a v f
  defined_value b q (tree.Composite l) k a other v none h f = no_left (tree.Composite l) k a v f
  defined_value b q (tree.Paren o e c) k a other v none h f = no_left (tree.Paren o e c) k a v f
  defined_value b q (tree.Prefix o p e) k a other v none h f = no_left (tree.Prefix o p e) k a v f
  defined_value b q (tree.Address p l) k a other v none h f = no_left (tree.Address p l) k a v f
  defined_value b q (tree.Chain e ks) k a other v none h f = no_left (tree.Chain e ks) k a v f
  defined_value b q (tree.Binary e os) k a other v none h f = no_left (tree.Binary e os) k a v f

  pub defined_fine : (b : Block) (q n m : ℕ) {is : List (Item ExprTree)} → DefinedIsExcused w ls is → AreNamed w B ls (list_sites (left_sites s b q) is) →
      Strung B n (exprs_tokens is) m → (defined w ls is).faults ≡ [] → ⊥
  unfolding all_tokens defined
  defined_fine b q n m (defined_uses {i} {is} blank other x) h t f =
      let r = strung_split B n (item_tokens kind.Comma expr_tokens i) (exprs_tokens is) m t in
      let own = strung_split B n (expr_tokens i.value) (sign_if kind.Comma i.separator) r.0 r.1.0 in
      defined_use n own.0 b q i.value blank other x (all_front Says (left_sites s b q i.value) (list_sites (left_sites s b q) is) h) own.1.0
  defined_fine b q n m (defined_no_variable {i} {is} {k} {a} other v none) h t f =
      defined_value b q i.value k a other v none (all_front Says (left_sites s b q i.value) (list_sites (left_sites s b q) is) h)
      (empty_first (defined_one w ls i.value).faults (defined w ls is).faults f)
  defined_fine b q n m (later_defined {i} {is} x) h t f =
      let r = strung_split B n (item_tokens kind.Comma expr_tokens i) (exprs_tokens is) m t in
      defined_fine b q r.0 m x (all_back Says (left_sites s b q i.value) (list_sites (left_sites s b q) is) h) r.1.1
      (empty_second (defined_one w ls i.value).faults (defined w ls is).faults f)
