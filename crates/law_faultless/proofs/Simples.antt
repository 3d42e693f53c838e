-- Simple statements and declarations of locals: typed where all names are known, and what is known behind them.
use Rattle.std.proofs.Common.{ℕ, suc, ◌≡◌, ◌<◌, ◌≤◌, inl, inr, List, [], ◌∷◌, ◌++◌, Option, Some, None, sym, subst, refl, arith}
use Rattle.std.specs.List.{AllByRecursion}
use Rattle.std.proofs.lemmas.Bool.{true≢false}
use Rattle.std.proofs.lemmas.Option.{none-some, same_Some}
use Rattle.base_lemmas.proofs.EachElement.{all_append, all_front, all_back}
use Rattle.go_ast.specs.declared.syntax.Kind.TheVariants as kind
use Rattle.go_ast.specs.Flatten.{sign, sign_if, step_kind, update_kind, tokens_if, all_tokens, item_tokens, list_tokens, ident_tokens, type_tokens}
use Rattle.go_ast.specs.Flatten.{expr_tokens, exprs_tokens, simple_tokens, value_tokens, local_tokens}
use Rattle.go_ast.specs.Tree.{Item, IdentTree, Named, Underscore, TypeTree, ExprTree, SimpleTree, LocalTree}
use Rattle.go_ast.specs.Tree as tree
use Rattle.go_ast.specs.WellFormed.{IsLocal}
use Rattle.go_scope.specs.declared.model.Block.{Block}
use Rattle.go_scope.specs.declared.model.Role.TheVariants.{Declaring}
use Rattle.go_scope.specs.Site.{Site, TokenSpellings}
use Rattle.go_scope.specs.ExpressionSites.{sites_if, list_sites, type_sites, expr_sites, exprs_sites}
use Rattle.go_scope.specs.StatementSites.{ident_sites, left_sites, assigned_sites, simple_sites, value_sites, local_sites}
use Rattle.go_scope.proofs.PlainSites.{plain_append, plain_list, plain_if, plain_type, plain_expr, plain_exprs, plain_assigned}
use Rattle.go_scope.specs.IdentifierTokens.{is_ident_token}
use Rattle.go_scope.proofs.CoveredExpressions.{type_named, expr_named, exprs_named}
use Rattle.types_expr.specs.Types.{PlainType, ValueKind}
use Rattle.types_expr.specs.World.{World, Locals}
use Rattle.law_typing.proofs.Judgements.{empty_first, empty_second}
use Rattle.types_stmt.specs.Checked.{FoundSoFar}
use Rattle.types_stmt.specs.Sides.{rhs, receiving, given_faults, defined, named, all_named as names_of, first_of_exprs}
use Rattle.types_stmt.specs.Simple.{check_define, check_simple, check_local}
use Rattle.law_typing.specs.Assignments.{Taker, Declare, no_name, no_local, new_local, DeclareAs, no_name_left, not_named, named as a_named}
use Rattle.law_typing.specs.Simple.{AreDefined, no_definition, an_underscore, a_new_name, an_old_name, SimpleIsTyped, a_call, a_step, an_update}
use Rattle.law_typing.specs.Simple.{an_assignment, a_definition, LocalIsTyped, of_type, of_type_with_values, of_values}
use Rattle.law_typing.specs.Excused.{AnyUsesBroken, SimpleIsExcused, in_call, in_step, in_updated, in_update, updated_without_type, in_assigned}
use Rattle.law_typing.specs.Excused.{in_assignment, in_defined, in_definition, LocalIsExcused, of_broken_type, of_broken_value, of_nothing}
use Rattle.law_typing.proofs.Simple.{simple_settled}
use Rattle.law_typing.proofs.Locals.{local_settled}
use Rattle.types_info.proofs.DeclKinds.{Holds}
use Rattle.refs_lookup.proofs.Apart.{all_as}
use Rattle.law_faultless.proofs.NumberedTokens.{Strung, strung_split, strung_le, stand_below}
use Rattle.law_faultless.specs.Unbroken.{IsUnbroken}
use Rattle.law_faultless.proofs.Named.{IsNamed, AreNamed, no_broken_type, no_use, assignable_typed}
use Rattle.law_faultless.specs.ResolvedNames.{IsOwnLocal, AreResolved}
use Rattle.law_faultless.proofs.KnownLocals.{past, IsKnown, Known, BeginsLater, AllKnown, all_named, Kept, known_past, plain_known, plain_later, declared_kept}
use Rattle.law_faultless.proofs.KnownLocals.{declared_known}
use Rattle.law_faultless.proofs.Leaves.{below_more, left_stands, assigned_stands, list_stands, all_lefts_later, each_fine, assigned_fine, defined_fine}

abbrev Before : ℕ → List Site → Type 0
Before m xs = AllByRecursion (λ x. x.place.index < m) xs

before_append : (m : ℕ) (xs ys : List Site) → Before m xs → Before m ys → Before m (xs ++ ys)
before_append m xs ys a b = all_append (λ (x : Site). x.place.index < m) xs ys a b

pub expr_stands : (B : ℕ → Type 0) (s : TokenSpellings) (n m : ℕ) (e : ExprTree) → Strung B n (expr_tokens e) m → Before m (expr_sites s e)
expr_stands B s n m e h = stand_below B is_ident_token s n m (expr_sites s e) (expr_tokens e) (expr_named s e) h

pub exprs_stand : (B : ℕ → Type 0) (s : TokenSpellings) (n m : ℕ) (es : List (Item ExprTree)) → Strung B n (exprs_tokens es) m → Before m (exprs_sites s es)
exprs_stand B s n m es h = stand_below B is_ident_token s n m (exprs_sites s es) (exprs_tokens es) (exprs_named s es) h

-- an expression alone, and several

pub expr_known : (w : World) (B : ℕ → Type 0) (ls : Locals) (s : TokenSpellings) (A : List Site) (n m : ℕ) (e : ExprTree) → AllKnown w ls A →
    AreResolved w B A (expr_sites s e) → Strung B n (expr_tokens e) m → AreNamed w B ls (expr_sites s e)
expr_known w B ls s A n m e known r t =
    all_named w B ls m A (expr_sites s e) known (expr_stands B s n m e t) (plain_later w m (expr_sites s e) (plain_expr s e)) r

pub exprs_known : (w : World) (B : ℕ → Type 0) (ls : Locals) (s : TokenSpellings) (A : List Site) (n m : ℕ) (es : List (Item ExprTree)) → AllKnown w ls A →
    AreResolved w B A (exprs_sites s es) → Strung B n (exprs_tokens es) m → AreNamed w B ls (exprs_sites s es)
exprs_known w B ls s A n m es known r t =
    all_named w B ls m A (exprs_sites s es) known (exprs_stand B s n m es t) (plain_later w m (exprs_sites s es) (plain_exprs s es)) r

-- simple statements

simple_stands : (B : ℕ → Type 0) (s : TokenSpellings) (b : Block) (q n m : ℕ) (x : SimpleTree) → Strung B n (simple_tokens x) m →
    Before m (simple_sites s b q x)
unfolding simple_sites simple_tokens
simple_stands B s b q n m (tree.Alone e) h = expr_stands B s n m e h
simple_stands B s b q n m (tree.Step e o p) h =
    let r = strung_split B n (expr_tokens e) (sign (step_kind o) p ∷ []) m h in
    let le : r.0 ≤ m = strung_le B r.0 (sign (step_kind o) p ∷ []) m r.1.1 in
    below_more r.0 m le (expr_sites s e) (expr_stands B s n r.0 e r.1.0)
simple_stands B s b q n m (tree.Update x o p y) h =
    let r = strung_split B n (expr_tokens x) (sign (update_kind o) p ∷ expr_tokens y) m h in
    let le : r.0 ≤ m = strung_le B r.0 (sign (update_kind o) p ∷ expr_tokens y) m r.1.1 in
    before_append m (expr_sites s x) (expr_sites s y) (below_more r.0 m le (expr_sites s x) (expr_stands B s n r.0 x r.1.0))
    (expr_stands B s (suc r.0) m y r.1.1.1.1)
simple_stands B s b q n m (tree.Assign xs p ys) h =
    let r = strung_split B n (exprs_tokens xs) (sign kind.Assign p ∷ exprs_tokens ys) m h in
    let le : r.0 ≤ m = strung_le B r.0 (sign kind.Assign p ∷ exprs_tokens ys) m r.1.1 in
    before_append m (list_sites (assigned_sites s) xs) (exprs_sites s ys)
    (below_more r.0 m le (list_sites (assigned_sites s) xs) (list_stands B (assigned_sites s) (assigned_stands B s) n r.0 xs r.1.0))
    (exprs_stand B s (suc r.0) m ys r.1.1.1.1)
simple_stands B s b q n m (tree.Define xs p ys) h =
    let r = strung_split B n (exprs_tokens xs) (sign kind.Define p ∷ exprs_tokens ys) m h in
    let le : r.0 ≤ m = strung_le B r.0 (sign kind.Define p ∷ exprs_tokens ys) m r.1.1 in
    before_append m (list_sites (left_sites s b q) xs) (exprs_sites s ys)
    (below_more r.0 m le (list_sites (left_sites s b q) xs) (list_stands B (left_sites s b q) (left_stands B s b q) n r.0 xs r.1.0))
    (exprs_stand B s (suc r.0) m ys r.1.1.1.1)

simple_later : (w : World) (s : TokenSpellings) (b : Block) (q : ℕ) (x : SimpleTree) → AllByRecursion (BeginsLater w q) (simple_sites s b q x)
unfolding simple_sites
simple_later w s b q (tree.Alone e) = plain_later w q (expr_sites s e) (plain_expr s e)
simple_later w s b q (tree.Step e o p) = plain_later w q (expr_sites s e) (plain_expr s e)
simple_later w s b q (tree.Update x o p y) =
    plain_later w q (expr_sites s x ++ expr_sites s y) (plain_append (expr_sites s x) (expr_sites s y) (plain_expr s x) (plain_expr s y))
simple_later w s b q (tree.Assign xs p ys) =
    plain_later w q (list_sites (assigned_sites s) xs ++ exprs_sites s ys)
    (plain_append (list_sites (assigned_sites s) xs) (exprs_sites s ys) (plain_list (assigned_sites s) (plain_assigned s) xs) (plain_exprs s ys))
simple_later w s b q (tree.Define xs p ys) =
    all_append (BeginsLater w q) (list_sites (left_sites s b q) xs) (exprs_sites s ys) (all_lefts_later w s b q xs)
    (plain_later w q (exprs_sites s ys) (plain_exprs s ys))

module _ (w : World) (B : ℕ → Type 0) (s : TokenSpellings) (u : IsUnbroken w) where
  simple_fine : (b : Block) (q n m : ℕ) (st : FoundSoFar) {x : SimpleTree} → SimpleIsExcused w st.locals x → (check_simple w st x).faults ≡ [] →
      AreNamed w B st.locals (simple_sites s b q x) → Strung B n (simple_tokens x) m → ⊥
  unfolding simple_sites simple_tokens check_simple check_define
  simple_fine b q n m st (in_call x) f h t = no_use w B st.locals s u n m x h t
  simple_fine b q n m st (in_step {e = e} {o} {p} x) f h t =
      let r = strung_split B n (expr_tokens e) (sign (step_kind o) p ∷ []) m t in no_use w B st.locals s u n r.0 x h r.1.0
  simple_fine b q n m st (in_updated {x = x} {y} {o} {p} e) f h t =
      let r = strung_split B n (expr_tokens x) (sign (update_kind o) p ∷ expr_tokens y) m t in
      no_use w B st.locals s u n r.0 e (all_front (λ z. IsNamed w B st.locals z.place.index z.role) (expr_sites s x) (expr_sites s y) h) r.1.0
  simple_fine b q n m st (in_update {x = x} {y} {o} {p} e) f h t =
      let r = strung_split B n (expr_tokens x) (sign (update_kind o) p ∷ expr_tokens y) m t in
      no_use w B st.locals s u (suc r.0) m e (all_back (λ z. IsNamed w B st.locals z.place.index z.role) (expr_sites s x) (expr_sites s y) h) r.1.1.1.1
  simple_fine b q n m st (updated_without_type {k = k} v un) f h t = assignable_typed w st.locals u v k refl un
  simple_fine b q n m st (in_assigned {xs = xs} {ys} {p} e) f h t =
      let r = strung_split B n (exprs_tokens xs) (sign kind.Assign p ∷ exprs_tokens ys) m t in
      assigned_fine w B st.locals s u n r.0 e
      (all_front (λ z. IsNamed w B st.locals z.place.index z.role) (list_sites (assigned_sites s) xs) (exprs_sites s ys) h) r.1.0
  simple_fine b q n m st (in_assignment {xs = xs} {ys} {p} e) f h t =
      let r = strung_split B n (exprs_tokens xs) (sign kind.Assign p ∷ exprs_tokens ys) m t in
      each_fine w B st.locals s u (suc r.0) m e
      (all_back (λ z. IsNamed w B st.locals z.place.index z.role) (list_sites (assigned_sites s) xs) (exprs_sites s ys) h) r.1.1.1.1
  simple_fine b q n m st (in_defined {xs = xs} {ys} {p} e) f h t =
      let r = strung_split B n (exprs_tokens xs) (sign kind.Define p ∷ exprs_tokens ys) m t in
      let l = defined w st.locals xs in
      let v = rhs w st.locals ys in
      let others = v.faults ++ given_faults (receiving w ys v.values) (first_of_exprs xs) v.values l.targets in
      defined_fine w B st.locals s u b q n r.0 e
      (all_front (λ z. IsNamed w B st.locals z.place.index z.role) (list_sites (left_sites s b q) xs) (exprs_sites s ys) h) r.1.0
      (empty_first l.faults others (empty_second st.faults (l.faults ++ others) f))
  simple_fine b q n m st (in_definition {xs = xs} {ys} {p} e) f h t =
      let r = strung_split B n (exprs_tokens xs) (sign kind.Define p ∷ exprs_tokens ys) m t in
      each_fine w B st.locals s u (suc r.0) m e
      (all_back (λ z. IsNamed w B st.locals z.place.index z.role) (list_sites (left_sites s b q) xs) (exprs_sites s ys) h) r.1.1.1.1

-- new locals are known behind what declares them

declare_kept : {before after : Locals} {ns : List (Option ℕ)} {ks : List ValueKind} → Declare before ns ks after → Kept before after
declare_kept no_name n k = k
declare_kept (no_local more) n k = declare_kept more n k
declare_kept (new_local {before} {p = p} {t = t} g more) n k = declare_kept more n (declared_kept before p t n k)

declare_known : {before after : Locals} {ns : List (Option ℕ)} {ks : List ValueKind} → Declare before ns ks after → (p : ℕ) → Holds ns (Some p) →
    IsKnown (after p)
declare_known no_name p h = absurd h
declare_known (no_local more) p h = elim h [ inl e ↦ absurd (none-some p e) | inr r ↦ declare_known more p r ]
declare_known (new_local {before} {after} {p = q} {t = t} g more) p h = elim h [
  | inl e ↦ subst (λ z. IsKnown (after z)) (same_Some q p e) (declare_kept more q (declared_known before q t))
  | inr r ↦ declare_known more p r
]

as_kept : {t : PlainType} {before after : Locals} {ns : List (Option ℕ)} → DeclareAs t before ns after → Kept before after
as_kept no_name_left n k = k
as_kept (not_named more) n k = as_kept more n k
as_kept {t} (a_named {before} {p = p} more) n k = as_kept more n (declared_kept before p t n k)

as_known : {t : PlainType} {before after : Locals} {ns : List (Option ℕ)} → DeclareAs t before ns after → (p : ℕ) → Holds ns (Some p) → IsKnown (after p)
as_known no_name_left p h = absurd h
as_known (not_named more) p h = elim h [ inl e ↦ absurd (none-some p e) | inr r ↦ as_known more p r ]
as_known {t} (a_named {before} {after} {p = q} more) p h = elim h [
  | inl e ↦ subst (λ z. IsKnown (after z)) (same_Some q p e) (as_kept more q (declared_known before q t))
  | inr r ↦ as_known more p r
]

-- a local that is bound to itself is one of the names
abbrev pub Declares : World → List (Option ℕ) → Site → Type 0
Declares w ns x = IsOwnLocal w x → Holds ns (Some x.place.index)

more_names : (w : World) (o : Option ℕ) (ns : List (Option ℕ)) (xs : List Site) → AllByRecursion (Declares w ns) xs → AllByRecursion (Declares w (o ∷ ns)) xs
more_names w o ns xs h = all_as (Declares w ns) (Declares w (o ∷ ns)) (λ x f own. inr (f own)) xs h

defined_declares : (w : World) (ls : Locals) (s : TokenSpellings) (b : Block) (q : ℕ) {xs : List (Item ExprTree)} {ts : List Taker} {ns : List (Option ℕ)} →
    AreDefined w ls xs ts ns → AllByRecursion (Declares w ns) (list_sites (left_sites s b q) xs)
defined_declares w ls s b q no_definition = tt
defined_declares w ls s b q (an_underscore {i} {is} {ns = ns} e more) =
    all_append (Declares w (None ∷ ns)) (left_sites s b q i.value) (list_sites (left_sites s b q) is)
    (subst (λ z. AllByRecursion (Declares w (None ∷ ns)) (left_sites s b q z)) (sym e) ((λ own. absurd (true≢false (sym own.1))), tt))
    (more_names w None ns (list_sites (left_sites s b q) is) (defined_declares w ls s b q more))
defined_declares w ls s b q (a_new_name {i} {is} {p} {ns = ns} e own more) =
    all_append (Declares w (Some p ∷ ns)) (left_sites s b q i.value) (list_sites (left_sites s b q) is)
    (subst (λ z. AllByRecursion (Declares w (Some p ∷ ns)) (left_sites s b q z)) (sym e) ((λ x. inl refl), tt))
    (more_names w (Some p) ns (list_sites (left_sites s b q) is) (defined_declares w ls s b q more))
defined_declares w ls s b q (an_old_name {i} {is} {ns = ns} e other v more) =
    all_append (Declares w (None ∷ ns)) (left_sites s b q i.value) (list_sites (left_sites s b q) is)
    (subst (λ z. AllByRecursion (Declares w (None ∷ ns)) (left_sites s b q z)) (sym e) ((λ own. absurd (other own.0)), tt))
    (more_names w None ns (list_sites (left_sites s b q) is) (defined_declares w ls s b q more))

pub ident_declares : (w : World) (s : TokenSpellings) (b : Block) (q : ℕ) (x : IdentTree) (ns : List (Option ℕ)) →
    AllByRecursion (Declares w (named x ∷ ns)) (ident_sites s (Declaring b q) x)
unfolding named
ident_declares w s b q (Named n) ns = ((λ own. inl refl), tt)
ident_declares w s b q (Underscore n) ns = ((λ own. absurd (true≢false (sym own.1))), tt)

pub idents_declare : (w : World) (s : TokenSpellings) (b : Block) (q : ℕ) (xs : List (Item IdentTree)) →
    AllByRecursion (Declares w (names_of xs)) (list_sites (ident_sites s (Declaring b q)) xs)
idents_declare w s b q [] = tt
idents_declare w s b q (x ∷ xs) =
    all_append (Declares w (names_of (x ∷ xs))) (ident_sites s (Declaring b q) x.value) (list_sites (ident_sites s (Declaring b q)) xs)
    (ident_declares w s b q x.value (names_of xs))
    (more_names w (named x.value) (names_of xs) (list_sites (ident_sites s (Declaring b q)) xs) (idents_declare w s b q xs))

pub as_all_known : (w : World) {t : PlainType} {before after : Locals} {ns : List (Option ℕ)} → DeclareAs t before ns after → (xs : List Site) →
    AllByRecursion (Declares w ns) xs → AllByRecursion (Known w after) xs
as_all_known w {after = after} {ns} d xs h = all_as (Declares w ns) (Known w after) (λ x f own. as_known d x.place.index (f own)) xs h

declare_all_known : (w : World) {before after : Locals} {ns : List (Option ℕ)} {ks : List ValueKind} → Declare before ns ks after → (xs : List Site) →
    AllByRecursion (Declares w ns) xs → AllByRecursion (Known w after) xs
declare_all_known w {after = after} {ns} d xs h = all_as (Declares w ns) (Known w after) (λ x f own. declare_known d x.place.index (f own)) xs h

pub as_locals_kept : {t : PlainType} {before after : Locals} {ns : List (Option ℕ)} → DeclareAs t before ns after → Kept before after
as_locals_kept d = as_kept d

-- behind a simple statement

simple_behind : (w : World) (s : TokenSpellings) (b : Block) (q : ℕ) {before after : Locals} {x : SimpleTree} → SimpleIsTyped w before x after →
    Kept before after × AllByRecursion (Known w after) (simple_sites s b q x)
unfolding simple_sites
simple_behind w s b q {before} (a_call {e} {links = ks} h i f g) = ((λ n k. k), plain_known w before _ (plain_expr s (tree.Chain e ks)))
simple_behind w s b q {before} (a_step {e = e} h i) = ((λ n k. k), plain_known w before (expr_sites s e) (plain_expr s e))
simple_behind w s b q {before} (an_update {x = x} {y} o h k p f) =
    ((λ n k. k), plain_known w before (expr_sites s x ++ expr_sites s y) (plain_append (expr_sites s x) (expr_sites s y) (plain_expr s x) (plain_expr s y)))
simple_behind w s b q {before} (an_assignment {xs = xs} {ys} h g t) = (
  (λ n k. k),
  plain_known w before (list_sites (assigned_sites s) xs ++ exprs_sites s ys)
      (plain_append (list_sites (assigned_sites s) xs) (exprs_sites s ys) (plain_list (assigned_sites s) (plain_assigned s) xs) (plain_exprs s ys)),
)
simple_behind w s b q (a_definition {before} {after} {xs} {ys} h g t d) = (
  declare_kept d,
  all_append (Known w after) (list_sites (left_sites s b q) xs) (exprs_sites s ys)
      (declare_all_known w d (list_sites (left_sites s b q) xs) (defined_declares w before s b q h))
      (plain_known w after (exprs_sites s ys) (plain_exprs s ys)),
)

pub simple_typed : (w : World) (B : ℕ → Type 0) (s : TokenSpellings) (u : IsUnbroken w) (A : List Site) (b : Block) (q n m : ℕ) (st : FoundSoFar) (x :
    SimpleTree) →
    (check_simple w st x).faults ≡ [] → AllKnown w st.locals A → AreResolved w B A (simple_sites s b q x) → Strung B n (simple_tokens x) m → m ≤ q →
    SimpleIsTyped w st.locals x (check_simple w st x).locals × AllKnown w (check_simple w st x).locals (past A (simple_sites s b q x))
simple_typed w B s u A b q n m st x f known r t le =
    let sites = simple_sites s b q x in
    let after = (check_simple w st x).locals in
    let all = all_named w B st.locals q A sites known (below_more m q le sites (simple_stands B s b q n m x t)) (simple_later w s b q x) r in
    let typed : SimpleIsTyped w st.locals x after = elim (simple_settled w st x f).1 [
      | inl h ↦ h
      | inr e ↦ absurd
          (simple_fine w B s u b q n m st e f all t)
    ] in
    let behind = simple_behind w s b q typed in
    (typed, known_past w st.locals after A sites behind.0 known behind.1)

-- declarations of locals

pub idents_stand : (B : ℕ → Type 0) (s : TokenSpellings) (b : Block) (q n m : ℕ) (xs : List (Item IdentTree)) →
    Strung B n (list_tokens kind.Comma ident_tokens xs) m →
    Before m (list_sites (ident_sites s (Declaring b q)) xs)
unfolding all_tokens
idents_stand B s b q n m [] h = tt
idents_stand B s b q n m (x ∷ xs) h =
    let r = strung_split B n (item_tokens kind.Comma ident_tokens x) (list_tokens kind.Comma ident_tokens xs) m h in
    let own = strung_split B n (ident_tokens x.value) (sign_if kind.Comma x.separator) r.0 r.1.0 in
    let le : own.0 ≤ r.0 = strung_le B own.0 (sign_if kind.Comma x.separator) r.0 own.1.1 in
    let further : r.0 ≤ m = strung_le B r.0 (list_tokens kind.Comma ident_tokens xs) m r.1.1 in
    before_append m (ident_sites s (Declaring b q) x.value) (list_sites (ident_sites s (Declaring b q)) xs)
    (below_more own.0 m (omega arith) (ident_sites s (Declaring b q) x.value) (one x.value own.0 own.1.0)) (idents_stand B s b q r.0 m xs r.1.1)
  where
    one : (y : IdentTree) (k : ℕ) → Strung B n (ident_tokens y) k → Before k (ident_sites s (Declaring b q) y)
    one (Named p) k t = ((let at : p ≡ n = t.0 in let end : suc n ≡ k = t.1.1 in omega arith), tt)
    one (Underscore p) k t = ((let at : p ≡ n = t.0 in let end : suc n ≡ k = t.1.1 in omega arith), tt)

idents_later : (w : World) (s : TokenSpellings) (b : Block) (q : ℕ) (xs : List (Item IdentTree)) →
    AllByRecursion (BeginsLater w q) (list_sites (ident_sites s (Declaring b q)) xs)
idents_later w s b q [] = tt
idents_later w s b q (x ∷ xs) =
    all_append (BeginsLater w q) (ident_sites s (Declaring b q) x.value) (list_sites (ident_sites s (Declaring b q)) xs) (one x.value) (idents_later w s b q xs)
  where
    one : (y : IdentTree) → AllByRecursion (BeginsLater w q) (ident_sites s (Declaring b q) y)
    one (Named p) = ((λ own. let le : q ≤ q = omega arith in le), tt)
    one (Underscore p) = ((λ own. absurd (true≢false (sym own.1))), tt)

abbrev Values : Type 0
Values = Option (ℕ × List (Item ExprTree))

types_stand : (B : ℕ → Type 0) (s : TokenSpellings) (n m : ℕ) (o : Option TypeTree) → Strung B n (tokens_if type_tokens o) m →
    Before m (sites_if (type_sites s) o)
types_stand B s n m None h = tt
types_stand B s n m (Some x) h = stand_below B is_ident_token s n m (type_sites s x) (type_tokens x) (type_named s x) h

values_stand : (B : ℕ → Type 0) (s : TokenSpellings) (n m : ℕ) (v : Values) → Strung B n (tokens_if (value_tokens expr_tokens) v) m →
    Before m (sites_if (value_sites s) v)
values_stand B s n m None h = tt
values_stand B s n m (Some v) h = exprs_stand B s (suc n) m v.1 h.1.1

module _ (w : World) (B : ℕ → Type 0) (s : TokenSpellings) (u : IsUnbroken w) where
  values_fine : (ls : Locals) (n m : ℕ) (o : Values) (v : ℕ × List (Item ExprTree)) → o ≡ Some v → AnyUsesBroken w ls v.1 →
      AreNamed w B ls (sites_if (value_sites s) o) → Strung B n (tokens_if (value_tokens expr_tokens) o) m → ⊥
  values_fine ls n m None v e x h t = none-some v e
  values_fine ls n m (Some y) v e x h t = each_fine w B ls s u (suc n) m (subst (λ z. AnyUsesBroken w ls z.1) (sym (same_Some y v e)) x) h t.1.1

  pub local_typed : (A : List Site) (b : Block) (q n m : ℕ) (st : FoundSoFar) (l : LocalTree) → IsLocal l → (check_local w st l).faults ≡ [] →
      AllKnown w st.locals A → AreResolved w B A (local_sites s b q l) → Strung B n (local_tokens l) m → m ≤ q →
      LocalIsTyped w st.locals l (check_local w st l).locals × AllKnown w (check_local w st l).locals (past A (local_sites s b q l))
  unfolding local_sites local_tokens
  local_typed A b q n m st l formed f known r t le =
      let names = list_sites (ident_sites s (Declaring b q)) l.names in
      let types = sites_if (type_sites s) l.type_use in
      let values = sites_if (value_sites s) l.values in
      let type_part = tokens_if type_tokens l.type_use in
      let value_part = tokens_if (value_tokens expr_tokens) l.values in
      let after = (check_local w st l).locals in
      let x = strung_split B n (list_tokens kind.Comma ident_tokens l.names) (type_part ++ value_part) m t in
      let y = strung_split B x.0 type_part value_part m x.1.1 in
      let first : x.0 ≤ y.0 = strung_le B x.0 type_part y.0 y.1.0 in
      let second : y.0 ≤ m = strung_le B y.0 value_part m y.1.1 in
      let stand = before_append q names (types ++ values) (below_more x.0 q (omega arith) names (idents_stand B s b q n x.0 l.names x.1.0))
      (before_append q types values (below_more y.0 q (omega arith) types (types_stand B s x.0 y.0 l.type_use y.1.0))
      (below_more m q le values (values_stand B s y.0 m l.values y.1.1))) in
      let plain = plain_append types values (plain_if (type_sites s) (plain_type s) l.type_use) (plain_if (value_sites s) (λ z. plain_exprs s z.1) l.values) in
      let later = all_append (BeginsLater w q) names (types ++ values) (idents_later w s b q l.names) (plain_later w q (types ++ values) plain) in
      let all = all_named w B st.locals q A (names ++ (types ++ values)) known stand later r in
      let P : Site → Type 0 = λ z. IsNamed w B st.locals z.place.index z.role in
      let fine : LocalIsExcused w st.locals l → ⊥ =
      λ e. excused st.locals l formed y.0 m e (all_back P types values (all_back P names (types ++ values) all)) y.1.1 in
      let typed : LocalIsTyped w st.locals l after = elim (local_settled w st l f).1 [ inl h ↦ h | inr e ↦ absurd (fine e) ] in
      let own = behind st.locals after l typed b q in (
        typed,
        known_past w st.locals after A (names ++ (types ++ values)) own.0 known
            (all_append (Known w after) names (types ++ values) own.1 (plain_known w after (types ++ values) plain)),
      )
    where
      excused : (ls : Locals) (l : LocalTree) → IsLocal l → (n m : ℕ) → LocalIsExcused w ls l → AreNamed w B ls (sites_if (value_sites s) l.values) →
          Strung B n (tokens_if (value_tokens expr_tokens) l.values) m → ⊥
      excused ls l formed n m (of_broken_type e x) h t = no_broken_type w u x
      excused ls l formed n m (of_broken_value {v = v} e x) h t = values_fine ls n m l.values v e x h t
      excused ls l formed n m (of_nothing e g) h t = formed.told e g

      behind : (before after : Locals) (l : LocalTree) → LocalIsTyped w before l after → (b : Block) (q : ℕ) →
          Kept before after × AllByRecursion (Known w after) (list_sites (ident_sites s (Declaring b q)) l.names)
      behind before after l (of_type e g i d) b q = (as_kept d, as_all_known w d _ (idents_declare w s b q l.names))
      behind before after l (of_type_with_values e g i v k d) b q = (as_kept d, as_all_known w d _ (idents_declare w s b q l.names))
      behind before after l (of_values e g v k d) b q = (declare_kept d, declare_all_known w d _ (idents_declare w s b q l.names))
