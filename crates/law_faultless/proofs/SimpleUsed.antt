-- The same of simple statements and of declarations of locals.
use Rattle.std.proofs.Common.{ℕ, ◌≡◌, List, [], ◌∷◌, ◌++◌, Option, Some, sym, subst}
use Rattle.std.specs.Option.{unwrap_or}
use Rattle.go_ast.specs.Tree.{Item, Group, IdentTree, Named, Underscore, TypeTree, ExprTree, SimpleTree, LocalTree}
use Rattle.go_scope.specs.declared.model.Block.{Block}
use Rattle.go_scope.specs.declared.model.Role.TheVariants.{Declaring}
use Rattle.go_scope.specs.Site.{Site, TokenSpellings}
use Rattle.go_scope.specs.ExpressionSites.{sites_if, list_sites, type_sites, expr_sites, exprs_sites}
use Rattle.go_scope.specs.StatementSites.{ident_sites, left_sites, assigned_sites, simple_sites, value_sites, local_sites, separated_sites, group_sites}
use Rattle.types_expr.specs.Types.{PlainType, ValueKind, Meaning}
use Rattle.types_expr.specs.World.{World, Locals}
use Rattle.law_typing.specs.Names.{IsType}
use Rattle.law_typing.specs.Meanings.{HasMeaning}
use Rattle.law_typing.specs.Meanings as means
use Rattle.law_typing.specs.Sequences.{InTurn, no_item, then_item, InGroup, alone, together}
use Rattle.law_typing.specs.Assignments.{Taker, AreEachValues, no_expression, also_value, GiveKinds, values, results}
use Rattle.law_typing.specs.Simple.{AreAssigned, no_left, a_blank, an_operand, AreDefined, no_definition, an_underscore, a_new_name, an_old_name}
use Rattle.law_typing.specs.Simple.{SimpleIsTyped, a_call, a_step, an_update, an_assignment, a_definition, LocalIsTyped, of_type}
use Rattle.law_typing.specs.Simple.{of_type_with_values, of_values}
use Rattle.law_faultless.specs.Questions.{Asks}
use Rattle.law_faultless.specs.StatementAsking.{AskInTurn, this_item, later_item, AskInGroup, asks_alone, asks_together, AnyAsks, this_one, a_later_one}
use Rattle.law_faultless.specs.StatementAsking.{SimpleAsks, in_call, in_step, in_updated, in_update, in_assigned, in_assignment, in_definition, LocalAsks}
use Rattle.law_faultless.specs.StatementAsking.{in_values}
use Rattle.law_faultless.proofs.ExpressionsUsed.{AreLinked, linked_append, Tells, type_links, expr_links}

-- lists of expressions

each_links : (w : World) (ls : Locals) (U : ℕ → Type 0) (s : TokenSpellings) {is : List (Item ExprTree)} {ks : List ValueKind} → Tells w U (AnyAsks w ls is) →
    AreEachValues w ls is ks → AreLinked w U (exprs_sites s is)
each_links w ls U s f no_expression = tt
each_links w ls U s f (also_value {i} {is} h more) =
    linked_append w U (expr_sites s i.value) (exprs_sites s is) (expr_links w ls U s (λ n t m a. f n t m (this_one a)) h)
    (each_links w ls U s (λ n t m a. f n t m (a_later_one a)) more)

pub give_links : (w : World) (ls : Locals) (U : ℕ → Type 0) (s : TokenSpellings) {is : List (Item ExprTree)} {ks : List ValueKind} →
    Tells w U (AnyAsks w ls is) →
    GiveKinds w ls is ks → AreLinked w U (exprs_sites s is)
give_links w ls U s f (values h) = each_links w ls U s f h
give_links w ls U s f (results {i} h) = linked_append w U (expr_sites s i.value) [] (expr_links w ls U s (λ n t m a. f n t m (this_one a)) h) tt

assigned_one : (w : World) (ls : Locals) (U : ℕ → Type 0) (s : TokenSpellings) {e : ExprTree} {m : Meaning} → Tells w U (Asks w ls e) → HasMeaning w ls e m →
    AreLinked w U (assigned_sites s e)
assigned_one w ls U s f means.number = expr_links w ls U s f means.number
assigned_one w ls U s f means.text = expr_links w ls U s f means.text
assigned_one w ls U s f (means.name h) = expr_links w ls U s f (means.name h)
assigned_one w ls U s f (means.composite h) = expr_links w ls U s f (means.composite h)
assigned_one w ls U s f (means.paren h) = expr_links w ls U s f (means.paren h)
assigned_one w ls U s f (means.prefix h p) = expr_links w ls U s f (means.prefix h p)
assigned_one w ls U s f (means.address h) = expr_links w ls U s f (means.address h)
assigned_one w ls U s f (means.chain h more) = expr_links w ls U s f (means.chain h more)
assigned_one w ls U s f (means.binary h more) = expr_links w ls U s f (means.binary h more)

assigned_links : (w : World) (ls : Locals) (U : ℕ → Type 0) (s : TokenSpellings) {is : List (Item ExprTree)} {ts : List Taker} → Tells w U (AnyAsks w ls is) →
    AreAssigned w ls is ts → AreLinked w U (list_sites (assigned_sites s) is)
assigned_links w ls U s f no_left = tt
assigned_links w ls U s f (a_blank {i} {is} e more) =
    linked_append w U (assigned_sites s i.value) (list_sites (assigned_sites s) is)
    (subst (λ x. AreLinked w U (assigned_sites s x)) (sym e) (tt, tt)) (assigned_links w ls U s (λ n t m a. f n t m (a_later_one a)) more)
assigned_links w ls U s f (an_operand {i} {is} h more) =
    linked_append w U (assigned_sites s i.value) (list_sites (assigned_sites s) is) (assigned_one w ls U s (λ n t m a. f n t m (this_one a)) h)
    (assigned_links w ls U s (λ n t m a. f n t m (a_later_one a)) more)

defined_links : (w : World) (ls : Locals) (U : ℕ → Type 0) (s : TokenSpellings) (b : Block) (q : ℕ) {is : List (Item ExprTree)} {ts : List Taker}
    {ns : List (Option ℕ)} → AreDefined w ls is ts ns → AreLinked w U (list_sites (left_sites s b q) is)
defined_links w ls U s b q no_definition = tt
defined_links w ls U s b q (an_underscore {i} {is} e more) =
    linked_append w U (left_sites s b q i.value) (list_sites (left_sites s b q) is)
    (subst (λ x. AreLinked w U (left_sites s b q x)) (sym e) (tt, tt)) (defined_links w ls U s b q more)
defined_links w ls U s b q (a_new_name {i} {is} e own more) =
    linked_append w U (left_sites s b q i.value) (list_sites (left_sites s b q) is)
    (subst (λ x. AreLinked w U (left_sites s b q x)) (sym e) (tt, tt)) (defined_links w ls U s b q more)
defined_links w ls U s b q (an_old_name {i} {is} e other h more) =
    linked_append w U (left_sites s b q i.value) (list_sites (left_sites s b q) is)
    (subst (λ x. AreLinked w U (left_sites s b q x)) (sym e) (tt, tt)) (defined_links w ls U s b q more)

-- simple statements

pub simple_links : (w : World) (U : ℕ → Type 0) (s : TokenSpellings) (b : Block) (q : ℕ) {before after : Locals} {x : SimpleTree} →
    Tells w U (SimpleAsks w before x) → SimpleIsTyped w before x after → AreLinked w U (simple_sites s b q x)
unfolding simple_sites
simple_links w U s b q {before} f (a_call h ends front stand) = expr_links w before U s (λ n t m a. f n t m (in_call a)) h
simple_links w U s b q {before} f (a_step h i) = expr_links w before U s (λ n t m a. f n t m (in_step a)) h
simple_links w U s b q {before} f (an_update {x} {y} u h k o fits) =
    linked_append w U (expr_sites s x) (expr_sites s y) (expr_links w before U s (λ n t m a. f n t m (in_updated a)) h)
    (expr_links w before U s (λ n t m a. f n t m (in_update a)) k)
simple_links w U s b q {before} f (an_assignment {xs} {ys} h g taken) =
    linked_append w U (list_sites (assigned_sites s) xs) (exprs_sites s ys) (assigned_links w before U s (λ n t m a. f n t m (in_assigned a)) h)
    (give_links w before U s (λ n t m a. f n t m (in_assignment a)) g)
simple_links w U s b q {before} f (a_definition {xs} {ys} h g taken declares) =
    linked_append w U (list_sites (left_sites s b q) xs) (exprs_sites s ys) (defined_links w before U s b q h)
    (give_links w before U s (λ n t m a. f n t m (in_definition a)) g)

-- declarations of locals

pub ident_links : (w : World) (U : ℕ → Type 0) (s : TokenSpellings) (b : Block) (q : ℕ) (x : IdentTree) → AreLinked w U (ident_sites s (Declaring b q) x)
ident_links w U s b q (Named n) = (tt, tt)
ident_links w U s b q (Underscore n) = (tt, tt)

pub idents_links : (w : World) (U : ℕ → Type 0) (s : TokenSpellings) (b : Block) (q : ℕ) (xs : List (Item IdentTree)) →
    AreLinked w U (list_sites (ident_sites s (Declaring b q)) xs)
idents_links w U s b q [] = tt
idents_links w U s b q (x ∷ xs) =
    linked_append w U (ident_sites s (Declaring b q) x.value) (list_sites (ident_sites s (Declaring b q)) xs) (ident_links w U s b q x.value)
    (idents_links w U s b q xs)

-- a type and values, where they are written
abbrev Rest : TokenSpellings → Option TypeTree → Option (ℕ × List (Item ExprTree)) → List Site
Rest s t v = sites_if (type_sites s) t ++ sites_if (value_sites s) v

typed_rest : (w : World) (U : ℕ → Type 0) (s : TokenSpellings) {x : TypeTree} {t : PlainType} → IsType w x t → (o : Option TypeTree)
    (v : Option (ℕ × List (Item ExprTree))) → o ≡ Some x → AreLinked w U (sites_if (value_sites s) v) → AreLinked w U (Rest s o v)
typed_rest w U s {x} i o v e h =
    linked_append w U (sites_if (type_sites s) o) (sites_if (value_sites s) v)
    (subst (λ z. AreLinked w U (sites_if (type_sites s) z)) (sym e) (type_links w U s i)) h

pub local_links : (w : World) (U : ℕ → Type 0) (s : TokenSpellings) (b : Block) (q : ℕ) {before after : Locals} {l : LocalTree} →
    Tells w U (LocalAsks w before l) → LocalIsTyped w before l after → AreLinked w U (local_sites s b q l)
unfolding local_sites
local_links w U s b q {before} f (of_type {l} e n i declares) =
    linked_append w U (list_sites (ident_sites s (Declaring b q)) l.names) (Rest s l.type_use l.values) (idents_links w U s b q l.names)
    (typed_rest w U s i l.type_use l.values e (subst (λ z. AreLinked w U (sites_if (value_sites s) z)) (sym n) tt))
local_links w U s b q {before} f (of_type_with_values {l} e v i g taken declares) =
    linked_append w U (list_sites (ident_sites s (Declaring b q)) l.names) (Rest s l.type_use l.values) (idents_links w U s b q l.names)
    (typed_rest w U s i l.type_use l.values e
    (subst (λ z. AreLinked w U (sites_if (value_sites s) z)) (sym v) (give_links w before U s (λ n t m a. f n t m (in_values v a)) g)))
local_links w U s b q {before} f (of_values {l} e v g taken declares) =
    linked_append w U (list_sites (ident_sites s (Declaring b q)) l.names) (Rest s l.type_use l.values) (idents_links w U s b q l.names)
    (linked_append w U (sites_if (type_sites s) l.type_use) (sites_if (value_sites s) l.values)
    (subst (λ z. AreLinked w U (sites_if (type_sites s) z)) (sym e) tt)
    (subst (λ z. AreLinked w U (sites_if (value_sites s) z)) (sym v) (give_links w before U s (λ n t m a. f n t m (in_values v a)) g)))

-- parts in turn

locals_links : (w : World) (U : ℕ → Type 0) (s : TokenSpellings) (b : Block) (close : ℕ) {before after : Locals} {is : List (Item LocalTree)} →
    Tells w U (AskInTurn LocalTree (LocalIsTyped w) (LocalAsks w) before is) → InTurn LocalTree (LocalIsTyped w) before is after →
    AreLinked w U (separated_sites (local_sites s b) close is)
unfolding separated_sites
locals_links w U s b close f no_item = tt
locals_links w U s b close f (then_item {i} {is} h more) =
    linked_append w U (local_sites s b (unwrap_or i.separator close) i.value) (separated_sites (local_sites s b) close is)
    (local_links w U s b (unwrap_or i.separator close) (λ n t m a. f n t m (this_item a)) h)
    (locals_links w U s b close (λ n t m a. f n t m (later_item h a)) more)

pub group_links : (w : World) (U : ℕ → Type 0) (s : TokenSpellings) (b : Block) (q : ℕ) {before after : Locals} {g : Group LocalTree} →
    Tells w U (AskInGroup LocalTree (LocalIsTyped w) (LocalAsks w) before g) → InGroup LocalTree (LocalIsTyped w) before g after →
    AreLinked w U (group_sites (local_sites s b) q g)
unfolding group_sites
group_links w U s b q f (alone h) = local_links w U s b q (λ n t m a. f n t m (asks_alone a)) h
group_links w U s b q f (together {c} h) = locals_links w U s b c (λ n t m a. f n t m (asks_together a)) h
