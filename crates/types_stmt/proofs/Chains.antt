-- Chains, split into the last link and the links before it.
use Rattle.std.proofs.Common.{ℕ, ◌≡◌, Bool, true, false, ◌||◌, ◌&&◌, length, arith, List, [], ◌∷◌, ◌++◌, ap, sym, ◌∙◌, refl, if◌then◌else◌}
use Rattle.go_ast.specs.Tree.{ExprTree, Chain, Name, LinkTrees, selector, index, call, no_link}
use Rattle.go_ast.specs.View.{expr_view, link_view, arguments_view}
use Rattle.go_ast.specs.declared.tree.Expr.{Expr}
use Rattle.go_ast.specs.declared.tree.Expr.TheVariants as expr
use Rattle.go_ast.specs.declared.tree.Link.{Link}
use Rattle.go_ast.specs.declared.tree.Link.TheVariants as link
use Rattle.types_expr.specs.Places.{first_token, place_of, place_of_links, place_after_link}
use Rattle.types_expr.specs.World.{World, Locals}
use Rattle.types_expr.specs.Judge.{Judged, judge, judge_link, judge_value, judge_links, judge_arguments, select, index_rule, call_rule, followed}
use Rattle.types_expr.specs.Lists.{links_in}
use Rattle.types_expr.specs.declared.found.FoundInFile.{FoundInFile}
use Rattle.types_expr.specs.Types.{Meaning}
use Rattle.types_expr.specs.Found.{AddsJudged}
use Rattle.types_expr.proofs.Trees.{chain_tree, named_chain_tree, place_step}
use Rattle.types_expr.proofs.Equations.{links_step, links_end}
use Rattle.types_stmt.specs.Simple.{is_end, without_parentheses, is_statement, may_be_statement, ends_in_call, without_last}
use Rattle.types_expr.proofs.AddedJudgements.{adds_then}
use Rattle.types_stmt.proofs.LoopProgress.{adds_as}

-- links that end in a given link are not empty
not_end : (xs : List Link) (l : Link) → is_end (links_in (xs ++ (l ∷ []))) ≡ false
unfolding links_in link_view
not_end [] (link.Selector d n) = refl
not_end [] (link.Index' o p e c) = refl
not_end [] (link.Call' o c shape row) = refl
not_end (link.Selector d n ∷ xs) l = refl
not_end (link.Index' o p e c ∷ xs) l = refl
not_end (link.Call' o c shape row ∷ xs) l = refl

pub without_last_links : (xs : List Link) (l : Link) → without_last (links_in (xs ++ (l ∷ []))) ≡ links_in xs
unfolding links_in link_view without_last
without_last_links [] (link.Selector d n) = refl
without_last_links [] (link.Index' o p e c) = refl
without_last_links [] (link.Call' o c shape row) = refl
without_last_links (link.Selector d n ∷ xs) l =
    ap (λ (b : Bool). if b then no_link else selector d n (without_last (links_in (xs ++ (l ∷ []))))) (not_end xs l) ∙
    ap (λ x. selector d n x) (without_last_links xs l)
without_last_links (link.Index' o p e c ∷ xs) l =
    ap (λ (b : Bool). if b then no_link else index o (expr_view e) c (without_last (links_in (xs ++ (l ∷ []))))) (not_end xs l) ∙
    ap (λ x. index o (expr_view e) c x) (without_last_links xs l)
without_last_links (link.Call' o c shape row ∷ xs) l =
    ap (λ (b : Bool). if b then no_link else call o (arguments_view row) c (without_last (links_in (xs ++ (l ∷ []))))) (not_end xs l) ∙
    ap (λ x. call o (arguments_view row) c x) (without_last_links xs l)

-- whether a chain ends in a call depends on its last link alone
pub ends_as_last : (xs : List Link) (l : Link) → ends_in_call (links_in (xs ++ (l ∷ []))) ≡ ends_in_call (links_in (l ∷ []))
unfolding links_in link_view ends_in_call
ends_as_last [] l = refl
ends_as_last (link.Selector d n ∷ xs) l = ends_as_last xs l
ends_as_last (link.Index' o p e c ∷ xs) l = ends_as_last xs l
ends_as_last (link.Call' o c shape row ∷ xs) l = ap (λ b. b || ends_in_call (links_in (xs ++ (l ∷ [])))) (not_end xs l) ∙ ends_as_last xs l

-- the judgement of links, continued from that of the links before them
pub links_append : (w : World) (ls : Locals) (start here : ℕ) (j : Judged) (xs ys : List Link) →
    judge_links w ls start here j (links_in (xs ++ ys)) ≡ judge_links w ls start (place_of_links start here (links_in xs))
    (judge_links w ls start here j (links_in xs)) (links_in ys)
unfolding links_in link_view judge_links place_of_links
links_append w ls start here j [] ys = refl
links_append w ls start here j (link.Selector d n ∷ xs) ys = links_append w ls start n (followed j (select w ls here n)) xs ys
links_append w ls start here j (link.Index' o p e c ∷ xs) ys =
    links_append w ls start start (followed j (index_rule w start here (expr_view e) (judge_value w ls (expr_view e)))) xs ys
links_append w ls start here j (link.Call' o c shape row ∷ xs) ys =
    links_append w ls start start (followed j (call_rule w start here (judge_arguments w ls (arguments_view row)))) xs ys

-- the token at which links report their faults depends on the last link alone
pub place_behind_last : (start here : ℕ) (xs : List Link) (l : Link) →
    place_of_links start here (links_in (xs ++ (l ∷ []))) ≡ place_after_link start (link_view l no_link)
unfolding links_in link_view place_of_links
place_behind_last start here [] (link.Selector d n) = refl
place_behind_last start here [] (link.Index' o p e c) = refl
place_behind_last start here [] (link.Call' o c shape row) = refl
place_behind_last start here (x ∷ xs) l = place_step start here x (links_in (xs ++ (l ∷ []))) ∙
    place_behind_last start (place_after_link start (link_view x no_link)) xs l

pub no_links : (start here : ℕ) (xs : List Link) → length xs ≡ 0 → here ≡ place_of_links start here (links_in xs)
unfolding links_in place_of_links
no_links start here [] e = refl
no_links start here (x ∷ xs) e = absurd (omega (arith, e))

-- the judgement of a chain, by that of the links before the last and the last link
last_judged : (w : World) (ls : Locals) (start here : ℕ) (j : Judged) (xs : List Link) (l : Link) →
    judge_links w ls start here j (links_in (xs ++ (l ∷ []))) ≡ followed (judge_links w ls start here j (links_in xs))
    (judge_link w ls start (place_of_links start here (links_in xs)) (link_view l no_link))
last_judged w ls start here j xs l =
    links_append w ls start here j xs (l ∷ [])
    ∙ (links_step w ls start (place_of_links start here (links_in xs)) (judge_links w ls start here j (links_in xs)) l [] ∙ links_end w ls start _ _)

chain_judged : (w : World) (ls : Locals) (e : ExprTree) (links : LinkTrees) →
    judge w ls (Chain e links) ≡ judge_links w ls (first_token e) (place_of e) (judge w ls e) links
unfolding judge
chain_judged w ls e links = refl

pub chain_adds : (w : World) (ls : Locals) (e : ExprTree) (xs : List Link) (l : Link) {start place behind : ℕ} {old mid new : FoundInFile} {m r : Meaning} →
    start ≡ first_token e → place ≡ place_of e →
    behind ≡ place_of_links start place (links_in xs) → AddsJudged (judge_links w ls start place (judge w ls e) (links_in xs)) old mid m →
    AddsJudged (judge_link w ls start behind (link_view l no_link) m) mid new r →
    AddsJudged (judge w ls (Chain e (links_in (xs ++ (l ∷ []))))) old new r
chain_adds w ls e xs l {start} {place} {behind} is_start is_place is_behind a b =
    adds_as (adds_then (judge_link w ls start behind (link_view l no_link)) a b)
    (ap (λ h. followed (judge_links w ls start place (judge w ls e) (links_in xs)) (judge_link w ls start h (link_view l no_link))) is_behind
    ∙ (sym (last_judged w ls start place (judge w ls e) xs l)
    ∙ (ap (λ s. judge_links w ls s place (judge w ls e) (links_in (xs ++ (l ∷ [])))) is_start
    ∙ (ap (λ p. judge_links w ls (first_token e) p (judge w ls e) (links_in (xs ++ (l ∷ [])))) is_place
    ∙ sym (chain_judged w ls e (links_in (xs ++ (l ∷ []))))))))

as_if : (b c : Bool) → (b && c) ≡ (if b then c else false)
as_if true c = refl
as_if false c = refl

stands_if : (w : World) (ls : Locals) (e : ExprTree) (links : LinkTrees) →
    is_statement w ls (Chain e links) ≡ (if ends_in_call links then may_be_statement (judge w ls (Chain e (without_last links))).meaning else false)
unfolding is_statement
stands_if w ls e links = refl

one_link : (l : Link) → links_in (l ∷ []) ≡ link_view l no_link
unfolding links_in
one_link l = refl

pub chain_stands : (w : World) (ls : Locals) (e : ExprTree) (xs : List Link) (l : Link) {start place : ℕ} {m : Meaning} → start ≡ first_token e →
    place ≡ place_of e →
    m ≡ (judge_links w ls start place (judge w ls e) (links_in xs)).meaning →
    (ends_in_call (link_view l no_link) && may_be_statement m) ≡ is_statement w ls (Chain e (links_in (xs ++ (l ∷ []))))
chain_stands w ls e xs l {start} {place} {m} is_start is_place is =
    let called : m ≡ (judge w ls (Chain e (links_in xs))).meaning = is ∙ ap (λ j. j.meaning)
    (ap (λ s. judge_links w ls s place (judge w ls e) (links_in xs)) is_start
    ∙ (ap (λ p. judge_links w ls (first_token e) p (judge w ls e) (links_in xs)) is_place ∙ sym (chain_judged w ls e (links_in xs)))) in
    ap (λ x. ends_in_call (link_view l no_link) && may_be_statement x) called
    ∙ (as_if (ends_in_call (link_view l no_link)) (may_be_statement (judge w ls (Chain e (links_in xs))).meaning)
    ∙ (ap (λ (b : Bool). if b then may_be_statement (judge w ls (Chain e (links_in xs))).meaning else false)
    (ap ends_in_call (sym (one_link l)) ∙ sym (ends_as_last xs l))
    ∙ (ap (λ t. if ends_in_call (links_in (xs ++ (l ∷ []))) then may_be_statement (judge w ls (Chain e t)).meaning else false) (sym (without_last_links xs l))
    ∙ sym (stands_if w ls e (links_in (xs ++ (l ∷ [])))))))

-- a chain without links
pub bare_adds : (w : World) (ls : Locals) (e : ExprTree) (xs : List Link) {old new : FoundInFile} {m : Meaning} → xs ≡ [] →
    AddsJudged (judge w ls e) old new m →
    AddsJudged (judge w ls (Chain e (links_in xs))) old new m
bare_adds w ls e xs is a =
    adds_as a (sym (ap (λ x. judge w ls (Chain e (links_in x))) is ∙
    (chain_judged w ls e (links_in []) ∙ links_end w ls (first_token e) (place_of e) (judge w ls e))))

pub bare_stands : (w : World) (ls : Locals) (e : ExprTree) (xs : List Link) → xs ≡ [] → false ≡ is_statement w ls (Chain e (links_in xs))
unfolding is_statement links_in ends_in_call
bare_stands w ls e xs is = ap (λ x. is_statement w ls (Chain e (links_in x))) (sym is)

-- an expression that is a chain
pub chain_is : {e : Expr} (first : _) (links : _) → e ≡ expr.Chain first links → (x : Expr) (xs : List Link) → x ≡ first.value → xs ≡ links.items →
    Chain (expr_view x) (links_in xs) ≡ expr_view e
chain_is first links is x xs hx hxs =
    ap (λ y. Chain (expr_view y) (links_in xs)) hx ∙ (ap (λ ys. Chain (expr_view first.value) (links_in ys)) hxs ∙
    (sym (chain_tree first links) ∙ ap expr_view (sym is)))

pub named_chain_is : {e : Expr} (n : ℕ) (links : _) → e ≡ expr.NamedChain n links → (xs : List Link) → xs ≡ links.items →
    Chain (expr_view (expr.Name n)) (links_in xs) ≡ expr_view e
unfolding expr_view
named_chain_is n links is xs hxs = ap (λ ys. Chain (Name n) (links_in ys)) hxs ∙ (sym (named_chain_tree n links) ∙ ap expr_view (sym is))

-- an expression in parentheses
pub paren_dropped : {e : Expr} (o : ℕ) (b : _) (c : ℕ) → e ≡ expr.Paren o b c → (x : Expr) → x ≡ b.value →
    without_parentheses (expr_view x) ≡ without_parentheses (expr_view e)
unfolding without_parentheses expr_view
paren_dropped o b c is x hx = ap (λ z. without_parentheses (expr_view z)) hx ∙ sym (ap (λ z. without_parentheses (expr_view z)) is)

pub paren_stands : (w : World) (ls : Locals) {e : Expr} (o : ℕ) (b : _) (c : ℕ) → e ≡ expr.Paren o b c → false ≡ is_statement w ls (expr_view e)
unfolding is_statement expr_view
paren_stands w ls o b c is = sym (ap (λ z. is_statement w ls (expr_view z)) is)
