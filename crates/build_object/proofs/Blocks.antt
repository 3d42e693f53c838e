-- The code of blocks, ifs and loops, by the parts that the program goes over.
use Rattle.std.proofs.Common.{ℕ, ◌≡◌, ◌+◌, ◌-◌, ◌<◌, ◌≤◌, List, [], ◌∷◌, ◌++◌, length, length-append, drop, get_or, ap, ◌∙◌, sym, refl, arith, suc}
use Rattle.std.proofs.Common.{append_assoc, Option, Some, None, Bool, true, false, is_some}
use Rattle.std.proofs.lemmas.Bool.{true≢false}
use Rattle.go_ast.specs.Tree.{ExprTree, BlockTree}
use Rattle.go_ast.specs.View.{expr_view, option_view}
use Rattle.go_ast.specs.FileView.{init_view, for_view, stmt_view, block_view, statements_view, if_view, else_view}
use Rattle.go_ast.specs.declared.tree.ForHeader.{ForHeader}
use Rattle.go_ast.specs.declared.tree.Stmt.{Stmt}
use Rattle.go_ast.specs.declared.tree.Stmt.TheVariants as stmt
use Rattle.go_ast.specs.declared.tree.BlockItem.{BlockItem}
use Rattle.go_ast.specs.declared.tree.BlockStmt as trees
use Rattle.go_ast.specs.declared.tree.BlockStmt.{BlockStmt', out-BlockStmt, outs-BlockStmt', Row_of-BlockItem, end_of-BlockItem, more_of-BlockItem}
use Rattle.go_ast.specs.declared.tree.BlockStmt.{items-the_row-BlockItem, items_shown-the_row-BlockItem-0}
use Rattle.go_ast.specs.declared.tree.IfStmt.{IfStmt, IfStmt', out-IfStmt, outs-IfStmt'}
use Rattle.types_expr.proofs.Items.{next_item}
use Rattle.build_object.specs.declared.statements.JumpMarks.{JumpMarks}
use Rattle.build_object.specs.Lines.{CodeLine, End, Jump, JumpBack, JumpUnless}
use Rattle.build_object.specs.Source.{Source}
use Rattle.build_object.specs.Expressions.{value_lines}
use Rattle.build_object.specs.Statements.{Exits, further, block_exits, body_exits, body_lines, branched, init_lines, no_exits, loop_condition, loop_lines}
use Rattle.build_object.specs.Statements.{for_condition, for_init, for_post, statement_lines, block_lines, statements_lines, if_lines, else_lines}
use Rattle.build_object.specs.declared.code.Code.{Code}
use Rattle.build_object.specs.LineView.{lines_in, Puts}
use Rattle.build_object.specs.ExitsView.{exits_of, lines_of_each, lines_or_none, AreExitsWithin, PutsElse, else_jump}
use Rattle.build_object.proofs.Putting.{puts_as, puts_then, puts_length, put_count}

-- statements of the program in turn

each_step : (s : Source) (slots : List ℕ) (r : ℕ) (x : Exits) (i : BlockItem) (is : List BlockItem) →
    lines_of_each s slots r x (i ∷ is) ≡ statement_lines s slots r (further (length (lines_of_each s slots r x is)) x) (stmt_view i.statement) ++
    lines_of_each s slots r x is
unfolding lines_of_each
each_step s slots r x i is = refl

pub each_end : (s : Source) (slots : List ℕ) (r : ℕ) (x : Exits) → lines_of_each s slots r x [] ≡ []
unfolding lines_of_each
each_end s slots r x = refl

each_row : (s : Source) (slots : List ℕ) (r : ℕ) (x : Exits) {n : _} (row : Row_of-BlockItem n) →
    lines_of_each s slots r x (items-the_row-BlockItem n row) ≡ statements_lines s slots r x (statements_view row)
unfolding lines_of_each statements_lines statements_view
each_row s slots r x end_of-BlockItem = refl
each_row s slots r x (more_of-BlockItem a p rest) =
    ap (λ ls. statement_lines s slots r (further (length ls) x) (stmt_view a) ++ ls) (each_row s slots r x rest)

block_from : (s : Source) (slots : List ℕ) (r : ℕ) (x : Exits) (b : trees.BlockStmt) →
    lines_of_each s slots r x (out-BlockStmt b).statements.items ≡ block_lines s slots r x (block_view b)
unfolding block_lines block_view
block_from s slots r x (BlockStmt' o shape row c) =
    ap (λ b. lines_of_each s slots r x b.statements.items) (outs-BlockStmt' o shape row c) ∙
    (ap (lines_of_each s slots r x) (items_shown-the_row-BlockItem-0 shape row) ∙ each_row s slots r x row)

pub block_read : (s : Source) (slots : List ℕ) (r : ℕ) (x : Exits) (b : trees.BlockStmt) (xs : List BlockItem) → xs ≡ (out-BlockStmt b).statements.items →
    lines_of_each s slots r x xs ≡ block_lines s slots r x (block_view b)
block_read s slots r x b xs e = ap (lines_of_each s slots r x) e ∙ block_from s slots r x b

if_from : (s : Source) (slots : List ℕ) (r : ℕ) (x : Exits) (i : IfStmt) →
    init_lines s slots (option_view init_view (out-IfStmt i).init) ++ (value_lines s slots (expr_view (out-IfStmt i).condition)
    ++ branched (block_lines s slots r (block_exits (else_lines s slots r x (else_view (out-IfStmt i).otherwise)) x) (block_view (out-IfStmt i).body))
    (else_lines s slots r x (else_view (out-IfStmt i).otherwise)))
    ≡ if_lines s slots r x (if_view i)
unfolding if_lines if_view
if_from s slots r x (IfStmt' p init e b rest) =
    ap (λ i. init_lines s slots (option_view init_view i.init) ++ (value_lines s slots (expr_view i.condition)
    ++ branched (block_lines s slots r (block_exits (else_lines s slots r x (else_view i.otherwise)) x) (block_view i.body))
    (else_lines s slots r x (else_view i.otherwise)))) (outs-IfStmt' p init e b rest)

pub for_taken : (s : Source) (slots : List ℕ) (r : ℕ) (x : Exits) {a : Stmt} (p : ℕ) (h : _) (b : trees.BlockStmt) → a ≡ stmt.For p h b →
    (first second : ForHeader) → first ≡ h.value → second ≡ h.value → statement_lines s slots r x (stmt_view a) ≡
    for_init s slots (for_view second) ++ loop_lines s slots (for_condition (for_view first))
    (block_lines s slots r (body_exits (for_post s slots (for_view first))) (block_view b)) (for_post s slots (for_view first))
unfolding statement_lines stmt_view
for_taken s slots r x p h b is first second hf hs =
    ap (λ v. statement_lines s slots r x (stmt_view v)) is ∙
    (ap (λ k. for_init s slots (for_view k) ++ loop_lines s slots (for_condition (for_view h.value))
    (block_lines s slots r (body_exits (for_post s slots (for_view h.value))) (block_view b)) (for_post s slots (for_view h.value))) (sym hs) ∙
    ap (λ k. for_init s slots (for_view second) ++ loop_lines s slots (for_condition (for_view k))
    (block_lines s slots r (body_exits (for_post s slots (for_view k))) (block_view b)) (for_post s slots (for_view k))) (sym hf))

-- Exits: those of a statement behind which so many more lines lie

sub_more : (a n m : ℕ) → m ≤ n → (a + n) - m ≡ a + (n - m)
sub_more a n m h = omega arith

exits_more : (marks : JumpMarks) (a n : ℕ) → AreExitsWithin marks n → exits_of marks (a + n) ≡ further a (exits_of marks n)
exits_more marks a n w =
    let first : exits_of marks (a + n) ≡ record { next = a + (n - marks.next); out = (a + n) - marks.out } =
    ap (λ k. record { next = k; out = (a + n) - marks.out }) (sub_more a n marks.next w.next) in
    let second : record { next = a + (n - marks.next); out = (a + n) - marks.out } ≡ further a (exits_of marks n) =
    ap (λ k. record { next = a + (n - marks.next); out = k }) (sub_more a n marks.out w.out) in
    first ∙ second

pub within_more : {marks : JumpMarks} {m n : ℕ} → m ≤ n → AreExitsWithin marks m → AreExitsWithin marks n
within_more {marks} {m} {n} h w = record { next = let k = w.next in omega arith; out = let k = w.out in omega arith }

pub within_put : {marks : JumpMarks} {lines : List CodeLine} {old new : Code} → AreExitsWithin marks (length (lines_in old)) → Puts lines old new →
    AreExitsWithin marks (length (lines_in new))
within_put {marks} {lines} {old} {new} w p = within_more (let h = puts_length p in omega arith) w

-- one more statement before others
pub each_turn : (s : Source) (slots : List ℕ) (r : ℕ) (marks : JumpMarks) {old mid new : Code} (xs : List BlockItem) (i : ℕ) (x : BlockItem) → 0 < i →
    i - 1 < length xs → x ≡ get_or xs (i - 1) x →
    AreExitsWithin marks (length (lines_in old)) → Puts (lines_of_each s slots r (exits_of marks (length (lines_in old))) (drop i xs)) old mid →
    Puts (statement_lines s slots r (exits_of marks (length (lines_in mid))) (stmt_view x.statement)) mid new →
    Puts (lines_of_each s slots r (exits_of marks (length (lines_in old))) (drop (i - 1) xs)) old new
each_turn s slots r marks {old} {mid} {new} xs i x some lt is w p q =
    let e : i - 1 + 1 ≡ i = omega arith in
    let rest : List CodeLine = lines_of_each s slots r (exits_of marks (length (lines_in old))) (drop i xs) in
    let size : length (lines_in mid) ≡ length rest + length (lines_in old) = puts_length p in
    let leads : exits_of marks (length (lines_in mid)) ≡ further (length rest) (exits_of marks (length (lines_in old))) = ap (exits_of marks) size ∙
    exits_more marks (length rest) (length (lines_in old)) w in
    puts_as (ap (lines_of_each s slots r (exits_of marks (length (lines_in old)))) (next_item xs (i - 1) x lt is ∙ ap (λ k. x ∷ drop k xs) e)
    ∙ (each_step s slots r (exits_of marks (length (lines_in old))) x (drop i xs) ∙
    ap (λ y. statement_lines s slots r y (stmt_view x.statement) ++ rest) (sym leads)))
    (puts_then p q)

-- The code behind `else`

pub else_nothing : (c : Code) → PutsElse None false c c
else_nothing c = record { has = refl; put = refl }

pub else_something : {lines : List CodeLine} {old new : Code} → Puts lines old new → PutsElse (Some lines) true old new
else_something p = record { has = refl; put = p.put }

pub else_as : {a b : Option (List CodeLine)} {has : Bool} {old new : Code} → a ≡ b → PutsElse b has old new → PutsElse a has old new
else_as {a} {b} {has} {old} {new} e p = record { has = p.has ∙ ap is_some (sym e); put = p.put ∙ ap (λ z. lines_or_none z ++ lines_in old) (sym e) }

pub else_grows : {other : Option (List CodeLine)} {has : Bool} {old new : Code} → PutsElse other has old new → length (lines_in old) ≤ length (lines_in new)
else_grows {other} {has} {old} {new} p =
    let h : length (lines_in new) ≡ length (lines_or_none other) + length (lines_in old) = ap length p.put ∙
    length-append (lines_or_none other) (lines_in old) in omega arith

-- nothing behind an `else` that is not there, and then the block
else_none : {body : List CodeLine} {c0 c1 c2 c3 : Code} → PutsElse None false c0 c1 → Puts [] c1 c2 → Puts body c2 c3 → Puts body c0 c3
else_none {body} e j b = record { put = b.put ∙ ap (λ z. body ++ z) (j.put ∙ e.put) }

-- where jumps out of the block of an `if` lead
else_exits : (marks : JumpMarks) (other : Option (List CodeLine)) (has : Bool) (k : ℕ) {c0 c1 c2 : Code} → AreExitsWithin marks (length (lines_in c0)) →
    PutsElse other has c0 c1 → Puts (else_jump has k) c1 c2 →
    block_exits other (exits_of marks (length (lines_in c0))) ≡ exits_of marks (length (lines_in c2))
else_exits marks None true k w e j = absurd (true≢false e.has)
else_exits marks None false k {c0} {c1} {c2} w e j =
    let there : Puts [] c0 c1 = record { put = e.put } in
    let same : length (lines_in c0) ≡ length (lines_in c2) = let h = puts_length there in let g = puts_length j in omega arith in
    ap (exits_of marks) same
else_exits marks (Some other) false k w e j = absurd (true≢false (sym e.has))
else_exits marks (Some other) true k {c0} {c1} {c2} w e j =
    let there : Puts other c0 c1 = record { put = e.put } in
    let size : length (lines_in c2) ≡ suc (length other) + length (lines_in c0) = let h = puts_length there in let g = puts_length j in omega arith in
    sym (ap (exits_of marks) size ∙ exits_more marks (suc (length other)) (length (lines_in c0)) w)

-- The parts of an `if` as they are put: the code behind `else`, the jump over it, the block, the condition, and the simple statement before
-- it.
branches_put : (other : Option (List CodeLine)) (has : Bool) (body condition first : List CodeLine) {c0 c1 c2 c3 c4 c5 : Code} → PutsElse other has c0 c1 →
    Puts (else_jump has (length (lines_in c1) - length (lines_in c0))) c1 c2 → Puts body c2 c3 →
    Puts (condition ++ (JumpUnless (length (lines_in c3) - length (lines_in c1)) ∷ [])) c3 c4 → Puts first c4 c5 →
    Puts (first ++ (condition ++ branched body other)) c0 c5
branches_put None true body condition first e j b t f = absurd (true≢false e.has)
branches_put None false body condition first {c0} {c1} {c2} {c3} e j b t f =
    let near : length (lines_in c3) - length (lines_in c1) ≡ length body = let h = puts_length j in let k = puts_length b in omega arith in
    puts_as (ap (λ z. first ++ z) (ap (λ n. condition ++ (JumpUnless n ∷ body)) (sym near) ∙
    sym (append_assoc condition (JumpUnless (length (lines_in c3) - length (lines_in c1)) ∷ []) body)))
    (puts_then (puts_then (else_none e j b) t) f)
branches_put (Some other) false body condition first e j b t f = absurd (true≢false (sym e.has))
branches_put (Some other) true body condition first {c0} {c1} {c2} {c3} e j b t f =
    let there : Puts other c0 c1 = record { put = e.put } in
    let over : length (lines_in c1) - length (lines_in c0) ≡ length other = put_count there in
    let near : length (lines_in c3) - length (lines_in c1) ≡ suc (length body) = let h = puts_length j in let k = puts_length b in omega arith in
    puts_as (ap (λ z. first ++ z) (ap (λ n. condition ++ (JumpUnless n ∷ (body ++ (Jump (length other) ∷ other)))) (sym near)
    ∙ (ap (λ n. condition ++ (JumpUnless (length (lines_in c3) - length (lines_in c1)) ∷ (body ++ (Jump n ∷ other)))) (sym over)
    ∙ sym (append_assoc condition (JumpUnless (length (lines_in c3) - length (lines_in c1)) ∷ [])
    (body ++ (Jump (length (lines_in c1) - length (lines_in c0)) ∷ other))))))
    (puts_then (puts_then (puts_then (puts_then there j) b) t) f)

-- An `if`. `end` is the number of lines at first. `skipped` is that with the code behind `else`.
pub if_put : (s : Source) (slots : List ℕ) (r : ℕ) (marks : JumpMarks) (i : IfStmt) (end skipped : ℕ) (has : Bool) {c0 c1 c2 c3 c4 c5 : Code} →
    AreExitsWithin marks (length (lines_in c0)) →
    end ≡ length (lines_in c0) → skipped ≡ length (lines_in c1) →
    PutsElse (else_lines s slots r (exits_of marks (length (lines_in c0))) (else_view (out-IfStmt i).otherwise)) has c0 c1 →
    Puts (else_jump has (length (lines_in c1) - end)) c1 c2 →
    Puts (block_lines s slots r (exits_of marks (length (lines_in c2))) (block_view (out-IfStmt i).body)) c2 c3 →
    Puts (value_lines s slots (expr_view (out-IfStmt i).condition) ++ (JumpUnless (length (lines_in c3) - skipped) ∷ [])) c3 c4 →
    Puts (init_lines s slots (option_view init_view (out-IfStmt i).init)) c4 c5 →
    Puts (if_lines s slots r (exits_of marks (length (lines_in c0))) (if_view i)) c0 c5
if_put s slots r marks i end skipped has {c0} {c1} {c2} {c3} w first behind e j b t f =
    let other : Option (List CodeLine) = else_lines s slots r (exits_of marks (length (lines_in c0))) (else_view (out-IfStmt i).otherwise) in
    let leads : block_exits other (exits_of marks (length (lines_in c0))) ≡ exits_of marks (length (lines_in c2)) =
    else_exits marks other has (length (lines_in c1) - end) w e j in
    puts_as (sym (if_from s slots r (exits_of marks (length (lines_in c0))) i))
    (branches_put other has (block_lines s slots r (block_exits other (exits_of marks (length (lines_in c0)))) (block_view (out-IfStmt i).body))
    (value_lines s slots (expr_view (out-IfStmt i).condition)) (init_lines s slots (option_view init_view (out-IfStmt i).init))
    e (puts_as (ap (λ k. else_jump has (length (lines_in c1) - k)) (sym first)) j)
    (puts_as (ap (λ y. block_lines s slots r y (block_view (out-IfStmt i).body)) leads) b)
    (puts_as (ap (λ k. value_lines s slots (expr_view (out-IfStmt i).condition) ++ (JumpUnless (length (lines_in c3) - k) ∷ [])) (sym behind)) t) f)

-- Loops

-- where jumps out of the body of a loop lead
body_leads : (marks : JumpMarks) (n k : ℕ) → marks.next ≡ n → n ≡ k + marks.out → exits_of marks n ≡ record { next = 0; out = k }
body_leads marks n k e f =
    let here : n - marks.next ≡ 0 = omega arith in
    let there : n - marks.out ≡ k = omega arith in
    let first : exits_of marks n ≡ record { next = 0; out = n - marks.out } = ap (λ m. record { next = m; out = n - marks.out }) here in
    first ∙ ap (λ m. record { next = 0; out = m }) there

-- what a loop repeats, as it is put: the jump back before it leads anywhere, what is done after each turn, the body, the condition
pub turns_put : (s : Source) (slots : List ℕ) (r : ℕ) (b : BlockTree) (tested : Option ExprTree) (post : List CodeLine) (l : CodeLine) (marks : JumpMarks)
    {c0 c1 c2 c3 c4 c5 : Code} →
    marks.out ≡ length (lines_in c0) → marks.next ≡ length (lines_in c2) → Puts (l ∷ []) c0 c1 → Puts post c1 c2 →
    Puts (block_lines s slots r (exits_of marks (length (lines_in c2))) b) c2 c3 →
    Puts (loop_condition s slots tested (length (lines_in c3) - marks.out)) c3 c4 →
    ((lines rest : List CodeLine) (x : CodeLine) → length rest ≡ marks.out → lines_in c4 ≡ lines ++ (x ∷ rest) →
    lines_in c5 ≡ lines ++ (JumpBack (suc (length lines)) ∷ rest)) →
    Puts (loop_lines s slots tested (block_lines s slots r (body_exits post) b) post) c0 c5
turns_put s slots r b tested post l marks {c0} {c1} {c2} {c3} {c4} {c5} out next p q t u back =
    let grown : length (lines_in c2) ≡ suc (length post) + marks.out = let h = puts_length p in let k = puts_length q in omega arith in
    let leads : exits_of marks (length (lines_in c2)) ≡ body_exits post = body_leads marks (length (lines_in c2)) (suc (length post)) next grown in
    let body : List CodeLine = block_lines s slots r (body_exits post) b in
    let v : Puts body c2 c3 = puts_as (ap (λ x. block_lines s slots r x b) (sym leads)) t in
    let over : length (lines_in c3) - marks.out ≡ suc (length (body ++ post)) = let h = puts_length v in let k = length-append body post in omega arith in
    let z : Puts (loop_condition s slots tested (suc (length (body ++ post)))) c3 c4 = puts_as (ap (loop_condition s slots tested) (sym over)) u in
    let lines : List CodeLine = loop_condition s slots tested (suc (length (body ++ post))) ++ (body ++ post) in
    let was : lines_in c4 ≡ lines ++ (l ∷ lines_in c0) =
    z.put ∙ (ap (λ y. loop_condition s slots tested (suc (length (body ++ post))) ++ y)
    (v.put ∙ (ap (λ y. body ++ y) (q.put ∙ ap (λ y. post ++ y) p.put) ∙ sym (append_assoc body post (l ∷ lines_in c0))))
    ∙ sym (append_assoc (loop_condition s slots tested (suc (length (body ++ post)))) (body ++ post) (l ∷ lines_in c0))) in
    record { put = back lines (lines_in c0) l (sym out) was ∙ sym (append_assoc lines (JumpBack (suc (length lines)) ∷ []) (lines_in c0)) }

-- The code of a function: its end, and before it its block

pub body_put : (s : Source) (slots : List ℕ) (r : ℕ) (b : BlockTree) (marks : JumpMarks) {c0 c1 c2 : Code} → lines_in c0 ≡ [] → Puts (End ∷ []) c0 c1 →
    marks.next ≡ length (lines_in c1) → marks.out ≡ length (lines_in c1) → Puts (block_lines s slots r (exits_of marks (length (lines_in c1))) b) c1 c2 →
    lines_in c2 ≡ body_lines s slots r b
body_put s slots r b marks {c0} {c1} {c2} none p next out q =
    let leads : exits_of marks (length (lines_in c1)) ≡ no_exits = body_leads marks (length (lines_in c1)) 0 next (omega arith) in
    q.put ∙ (ap (λ x. block_lines s slots r x b ++ lines_in c1) leads ∙ ap (λ z. block_lines s slots r no_exits b ++ z) (p.put ∙ ap (λ z. End ∷ z) none))
