-- Links are gone over from the last to the first: the lines wanted of the operand before each, by its `Operands.Mode`.
use Rattle.std.proofs.Common.{ℕ, ◌≡◌, ◌+◌, ◌-◌, ◌<◌, ◌≤◌, ◌∷◌, ◌++◌, [], List, ap, sym, ◌∙◌, refl, take, length, get_or, subst, append_assoc, Bool, arith}
use Rattle.std.proofs.lemmas.List.{take_more}
use Rattle.go_ast.specs.declared.tree.Link.{Link}
use Rattle.go_ast.specs.Tree.{no_link}
use Rattle.go_ast.specs.View.{link_view}
use Rattle.types_expr.specs.Lists.{links_in}
use Rattle.build_object.specs.declared.operands.Wanted.{Wanted}
use Rattle.build_object.specs.declared.operands.Wanted.TheVariants as wanted
use Rattle.build_object.specs.declared.operands.OperandMode.{OperandMode}
use Rattle.build_object.specs.declared.code.Code.{Code}
use Rattle.build_object.specs.Lines.{CodeLine}
use Rattle.build_object.specs.LineView.{lines_in, Puts}
use Rattle.build_object.specs.Source.{Source}
use Rattle.build_object.specs.Operands.{CodeOperand, qualifies, indexed, called, calling}
use Rattle.build_object.specs.Operands as ops
use Rattle.build_object.specs.Expressions.{linked, one_link}
use Rattle.build_object.specs.Making.{lines_for, mode_of, before_link, index_lines, AppliesRule, AppliesSelector, AppliesLines}
use Rattle.build_object.proofs.Modes.{linked_end, linked_last, same_qualifies, same_calling}

-- the links from number i on were gone over
pub record GoesOver (s : Source) (slots : List ℕ) (links : List Link) (i : ℕ) (head : OperandMode) (first left : Wanted) (old new : Code) : Type 0 where
  pub over : (o : CodeOperand) → before_link o.mode ≡ before_link (mode_of head) →
      lines_for first (linked s slots o (links_in links)) ++ lines_in old ≡ lines_for left (linked s slots o (links_in (take i links))) ++ lines_in new

-- one more link
pub over_more : (s : Source) (slots : List ℕ) (links : List Link) (i : ℕ) (x : Link) (head stands : OperandMode) (first left next : Wanted)
    (old mid new : Code) →
    i < length links → x ≡ get_or links i x → GoesOver s slots links (i + 1) head first left old mid →
    ((o : CodeOperand) → before_link o.mode ≡ before_link (mode_of head) →
    before_link (linked s slots o (links_in (take i links))).mode ≡ before_link (mode_of stands)) →
    AppliesRule (one_link s slots (link_view x no_link)) (mode_of stands) left next mid new → GoesOver s slots links i head first next old new
over_more s slots links i x head stands first left next old mid new lt is over known goes = record {
  over = λ o same.
      let split : take (i + 1) links ≡ take i links ++ (x ∷ []) = take_more links i x lt ∙ ap (λ y. take i links ++ (y ∷ [])) (sym is) in
      over.over o same ∙ (ap (λ ls. lines_for left (linked s slots o (links_in ls)) ++ lines_in mid) split
      ∙ (ap (λ p. lines_for left p ++ lines_in mid) (linked_last s slots o (take i links) x)
      ∙ goes.on (linked s slots o (links_in (take i links))) (known o same)));
}

-- the rules of the three links

pub goes_selector : {rule : CodeOperand → CodeOperand} {stands : ops.Mode} {first left : Wanted} {old new : Code} →
    AppliesSelector rule (qualifies stands) first left old new → AppliesRule rule stands first left old new
goes_selector {rule} {stands} g = record { on = λ o same. g.on o (same_qualifies o.mode stands same) }

pub goes_index : {i : List CodeLine} (stands : ops.Mode) (first : Wanted) {old mid new : Code} → Puts (index_lines first) old mid → Puts i mid new →
    AppliesRule (λ o. indexed o i) stands first wanted.Value old new
goes_index {i} stands wanted.Value {old} {mid} {new} p q = record {
  on = λ o same.
      append_assoc o.value _ (lines_in old) ∙ ap (λ z. o.value ++ z) (append_assoc i _ (lines_in old) ∙ (ap (λ z. i ++ z) (sym p.put) ∙ sym q.put));
}
goes_index {i} stands wanted.Address {old} {mid} {new} p q = record {
  on = λ o same.
      append_assoc o.value _ (lines_in old) ∙ ap (λ z. o.value ++ z) (append_assoc i _ (lines_in old) ∙ (ap (λ z. i ++ z) (sym p.put) ∙ sym q.put));
}

called_lines : (first : Wanted) (o : CodeOperand) (n : ℕ) (args : List CodeLine) → lines_for first (called o n args) ≡ o.value ++ (args ++ calling n o.mode)
called_lines wanted.Value o n args = refl
called_lines wanted.Address o n args = refl

pub goes_call : {args : List CodeLine} (n : ℕ) (stands : ops.Mode) (first : Wanted) {old mid new : Code} → Puts (calling n stands) old mid →
    Puts args mid new → AppliesRule (λ o. called o n args) stands first wanted.Value old new
goes_call {args} n stands first {old} {mid} {new} p q = record {
  on = λ o same.
      ap (λ z. z ++ lines_in old) (called_lines first o n args ∙ ap (λ z. o.value ++ (args ++ z)) (same_calling n o.mode stands same))
      ∙ (append_assoc o.value (args ++ calling n stands) (lines_in old) ∙
      ap (λ z. o.value ++ z) (append_assoc args (calling n stands) (lines_in old) ∙ (ap (λ z. args ++ z) (sym p.put) ∙ sym q.put)));
}

-- an operand behind which the links were gone over
pub puts_on : {rule : CodeOperand → CodeOperand} {stands : ops.Mode} {first left : Wanted} {old mid new : Code} (o : CodeOperand) →
    before_link o.mode ≡ before_link stands →
    AppliesRule rule stands first left old mid → Puts (lines_for left o) mid new → Puts (lines_for first (rule o)) old new
puts_on o same g p = record { put = p.put ∙ sym (g.on o same) }

pub puts_from : {rule : List CodeLine → List CodeLine} {v : List CodeLine} {old mid new : Code} → AppliesLines rule old mid → Puts v mid new →
    Puts (rule v) old new
puts_from {rule} {v} g p = record { put = p.put ∙ sym (g.on v) }

-- The lines wanted of operands whose value and address have equal lines

pub plain_lines : (w : Wanted) (lines : List CodeLine) → lines_for w (ops.plain lines) ≡ lines
plain_lines wanted.Value lines = refl
plain_lines wanted.Address lines = refl

pub grouped_lines : (w : Wanted) (o : CodeOperand) → lines_for w (ops.grouped o) ≡ lines_for w o
grouped_lines wanted.Value o = refl
grouped_lines wanted.Address o = refl

pub settled_lines : (w : Wanted) (o : CodeOperand) → lines_for w (ops.settled o) ≡ lines_for w o
settled_lines wanted.Value o = refl
settled_lines wanted.Address o = refl

pub no_lines : (w : Wanted) (s : ops.Mode) → lines_for w (ops.mode_alone s) ≡ []
no_lines wanted.Value s = refl
no_lines wanted.Address s = refl

-- all links, and none of them

pub over_none : (s : Source) (slots : List ℕ) (links : List Link) (n : ℕ) (head : OperandMode) (first : Wanted) (code : Code) → take n links ≡ links →
    GoesOver s slots links n head first first code code
over_none s slots links n head first code all = record
    { over = λ o same. ap (λ ls. lines_for first (linked s slots o (links_in ls)) ++ lines_in code) (sym all) }

pub over_all : (s : Source) (slots : List ℕ) (links : List Link) (head : OperandMode) (first left : Wanted) (old new : Code) →
    ((o : CodeOperand) → linked s slots o (links_in []) ≡ o) → GoesOver s slots links 0 head first left old new →
    AppliesRule (λ o. linked s slots o (links_in links)) (mode_of head) first left old new
over_all s slots links head first left old new none g = record { on = λ o same. g.over o same ∙ ap (λ p. lines_for left p ++ lines_in new) (none o) }

-- the same rule under another name
pub goes_as : {rule other : CodeOperand → CodeOperand} {stands : ops.Mode} {first left : Wanted} {old new : Code} → ((o : CodeOperand) → rule o ≡ other o) →
    AppliesRule other stands first left old new → AppliesRule rule stands first left old new
goes_as {rule} {other} {stands} {first} {left} {old} {new} e g = record { on = λ o same. ap (λ p. lines_for first p ++ lines_in old) (e o) ∙ g.on o same }

pub goes_behind_as : {rule : CodeOperand → CodeOperand} {b d : Bool} {first left : Wanted} {old new : Code} → b ≡ d →
    AppliesSelector rule b first left old new →
    AppliesSelector rule d first left old new
goes_behind_as {rule} {b} {d} e g = record { on = λ o q. g.on o (q ∙ sym e) }

-- the same in a loop whose numbers fall
pub over_turn : (s : Source) (slots : List ℕ) (links : List Link) (i : ℕ) (x : Link) (head stands : OperandMode) (first left next : Wanted)
    (old mid new : Code) →
    0 < i → i - 1 < length links → x ≡ get_or links (i - 1) x → GoesOver s slots links i head first left old mid →
    ((o : CodeOperand) → before_link o.mode ≡ before_link (mode_of head) →
    before_link (linked s slots o (links_in (take (i - 1) links))).mode ≡ before_link (mode_of stands)) →
    AppliesRule (one_link s slots (link_view x no_link)) (mode_of stands) left next mid new → GoesOver s slots links (i - 1) head first next old new
over_turn s slots links i x head stands first left next old mid new some lt is over known goes =
    let e : i ≡ i - 1 + 1 = omega arith in
    over_more s slots links (i - 1) x head stands first left next old mid new lt is (subst (λ k. GoesOver s slots links k head first left old mid) e over)
    known goes

pub over_end : (s : Source) (slots : List ℕ) (links : List Link) (i : ℕ) (head : OperandMode) (first left : Wanted) (old new : Code) → i ≤ 0 →
    GoesOver s slots links i head first left old new → AppliesRule (λ o. linked s slots o (links_in links)) (mode_of head) first left old new
over_end s slots links i head first left old new none over =
    let e : i ≡ 0 = omega arith in
    over_all s slots links head first left old new (λ o. linked_end s slots o) (subst (λ k. GoesOver s slots links k head first left old new) e over)
