-- One more edit, and the rest at the end.
use Rattle.std.proofs.Common.{List, ℕ, ◌≡◌, length, drop, subst, sym, ◌∙◌, IfSome}
use Rattle.go_respelled.specs.Replaced.{GoesOn, PutsToken}
use Rattle.go_respelled.proofs.Walked.{goes_behind, respell_all, respell_more}
use Rattle.go_respelled.proofs.between.edits_between.Goals as goal

pub returns-in-Absent : goal.returns-in-Absent
returns-in-Absent c = respell_all c.args.old.now c.loop.edits.items c.args.new.now c.loop.at c.loop.left.now c.loop.invariant c.in-Absent.ensures

pub loop-preserved : goal.loop-preserved
loop-preserved c =
    let old = c.args.old.now in
    let left : List ℕ = c.loop.left.now in
    let token = c.in-InToken.token in
    let edit = c.in-Some.edit in
    let rest : List ℕ = drop token.same left in
    let puts : PutsToken old token.number rest edit =
    subst (λ (l : List ℕ). PutsToken old token.number l edit) c.from-rest.ensures
    (subst (λ o. IfSome o (PutsToken old token.number c.from-rest.result.now)) c.in-Some.is c.in_ok-edit.ensures) in
    let goes : GoesOn old.text c.loop.at edit left (drop (length edit.text) rest) =
    goes_behind old c.loop.at left token edit c.tokens-end.ensures.order c.in-InToken.ensures puts in
    let left_over : c.from-left.result.now ≡ drop (length edit.text) rest =
    c.from-left.ensures ∙ (λ i. drop (c.len.ensures i) (c.from-rest.ensures i)) in
    respell_more old c.loop.edits.items c.push.new.self.items c.args.new.now c.loop.at left c.from-left.result.now edit c.in_ok-push.ensures.items
    (subst (GoesOn old.text c.loop.at edit left) (sym left_over) goes) puts.replaces c.loop.invariant
