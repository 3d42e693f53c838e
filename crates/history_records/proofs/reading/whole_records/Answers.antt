-- One record further, and what stands behind the last one.
use Rattle.std.proofs.Common.{List, ℕ, [], ◌∷◌, map, refl, sym, subst, ◌∙◌}
use Rattle.std.specs.Borrow.{Bor}
use Rattle.std.proofs.lemmas.Bool.{false≢true}
use Rattle.std.proofs.lemmas.List.{map-append}
use Rattle.history_records.proofs.ReadRecords.{HasReadTo, read_all, read_more, read_none}
use Rattle.history_records.proofs.reading.whole_records.Goals as goal

pub loop-one-init : goal.loop-one-init
loop-one-init c =
    subst (λ (xs : List (Bor (List ℕ))). HasReadTo c.args.bytes.now (map (λ h. h.now) xs) c.args.bytes.now) (sym c.new-held.ensures.items)
    (read_none c.args.bytes.now)

pub loop-one-preserved : goal.loop-one-preserved
loop-one-preserved c =
    let found = map (λ (h : Bor (List ℕ)). h.now) c.loop-one.held.items in
    subst (λ (xs : List (Bor (List ℕ))). HasReadTo c.args.bytes.now (map (λ h. h.now) xs) c.in-Some.rest.now) (sym c.in_ok-push.ensures.items)
    (subst (λ (ys : List (List ℕ)). HasReadTo c.args.bytes.now ys c.in-Some.rest.now)
    (sym (map-append (λ (h : Bor (List ℕ)). h.now) c.loop-one.held.items (c.in-Some.one ∷ [])))
    (read_more c.args.bytes.now found c.loop-one.left.now c.in-Some.one.now c.in-Some.rest.now c.loop-one.invariant c.in-Some.ensures))

pub returns-then-not-is_cut_short-clause-err : goal.returns-then-not-is_cut_short-clause-err
returns-then-not-is_cut_short-clause-err c = (
  map (λ (h : Bor (List ℕ)). h.now) c.loop-one.held.items,
  c.loop-one.left.now,
  read_all c.args.bytes.now (map (λ (h : Bor (List ℕ)). h.now) c.loop-one.held.items) c.loop-one.left.now c.loop-one.invariant c.in_default.ensures,
  λ cut. false≢true (sym c.if-not-is_cut_short.true ∙ c.is_cut_short.ensures.1 cut),
)

pub returns-clause-ok : goal.returns-clause-ok
returns-clause-ok c = (
  c.loop-one.left.now,
  read_all c.args.bytes.now (map (λ (h : Bor (List ℕ)). h.now) c.loop-one.held.items) c.loop-one.left.now c.loop-one.invariant c.in_default.ensures,
  refl,
  c.is_cut_short.ensures.0 c.if-not-is_cut_short.false,
)
