-- Following one package: each import is a package, and the loop's step by what one more package does.
use Rattle.std.proofs.Common.{◌≡◌, ◌+◌, ◌≤◌, length, ℕ, List, get_or, take, arith, sym, subst, ap, ◌∙◌}
use Rattle.std.specs.List.{Contains}
use Rattle.std.proofs.lemmas.List.{get_or_read}
use Rattle.workspace_graph.specs.Imports.{Imports, row_of}
use Rattle.workspace_graph.proofs.SearchSteps.{notes_none, notes_then, notes_as, row_next, row_more, row_all, linked_below, row_imports}
use Rattle.workspace_graph.proofs.search.follow.Goals as goal

pub row-number-items-requires : goal.row-number-items-requires
row-number-items-requires c =
    let e = get_or_read c.args.found.now.items c.args.place c.index.result.now c.requires.place c.index.ensures 0 in
    let b = c.requires.within in
    omega arith

pub loop-number-init : goal.loop-number-init
loop-number-init c = record {
  size = c.requires.size;
  finds = λ first h. h;
  noted =
      notes_none c.args.found.now.items c.args.marks.now.items (Contains (take 0 c.row-number-items.result.now))
      (λ q has. absurd (omega (arith, has.1)));
}

pub note-requires : goal.note-requires
note-requires c =
    let row = c.row-number-items.result.now in
    let k = c.loop-number.number-index in
    let i = row_imports c.args.links.now c.index.result.now row k c.row-number-items.ensures c.loop-number-test.true in
    let b = linked_below c.args.links.now c.index.result.now (get_or row k 0) c.requires.linked i in
    omega (arith, c.loop-number.invariant.size)

pub loop-number-preserved : goal.loop-number-preserved
loop-number-preserved c =
    let row = c.row-number-items.result.now in
    let i = c.loop-number.number-index in
    let inv = c.loop-number.invariant in
    let lt = c.loop-number-test.true in
    record {
      size = c.in_ok-note.ensures.size ∙ inv.size;
      finds = λ first h. c.in_ok-note.ensures.finds first (inv.finds first h);
      noted = notes_then c.args.found.now.items c.args.marks.now.items c.loop-number.found.items c.loop-number.marks.items c.note.new.found.items
          c.note.new.marks.items (Contains (take i row)) (λ q. q ≡ get_or row i 0) (Contains (take (i + 1) row)) inv.noted c.in_ok-note.ensures.noted
          (λ q has. row_next row i q lt has) (λ q h. row_more row i q lt h);
    }

pub returns-clause-noted : goal.returns-clause-noted
returns-clause-noted c =
    let found = c.args.found.now.items in
    let g = c.args.links.now in
    let row = c.row-number-items.result.now in
    let i = c.loop-number.number-index in
    let from : c.index.result.now ≡ get_or found c.args.place 0 = get_or_read found c.args.place c.index.result.now c.requires.place c.index.ensures 0 in
    let is : row ≡ row_of g (get_or found c.args.place 0) = c.row-number-items.ensures ∙ ap (row_of g) from in
    let end : length row ≤ i = omega arith in
    let all : take i row ≡ row_of g (get_or found c.args.place 0) = row_all row i end ∙ is in
    notes_as found c.args.marks.now.items c.loop-number.found.items c.loop-number.marks.items (Contains (take i row)) (Imports g (get_or found c.args.place 0))
    (λ q leads. subst (λ (xs : List ℕ). Contains xs q) (sym all) leads) (λ q has. subst (λ (xs : List ℕ). Contains xs q) all has) c.loop-number.invariant.noted
