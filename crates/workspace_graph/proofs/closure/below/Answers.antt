-- Where no importer is reached, what is reached without the package, and its own mark.
use Rattle.std.proofs.Common.{ℕ, ◌<◌, Bool, List, [], length, sym, subst, ◌∙◌}
use Rattle.std.specs.List.{All, Contains}
use Rattle.std.proofs.lemmas.Result.{IfOk-weaker}
use Rattle.workspace_graph.specs.Imports.{Imports, row_of}
use Rattle.workspace_graph.specs.Search.{IsMarked, UnmarksBelow}
use Rattle.workspace_graph.proofs.Filled.{ok_both}
use Rattle.workspace_graph.proofs.BelowAlone.{back_alone, built_on_rest, no_importer}
use Rattle.workspace_graph.proofs.Reached.{noted_linked}
use Rattle.workspace_graph.proofs.closure.below.Goals as goal

pub row-requires : goal.row-requires
row-requires c = subst (λ (n : ℕ). c.args.number < n) (sym c.requires.back.size) c.requires.number

pub none_marked-requires : goal.none_marked-requires
none_marked-requires c =
    let noted = c.args.importers.now in
    let size = c.requires.back.size in
    let within : c.args.number < length noted = subst (λ (n : ℕ). c.args.number < n) (sym size) c.requires.number in
    let row = noted_linked c.args.imports.now noted c.requires.linked c.requires.back c.args.number [] within in
    rw (c.deref.ensures.value, c.row.ensures)
    (subst (λ (n : ℕ). All (λ q. q < n) (row_of noted c.args.number)) (size ∙ sym c.in_ok-reached.ensures.size) row)

pub rest_marked-requires : goal.rest_marked-requires
rest_marked-requires c = subst (λ (n : ℕ). c.args.number < n) (sym c.in_ok-reached.ensures.size) c.requires.number

pub returns-then-none_marked-clause-built_on : goal.returns-then-none_marked-clause-built_on
returns-then-none_marked-clause-built_on c =
    let g = c.args.imports.now in
    let number = c.args.number in
    let marks = c.in_ok-reached.reached.items in
    let none : (r : ℕ) → Imports g r number → IsMarked marks r → ⊥ =
    no_importer g c.args.importers.now number c.row.result.now c.requires.back c.row.ensures (IsMarked marks)
    (subst (λ (ms : List Bool). (q : ℕ) → Contains c.row.result.now q → IsMarked ms q → ⊥) c.deref.ensures.value
    (c.none_marked.ensures c.if-none_marked.true)) in
    ok_both c.rest_marked.result
    (λ found each up. built_on_rest g number (IsMarked marks) c.in_ok-reached.ensures.reached c.requires.number none found.built_on each up)
    c.rest_marked.ensures.each c.rest_marked.ensures.rising

pub returns-then-none_marked-clause-back : goal.returns-then-none_marked-clause-back
returns-then-none_marked-clause-back c =
    let g = c.args.imports.now in
    let number = c.args.number in
    let marks = c.in_ok-reached.reached.items in
    let none : (r : ℕ) → Imports g r number → IsMarked marks r → ⊥ =
    no_importer g c.args.importers.now number c.row.result.now c.requires.back c.row.ensures (IsMarked marks)
    (subst (λ (ms : List Bool). (q : ℕ) → Contains c.row.result.now q → IsMarked ms q → ⊥) c.deref.ensures.value
    (c.none_marked.ensures c.if-none_marked.true)) in
    IfOk-weaker c.rest_marked.result _ _
    (λ found each. back_alone g number (IsMarked marks) c.in_ok-reached.ensures.reached c.requires.number none found.back.items each)
    c.rest_marked.ensures.back

pub back_from-requires : goal.back_from-requires
back_from-requires c =
    let size = c.requires.back.size in
    record {
      linked = noted_linked c.args.imports.now c.args.importers.now c.requires.linked c.requires.back;
      number = subst (λ (n : ℕ). c.args.number < n) (sym size) c.requires.number;
      size = c.in_ok-reached.ensures.size ∙ sym size;
    }

pub returns : goal.returns
returns c =
    let g = c.args.imports.now in
    let number = c.args.number in
    let tells : UnmarksBelow g number c.in_ok-back.back.items =
    c.in_ok-back.ensures g c.requires.linked c.requires.back c.in_ok-reached.ensures.reached in
    record {
      built_on = c.in_ok-built_on.ensures g number (subst (λ (ms : List Bool). UnmarksBelow g number ms) (sym c.deref-2.ensures.value) tells);
      back = tells.back;
    }
