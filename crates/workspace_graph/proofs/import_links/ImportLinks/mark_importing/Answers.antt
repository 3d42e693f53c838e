-- A search along importers finds what reaches the package.
use Rattle.std.proofs.Common.{ℕ, ◌<◌, length, ap, sym, subst, ◌∙◌}
use Rattle.std.proofs.lemmas.Result.{on_ok_weaker}
use Rattle.workspace_graph.specs.Imports.{LinkTable, Imports}
use Rattle.workspace_graph.specs.Search.{IsMarked, MarksReachingTo}
use Rattle.workspace_graph.proofs.Reached.{noted_linked, closed_back, marks_importing}
use Rattle.workspace_graph.proofs.import_links.ImportLinks.mark_importing.Goals as goal

pub reach-requires : goal.reach-requires
reach-requires c =
    let g = c.self.inside.imports in
    let noted = c.self.inside.importers in
    let back = c.self.invariant.importers in
    let size = back.size ∙ ap length c.self.view_is in
    let marks = c.args.marks.now.items in
    record {
      linked = noted_linked g noted c.self.invariant.linked back;
      size = c.requires.size ∙ sym size;
      start = subst (λ (n : ℕ). c.args.number < n) (sym size) c.requires.number;
      closed = closed_back g noted c.self.invariant.linked back marks
          (subst (λ (h : LinkTable). (p q : ℕ) → Imports h p q → IsMarked marks q → IsMarked marks p) (sym c.self.view_is) c.requires.above);
    }

pub returns : goal.returns
returns c =
    let g = c.self.inside.imports in
    let noted = c.self.inside.importers in
    let number = c.args.number in
    let old = c.args.marks.now.items in
    let new = c.reach.new.marks.items in
    on_ok_weaker c.reach.result
    (λ are. subst (λ (h : LinkTable). MarksReachingTo h number old new) c.self.view_is
    (marks_importing g noted c.self.invariant.linked c.self.invariant.importers number old new are))
    c.reach.ensures.reached
