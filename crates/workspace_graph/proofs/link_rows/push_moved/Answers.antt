-- All bounds were added, and moved.
use Rattle.std.proofs.Common.{◌≡◌, ◌+◌, ◌-◌, ◌≤◌, ◌++◌, ℕ, List, length, map, sym, ap, ◌∙◌, arith}
use Rattle.std.proofs.lemmas.List.{take_all}
use Rattle.workspace_graph.proofs.InPlace.{added_changed}
use Rattle.workspace_graph.proofs.link_rows.push_moved.Goals as goal

pub returns-clause-some : goal.returns-clause-some
returns-clause-some c =
    let ends : List ℕ = c.args.ends.now in
    let old = c.args.bounds.now.items in
    let f : ℕ → ℕ = λ end. end - c.args.down + c.args.up in
    let long : length old ≡ c.len-begin.result = sym (c.len-begin.ensures ∙ c.args.bounds.now.ok.0) in
    let all : length ends ≤ length ends = omega arith in (
      length ends,
      all,
      added_changed f old ends c.extend_from_slice.new.self.items c.len-begin.result long c.in_ok-extend_from_slice.ensures.items
          c.move_from.new.bounds.items c.move_from.ensures
          ∙ ap (λ l. old ++ map f l) (sym (take_all (length ends) ends all)),
    )
