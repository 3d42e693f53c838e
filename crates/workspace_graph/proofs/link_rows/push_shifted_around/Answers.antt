-- Some of the numbers, the place, and the others.
use Rattle.std.proofs.Common.{ℕ, ◌+◌, ◌<◌, ◌^◌, List, sym, subst}
use Rattle.std.specs.List.{All}
use Rattle.std.proofs.lemmas.List.Elements.{All-drop, All-take}
use Rattle.std.proofs.lemmas.Result.{on_ok_weaker}
use Rattle.workspace_graph.proofs.Shifted.{added_around}
use Rattle.workspace_graph.proofs.link_rows.push_shifted_around.Goals as goal

pub push_shifted-requires : goal.push_shifted-requires
push_shifted-requires c = subst (λ (l : List ℕ). All (λ number. number + 1 < 2 ^ 64) l) (sym c.split_at.ensures.front)
    (All-take (λ number. number + 1 < 2 ^ 64) c.args.below c.args.row.now c.requires.small)

pub push_shifted-requires-2 : goal.push_shifted-requires-2
push_shifted-requires-2 c = subst (λ (l : List ℕ). All (λ number. number + 1 < 2 ^ 64) l) (sym c.split_at.ensures.back)
    (All-drop (λ number. number + 1 < 2 ^ 64) c.args.below c.args.row.now c.requires.small)

pub returns-clause-added : goal.returns-clause-added
returns-clause-added c = on_ok_weaker c.push_shifted-2.result
    (λ is. added_around c.args.place c.args.below c.args.numbers.now.items c.args.row.now c.split_at.result.0.now c.split_at.result.1.now
    c.push_shifted.new.numbers.items c.push.new.self.items c.push_shifted-2.new.numbers.items c.split_at.ensures.front c.split_at.ensures.back
    c.in_ok-push_shifted.ensures.added c.in_ok-push.ensures.items is)
    c.push_shifted-2.ensures.added
