-- One importer more of the package.
use Rattle.std.proofs.Common.{◌≡◌, ◌+◌, ◌++◌, ◌∷◌, [], ℕ, length, ap, ◌∙◌, arith}
use Rattle.std.proofs.Math.ListN.{set}
use Rattle.std.proofs.lemmas.List.{get_or_read}
use Rattle.workspace_graph.specs.declared.importers.NotedImporter.{NotedImporter}
use Rattle.workspace_graph.proofs.Chained.{chained_more}
use Rattle.workspace_graph.proofs.importers.Chains.note.Goals as goal

pub returns-clause-noted : goal.returns-clause-noted
returns-clause-noted c = λ lists are.
    let old = c.args.self.now in
    let number = c.args.number in
    let entry : ℕ → NotedImporter = λ b. record { importer = c.args.importer; before = b } in
    let read = get_or_read old.latest.items number c.index-before.result.now c.requires c.index-before.ensures 0 in
    let end : c.len.result ≡ length old.noted.items + 1 = omega (arith, c.len.ensures, c.in_ok-push.ensures.len, old.noted.ok.0) in
    chained_more old _ lists number c.args.importer c.requires are
    (c.in_ok-push.ensures.items ∙ ap (λ (b : ℕ). old.noted.items ++ entry b ∷ []) read)
    (ap (λ (k : ℕ). set old.latest.items number k) end)
