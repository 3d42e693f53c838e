-- The answers to the goals of `compiling::export_data_of`.
use Rattle.std.proofs.Common.{◌≡◌, ℕ, List, subst, ◌∙◌}
use Rattle.types_declared.specs.ExportTablesView.{SetsKnown}
use Rattle.build_unit.specs.Units.{KnowsNothingOf}
use Rattle.build_unit.proofs.compiling.export_data_of.Goals as goal

pub returns : goal.returns
returns c =
    let p = c.args.path.now in
    let known = c.args.known.now in
    let none = c.new-one.result in
    let one = c.share_known.new.self in
    let shared : SetsKnown none one p known = subst (λ (q : List ℕ). SetsKnown none one q known) c.in_ok-path.ensures.cases c.in_ok-share_known.ensures.set in
    let unknown : (q : List ℕ) → (q ≡ p → ⊥) → KnowsNothingOf one q = λ q other. record {
      name = (shared.elsewhere q other).name ∙ c.new-one.ensures.names q;
      export_data = (shared.elsewhere q other).export_data ∙ c.new-one.ensures.export_table q;
    } in
    record { same = shared.has_export_data; alone = record { elsewhere = unknown; states = λ q. shared.states q ∙ c.new-one.ensures.states q } }
