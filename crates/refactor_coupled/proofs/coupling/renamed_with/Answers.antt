-- The answers to the goals of `coupling::renamed_with`.
use Rattle.std.proofs.Common.{◌≡◌, [], ◌∷◌, rules, sym, subst}
use Rattle.std.specs.Prelude.{Contains, List}
use Rattle.base_lemmas.proofs.Elements.{first_in}
use Rattle.refs_binding.specs.declared.declaration.Declaration.{Declaration}
use Rattle.refactor_coupled.proofs.RenamedSets.{set_told}
use Rattle.refactor_coupled.proofs.coupling.renamed_with.Goals as goal

pub add_renamed-requires : goal.add_renamed-requires
add_renamed-requires c =
    let d = c.args.declaration.now in
    let one : c.push.new.self.items ≡ d ∷ [] = search rules in
    subst (λ (l : List Declaration). Contains l d) (sym one) (first_in d [])

pub returns : goal.returns
returns c =
    let d = c.args.declaration.now in
    let one : c.push.new.self.items ≡ d ∷ [] = search rules in
    record { set = set_told c.args.workspace.now c.has_no_faults.ensures d c.push.new.self.items c.add_renamed.new.set.items one c.in_ok-add_renamed.ensures }
