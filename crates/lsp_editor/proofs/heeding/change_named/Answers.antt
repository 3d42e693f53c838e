-- The answers to the goals of `heeding::change_named`.
use Rattle.std.proofs.Common.{ℤ, Option, refl, rules, subst, SFits, w64}
use Rattle.std.specs.Prelude.{OnOk}
use Rattle.std.proofs.lemmas.Int.{to_z-of_z}
use Rattle.serde_json.specs.View.{view}
use Rattle.lsp_params.specs.Changed.{changes_in}
use Rattle.lsp_editor.specs.Heeding.{ChangesTo}
use Rattle.lsp_editor.proofs.heeding.change_named.Goals as goal

pub returns-in-Some : goal.returns-in-Some
returns-in-Some c =
    let fits : SFits w64 c.in-Some.version = search rules in
    let changed = rw (to_z-of_z w64 c.in-Some.version fits) at c.change_to.ensures in
    subst (λ (v : Option ℤ).
    OnOk c.change_to.result (ChangesTo c.args.name.now v (changes_in (view c.args.params.now)) c.args.editor.now c.change_to.new.editor))
    c.in-Some.ensures changed

pub returns-in-None : goal.returns-in-None
returns-in-None c =
    subst (λ (v : Option ℤ). ChangesTo c.args.name.now v (changes_in (view c.args.params.now)) c.args.editor.now c.args.editor.now) c.in-None.ensures
    refl
