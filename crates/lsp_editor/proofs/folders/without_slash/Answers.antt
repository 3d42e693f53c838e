-- The answers to the goals of `folders::without_slash`.
use Rattle.std.proofs.Common.{ℕ, ◌≡◌, ◌==◌, Bool, true, false, List, refl}
use Rattle.std.specs.Prelude.{codes, if◌then◌else◌}
use Rattle.std.specs.Cmp.Lexicographic.{pointwise}
use Rattle.tool_text.specs.Plain.{without_suffix}
use Rattle.tool_text.proofs.Ends.{no_suffix}
use Rattle.lsp_editor.proofs.folders.without_slash.Goals as goal

same_either : (b : Bool) (path other : List ℕ) → path ≡ other → path ≡ if b then path else other
same_either true path other is = refl
same_either false path other is = is

pub returns-in-None : goal.returns-in-None
returns-in-None c =
    same_either (pointwise ◌==◌ c.args.path.now (codes "/")) c.args.path.now (without_suffix (codes "/") c.args.path.now)
    (no_suffix (codes "/") c.args.path.now c.in-None.ensures.cases)
