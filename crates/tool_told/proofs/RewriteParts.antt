-- One rewrite more.
use Rattle.std.proofs.Common.{◌≡◌, List, [], ◌∷◌, ◌++◌, refl, ap}
use Rattle.tool_told.specs.Telling.{rewrite_parts}
use Rattle.tool_told.specs.declared.rewriting.Rewrite.{Rewrite}

pub parts_push : (rewrites : List Rewrite) (rewrite : Rewrite)
    → rewrite_parts (rewrites ++ rewrite ∷ []) ≡ rewrite_parts rewrites ++ (rewrite.path.now, rewrite.new_path.now, rewrite.text.now) ∷ []
parts_push [] rewrite = refl
parts_push (first ∷ rewrites) rewrite = ap (λ l. (first.path.now, first.new_path.now, first.text.now) ∷ l) (parts_push rewrites rewrite)
