-- What a file is judged by, from the type definitions of its package as other packages see them.
use Rattle.std.proofs.Common.{ℕ, ◌≡◌, List, sym, subst, ◌∙◌}
use Rattle.types_expr.specs.declared.world.World.{World}
use Rattle.types_expr.specs.WorldView.{definition_or_none, imported_at, definition_in}
use Rattle.types_declared.specs.Package.{Package, symbol_in}
use Rattle.types_declared.specs.Definitions.{IsDefinition, AreDefinitions}
use Rattle.types_info.proofs.WorldParts.{at_own, at_other}
use Rattle.build_object.specs.ObjectView.{AreObjectDefinitions}

pub own_definitions : (p : Package) (w : World) → w.package.now ≡ p.path → AreObjectDefinitions p w.own.now →
    ((path : List ℕ) (rank : ℕ) → definition_or_none (record { «package» = path; rank = rank })
    (imported_at w.imported.now (record { «package» = path; rank = rank })) ≡ (p.export_data_of path).definition rank) →
    AreDefinitions p (definition_in w)
own_definitions p w here own imported = record {
  own = λ rank d at. subst (IsDefinition p rank) (sym (at_own w (symbol_in p rank) here)) (own.own rank d at);
  beyond = λ rank none. at_own w (symbol_in p rank) here ∙ own.beyond rank none;
  imported = λ path rank other. at_other w (record { «package» = path; rank = rank }) (λ e. other (sym e ∙ here)) ∙ imported path rank;
}
