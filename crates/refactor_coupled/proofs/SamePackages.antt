-- What is renamed with a declaration does not depend on how the packages of the workspace are given.
use Rattle.std.proofs.Common.{List}
use Rattle.types_expr.specs.declared.symbol.Symbol.{Symbol}
use Rattle.types_declared.specs.Package.{Package}
use Rattle.refs_binding.specs.declared.declaration.Declaration.{Declaration}
use Rattle.refactor_coupled.specs.Coupling.{IsRenamedSet}
use Rattle.refactor_coupled.specs.Implementing.{IsTypeSymbol}

module _ (P Q : Package → Type 0) (to : (p : Package) → P p → Q p) (back : (p : Package) → Q p → P p) where
  symbol_for : (s : Symbol) → IsTypeSymbol P s → IsTypeSymbol Q s
  symbol_for s is = record {
    inside = is.inside;
    is_package = to is.inside is.is_package;
    rank = is.rank;
    definition = is.definition;
    has_rank = is.has_rank;
    is_symbol = is.is_symbol;
  }

  pub set_for : (d : Declaration) (set : List Declaration) → IsRenamedSet P d set → IsRenamedSet Q d set
  set_for d set h = record {
    definition = h.definition;
    are_definitions = record {
      each = λ p is rank t at. h.are_definitions.each p (back p is) rank t at;
      others = λ s none. h.are_definitions.others s (λ is. none (symbol_for s is));
    };
    each = h.each;
  }
