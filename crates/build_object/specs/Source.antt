-- The source of the code of a file: all that the code depends on beside the file's tree. It has all spellings that code depends on.
use Rattle.std.specs.Prelude.{ℕ, Bool, List, Option}
use Rattle.types_expr.specs.declared.symbol.Symbol.{Symbol}
use Rattle.types_expr.specs.Types.{PlainType}
use Rattle.types_expr.specs.World.{World}
use Rattle.build_object.specs.Lines.{GlobalName, FunctionName}

-- The source of the code of a file.
--
-- By token: `world` has the meaning of a name. `before` is the type before a selector, or of the composite literal around a key. `entered` is
-- the type of the value of an expression that reports its faults at the token, where the value enters an interface. `global` is the
-- package-level declaration to which a name is bound. `asks` is the name of the method that an interface asks for there. `truth` is the value
-- of a truth value. `number` and `text` are the values of integer and string literals.
--
-- By symbol: `function` is the name of a function or method in objects. `position` is that of a field in its struct. `asked` is the name of a
-- method that an interface asks for.
pub record Source : Type 0 where
  pub world : World
  pub before : ℕ → Option PlainType
  pub entered : ℕ → Option PlainType
  pub global : ℕ → Option GlobalName
  pub asks : ℕ → Option FunctionName
  pub truth : ℕ → Bool
  pub number : ℕ → Option ℕ
  pub text : ℕ → Option (List ℕ)
  pub function : Symbol → Option FunctionName
  pub position : Symbol → Option ℕ
  pub asked : Symbol → Option FunctionName
