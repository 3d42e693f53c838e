-- Tokens of several kinds: identifiers, literals, and the operators of statements.
use Rattle.std.specs.Prelude.{ℕ, Option, Some, None}
use Rattle.go_ast.specs.declared.syntax.Kind.{Kind}
use Rattle.go_ast.specs.declared.syntax.Kind.TheVariants as kind
use Rattle.go_ast.specs.declared.syntax.StepOp.{StepOp}
use Rattle.go_ast.specs.declared.syntax.StepOp.TheVariants as step
use Rattle.go_ast.specs.declared.syntax.UpdateOp.{UpdateOp}
use Rattle.go_ast.specs.declared.syntax.UpdateOp.TheVariants as update
use Rattle.go_ast.specs.declared.tree.Ident.{Ident}
use Rattle.go_ast.specs.declared.tree.Ident.TheVariants as ident
use Rattle.go_ast.specs.declared.tree.BasicLit.{BasicLit}
use Rattle.go_ast.specs.declared.tree.BasicLit.TheVariants as basic
use Rattle.go_parser.specs.declared.token_classes.Setting.{Setting}
use Rattle.go_parser.specs.declared.token_classes.Setting.TheVariants as setting
use Rattle.go_parser.specs.declared.token_classes.SetOp.{SetOp}
use Rattle.go_parser.specs.declared.token_classes.SetOp.TheVariants as set
use Rattle.go_ast.specs.Grammar as grammar

-- the position of a statement as the grammar has it
abbrev pub setting_of : Setting → grammar.Setting
setting_of setting.Plain = grammar.Plain
setting_of setting.Head = grammar.Head
setting_of setting.Post = grammar.Post

-- the identifier of this kind and token index, if the kind is one of identifiers
abbrev pub ident_of : Kind → ℕ → Option Ident
ident_of kind.Name p = Some (ident.Named p)
ident_of kind.Blank p = Some (ident.Blank p)
ident_of _ p = None

-- the literal of this kind and token index, if the kind is one of literals
abbrev pub basic_of : Kind → ℕ → Option BasicLit
basic_of kind.Number p = Some (basic.Number p)
basic_of kind.Text p = Some (basic.Text p)
basic_of _ p = None

-- the `++` or `--` that a token of this kind is, if any
abbrev pub step_of : Kind → Option StepOp
step_of kind.Increment = Some step.Increment
step_of kind.Decrement = Some step.Decrement
step_of _ = None

-- the operator such as `+=` that a token of this kind is, if any
abbrev pub update_of : Kind → Option UpdateOp
update_of kind.AddAssign = Some update.Add
update_of kind.SubAssign = Some update.Subtract
update_of kind.MulAssign = Some update.Multiply
update_of kind.DivAssign = Some update.Divide
update_of kind.RemAssign = Some update.Remainder
update_of _ = None

-- the kind of `=` or `:=`
abbrev pub set_kind : SetOp → Kind
set_kind set.Assign = kind.Assign
set_kind set.Define = kind.Define

-- the `=` or `:=` that a token of this kind is, if any
abbrev pub either_set : Kind → Option SetOp
either_set kind.Assign = Some set.Assign
either_set kind.Define = Some set.Define
either_set _ = None

-- the `=` that a token of this kind is, if any
abbrev pub plain_set : Kind → Option SetOp
plain_set kind.Assign = Some set.Assign
plain_set _ = None

-- the `=` or `:=` that a token of this kind is, as allowed at this position: only `=` in the last clause of a `for`
abbrev pub set_of : Setting → Kind → Option SetOp
set_of setting.Plain k = either_set k
set_of setting.Head k = either_set k
set_of setting.Post k = plain_set k

-- the operator is allowed at this position: no `:=` in the last clause of a `for`
abbrev pub IsAllowed : Setting → SetOp → Type 0
IsAllowed setting.Post set.Define = ⊥
IsAllowed _ _ = Unit {0}
