-- The roles of identifiers that are bound in a workspace without faults.
use Rattle.std.specs.Prelude.{Bool, true, false}
use Rattle.go_scope.specs.declared.model.Role.{Role}
use Rattle.go_scope.specs.declared.model.Role.TheVariants.{Use, Declaring, LeftName, Implied, NotLexical}
use Rattle.go_scope.specs.declared.model.Purpose.TheVariants as purpose

-- Whether an identifier with this role is bound by scopes, as a qualified identifier or as a member: it declares, is a lexical use, stands
-- behind a dot, or is a key.
--
-- False for the name in a package clause, the name of a function `init`, and a `_` that declares or is assigned. False also for the
-- declaring name of a field or a method, and for the literal of an import that has a name.
abbrev pub is_bound_role : Role → Bool
is_bound_role Use = true
is_bound_role (Declaring block start) = true
is_bound_role (LeftName block start) = true
is_bound_role (Implied block start) = true
is_bound_role (NotLexical purpose.Selected) = true
is_bound_role (NotLexical purpose.Key) = true
is_bound_role (NotLexical p) = false

-- Whether an identifier with this role is ever bound. False for the name in a package clause, a `_` that declares or is assigned, the name
-- of a function `init`, and an import's literal.
abbrev pub is_ever_bound : Role → Bool
is_ever_bound (NotLexical purpose.PackageClause) = false
is_ever_bound (NotLexical purpose.Blank) = false
is_ever_bound (NotLexical purpose.InitFunction) = false
is_ever_bound (NotLexical purpose.ImportPath) = false
is_ever_bound (NotLexical purpose.UnnamedImport) = false
is_ever_bound r = true
