-- What is known of units of the packages of a state.
use Rattle.std.specs.Prelude.{◌≡◌, Option, IfSome}
use Rattle.base_files.specs.Workspace.{Workspace}

-- If anything is known of units, it is of the packages of these files.
abbrev pub AreKnownIn : Workspace → Option Workspace → Type 0
AreKnownIn w known = IfSome known (λ (files : Workspace). files ≡ w)
