-- The declarations of a workspace, listed by the places to which a change moves them. Known: the packages of that workspace.
use Rattle.std.specs.Prelude.{ℕ, ◌≡◌, ◌⊎◌, ◌↔◌, List}
use Rattle.refs_binding.specs.declared.declaration.Declaration.{Declaration}
use Rattle.refs_binding.specs.declared.declaration.Declaration.TheVariants.{Field, Method}

-- The field of a rank in the package at a path.
abbrev pub field_at : List ℕ → ℕ → Declaration
field_at path rank = Field (record { «package» = path; rank = rank })

-- The method of a rank in the package at a path.
abbrev pub method_at : List ℕ → ℕ → Declaration
method_at path rank = Method (record { «package» = path; rank = rank })
