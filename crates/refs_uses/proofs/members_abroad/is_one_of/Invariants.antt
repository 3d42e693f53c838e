-- What the loop of `members_abroad::is_one_of` keeps.
use Rattle.std.proofs.Common.{◌≡◌, take}
use Rattle.std.specs.Prelude.{Contains}
use Rattle.types_expr.specs.WorldView.{member_of}
use Rattle.refs_binding.specs.declared.declaration.Declaration.{Declaration}
use Rattle.refs_binding.specs.Binding.{declaration_of}
use Rattle.refs_uses.proofs.members_abroad.is_one_of.Given as goal

-- none of the declarations that were passed is that of the member
abbrev pub invariant-loop-declaration : goal.invariant-loop-declaration
invariant-loop-declaration l =
    (d : Declaration) → Contains (take l.declaration-index l.set) d → d ≡ declaration_of (member_of l.member) → ⊥
