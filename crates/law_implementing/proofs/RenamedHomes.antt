-- The packages of what is renamed with a declaration.
use Rattle.std.proofs.Common.{◌≡◌, ◌⊎◌, inl, inr, ℕ, List, ap, sym, refl, subst, ◌∙◌}
use Rattle.std.specs.Prelude.{Contains, Some}
use Rattle.types_expr.specs.declared.symbol.Symbol.{Symbol}
use Rattle.types_expr.specs.Types.{Underlying, Plain, PointerTo, SliceOf, Struct, Interface}
use Rattle.types_expr.specs.World.{Definition}
use Rattle.types_declared.specs.Package.{Package}
use Rattle.refs_binding.specs.declared.declaration.Declaration.{Declaration}
use Rattle.refs_binding.specs.declared.declaration.Declaration.TheVariants.{Predeclared, Declared, Field, Method}
use Rattle.refs_places.specs.Outside.{declaring_path}
use Rattle.refactor_coupled.specs.Coupling.{IsCoupled, IsRenamedSet, Meets, RenamedWith, coupled, declaration_in_set, itself}
use Rattle.law_renamed_workspaces.specs.Renames.{IsMember}

-- what is coupled is a field or method
in_set_member : (u : Underlying) (s : Symbol) → IsMember (declaration_in_set u s)
in_set_member (Plain b) s = tt
in_set_member (PointerTo t) s = tt
in_set_member (SliceOf t) s = tt
in_set_member (Struct t) s = tt
in_set_member (Interface i) s = tt

pub first_member : (definition : Symbol → Definition) (d e : Declaration) → Meets definition d e → IsMember d
first_member definition d e m = subst IsMember (sym m.has.is_declaration) (in_set_member (definition m.of).underlying m.has.method.symbol)

pub second_member : (definition : Symbol → Definition) (d e : Declaration) → Meets definition d e → IsMember e
second_member definition d e m = subst IsMember (sym m.asked.is_declaration) tt

coupled_member : (definition : Symbol → Definition) (e f : Declaration) → IsCoupled definition e f → IsMember f
coupled_member definition e f (inl m) = second_member definition e f m
coupled_member definition e f (inr m) = first_member definition f e m

pub renamed_member : (definition : Symbol → Definition) (d e : Declaration) → RenamedWith definition d e → (e ≡ d) ⊎ IsMember e
renamed_member definition d _ itself = inl refl
renamed_member definition d f (coupled {e = e} asked before c) = inr (coupled_member definition e f c)

-- a set has the declaration
pub set_has_it : (Is : Package → Type 0) (d : Declaration) (set : List Declaration) → IsRenamedSet Is d set → Contains set d
set_has_it Is d set is = (is.each d).1 itself

-- a member is of a package
member_home : (e : Declaration) → IsMember e → (home : List ℕ) × (declaring_path e ≡ Some home)
member_home (Predeclared n) m = absurd m
member_home (Declared path n) m = absurd m
member_home (Field s) m = (s.package, refl)
member_home (Method s) m = (s.package, refl)

-- So each of the set is of a package, if the declaration is.
pub set_homes : (Is : Package → Type 0) (d : Declaration) (set : List Declaration) → IsRenamedSet Is d set →
    (home : List ℕ) × (declaring_path d ≡ Some home) → (e : Declaration) → Contains set e → (home : List ℕ) × (declaring_path e ≡ Some home)
set_homes Is d set is home e h = elim (renamed_member is.definition d e ((is.each e).0 h)) [
  | inl same ↦ (home.0, ap declaring_path same ∙ home.1)
  | inr member ↦ member_home e member
]
