-- In a workspace without faults, the struct whose fields a type's values have is of the type's package, or of one that this builds on.
-- So it is where the type's definition has a method.
use Rattle.std.proofs.Common.{◌≡◌, [], sym, subst}
use Rattle.std.specs.Prelude.{Some}
use Rattle.std.proofs.lemmas.Option.{none-some, same_Some}
use Rattle.base_files.specs.Workspace.{Workspace}
use Rattle.types_expr.specs.declared.symbol.Symbol.{Symbol}
use Rattle.types_expr.specs.Types.{PlainType, BasicType, Defined, Pointer, Slice, Underlying, Plain, PointerTo, SliceOf, underlying_by}
use Rattle.types_expr.specs.Types.{Struct as StructOf, Interface as InterfaceOf}
use Rattle.types_expr.specs.World.{Definition, field_owner, owner, struct_of, struct_or_target}
use Rattle.types_declared.specs.Definitions.{AreDefinitions}
use Rattle.types_declared.specs.Package.{Package}
use Rattle.workspace_check.specs.FaultLists.{ListsFaults}
use Rattle.workspace_check.specs.Verdicts.{Verdicts, AreVerdicts}
use Rattle.refs_binding.specs.Uses.{IsCheckedPackage}
use Rattle.law_renamed_workspaces.specs.Reaching.{ReachesPath}
use Rattle.law_renamed_workspaces.proofs.SeenStructs.{IsHome, IsHomeUnder, world_home}

module _ (w : Workspace) (sound : ListsFaults w []) (known : Verdicts) (right : AreVerdicts w known) (p : Package) (is : IsCheckedPackage w known p)
    (definitions : Symbol → Definition) (are : AreDefinitions p definitions) where
  abbrev definition_of : Symbol → Underlying
  definition_of s = (definitions s).underlying

  type_home : (t : PlainType) → IsHome w p.path t → IsHomeUnder w p.path (underlying_by definition_of t)
  type_home (BasicType b) h = tt
  type_home (Defined s) h = world_home w sound known right p is definitions are s h
  type_home (Pointer t) h = h
  type_home (Slice t) h = h

  struct_home : (u : Underlying) → IsHomeUnder w p.path u → (s : Symbol) → struct_of u ≡ Some s → ReachesPath w p.path s.package
  struct_home (Plain b) h s e = absurd (none-some s e)
  struct_home (PointerTo t) h s e = absurd (none-some s e)
  struct_home (SliceOf t) h s e = absurd (none-some s e)
  struct_home (InterfaceOf x) h s e = absurd (none-some s e)
  struct_home (StructOf x) h s e = subst (λ (z : Symbol). ReachesPath w p.path z.package) (same_Some x s e) h

  target_home : (u : Underlying) → IsHomeUnder w p.path u → (s : Symbol) → struct_or_target definition_of u ≡ Some s → ReachesPath w p.path s.package
  target_home (Plain b) h s e = absurd (none-some s e)
  target_home (PointerTo t) h s e = struct_home (underlying_by definition_of t) (type_home t h) s e
  target_home (SliceOf t) h s e = absurd (none-some s e)
  target_home (InterfaceOf x) h s e = subst (λ (z : Symbol). ReachesPath w p.path z.package) (same_Some x s e) h
  target_home (StructOf x) h s e = struct_home (StructOf x) h s e

  owner_home : (t : PlainType) (s : Symbol) → owner t ≡ Some s → ReachesPath w p.path s.package → IsHome w p.path t
  unfolding owner
  owner_home (BasicType b) s e h = absurd (none-some s e)
  owner_home (Defined x) s e h = subst (λ (z : Symbol). ReachesPath w p.path z.package) (sym (same_Some x s e)) h
  owner_home (Pointer (Defined x)) s e h = subst (λ (z : Symbol). ReachesPath w p.path z.package) (sym (same_Some x s e)) h
  owner_home (Pointer (BasicType b)) s e h = absurd (none-some s e)
  owner_home (Pointer (Pointer t)) s e h = absurd (none-some s e)
  owner_home (Pointer (Slice t)) s e h = absurd (none-some s e)
  owner_home (Slice t) s e h = absurd (none-some s e)

  -- the struct of the values of a type whose methods are those of a definition that the package reaches
  pub struct_near : (t : PlainType) (s : Symbol) → owner t ≡ Some s → ReachesPath w p.path s.package → (struct : Symbol) →
      field_owner definition_of t ≡ Some struct → ReachesPath w p.path struct.package
  unfolding field_owner
  struct_near t s owned h struct e = target_home (underlying_by definition_of t) (type_home t (owner_home t s owned h)) struct e
