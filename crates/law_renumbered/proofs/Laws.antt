-- What the check of a package finds where tokens and identifiers get other numbers.
use Rattle.std.proofs.Common.{◌≡◌, List, [], ◌∷◌, map, refl, subst, ⊎_elim}
use Rattle.std.specs.Prelude.{Contains}
use Rattle.base_files.specs.declared.fault_kind.FaultKind.TheVariants as kind
use Rattle.base_lemmas.proofs.Elements.{nothing_in, first_in, later_in, first_or_later}
use Rattle.types_stmt.specs.Declarations.{check_file}
use Rattle.types_info.specs.Worlds.{is_init}
use Rattle.law_changed_types.proofs.RenumberedTypesAlike.{Turned, TurnedIdentifiers}
use Rattle.law_changed_types.proofs.RenumberedTypesLaws.{found_renumbers}
use Rattle.law_changed_types.proofs.Numbered.{FollowsToken, FollowsIdentifier, there, back}
use Rattle.law_renumbered.specs.Findings.{ExportsRenumber, NoMemberFaultComes, NoTypeFaultComes}
use Rattle.law_renumbered.proofs.Exported.{export_data}
use Rattle.law_renumbered.proofs.Members.{member_fault}
use Rattle.types_expr.proofs.NoteLists.{member_noted}

pub exports_renumber : ExportsRenumber
exports_renumber n p q a k i h = export_data n p q a k i h

pub no_member_fault_comes : NoMemberFaultComes
no_member_fault_comes n p q a none f is =
    let was = member_fault (Turned (FollowsToken n)) (TurnedIdentifiers (FollowsIdentifier n)) q p (back n p q a) (there n p q a) f is in
    none was.0 was.1

-- what is in a changed list comes from the old one
came_from : {X Y : Type 0} (f : X → Y) (xs : List X) (y : Y) → Contains (map f xs) y → (x : X) × Contains xs x
came_from f [] y has = absurd (nothing_in y has)
came_from {X} f (x ∷ xs) y has =
    ⊎_elim {C = (z : X) × Contains (x ∷ xs) z} (λ (e : f x ≡ y). (x, first_in x xs))
    (λ (k : Contains (map f xs) y). let z = came_from f xs y k in (z.0, later_in x xs z.0 z.1)) (first_or_later (f x) (map f xs) y has)

pub no_type_fault_comes : NoTypeFaultComes
no_type_fault_comes n p q a judged none f is =
    let j = judged f.file is.source is.in_file in
    let r = found_renumbers n p q a f.file j.source is.source j.in_file is.in_file j.world is.world j.judged_by
    is.judged_by (λ u has. j.spelled u (member_noted (check_file j.world (is_init j.source) j.source.tree).uses u has)) in
    let was = came_from (n.token f.file) (check_file j.world (is_init j.source) j.source.tree).faults f.token
    (subst (λ fs. Contains fs f.token) r.faults is.found) in
    none (record { file = f.file; token = was.0; kind = kind.«Type» }) (record {
      source = j.source;
      in_file = j.in_file;
      world = j.world;
      judged_by = j.judged_by;
      found = was.1;
      kind = refl;
    })
