-- The check of a statement, from what its parts add.
use Rattle.std.proofs.Common.{ℕ, ◌≡◌, List, [], ◌++◌, ap, sym, ◌∙◌, refl, subst, append_assoc, append-nil, map, Option}
use Rattle.go_ast.specs.Tree.{Item, IdentTree, BasicTree}
use Rattle.types_expr.specs.declared.found.FoundInFile.{FoundInFile}
use Rattle.types_expr.specs.Types.{Meaning, PlainType}
use Rattle.types_expr.specs.World.{World, Locals}
use Rattle.types_expr.specs.Judge.{Judged, JudgedList, Noted, TypeJudged, ListValue}
use Rattle.types_expr.specs.Found.{noted_of, AddsJudged, AddsJudgedList, AddsType}
use Rattle.types_stmt.specs.Checked.{FoundSoFar, with_judged, with_found, with_declared}
use Rattle.types_stmt.specs.Sides.{Target, Wants, Lefts, given_faults, given_enterings}
use Rattle.types_stmt.specs.Simple.{with_given, name_targets, written_targets}
use Rattle.types_stmt.specs.Statements.{returned, returning}
use Rattle.types_stmt.specs.Headers.{ResultsJudged}
use Rattle.types_stmt.specs.Declarations.{literal_faults, literal_enterings, value_faults, value_enterings}
use Rattle.types_stmt.specs.View.{checked_with, AddsLefts, AddsResults, AddsFaultsAt, AddsGiven}
use Rattle.types_stmt.proofs.LoopProgress.{GivenNotes}

pub checked_path : {ls ks : Locals} {fs gs : List ℕ} {us vs : List Noted} → ls ≡ ks → fs ≡ gs → us ≡ vs →
    let a : FoundSoFar = record { locals = ls; faults = fs; uses = us } in let b : FoundSoFar = record { locals = ks; faults = gs; uses = vs } in a ≡ b
checked_path {ls} {ks} {fs} {gs} {us} {vs} e f g =
    ap (λ x. record { locals = x; faults = fs; uses = us }) e ∙
    (ap (λ x. record { locals = ks; faults = x; uses = us }) f ∙ ap (λ x. record { locals = ks; faults = gs; uses = x }) g)

pub notes_as : {ps qs : List ℕ} {old new : FoundInFile} → AddsFaultsAt ps old new → ps ≡ qs → AddsFaultsAt qs old new
notes_as {old = old} {new = new} a e = subst (λ (x : List ℕ). AddsFaultsAt x old new) e a

-- what is noted of values that are given to targets
abbrev pub given : World → ℕ → List ListValue → List Target → GivenNotes
given w place vs ts = record { faults = given_faults w place vs ts; entries = given_enterings w vs ts }

-- the same for values that are returned
abbrev pub returned_notes : World → ℕ → List ListValue → List Target → GivenNotes
returned_notes w place vs ts = record { faults = returned w place vs ts; entries = given_enterings w vs ts }

-- the faults of a declaration of variables whose type is judged as j, and the entries of their values
abbrev pub value_notes : World → List (Item ℕ) → TypeJudged → Option (ℕ × List (Item BasicTree)) → GivenNotes
value_notes w names j values = record { faults = j.faults ++ value_faults w names j.type_of values; entries = value_enterings w names j.type_of values }

-- the same where literals are given to variables of the type t
abbrev pub literal_notes : World → List (Item ℕ) → TypeJudged → Option PlainType → List (Item BasicTree) → GivenNotes
literal_notes w names j t literals = record { faults = j.faults ++ literal_faults w names t literals; entries = literal_enterings w names t literals }

pub given_as : {p q : GivenNotes} → p ≡ q → {old new : FoundInFile} → AddsGiven p.faults p.entries old new → AddsGiven q.faults q.entries old new
given_as {p} {q} e {old} {new} a = subst (λ (x : GivenNotes). AddsGiven x.faults x.entries old new) e a

pub found_then : {j : Judged} (ls : Locals) {old mid new : FoundInFile} {m : Meaning} {places : List ℕ} → AddsJudged j old mid m → AddsFaultsAt places mid new →
    checked_with ls new ≡ with_judged (checked_with ls old) j places
found_then {j} ls {old} {mid} {new} {m} {places} a n =
    checked_path refl (n.faults ∙ (ap (λ x. x ++ places) a.faults ∙ append_assoc old.faults.items j.faults places)) (ap (map noted_of) n.uses ∙ a.uses)

pub updated : {j k : Judged} (ls : Locals) {old mid third new : FoundInFile} {m n : Meaning} {places : List ℕ} → AddsJudged j old mid m →
    AddsJudged k mid third n →
    AddsFaultsAt places third new →
    checked_with ls new ≡ with_found (checked_with ls old) (j.faults ++ (k.faults ++ places)) (j.uses ++ k.uses)
updated {j} {k} ls {old} {mid} {third} {new} {m} {n} {places} a b c =
    checked_path refl
    (c.faults ∙ (ap (λ x. x ++ places) (b.faults ∙ ap (λ x. x ++ k.faults) a.faults) ∙
    (append_assoc (old.faults.items ++ j.faults) k.faults places ∙ append_assoc old.faults.items j.faults (k.faults ++ places))))
    (ap (map noted_of) c.uses ∙ (b.uses ∙ (ap (λ x. x ++ k.uses) a.uses ∙ append_assoc (map noted_of old.uses.items) j.uses k.uses)))

pub given_then : {l : Lefts} {r : JudgedList} (w : World) (place : ℕ) (ls : Locals) {old mid third new : FoundInFile} {ts : List Target} {vs : List ListValue} →
    AddsLefts l old mid ts → AddsJudgedList r mid third vs → AddsGiven (given_faults w place vs ts) (given_enterings w vs ts) third new → (ks : Locals) →
    checked_with ks new ≡ with_given w (checked_with ls old) place ks l r
given_then {l} {r} w place ls {old} {mid} {third} {new} {ts} {vs} a b c ks =
    let places : given_faults w place vs ts ≡ given_faults w place r.values l.targets = ap (λ x. given_faults w place x ts) b.values ∙
    ap (λ x. given_faults w place r.values x) a.targets in
    let entries : given_enterings w vs ts ≡ given_enterings w r.values l.targets = ap (λ x. given_enterings w x ts) b.values ∙
    ap (λ x. given_enterings w r.values x) a.targets in
    checked_path refl
    (c.faults ∙ (ap (λ x. x ++ given_faults w place vs ts) (b.faults ∙ ap (λ x. x ++ r.faults) a.faults)
    ∙ (append_assoc (old.faults.items ++ l.faults) r.faults (given_faults w place vs ts) ∙
    (append_assoc old.faults.items l.faults (r.faults ++ given_faults w place vs ts)
    ∙ ap (λ x. old.faults.items ++ (l.faults ++ (r.faults ++ x))) places))))
    (c.uses ∙ (ap (λ x. x ++ given_enterings w vs ts) (b.uses ∙ ap (λ x. x ++ r.uses) a.uses)
    ∙ (append_assoc (map noted_of old.uses.items ++ l.uses) r.uses (given_enterings w vs ts) ∙
    (append_assoc (map noted_of old.uses.items) l.uses (r.uses ++ given_enterings w vs ts)
    ∙ ap (λ x. map noted_of old.uses.items ++ (l.uses ++ (r.uses ++ x))) entries))))

pub returned_then : {r : JudgedList} (w : World) (place : ℕ) (results : List Target) (ls : Locals) {old mid new : FoundInFile} {vs : List ListValue} →
    AddsJudgedList r old mid vs → AddsGiven (returned w place vs results) (given_enterings w vs results) mid new →
    checked_with ls new ≡ returning w (checked_with ls old) place results r
returned_then {r} w place results ls {old} {mid} {new} {vs} b c =
    checked_path refl
    (c.faults ∙ (ap (λ x. x ++ returned w place vs results) b.faults ∙ (append_assoc old.faults.items r.faults (returned w place vs results)
    ∙ ap (λ x. old.faults.items ++ (r.faults ++ returned w place x results)) b.values)))
    (c.uses ∙ (ap (λ x. x ++ given_enterings w vs results) b.uses ∙ (append_assoc (map noted_of old.uses.items) r.uses (given_enterings w vs results)
    ∙ ap (λ x. map noted_of old.uses.items ++ (r.uses ++ given_enterings w x results)) b.values)))

-- the names of a declaration as left sides
pub adds_names : (names : List (Item IdentTree)) (t : Target) (f : FoundInFile) {ts : List Target} → ts ≡ map (λ i. t) names →
    AddsLefts (name_targets names t) f f ts
adds_names names t f e = record { targets = e; faults = sym (append-nil f.faults.items); uses = sym (append-nil (map noted_of f.uses.items)) }

pub adds_written : {j : TypeJudged} (names : List (Item IdentTree)) {old new : FoundInFile} {t : Option PlainType} {ts : List Target} → AddsType j old new t →
    ts ≡ map (λ i. Wants t) names → AddsLefts (written_targets names j) old new ts
adds_written names {old} {new} a e = record {
  targets = e ∙ ap (λ x. map (λ i. Wants x) names) a.found;
  faults = a.faults;
  uses = ap (map noted_of) a.uses ∙ sym (append-nil (map noted_of old.uses.items));
}

-- results, followed by faults
pub signed : {j : ResultsJudged} (ls : Locals) {old mid new : FoundInFile} {ts : List Target} {places : List ℕ} → AddsResults j old mid ts →
    AddsFaultsAt places mid new →
    checked_with ls new ≡ with_found (checked_with ls old) (j.faults ++ places) []
signed {j} ls {old} {mid} {new} {ts} {places} a n =
    checked_path refl (n.faults ∙ (ap (λ x. x ++ places) a.faults ∙ append_assoc old.faults.items j.faults places))
    (ap (map noted_of) (n.uses ∙ a.uses) ∙ sym (append-nil (map noted_of old.uses.items)))

-- a written type alone, with what it declares
pub declared_then : {j : TypeJudged} (ls : Locals) {old new : FoundInFile} {t : Option PlainType} → AddsType j old new t → (ks : Locals) →
    checked_with ks new ≡ with_declared (checked_with ls old) ks j.faults []
declared_then ls {old} {new} a ks = checked_path refl a.faults (ap (map noted_of) a.uses ∙ sym (append-nil (map noted_of old.uses.items)))

-- the faults of a written type
pub type_notes : {j : TypeJudged} {old new : FoundInFile} {t : Option PlainType} → AddsType j old new t → AddsFaultsAt j.faults old new
type_notes a = record { faults = a.faults; uses = a.uses }

pub notes_then : {ps qs : List ℕ} {old mid new : FoundInFile} → AddsFaultsAt ps old mid → AddsFaultsAt qs mid new → AddsFaultsAt (ps ++ qs) old new
notes_then {ps} {qs} {old} a b = record { faults = b.faults ∙ (ap (λ x. x ++ qs) a.faults ∙ append_assoc old.faults.items ps qs); uses = b.uses ∙ a.uses }

-- faults alone
pub noted : {places : List ℕ} (ls : Locals) {old new : FoundInFile} → AddsFaultsAt places old new → checked_with ls new ≡ with_found (checked_with ls old)
    places []
noted ls {old} {new} n = checked_path refl n.faults (ap (map noted_of) n.uses ∙ sym (append-nil (map noted_of old.uses.items)))

-- faults and entries of values
pub noted_given : {places : List ℕ} {entries : List Noted} (ls : Locals) {old new : FoundInFile} → AddsGiven places entries old new →
    checked_with ls new ≡ with_found (checked_with ls old) places entries
noted_given ls n = checked_path refl n.faults n.uses

-- the faults of a written type, followed by those of values and their entries
pub type_then_given : {j : TypeJudged} {places : List ℕ} {entries : List Noted} {old mid new : FoundInFile} {t : Option PlainType} → AddsType j old mid t →
    AddsGiven places entries mid new → AddsGiven (j.faults ++ places) entries old new
type_then_given {j} {places} {entries} {old} {mid} {new} a b = record {
  faults = b.faults ∙ (ap (λ x. x ++ places) a.faults ∙ append_assoc old.faults.items j.faults places);
  uses = b.uses ∙ ap (λ x. map noted_of x ++ entries) a.uses;
}

-- the faults of the types of parameters, followed by those of the types of results
pub params_then_results : {ps : List ℕ} {j : ResultsJudged} {old mid new : FoundInFile} {ts : List Target} → AddsFaultsAt ps old mid →
    AddsResults j mid new ts →
    AddsFaultsAt (ps ++ j.faults) old new
params_then_results {ps} {j} {old} a b =
    record { faults = b.faults ∙ (ap (λ x. x ++ j.faults) a.faults ∙ append_assoc old.faults.items ps j.faults); uses = b.uses ∙ a.uses }

pub nothing_given : (f : FoundInFile) → AddsGiven [] [] f f
nothing_given f = record { faults = sym (append-nil f.faults.items); uses = sym (append-nil (map noted_of f.uses.items)) }
