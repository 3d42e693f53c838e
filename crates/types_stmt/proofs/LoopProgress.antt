-- The progress of loops over values, left sides, faults and results: what was found so far, with what is still to come.
use Rattle.std.proofs.Common.{ℕ, ◌≡◌, List, [], ◌∷◌, ◌++◌, ap, sym, ◌∙◌, refl, subst, append_assoc, append-nil, map, Option}
use Rattle.types_expr.specs.declared.found.FoundInFile.{FoundInFile}
use Rattle.types_expr.specs.Types.{Meaning, PlainType, Results}
use Rattle.types_expr.specs.Judge.{Judged, JudgedList, Noted, TypeJudged, ListValue, means}
use Rattle.types_expr.specs.Found.{noted_of, AddsJudged, AddsJudgedList, AddsType}
use Rattle.types_stmt.specs.Sides.{Target, Wants, Lefts, left_side, join_lefts, list_followed, values_of, results_at}
use Rattle.types_stmt.specs.Headers.{ResultsJudged, with_result}
use Rattle.types_stmt.specs.View.{AddsLefts, AddsResults, AddsFaultsAt, AddsGiven}

grown : {X : Type 0} (now more rest : List X) {total : List X} → now ++ (more ++ rest) ≡ total → (now ++ more) ++ rest ≡ total
grown now more rest e = append_assoc now more rest ∙ e

-- left sides

pub record GrownLefts (rest total : Lefts) (old now : FoundInFile) (ts : List Target) : Type 0 where
  pub targets : ts ++ rest.targets ≡ total.targets
  pub faults : now.faults.items ++ rest.faults ≡ old.faults.items ++ total.faults
  pub uses : map noted_of now.uses.items ++ rest.uses ≡ map noted_of old.uses.items ++ total.uses

pub grown_lefts_step : {rest more total : Lefts} (one : Lefts) {old now new : FoundInFile} {ts us : List Target} →
    GrownLefts rest total old now ts → AddsLefts one now new us → rest ≡ join_lefts one more → GrownLefts more total old new (ts ++ us)
grown_lefts_step {rest} {more} {total} one {old} {now} {new} {ts} {us} g a e = record {
  targets = ap (λ x. (ts ++ x) ++ more.targets) a.targets ∙ grown ts one.targets more.targets (ap (λ x. ts ++ x.targets) (sym e) ∙ g.targets);
  faults = ap (λ x. x ++ more.faults) a.faults ∙ grown now.faults.items one.faults more.faults (ap (λ x. now.faults.items ++ x.faults) (sym e) ∙ g.faults);
  uses = ap (λ x. x ++ more.uses) a.uses ∙ grown (map noted_of now.uses.items) one.uses more.uses
      (ap (λ x. map noted_of now.uses.items ++ x.uses) (sym e) ∙ g.uses);
}

pub grown_lefts_end : {rest total : Lefts} {old now : FoundInFile} {ts : List Target} → GrownLefts rest total old now ts →
    rest ≡ record { targets = []; faults = []; uses = [] } → AddsLefts total old now ts
grown_lefts_end {rest} {total} {old} {now} {ts} g e = record {
  targets = sym (append-nil ts) ∙ (ap (λ x. ts ++ x.targets) (sym e) ∙ g.targets);
  faults = sym (append-nil now.faults.items) ∙ (ap (λ x. now.faults.items ++ x.faults) (sym e) ∙ g.faults);
  uses = sym (append-nil (map noted_of now.uses.items)) ∙ (ap (λ x. map noted_of now.uses.items ++ x.uses) (sym e) ∙ g.uses);
}

pub adds_left : {j : Judged} (t : Target) {old new : FoundInFile} {m : Meaning} {ts : List Target} → AddsJudged j old new m → ts ≡ t ∷ [] →
    AddsLefts (left_side t j) old new ts
adds_left t a e = record { targets = e; faults = a.faults; uses = a.uses }

pub adds_no_left : (t : Target) (m : Meaning) (f : FoundInFile) → AddsLefts (left_side t (means m)) f f (t ∷ [])
adds_no_left t m f = record { targets = refl; faults = sym (append-nil f.faults.items); uses = sym (append-nil (map noted_of f.uses.items)) }

pub lefts_as : {l k : Lefts} {old new : FoundInFile} {ts : List Target} → AddsLefts l old new ts → l ≡ k → AddsLefts k old new ts
lefts_as {old = old} {new = new} {ts = ts} a e = subst (λ (x : Lefts). AddsLefts x old new ts) e a

-- values

pub adds_followed : {j : Judged} (rule : Meaning → JudgedList) {old mid new : FoundInFile} {m : Meaning} {vs : List ListValue} → AddsJudged j old mid m →
    AddsJudgedList (rule m) mid new vs → AddsJudgedList (list_followed j rule) old new vs
adds_followed {j} rule {old} {mid} {new} {m} {vs} a b =
    let b' : AddsJudgedList (rule j.meaning) mid new vs = subst (λ (x : Meaning). AddsJudgedList (rule x) mid new vs) a.meaning b in
    record {
      values = b'.values;
      faults = b'.faults ∙ (ap (λ x. x ++ (rule j.meaning).faults) a.faults ∙ append_assoc old.faults.items j.faults (rule j.meaning).faults);
      uses = b'.uses ∙ (ap (λ x. x ++ (rule j.meaning).uses) a.uses ∙ append_assoc (map noted_of old.uses.items) j.uses (rule j.meaning).uses);
    }

pub adds_as : {j k : Judged} {old new : FoundInFile} {m : Meaning} → AddsJudged j old new m → j ≡ k → AddsJudged k old new m
adds_as {old = old} {new = new} {m = m} a e = subst (λ (x : Judged). AddsJudged x old new m) e a

pub list_as : {j k : JudgedList} {old new : FoundInFile} {vs : List ListValue} → AddsJudgedList j old new vs → j ≡ k → AddsJudgedList k old new vs
list_as {old = old} {new = new} {vs = vs} a e = subst (λ (x : JudgedList). AddsJudgedList x old new vs) e a

pub adds_results : (place : ℕ) (ts : List PlainType) (f : FoundInFile) {vs : List ListValue} → vs ≡ results_at place ts →
    AddsJudgedList (values_of place (Results ts)) f f vs
unfolding values_of
adds_results place ts f e = record { values = e; faults = sym (append-nil f.faults.items); uses = sym (append-nil (map noted_of f.uses.items)) }

-- faults alone

pub record GrownFaults (rest total : List ℕ) (old now : FoundInFile) : Type 0 where
  pub faults : now.faults.items ++ rest ≡ old.faults.items ++ total
  pub uses : now.uses.items ≡ old.uses.items

pub grown_faults_step : {rest more total : List ℕ} (places : List ℕ) {old now new : FoundInFile} → GrownFaults rest total old now →
    AddsFaultsAt places now new →
    rest ≡ places ++ more → GrownFaults more total old new
grown_faults_step {rest} {more} {total} places {old} {now} {new} g a e = record {
  faults = ap (λ x. x ++ more) a.faults ∙ grown now.faults.items places more (ap (λ x. now.faults.items ++ x) (sym e) ∙ g.faults);
  uses = a.uses ∙ g.uses;
}

pub grown_faults_end : {rest total : List ℕ} {old now : FoundInFile} → GrownFaults rest total old now → rest ≡ [] → AddsFaultsAt total old now
grown_faults_end {rest} {total} {old} {now} g e = record
    { faults = sym (append-nil now.faults.items) ∙ (ap (λ x. now.faults.items ++ x) (sym e) ∙ g.faults); uses = g.uses }

-- faults and entries of values that are given to targets

-- what is noted of such values
pub record GivenNotes : Type 0 where
  pub faults : List ℕ
  pub entries : List Noted

abbrev pub join_notes : GivenNotes → GivenNotes → GivenNotes
join_notes a b = record { faults = a.faults ++ b.faults; entries = a.entries ++ b.entries }

pub record GrownNotes (rest total : GivenNotes) (old now : FoundInFile) : Type 0 where
  pub faults : now.faults.items ++ rest.faults ≡ old.faults.items ++ total.faults
  pub uses : map noted_of now.uses.items ++ rest.entries ≡ map noted_of old.uses.items ++ total.entries

pub grown_notes_step : {rest more total : GivenNotes} (one : GivenNotes) {old now new : FoundInFile} → GrownNotes rest total old now →
    AddsGiven one.faults one.entries now new → rest ≡ join_notes one more → GrownNotes more total old new
grown_notes_step {rest} {more} {total} one {old} {now} {new} g a e = record {
  faults = ap (λ x. x ++ more.faults) a.faults ∙ grown now.faults.items one.faults more.faults (ap (λ x. now.faults.items ++ x.faults) (sym e) ∙ g.faults);
  uses = ap (λ x. x ++ more.entries) a.uses ∙ grown (map noted_of now.uses.items) one.entries more.entries
      (ap (λ x. map noted_of now.uses.items ++ x.entries) (sym e) ∙ g.uses);
}

pub grown_notes_end : {rest total : GivenNotes} {old now : FoundInFile} → GrownNotes rest total old now → rest ≡ record { faults = []; entries = [] } →
    AddsGiven total.faults total.entries old now
grown_notes_end {rest} {total} {old} {now} g e = record {
  faults = sym (append-nil now.faults.items) ∙ (ap (λ x. now.faults.items ++ x.faults) (sym e) ∙ g.faults);
  uses = sym (append-nil (map noted_of now.uses.items)) ∙ (ap (λ x. map noted_of now.uses.items ++ x.entries) (sym e) ∙ g.uses);
}

-- results

pub record GrownResults (rest total : ResultsJudged) (old now : FoundInFile) (ts : List Target) : Type 0 where
  pub wanted : ts ++ rest.wanted ≡ total.wanted
  pub faults : now.faults.items ++ rest.faults ≡ old.faults.items ++ total.faults
  pub uses : now.uses.items ≡ old.uses.items

pub grown_results_step : {rest more total : ResultsJudged} (j : TypeJudged) {old now new : FoundInFile} {ts : List Target} (t : Target)
    {own : Option PlainType} →
    GrownResults rest total old now ts → AddsType j now new own → t ≡ Wants own → rest ≡ with_result j more → GrownResults more total old new (ts ++ (t ∷ []))
grown_results_step {rest} {more} {total} j {old} {now} {new} {ts} t {own} g a is e = record {
  wanted = ap (λ x. (ts ++ (x ∷ [])) ++ more.wanted) (is ∙ ap Wants a.found) ∙
      grown ts (Wants j.type_of ∷ []) more.wanted (ap (λ x. ts ++ x.wanted) (sym e) ∙ g.wanted);
  faults = ap (λ x. x ++ more.faults) a.faults ∙ grown now.faults.items j.faults more.faults (ap (λ x. now.faults.items ++ x.faults) (sym e) ∙ g.faults);
  uses = a.uses ∙ g.uses;
}

pub grown_results_end : {rest total : ResultsJudged} {old now : FoundInFile} {ts : List Target} → GrownResults rest total old now ts →
    rest ≡ record { wanted = []; faults = [] } → AddsResults total old now ts
grown_results_end {rest} {total} {old} {now} {ts} g e = record {
  wanted = sym (append-nil ts) ∙ (ap (λ x. ts ++ x.wanted) (sym e) ∙ g.wanted);
  faults = sym (append-nil now.faults.items) ∙ (ap (λ x. now.faults.items ++ x.faults) (sym e) ∙ g.faults);
  uses = g.uses;
}

pub results_as : {j k : ResultsJudged} {old new : FoundInFile} {ts : List Target} → AddsResults j old new ts → j ≡ k → AddsResults k old new ts
results_as {old = old} {new = new} {ts = ts} a e = subst (λ (x : ResultsJudged). AddsResults x old new ts) e a

pub adds_no_results : (f : FoundInFile) {ts : List Target} → ts ≡ [] → AddsResults (record { wanted = []; faults = [] }) f f ts
adds_no_results f e = record { wanted = e; faults = sym (append-nil f.faults.items); uses = refl }

pub adds_one_result : {j : TypeJudged} {old new : FoundInFile} {own : Option PlainType} {ts : List Target} → AddsType j old new own → ts ≡ Wants own ∷ [] →
    AddsResults (with_result j (record { wanted = []; faults = [] })) old new ts
adds_one_result {j} {old} {new} {own} {ts} a e = record {
  wanted = e ∙ ap (λ t. Wants t ∷ []) a.found;
  faults = a.faults ∙ ap (λ x. old.faults.items ++ x) (sym (append-nil j.faults));
  uses = a.uses;
}
