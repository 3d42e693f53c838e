-- The progress of loops that compare the values of a list with types.
use Rattle.std.proofs.Common.{ℕ, ◌≡◌, ◌∷◌, [], List, Bool, true, false, if◌then◌else◌, ◌&&◌, ap, sym, refl, map, ◌++◌, append_assoc, append-nil, Some}
use Rattle.std.proofs.Common.{option_map, ◌∙◌}
use Rattle.types_expr.specs.declared.meaning.ListValue.{ListValue}
use Rattle.types_expr.specs.declared.found.FoundInFile.{FoundInFile}
use Rattle.types_expr.specs.declared.types.GoType.{GoType}
use Rattle.types_expr.specs.Judge.{Noted, is_empty, misfit, misfits, all_misfits, entering, enterings, all_enterings, ListValue as PlainArgued}
use Rattle.types_expr.specs.Judge.{noting, means, wrong, convert, convert_one}
use Rattle.types_expr.specs.Types.{PlainType, ValueKind, Typed, Meaning, Value}
use Rattle.types_expr.specs.Operations.{converts}
use Rattle.types_expr.specs.World.{World}
use Rattle.types_expr.specs.Found.{list_value, noted_of, AddsJudged, AddsMisfits}
use Rattle.types_expr.specs.View.{kind_of, type_of}
use Rattle.types_expr.proofs.Equations.{adds_as}

both_empty : (a b : List ℕ) → (is_empty a && is_empty b) ≡ is_empty (a ++ b)
both_empty [] b = refl
both_empty (x ∷ a) b = refl

-- the faults and entries so far, and those of the values still to come, give the whole
pub record Compared (total rest : List ℕ) (entries later : List Noted) (old new : FoundInFile) (fits : Bool) : Type 0 where
  pub so_far : List ℕ
  pub noted : List Noted
  pub adds : AddsMisfits so_far noted old new fits
  pub goes_on : so_far ++ rest ≡ total
  pub notes_go_on : noted ++ later ≡ entries

pub compared_start : (total : List ℕ) (entries : List Noted) {f : FoundInFile} → Compared total total entries entries f f true
compared_start total entries = record {
  so_far = [];
  noted = [];
  adds = record { faults = sym (append-nil _); uses = sym (append-nil _); none = refl };
  goes_on = refl;
  notes_go_on = refl;
}

pub compared_step : {total rest more : List ℕ} {entries later after : List Noted} (places : List ℕ) (enters : List Noted) {old now new : FoundInFile}
    {a b : Bool} → Compared total rest entries later old now a → AddsMisfits places enters now new b → rest ≡ places ++ more → later ≡ enters ++ after →
    Compared total more entries after old new (a && b)
compared_step {total} {rest} {more} {entries} {later} {after} places enters {old} {now} {new} {a} {b} c d e n = record {
  so_far = c.so_far ++ places;
  noted = c.noted ++ enters;
  adds = record {
    faults = d.faults ∙ (ap (λ x. x ++ places) c.adds.faults ∙ append_assoc old.faults.items c.so_far places);
    uses = d.uses ∙ (ap (λ x. x ++ enters) c.adds.uses ∙ append_assoc (map noted_of old.uses.items) c.noted enters);
    none = ap (λ x. x && b) c.adds.none ∙ (ap (λ x. is_empty c.so_far && x) d.none ∙ both_empty c.so_far places);
  };
  goes_on = append_assoc c.so_far places more ∙ (ap (λ x. c.so_far ++ x) (sym e) ∙ c.goes_on);
  notes_go_on = append_assoc c.noted enters after ∙ (ap (λ x. c.noted ++ x) (sym n) ∙ c.notes_go_on);
}

pub compared_end : {total rest : List ℕ} {entries later : List Noted} {old new : FoundInFile} {a : Bool} → Compared total rest entries later old new a →
    rest ≡ [] → later ≡ [] → AddsMisfits total entries old new a
compared_end {total} {rest} {entries} {later} {old} {new} {a} c e n =
    let t : c.so_far ≡ total = sym (append-nil c.so_far) ∙ (ap (λ x. c.so_far ++ x) (sym e) ∙ c.goes_on) in
    let u : c.noted ≡ entries = sym (append-nil c.noted) ∙ (ap (λ x. c.noted ++ x) (sym n) ∙ c.notes_go_on) in
    record {
      faults = c.adds.faults ∙ ap (λ x. old.faults.items ++ x) t;
      uses = c.adds.uses ∙ ap (λ x. map noted_of old.uses.items ++ x) u;
      none = c.adds.none ∙ ap is_empty t;
    }

pub misfits_step : (w : World) (v : ListValue) (vs : List ListValue) (t : GoType) (ts : List GoType) →
    misfits w (map list_value (v ∷ vs)) (map type_of (t ∷ ts)) ≡ misfit w v.place (option_map kind_of v.kind) (type_of t) ++ misfits w (map list_value vs)
    (map type_of ts)
unfolding misfits
misfits_step w v vs t ts = refl

pub misfits_no_values : (w : World) (ts : List PlainType) → misfits w [] ts ≡ []
unfolding misfits
misfits_no_values w ts = refl

pub misfits_no_types : (w : World) (vs : List PlainArgued) → misfits w vs [] ≡ []
unfolding misfits
misfits_no_types w [] = refl
misfits_no_types w (v ∷ vs) = refl

pub all_misfits_step : (w : World) (v : ListValue) (vs : List ListValue) (t : PlainType) →
    all_misfits w (map list_value (v ∷ vs)) t ≡ misfit w v.place (option_map kind_of v.kind) t ++ all_misfits w (map list_value vs) t
unfolding all_misfits
all_misfits_step w v vs t = refl

pub all_misfits_end : (w : World) (t : PlainType) → all_misfits w [] t ≡ []
unfolding all_misfits
all_misfits_end w t = refl

pub enterings_step : (w : World) (v : ListValue) (vs : List ListValue) (t : GoType) (ts : List GoType) →
    enterings w (map list_value (v ∷ vs)) (map type_of (t ∷ ts)) ≡ entering w v.place (option_map kind_of v.kind) (type_of t) ++ enterings w
    (map list_value vs) (map type_of ts)
unfolding enterings
enterings_step w v vs t ts = refl

pub enterings_no_values : (w : World) (ts : List PlainType) → enterings w [] ts ≡ []
unfolding enterings
enterings_no_values w ts = refl

pub enterings_no_types : (w : World) (vs : List PlainArgued) → enterings w vs [] ≡ []
unfolding enterings
enterings_no_types w [] = refl
enterings_no_types w (v ∷ vs) = refl

pub all_enterings_step : (w : World) (v : ListValue) (vs : List ListValue) (t : PlainType) →
    all_enterings w (map list_value (v ∷ vs)) t ≡ entering w v.place (option_map kind_of v.kind) t ++ all_enterings w (map list_value vs) t
unfolding all_enterings
all_enterings_step w v vs t = refl

pub all_enterings_end : (w : World) (t : PlainType) → all_enterings w [] t ≡ []
unfolding all_enterings
all_enterings_end w t = refl

-- a conversion that is refused: the entry of the value, if there is one, and a fault
pub refused_conversion : (w : World) (start : ℕ) (t : PlainType) (v : PlainArgued) (k : ValueKind) {old mid new : FoundInFile} {m : Meaning} →
    v.kind ≡ Some k → converts w k t ≡ false → mid.faults.items ≡ old.faults.items →
    map noted_of mid.uses.items ≡ map noted_of old.uses.items ++ entering w v.place v.kind t → AddsJudged (wrong start) mid new m →
    AddsJudged (convert w start t (v ∷ [])) old new m
unfolding convert
refused_conversion w start t v k {old} {mid} {new} {m} is refuses faults uses a =
    let refused : convert_one w start t v.kind ≡ wrong start = ap (convert_one w start t) is ∙
    ap (λ (b : Bool). if b then means (Value (Typed t) false) else wrong start) refuses in
    adds_as (ap (noting (entering w v.place v.kind t)) refused) (record {
      meaning = a.meaning;
      faults = a.faults ∙ ap (λ x. x ++ (start ∷ [])) faults;
      uses = a.uses ∙ (ap (λ x. x ++ []) uses ∙ append_assoc (map noted_of old.uses.items) (entering w v.place v.kind t) []);
    })
