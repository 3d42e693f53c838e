-- The sums of what several calls in turn add to what was found.
use Rattle.std.proofs.Common.{ℕ, ◌≡◌, ◌∷◌, ◌++◌, [], List, ap, sym, ◌∙◌, refl, append_assoc, append-nil, subst, Option, option_map, map, Bool, true, false}
use Rattle.std.proofs.Common.{◌&&◌, ◌||◌}
use Rattle.std.proofs.Math.Bool.{or-false}
use Rattle.types_expr.specs.declared.found.FoundInFile.{FoundInFile}
use Rattle.types_expr.specs.declared.keys.ElementKey.{ElementKey}
use Rattle.types_expr.specs.Types.{Meaning, ValueKind, PlainType}
use Rattle.types_expr.specs.World.{World, Member, member_symbol}
use Rattle.types_expr.specs.View.{type_of}
use Rattle.types_expr.specs.Judge.{Judged, followed, means, JudgedList, ListValue, with_values, value_before, value_kind, JudgedElements, JudgedKey, TypeJudged}
use Rattle.types_expr.specs.Judge.{MemberUse, Noted, OfMember, with_use, means_or_wrong}
use Rattle.types_expr.specs.Judge.{member_meaning, select_member, with_element, literal_of, literal_meaning, misfit_if}
use Rattle.types_expr.specs.Judge.{is_whole, is_empty, entering_if}
use Rattle.types_expr.specs.Found.{AddsJudged, AddsJudgedList, AddsType, AddsKey, AddsElements, AddsMisfits, AddsByRule, noted_of}

-- a meaning alone
pub adds_meaning : {m n : Meaning} (f : FoundInFile) → n ≡ m → AddsJudged (means m) f f n
adds_meaning f e = record { meaning = e; faults = sym (append-nil _); uses = sym (append-nil _) }

joined : {X : Type 0} (a d e : List X) {b c : List X} → b ≡ a ++ d → c ≡ b ++ e → c ≡ a ++ (d ++ e)
joined a d e p q = q ∙ (ap (λ x. x ++ e) p ∙ append_assoc a d e)

pub adds_then : {j : Judged} (rule : Meaning → Judged) {old mid new : FoundInFile} {m r : Meaning} → AddsJudged j old mid m → AddsJudged (rule m) mid new r →
    AddsJudged (followed j rule) old new r
adds_then {j} rule {old} {mid} {new} {m} {r} a b =
    let b' : AddsJudged (rule j.meaning) mid new r = subst (λ (x : Meaning). AddsJudged (rule x) mid new r) a.meaning b in
    record { meaning = b'.meaning; faults = joined _ _ _ a.faults b'.faults; uses = joined _ _ _ a.uses b'.uses }

-- the use of a member, followed by the meaning of the member
adds_use : {u : MemberUse} {j : Judged} {old mid new : FoundInFile} {m : Meaning} → mid.faults.items ≡ old.faults.items →
    map noted_of mid.uses.items ≡ map noted_of old.uses.items ++ (OfMember u ∷ []) → AddsJudged j mid new m → AddsJudged (with_use u j) old new m
adds_use {u} {j} {old} {mid} {new} {m} faults uses b =
    record {
      meaning = b.meaning;
      faults = b.faults ∙ ap (λ x. x ++ j.faults) faults;
      uses = joined (map noted_of old.uses.items) (OfMember u ∷ []) j.uses uses b.uses;
    }

pub adds_member : (w : World) (t : PlainType) (name : ℕ) (a : Bool) (o : Option Member) (x : Option Meaning) {old mid new : FoundInFile} {m : Meaning} →
    o ≡ w.member name t → x ≡ member_meaning w t a o → mid.faults.items ≡ old.faults.items →
    map noted_of mid.uses.items ≡ map noted_of old.uses.items ++ (OfMember (record { place = name; before = t; member = option_map member_symbol o }) ∷ []) →
    AddsJudged (means_or_wrong x name) mid new m → AddsJudged (select_member w name t a) old new m
unfolding select_member
adds_member w t name a o x {old} {mid} {new} {m} o_is x_is faults uses b =
    subst (λ (z : Option Member). AddsJudged (with_use (record { place = name; before = t; member = option_map member_symbol z })
    (means_or_wrong (member_meaning w t a z) name)) old new m) o_is
    (adds_use faults uses (subst (λ (z : Option Meaning). AddsJudged (means_or_wrong z name) mid new m) x_is b))

pub continues_here : {m : Meaning} {old : FoundInFile} → AddsByRule (λ j. j) m old old m
continues_here = record { after = λ j before a. a }

-- The progress of a loop over the parts of an expression: the judgement so far, and the rest that is still to come, give the whole.
pub record Reached (total : Judged) (rest : Judged → Judged) (before now : FoundInFile) (m : Meaning) : Type 0 where
  pub so_far : Judged
  pub adds : AddsJudged so_far before now m
  pub goes_on : rest so_far ≡ total

pub reached_start : (rest : Judged → Judged) {j : Judged} {before now : FoundInFile} {m : Meaning} → AddsJudged j before now m →
    Reached (rest j) rest before now m
reached_start rest {j} a = record { so_far = j; adds = a; goes_on = refl }

pub reached_step : {total : Judged} (rest more : Judged → Judged) (rule : Meaning → Judged) {before now new : FoundInFile} {m r : Meaning} →
    Reached total rest before now m → AddsJudged (rule m) now new r → ((k : Judged) → rest k ≡ more (followed k rule)) → Reached total more before new r
reached_step rest more rule c a e = record { so_far = followed c.so_far rule; adds = adds_then rule c.adds a; goes_on = sym (e c.so_far) ∙ c.goes_on }

pub reached_end : {total : Judged} (rest : Judged → Judged) {before now : FoundInFile} {m : Meaning} → Reached total rest before now m →
    ((k : Judged) → rest k ≡ k) → AddsJudged total before now m
reached_end {total} rest {before} {now} {m} c e = subst (λ (j : Judged). AddsJudged j before now m) (sym (e c.so_far) ∙ c.goes_on) c.adds

-- the progress of a loop over a list of values
abbrev pub list_then : JudgedList → JudgedList → JudgedList
list_then a b = record { values = a.values ++ b.values; faults = a.faults ++ b.faults; uses = a.uses ++ b.uses }

pub record ReachedList (total rest : JudgedList) (before now : FoundInFile) (vs : List ListValue) : Type 0 where
  pub so_far : JudgedList
  pub adds : AddsJudgedList so_far before now vs
  pub goes_on : list_then so_far rest ≡ total

abbrev one_value : ℕ → Judged → JudgedList
one_value place j = record { values = record { place = place; kind = value_kind j.meaning } ∷ []; faults = j.faults; uses = j.uses }

pub reached_list_start : {f : FoundInFile} (total : JudgedList) → ReachedList total total f f []
reached_list_start total = record {
  so_far = record { values = []; faults = []; uses = [] };
  adds =
      record { values = refl; faults = sym (append-nil _); uses = sym (append-nil _) };
  goes_on = refl;
}

pub reached_list_step : {total rest more : JudgedList} (place : ℕ) (j : Judged) {before now new : FoundInFile} {vs : List ListValue} (v : ListValue) {m :
    Meaning} →
    ReachedList total rest before now vs → AddsJudged j now new m → v ≡ record { place = place; kind = value_kind m } → rest ≡ value_before place j more →
    ReachedList total more before new (vs ++ (v ∷ []))
reached_list_step {total} {rest} {more} place j v c a e r = record {
  so_far = list_then c.so_far (one_value place j);
  adds = record {
    values = ap (λ x. x ++ (v ∷ [])) c.adds.values ∙ ap (λ x. c.so_far.values ++ (x ∷ []))
        (e ∙ ap (λ x. record { place = place; kind = value_kind x }) a.meaning);
    faults = joined _ _ _ c.adds.faults a.faults;
    uses = joined _ _ _ c.adds.uses a.uses;
  };
  goes_on = (ap (λ x. record { values = x; faults = (c.so_far.faults ++ j.faults) ++ more.faults; uses = (c.so_far.uses ++ j.uses) ++ more.uses })
      (append_assoc c.so_far.values (record { place = place; kind = value_kind j.meaning } ∷ []) more.values)
      ∙ (ap (λ x. record {
        values = c.so_far.values ++ (record { place = place; kind = value_kind j.meaning } ∷ more.values);
        faults = x;
        uses =
            (c.so_far.uses ++ j.uses) ++ more.uses;
      }) (append_assoc c.so_far.faults j.faults more.faults)
      ∙ (ap (λ x. record {
        values = c.so_far.values ++ (record { place = place; kind = value_kind j.meaning } ∷ more.values);
        faults =
            c.so_far.faults ++ (j.faults ++ more.faults);
        uses = x;
      }) (append_assoc c.so_far.uses j.uses more.uses)
      ∙ (ap (λ x. list_then c.so_far x) (sym r) ∙ c.goes_on))));
}

pub adds_values : {vs : JudgedList} (rule : List ListValue → Judged) {old mid new : FoundInFile} {xs : List ListValue} {r : Meaning} →
    AddsJudgedList vs old mid xs →
    AddsJudged (rule xs) mid new r → AddsJudged (with_values vs rule) old new r
adds_values {vs} rule {old} {mid} {new} {xs} {r} a b =
    let b' : AddsJudged (rule vs.values) mid new r = subst (λ (x : List ListValue). AddsJudged (rule x) mid new r) a.values b in
    record { meaning = b'.meaning; faults = joined _ _ _ a.faults b'.faults; uses = joined _ _ _ a.uses b'.uses }

abbrev pub Same : ListValue → ListValue → Type 0
Same a b = a ≡ b

pub argued_at : {p q : ℕ} {k l : Option ValueKind} → p ≡ q → k ≡ l → Same (record { place = p; kind = k }) (record { place = q; kind = l })
argued_at {p} {q} {k} {l} e f = ap (λ x. record { place = x; kind = k }) e ∙ ap (λ x. record { place = q; kind = x }) f

pub reached_list_end : {total rest : JudgedList} {before now : FoundInFile} {vs : List ListValue} → ReachedList total rest before now vs →
    rest ≡ record { values = []; faults = []; uses = [] } → AddsJudgedList total before now vs
reached_list_end {total} {rest} {before} {now} {vs} c e =
    let t : list_then c.so_far (record { values = []; faults = []; uses = [] }) ≡ total = ap (λ r. list_then c.so_far r) (sym e) ∙ c.goes_on in
    record {
      values = c.adds.values ∙ (sym (append-nil c.so_far.values) ∙ ap (λ x. x.values) t);
      faults = c.adds.faults ∙ (ap (λ x. before.faults.items ++ x) (sym (append-nil c.so_far.faults)) ∙ ap (λ x. before.faults.items ++ x.faults) t);
      uses = c.adds.uses ∙ (ap (λ x. map noted_of before.uses.items ++ x) (sym (append-nil c.so_far.uses)) ∙
          ap (λ x. map noted_of before.uses.items ++ x.uses) t);
    }

-- the progress of a loop over the elements of a literal

abbrev pub elements_then : JudgedElements → JudgedElements → JudgedElements
elements_then a b = record { whole = a.whole && b.whole; unkeyed = a.unkeyed || b.unkeyed; faults = a.faults ++ b.faults; uses = a.uses ++ b.uses }

abbrev pub no_elements : JudgedElements
no_elements = record { whole = true; unkeyed = false; faults = []; uses = [] }

abbrev pub one_element : World → JudgedKey → ℕ → Judged → JudgedElements
one_element w k place j = record {
  whole = k.whole && (is_whole (value_kind j.meaning) && is_empty (misfit_if w place (value_kind j.meaning) k.wanted));
  unkeyed = k.unkeyed;
  faults = k.faults ++ (j.faults ++ misfit_if w place (value_kind j.meaning) k.wanted);
  uses = k.uses ++ (j.uses ++ entering_if w place (value_kind j.meaning) k.wanted);
}

abbrev Equal : JudgedElements → JudgedElements → Type 0
Equal a b = a ≡ b

same_elements : {w x u v : Bool} {f g : List ℕ} {s t : List Noted} → w ≡ x → u ≡ v → f ≡ g → s ≡ t →
    Equal (record { whole = w; unkeyed = u; faults = f; uses = s }) (record { whole = x; unkeyed = v; faults = g; uses = t })
same_elements {w} {x} {u} {v} {f} {g} {s} {t} a b c d =
    ap (λ z. record { whole = z; unkeyed = u; faults = f; uses = s }) a ∙ (ap (λ z. record { whole = x; unkeyed = z; faults = f; uses = s }) b
    ∙ (ap (λ z. record { whole = x; unkeyed = v; faults = z; uses = s }) c ∙ ap (λ z. record { whole = x; unkeyed = v; faults = g; uses = z }) d))

and_then : (a k v e r : Bool) → ((a && (k && (v && e))) && r) ≡ (a && (k && (v && (e && r))))
and_then true true true e r = refl
and_then true true false e r = refl
and_then true false v e r = refl
and_then false k v e r = refl

or_then : (a k r : Bool) → ((a || k) || r) ≡ (a || (k || r))
or_then true k r = refl
or_then false k r = refl

four : {X : Type 0} (a k j m r : List X) → (a ++ (k ++ (j ++ m))) ++ r ≡ a ++ (k ++ (j ++ (m ++ r)))
four a k j m r = append_assoc a (k ++ (j ++ m)) r ∙ ap (λ x. a ++ x) (append_assoc k (j ++ m) r ∙ ap (λ x. k ++ x) (append_assoc j m r))

element_split : (w : World) (a : JudgedElements) (k : JudgedKey) (place : ℕ) (j : Judged) (more : JudgedElements) →
    elements_then (elements_then a (one_element w k place j)) more ≡ elements_then a (with_element w k place j more)
element_split w a k place j more = same_elements
    (and_then a.whole k.whole (is_whole (value_kind j.meaning)) (is_empty (misfit_if w place (value_kind j.meaning) k.wanted)) more.whole)
    (or_then a.unkeyed k.unkeyed more.unkeyed)
    (four a.faults k.faults j.faults (misfit_if w place (value_kind j.meaning) k.wanted) more.faults)
    (four a.uses k.uses j.uses (entering_if w place (value_kind j.meaning) k.wanted) more.uses)

pub record ReachedElements (total rest : JudgedElements) (before now : FoundInFile) (all_whole some_unkeyed : Bool) : Type 0 where
  pub so_far : JudgedElements
  pub adds : AddsElements so_far before now all_whole some_unkeyed
  pub goes_on : elements_then so_far rest ≡ total

pub reached_elements_start : {f : FoundInFile} (total : JudgedElements) → ReachedElements total total f f true false
reached_elements_start total = record {
  so_far = no_elements;
  adds =
      record { whole = refl; unkeyed = refl; faults = sym (append-nil _); uses = sym (append-nil _) };
  goes_on = refl;
}

-- an element: its key, its value, and whether the value fits
pub reached_element : (w : World) (k : JudgedKey) (place at : ℕ) (j : Judged) (kind : Option ValueKind) (wanted : Option PlainType)
    {total rest more : JudgedElements} {before now keyed valued new : FoundInFile} {whole unkeyed key_whole key_unkeyed fits : Bool} {m : Meaning} →
    ReachedElements total rest before now whole unkeyed → (key : ElementKey) → AddsKey k now keyed key → AddsJudged j keyed valued m →
    AddsMisfits (misfit_if w at kind wanted) (entering_if w at kind wanted) valued new fits →
    at ≡ place → kind ≡ value_kind m → wanted ≡ option_map (λ t. type_of t.now) key.wanted → key_whole ≡ key.whole → key_unkeyed ≡ key.unkeyed →
    rest ≡ with_element w k place j more →
    ReachedElements total more before new (whole && (key_whole && (is_whole kind && fits))) (unkeyed || key_unkeyed)
reached_element w k place at j kind wanted {total} {rest} {more} {before} {now} {keyed} {valued} {new} {whole} {unkeyed} {key_whole} {key_unkeyed} {fits}
    {m} c key a b d pe ke we hw hu r =
    let kk : kind ≡ value_kind j.meaning = ke ∙ ap value_kind b.meaning in
    let ww : wanted ≡ k.wanted = we ∙ a.wanted in
    let places : misfit_if w at kind wanted ≡ misfit_if w place (value_kind j.meaning) k.wanted =
    ap (λ x. misfit_if w x kind wanted) pe ∙ (ap (λ x. misfit_if w place x wanted) kk ∙ ap (λ x. misfit_if w place (value_kind j.meaning) x) ww) in
    let entries : entering_if w at kind wanted ≡ entering_if w place (value_kind j.meaning) k.wanted =
    ap (λ x. entering_if w x kind wanted) pe ∙ (ap (λ x. entering_if w place x wanted) kk ∙ ap (λ x. entering_if w place (value_kind j.meaning) x) ww) in
    record {
      so_far = elements_then c.so_far (one_element w k place j);
      adds = record {
        whole = ap (λ x. x && (key_whole && (is_whole kind && fits))) c.adds.whole ∙ ap (λ x. c.so_far.whole && x)
            (ap (λ x. x && (is_whole kind && fits)) (hw ∙ a.whole) ∙ ap (λ x. k.whole && x)
            (ap (λ x. is_whole x && fits) kk ∙ ap (λ x. is_whole (value_kind j.meaning) && x) (d.none ∙ ap is_empty places)));
        unkeyed = ap (λ x. x || key_unkeyed) c.adds.unkeyed ∙ ap (λ x. c.so_far.unkeyed || x) (hu ∙ a.unkeyed);
        faults = joined before.faults.items c.so_far.faults (k.faults ++ (j.faults ++ misfit_if w place (value_kind j.meaning) k.wanted)) c.adds.faults
            (joined now.faults.items k.faults (j.faults ++ misfit_if w place (value_kind j.meaning) k.wanted) a.faults
            (joined keyed.faults.items j.faults (misfit_if w place (value_kind j.meaning) k.wanted) b.faults
            (d.faults ∙ ap (λ x. valued.faults.items ++ x) places)));
        uses = joined (map noted_of before.uses.items) c.so_far.uses (k.uses ++ (j.uses ++ entering_if w place (value_kind j.meaning) k.wanted)) c.adds.uses
            (joined (map noted_of now.uses.items) k.uses (j.uses ++ entering_if w place (value_kind j.meaning) k.wanted) a.uses
            (joined (map noted_of keyed.uses.items) j.uses (entering_if w place (value_kind j.meaning) k.wanted) b.uses
            (d.uses ∙ ap (λ x. map noted_of valued.uses.items ++ x) entries)));
      };
      goes_on = element_split w c.so_far k place j more ∙ (ap (λ x. elements_then c.so_far x) (sym r) ∙ c.goes_on);
    }

pub reached_elements_as : {total rest : JudgedElements} {before now : FoundInFile} {a b c d : Bool} → c ≡ a → d ≡ b →
    ReachedElements total rest before now a b →
    ReachedElements total rest before now c d
reached_elements_as {total} {rest} {before} {now} {a} {b} {c} {d} e f r =
    subst (λ (x : Bool). ReachedElements total rest before now c x) (sym f) (subst (λ (x : Bool). ReachedElements total rest before now x b) (sym e) r)

and_end : (a : Bool) → (a && true) ≡ a
and_end true = refl
and_end false = refl

pub reached_elements_end : {total rest : JudgedElements} {before now : FoundInFile} {whole unkeyed : Bool} →
    ReachedElements total rest before now whole unkeyed →
    rest ≡ no_elements → AddsElements total before now whole unkeyed
reached_elements_end {total} {rest} {before} {now} {whole} {unkeyed} c e =
    let t : elements_then c.so_far no_elements ≡ total = ap (λ r. elements_then c.so_far r) (sym e) ∙ c.goes_on in
    record {
      whole = c.adds.whole ∙ (sym (and_end c.so_far.whole) ∙ ap (λ x. x.whole) t);
      unkeyed = c.adds.unkeyed ∙ (sym (or-false c.so_far.unkeyed) ∙ ap (λ x. x.unkeyed) t);
      faults = c.adds.faults ∙ (ap (λ x. before.faults.items ++ x) (sym (append-nil c.so_far.faults)) ∙ ap (λ x. before.faults.items ++ x.faults) t);
      uses = c.adds.uses ∙ (ap (λ x. map noted_of before.uses.items ++ x) (sym (append-nil c.so_far.uses)) ∙
          ap (λ x. map noted_of before.uses.items ++ x.uses) t);
    }

-- a literal: its type, its elements, and its meaning
pub adds_literal : (w : World) (start : ℕ) (t : TypeJudged) (rest : Option PlainType → JudgedElements) {old typed filled new : FoundInFile}
    {own : Option PlainType} {whole unkeyed : Bool} {m : Meaning} →
    AddsType t old typed own → AddsElements (rest own) typed filled whole unkeyed → AddsJudged (literal_meaning w start own whole unkeyed) filled new m →
    AddsJudged (literal_of w start t (rest t.type_of)) old new m
adds_literal w start t rest {old} {typed} {filled} {new} {own} {whole} {unkeyed} {m} a b c =
    let b' : AddsElements (rest t.type_of) typed filled whole unkeyed =
    subst (λ (x : Option PlainType). AddsElements (rest x) typed filled whole unkeyed) a.found b in
    let same : literal_meaning w start own whole unkeyed ≡ literal_meaning w start t.type_of (rest t.type_of).whole (rest t.type_of).unkeyed =
    ap (λ x. literal_meaning w start x whole unkeyed) a.found ∙
    (ap (λ x. literal_meaning w start t.type_of x unkeyed) b'.whole ∙ ap (λ x. literal_meaning w start t.type_of (rest t.type_of).whole x) b'.unkeyed) in
    let c' : AddsJudged (literal_meaning w start t.type_of (rest t.type_of).whole (rest t.type_of).unkeyed) filled new m =
    subst (λ (x : Judged). AddsJudged x filled new m) same c in
    record {
      meaning = c'.meaning;
      faults = joined old.faults.items (t.faults ++ (rest t.type_of).faults)
          (literal_meaning w start t.type_of (rest t.type_of).whole (rest t.type_of).unkeyed).faults
          (joined old.faults.items t.faults (rest t.type_of).faults a.faults b'.faults) c'.faults;
      uses = joined (map noted_of old.uses.items) (rest t.type_of).uses (literal_meaning w start t.type_of (rest t.type_of).whole (rest t.type_of).unkeyed).uses
          (b'.uses ∙ ap (λ x. map noted_of x ++ (rest t.type_of).uses) a.uses) c'.uses;
    }
