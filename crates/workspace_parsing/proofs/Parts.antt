-- Parts of a workspace: the files of some shares.
use Rattle.std.proofs.Common.{◌≡◌, ℕ, ◌<◌, ◌&&◌, ◌⊎◌, Bool, true, false, List, [], ◌∷◌, cond, Option, Some, None, inl, inr, refl, sym, ap, subst, ◌∙◌, ⊎_elim}
use Rattle.std.specs.FinMap.{empty, entries, get, get-empty, get-insert, insert, same_map}
use Rattle.std.specs.List.{Contains}
use Rattle.std.specs.Ordering.{eq_by_cmp, is_eq}
use Rattle.std.specs.Cmp.{tied_itself, Equal-is}
use Rattle.std.proofs.lemmas.Bool.{true≢false}
use Rattle.std.proofs.lemmas.Option.{none-some, same_Some}
use Rattle.base_lemmas.proofs.Elements.{nothing_in, first_in, later_in, first_or_later}
use Rattle.base_files.specs.Workspace.{Workspace, path_cmp}
use Rattle.base_files.proofs.WorkspaceLaws.{path_cmp_total, path_cmp_exact}
use Rattle.base_edits.proofs.Entries.{entry_of, get_entry}
use Rattle.workspace_parsing.specs.Shares.{IsPartBetween, is_between}

abbrev Entry : Type 0
Entry = List ℕ × List ℕ

-- `part` has those files between the limits that are not among `left`, and no other file.
pub record IsPartBeside (w : Workspace) (low high : ℕ) (left : List Entry) (part : Workspace) : Type 0 where
  pub sound : (path text : List ℕ) → get part path ≡ Some text → (get w path ≡ Some text) × (is_between low high path ≡ true)
  pub whole : (e : Entry) → Contains (entries w) e → is_between low high e.0 ≡ true → Contains left e ⊎ (get part e.0 ≡ Some e.1)
  pub among : (e : Entry) → Contains left e → Contains (entries w) e

pub nothing_set : (w : Workspace) (low high : ℕ) (left : List Entry) (part : Workspace) → left ≡ entries w → part ≡ empty → IsPartBeside w low high left part
nothing_set w low high left part all none = record {
  sound = λ path text at. absurd (none-some text (sym (ap (λ m. get m path) none ∙ get-empty path_cmp path) ∙ at));
  whole = λ e has between. inl (subst (λ l. Contains l e) (sym all) has);
  among = λ e has. subst (λ l. Contains l e) all has;
}

itself : (q : List ℕ) → eq_by_cmp path_cmp q q ≡ true
itself q = ap is_eq (tied_itself path_cmp_total q)

-- what is found where one more file may be set
found : (b : Bool) (part : Workspace) (path text q : List ℕ) →
    get (cond b (insert part path text) part) q ≡ cond (b && eq_by_cmp path_cmp q path) (Some text) (get part q)
found true part path text q = get-insert path_cmp_total part path text q
found false part path text q = refl

module _ (w : Workspace) (low high : ℕ) (left rest : List Entry) (old new : Workspace) (d : Entry) (is : left ≡ d ∷ rest)
    (set : new ≡ cond (is_between low high d.0) (insert old d.0 d.1) old) (h : IsPartBeside w low high left old) where
  own : get w d.0 ≡ Some d.1
  own = get_entry w d (h.among d (subst (λ l. Contains l d) (sym is) (first_in d rest)))

  at : (q : List ℕ) → get new q ≡ cond (is_between low high d.0 && eq_by_cmp path_cmp q d.0) (Some d.1) (get old q)
  at q = ap (λ m. get m q) set ∙ found (is_between low high d.0) old d.0 d.1 q

  tied : (q : List ℕ) → eq_by_cmp path_cmp q d.0 ≡ true → q ≡ d.0
  tied q t = path_cmp_exact q d.0 ((Equal-is (path_cmp q d.0)).0 t)

  sound : (q text : List ℕ) → get new q ≡ Some text → (get w q ≡ Some text) × (is_between low high q ≡ true)
  sound q text there =
      elim (is_between low high d.0) as (λ b. is_between low high d.0 ≡ b → get new q ≡ cond (b && eq_by_cmp path_cmp q d.0) (Some d.1) (get old q) →
      (get w q ≡ Some text) × (is_between low high q ≡ true)) [
        | true ↦ λ between now. (elim (eq_by_cmp path_cmp q d.0) as (λ t. eq_by_cmp path_cmp q d.0 ≡ t → get new q ≡ cond t (Some d.1) (get old q) →
            (get w q ≡ Some text) × (is_between low high q ≡ true)) [
              | true ↦ λ t this.
                  let same = tied q t in
                  (ap (get w) same ∙ own ∙ sym this ∙ there, ap (is_between low high) same ∙ between)
              | false ↦ λ t this. h.sound q text (sym this ∙ there)
            ] refl now)
        | false ↦ λ between now. h.sound q text (sym now ∙ there)
      ] refl (at q)

  kept : (e : Entry) → Contains (entries w) e → get old e.0 ≡ Some e.1 → get new e.0 ≡ Some e.1
  kept e has there =
      elim (is_between low high d.0) as (λ b. get new e.0 ≡ cond (b && eq_by_cmp path_cmp e.0 d.0) (Some d.1) (get old e.0) → get new e.0 ≡ Some e.1) [
        | true ↦ λ now. (elim (eq_by_cmp path_cmp e.0 d.0) as (λ t. eq_by_cmp path_cmp e.0 d.0 ≡ t → get new e.0 ≡ cond t (Some d.1) (get old e.0) →
            get new e.0 ≡ Some e.1) [
              | true ↦ λ t this. this ∙ sym own ∙ sym (ap (get w) (tied e.0 t)) ∙ get_entry w e has
              | false ↦ λ t this. this ∙ there
            ] refl now)
        | false ↦ λ now. now ∙ there
      ] (at e.0)

  set_now : is_between low high d.0 ≡ true → get new d.0 ≡ Some d.1
  set_now between =
      ap (λ m. get m d.0) (set ∙ ap (λ b. cond b (insert old d.0 d.1) old) between)
      ∙ get-insert path_cmp_total old d.0 d.1 d.0
      ∙ ap (λ t. cond t (Some d.1) (get old d.0)) (itself d.0)

  pub one_set : IsPartBeside w low high rest new
  one_set = record {
    sound = sound;
    whole = λ e has between. ⊎_elim
        (λ (among : Contains left e). ⊎_elim
        (λ (here : d ≡ e). inr (subst (λ (x : Entry). get new x.0 ≡ Some x.1) here (set_now (subst (λ (x : Entry). is_between low high x.0 ≡ true) (sym
        here) between))))
        (λ (later : Contains rest e). inl later)
        (first_or_later d rest e (subst (λ l. Contains l e) is among)))
        (λ (there : get old e.0 ≡ Some e.1). inr (kept e has there))
        (h.whole e has between);
    among = λ e has. h.among e (subst (λ l. Contains l e) (sym is) (later_in d rest e has));
  }

-- all files were looked at
pub all_set : (w : Workspace) (low high : ℕ) (left : List Entry) (part : Workspace) → left ≡ [] → IsPartBeside w low high left part →
    IsPartBetween w low high part
all_set w low high left part none h path =
    elim (is_between low high path) as (λ b. is_between low high path ≡ b → get part path ≡ cond b (get w path) None) [
      | true ↦ λ between. elim (get w path) as (λ o. get w path ≡ o → get part path ≡ o) [
        | Some text ↦ λ there. ⊎_elim
            (λ (among : Contains left (path, text)). absurd (nothing_in (path, text) (subst (λ l. Contains l (path, text)) none among)))
            (λ (is : get part path ≡ Some text). is)
            (h.whole (path, text) (entry_of w path text there) between)
        | None ↦ λ there. elim (get part path) as (λ o. get part path ≡ o → o ≡ None) [
          | Some text ↦ λ at. absurd (none-some text (sym there ∙ (h.sound path text at).0))
          | None ↦ λ at. refl
        ] refl
      ] refl
      | false ↦ λ outside. elim (get part path) as (λ o. get part path ≡ o → o ≡ None) [
        | Some text ↦ λ at. absurd (true≢false (sym (h.sound path text at).1 ∙ outside))
        | None ↦ λ at. refl
      ] refl
    ] refl
