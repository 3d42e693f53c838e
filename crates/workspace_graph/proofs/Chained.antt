-- Importers that are chained.
use Rattle.std.proofs.Common.{◌≡◌, ℕ, ◌+◌, ◌-◌, ◌<◌, ◌≤◌, List, [], ◌∷◌, ◌++◌, Some, slice_get, length, get_or, reverse, refl, sym, ap, subst, ◌∙◌}
use Rattle.std.proofs.Common.{⊎_elim, append_assoc, arith}
use Rattle.std.proofs.Math.ListN.{set, replicate}
use Rattle.std.proofs.lemmas.Bool.{cases_eq}
use Rattle.std.proofs.lemmas.List.{
  get_or-replicate,
  get_or-set_other,
  get_or-set_same,
  get_or_append_left,
  get_or_push,
  length-replicate,
  length-set,
  length_push,
  reverse-append,
}
use Rattle.std.proofs.lemmas.Option.{get_or_from_slice_get, same_Some, slice_get-get_or, slice_get_within}
use Rattle.workspace_graph.specs.Imports.{LinkTable, row_of}
use Rattle.workspace_graph.specs.Chains.{AreChained, IsChain, none, more}
use Rattle.workspace_graph.specs.declared.importers.NotedImporter.{NotedImporter}
use Rattle.workspace_graph.specs.declared.importers.Chains.{Chains}

-- what was noted stays where it is
got_push : (noted : List NotedImporter) (m n : NotedImporter) (place : ℕ) → slice_get noted place ≡ Some n → slice_get (noted ++ m ∷ []) place ≡ Some n
got_push noted m n place is =
    let lt = slice_get_within noted place n is in
    let long = length_push noted m in
    slice_get-get_or (noted ++ m ∷ []) place n (omega arith)
    ∙ ap Some (get_or_append_left noted (m ∷ []) n place lt ∙ get_or_from_slice_get noted place n n is)

pub chain_push : (noted : List NotedImporter) (m : NotedImporter) {left : ℕ} {list : List ℕ} → IsChain noted left list → IsChain (noted ++ m ∷ []) left list
chain_push noted m (none e f) = none e f
chain_push noted m (more place n rest e is le chain f) = more place n rest e (got_push noted m n place is) le (chain_push noted m chain) f

pub chain_within : (noted : List NotedImporter) {left : ℕ} {list : List ℕ} → IsChain noted left list → left ≤ length noted
chain_within noted (none e f) = omega arith
chain_within noted (more place n rest e is le chain f) = let lt = slice_get_within noted place n is in omega arith

-- one more importer
pub chain_more : (noted : List NotedImporter) (m : NotedImporter) (list : List ℕ) → IsChain noted m.before list →
    IsChain (noted ++ m ∷ []) (length noted + 1) (list ++ m.importer ∷ [])
chain_more noted m list chain =
    let long = length_push noted m in
    let last : slice_get (noted ++ m ∷ []) (length noted) ≡ Some m =
    slice_get-get_or (noted ++ m ∷ []) (length noted) m (omega arith) ∙ ap Some (get_or_push noted m m (length noted) (omega arith)) in
    more (length noted) m list refl last (chain_within noted chain) (chain_push noted m chain) refl

-- what a place tells
pub record Read (noted : List NotedImporter) (left : ℕ) (list : List ℕ) (n : NotedImporter) : Type 0 where
  pub smaller : n.before < left
  pub rest : List ℕ
  pub chain : IsChain noted n.before rest
  pub is : list ≡ rest ++ n.importer ∷ []

pub chain_read : (noted : List NotedImporter) (n : NotedImporter) {left : ℕ} {list : List ℕ} → IsChain noted left list → 0 < left →
    slice_get noted (left - 1) ≡ Some n → Read noted left list n
chain_read noted n (none e f) some at = absurd (omega arith)
chain_read noted n {left} {list} (more place m rest e is le chain f) some at =
    let here : left - 1 ≡ place = omega arith in
    let same : m ≡ n = same_Some m n (sym is ∙ (ap (slice_get noted) (sym here) ∙ at)) in
    subst (Read noted left list) same (record { smaller = omega arith; rest = rest; chain = chain; is = f })

pub chain_end : (noted : List NotedImporter) {left : ℕ} {list : List ℕ} → IsChain noted left list → left ≡ 0 → list ≡ []
chain_end noted (none e f) is = f
chain_end noted (more place n rest e at le chain f) is = absurd (omega arith)

-- one more was passed
pub passed_more : (rest row list all : List ℕ) (i : ℕ) → list ≡ rest ++ i ∷ [] → list ++ reverse row ≡ all → rest ++ reverse (row ++ i ∷ []) ≡ all
passed_more rest row list all i is holds =
    ap (λ l. rest ++ l) (reverse-append row (i ∷ []))
    ∙ (sym (append_assoc rest (i ∷ []) (reverse row)) ∙ (ap (λ l. l ++ reverse row) (sym is) ∙ holds))

-- nothing was noted
pub chained_none : (chains : Chains) (count : ℕ) → chains.latest.items ≡ replicate count 0 → AreChained chains (replicate count [])
chained_none chains count is = record {
  size = length-replicate count [] ∙ sym (ap length is ∙ length-replicate count 0);
  each = λ q lt.
      let within : q < count = (let long = length-replicate {A = List ℕ} count [] in omega arith) in
      none (ap (λ l. get_or l q 0) is ∙ get_or-replicate count q 0 0 within) (get_or-replicate count q [] [] within);
}

-- one more importer of a package
pub chained_more : (old new : Chains) (lists : LinkTable) (number importer : ℕ) → number < length old.latest.items → AreChained old lists →
    new.noted.items ≡ old.noted.items ++ record { importer = importer; before = get_or old.latest.items number 0 } ∷ [] →
    new.latest.items ≡ set old.latest.items number (length old.noted.items + 1) →
    AreChained new (set lists number (row_of lists number ++ importer ∷ []))
chained_more old new lists number importer within are noted latest =
    let m : NotedImporter = record { importer = importer; before = get_or old.latest.items number 0 } in
    let longer = row_of lists number ++ importer ∷ [] in
    let size = length-set lists number longer in
    let same_size = are.size in
    record {
      size = size ∙ are.size ∙ sym (ap length latest ∙ length-set old.latest.items number (length old.noted.items + 1));
      each = λ q lt.
          rw (noted, latest) (⊎_elim
          (λ (e : q ≡ number).
          rw e (rw (
            get_or-set_same old.latest.items number (length old.noted.items + 1) 0 within,
            get_or-set_same lists number longer [] (omega arith),
          )
          (chain_more old.noted.items m (row_of lists number) (are.each number (omega arith)))))
          (λ (ne : q ≡ number → ⊥).
          rw (get_or-set_other old.latest.items number q (length old.noted.items + 1) 0 ne, get_or-set_other lists number q longer [] ne)
          (chain_push old.noted.items m (are.each q (omega arith))))
          (cases_eq q number));
    }
