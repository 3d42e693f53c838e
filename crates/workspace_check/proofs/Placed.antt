-- Faults with their places, added one after another.
use Rattle.std.proofs.Common.{ℕ, ◌≡◌, ◌+◌, ◌<◌, ◌↔◌, inl, inr, List, [], ◌∷◌, ◌++◌, length, take, map, sym, ap, subst, ◌∙◌, get_or}
use Rattle.std.specs.Prelude.{Contains, Some, None, slice_get, option_map}
use Rattle.std.proofs.lemmas.List.Elements.{Contains-append_left, Contains-push, Contains-push_cases}
use Rattle.std.proofs.lemmas.Option.{none-some, same_Some, slice_get-map}
use Rattle.base_lemmas.proofs.Elements.{nothing_in}
use Rattle.types_declared.specs.declared.fault.Fault.{Fault}
use Rattle.go_ast.specs.SourceFile.{SourceFile, FileParts, source_of, offset_of}
use Rattle.workspace_check.specs.declared.fault.FileFault.{FileFault}
use Rattle.workspace_check.specs.Faults.{placed_in}
use Rattle.workspace_check.specs.Steps.{IsPlacedFault, IsSomePlacedFault, AddsPlaced}
use Rattle.workspace_check.proofs.Members.{taken_or_next, still_taken, next_taken}

-- one fault

pub placed_as : (s : SourceFile) (x : Fault) (y : FileFault) → y.place.path ≡ s.path → y.place.offset ≡ offset_of s x.token → y.kind ≡ x.kind →
    y ≡ placed_in s x
placed_as s x y path offset kind i = record { place = record { path = path i; offset = offset i }; kind = kind i }

pub placed_nowhere : (files : List FileParts) (x : Fault) (old : List FileFault) → slice_get files x.file ≡ None → AddsPlaced files x old old
placed_nowhere files x old gone f = (
  λ c. inl c,
  λ h. elim h [ inl c ↦ c | inr p ↦ absurd (none-some p.source (sym (slice_get-map source_of files x.file ∙ ap (option_map source_of) gone) ∙ p.in_file)) ],
)

pub placed_here : (files : List FileParts) (x : Fault) (file : FileParts) (old new : List FileFault) (y : FileFault) → slice_get files x.file ≡ Some file →
    y ≡ placed_in (source_of file) x → new ≡ old ++ y ∷ [] →
    AddsPlaced files x old new
placed_here files x file old new y at is e f =
    let source : slice_get (map source_of files) x.file ≡ Some (source_of file) = slice_get-map source_of files x.file ∙ ap (option_map source_of) at in (
      λ c. elim (Contains-push_cases old y f (subst (λ l. Contains l f) e c)) [
        | inl before ↦ inl before
        | inr same ↦ inr (record { source = source_of file; in_file = source; at = sym same ∙ is })
      ],
      λ h. subst (λ l. Contains l f) (sym e) (elim h [
        | inl c ↦ Contains-append_left old (y ∷ []) f c
        | inr p ↦ (
            let one : source_of file ≡ p.source = same_Some (source_of file) p.source (sym source ∙ p.in_file) in
            subst (Contains (old ++ y ∷ [])) (is ∙ ap (λ s. placed_in s x) one ∙ sym p.at) (Contains-push old y))
      ]),
    )

-- those that were passed

pub none_placed : (files : List FileParts) (faults : List Fault) (found : List FileFault) → faults ≡ [] → found ≡ [] → (f : FileFault) →
    Contains found f ↔ IsSomePlacedFault files faults f
none_placed files faults found none empty f = (
  λ c. absurd (nothing_in f (subst (λ l. Contains l f) empty c)),
  λ h. absurd (nothing_in h.fault (subst (λ l. Contains l h.fault) none h.among)),
)

pub next_placed : (files : List FileParts) (faults : List Fault) (k : ℕ) (d x : Fault) → k < length faults → x ≡ get_or faults k d →
    (old new : List FileFault) → ((f : FileFault) → Contains old f ↔ IsSomePlacedFault files (take k faults) f) →
    AddsPlaced files x old new → (f : FileFault) → Contains new f ↔ IsSomePlacedFault files (take (k + 1) faults) f
next_placed files faults k d x lt is old new before adds f = (
  λ c. elim ((adds f).0 c) [
    | inl o ↦ (let p = (before f).0 o in record { fault = p.fault; among = still_taken faults k d p.fault lt p.among; is_placed = p.is_placed })
    | inr p ↦ record { fault = x; among = subst (Contains (take (k + 1) faults)) (sym is) (next_taken faults k d lt); is_placed = p }
  ],
  λ h. (adds f).1 (elim (taken_or_next faults k d h.fault lt h.among) [
    | inl c ↦ inl ((before f).1 (record { fault = h.fault; among = c; is_placed = h.is_placed }))
    | inr e ↦ inr (subst (λ z. IsPlacedFault files z f) (sym (is ∙ e)) h.is_placed)
  ]),
)
