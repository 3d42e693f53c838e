-- The files of a package: those that have trees, and the others.
use Rattle.std.proofs.Common.{◌≡◌, ℕ, ◌↔◌, ◌⊎◌, List, ◌∷◌, map as mapped, sym, subst, ◌∙◌, inl, inr}
use Rattle.std.specs.List.{Contains}
use Rattle.base_lemmas.proofs.Elements.{nothing_in, first_in, later_in, first_or_later}
use Rattle.go_ast.specs.SourceFile.{FileParts}
use Rattle.workspace_graph.specs.FaultyFiles.{FaultyParts}
use Rattle.workspace_graph.specs.Parsed.{AreParsed, none, tree, fault}
use Rattle.workspace_check.specs.Earlier.{tree_file}
use Rattle.build_carry.specs.Inputs.{faulty_file}

pub parsed_files : {es : List (List ℕ × List ℕ)} {ts : List FileParts} {fs : List FaultyParts} → AreParsed es ts fs → (e : List ℕ × List ℕ) →
    Contains es e ↔ (Contains (mapped tree_file ts) e ⊎ Contains (mapped faulty_file fs) e)
parsed_files none e = (λ c. absurd (nothing_in e c), λ h. elim h [ inl c ↦ absurd (nothing_in e c) | inr c ↦ absurd (nothing_in e c) ])
parsed_files (tree {e = d} {es = es} {t = t} {ts = ts} {fs = fs} is rest) e =
    let own : d ≡ tree_file t = (λ i. (sym is.of_path i, sym is.of_text i)) in
    let r = parsed_files rest e in (
      λ c. elim (first_or_later d es e c) [
        | inl same ↦ inl (subst (Contains (mapped tree_file (t ∷ ts))) (sym own ∙ same) (first_in (tree_file t) (mapped tree_file ts)))
        | inr later ↦ elim (r.0 later) [ inl a ↦ inl (later_in (tree_file t) (mapped tree_file ts) e a) | inr b ↦ inr b ]
      ],
      λ h. elim h [
        | inl a ↦ elim (first_or_later (tree_file t) (mapped tree_file ts) e a) [
          | inl same ↦ subst (Contains (d ∷ es)) (own ∙ same) (first_in d es)
          | inr later ↦ later_in d es e (r.1 (inl later))
        ]
        | inr b ↦ later_in d es e (r.1 (inr b))
      ],
    )
parsed_files (fault {e = d} {es = es} {ts = ts} {f = f} {fs = fs} is rest) e =
    let own : d ≡ faulty_file f = (λ i. (sym is.of_path i, sym is.of_text i)) in
    let r = parsed_files rest e in (
      λ c. elim (first_or_later d es e c) [
        | inl same ↦ inr (subst (Contains (mapped faulty_file (f ∷ fs))) (sym own ∙ same) (first_in (faulty_file f) (mapped faulty_file fs)))
        | inr later ↦ elim (r.0 later) [ inl a ↦ inl a | inr b ↦ inr (later_in (faulty_file f) (mapped faulty_file fs) e b) ]
      ],
      λ h. elim h [
        | inl a ↦ later_in d es e (r.1 (inl a))
        | inr b ↦ elim (first_or_later (faulty_file f) (mapped faulty_file fs) e b) [
          | inl same ↦ subst (Contains (d ∷ es)) (own ∙ same) (first_in d es)
          | inr later ↦ later_in d es e (r.1 (inr later))
        ]
      ],
    )
