-- URIs and the paths that they name.
use Rattle.std.proofs.Common.{◌≡◌, ◌∙◌, inl, inr, ℕ, true, false, List, ◌∷◌, ◌++◌, None, Some, drop, refl, sym, ap, subst}
use Rattle.std.specs.Prelude.{codes}
use Rattle.std.specs.Str.Pattern.{FindsTextPrefix}
use Rattle.percent_encoding.specs.AsciiSet.{contains, should_percent_encode}
use Rattle.percent_encoding.specs.Percent.{percent_encode}
use Rattle.percent_encoding.proofs.PercentLemmas.{percent_encode_kept, round_trip}
use Rattle.std.proofs.lemmas.List.{append_cancel_left}
use Rattle.lsp_documents.specs.Laws.{UrisNamePaths}
use Rattle.lsp_documents.specs.Uris.{BeginsWithSlash, HasNoRest, IsRestBehind, IsFileUri, IsWithoutHost}
use Rattle.lsp_documents.specs.declared.uris.TheConstants.{ESCAPED}

escapes_percent : contains ESCAPED 37 ≡ true
escapes_percent = refl

keeps_slash : should_percent_encode ESCAPED 47 ≡ false
unfolding should_percent_encode
keeps_slash = refl

pub uris_named : UrisNamePaths
uris_named more bytes = (
  percent_encode ESCAPED (47 ∷ more),
  (inl refl, (percent_encode ESCAPED more, percent_encode_kept ESCAPED 47 more keeps_slash)),
  sym (round_trip ESCAPED (47 ∷ more) escapes_percent bytes),
)

pub nothing_behind : (front text : List ℕ) → FindsTextPrefix front text None → IsRestBehind front text None
nothing_behind front text h = λ rest e. h rest e

pub cut_behind : (front text rest : List ℕ) (n : ℕ) → FindsTextPrefix front text (Some n) → rest ≡ drop n text → IsRestBehind front text (Some rest)
cut_behind front text rest n h e = h.1 ∙ ap (λ l. front ++ l) (sym e)

-- a URI without the scheme is none of a file
pub no_scheme : (uri : List ℕ) → IsRestBehind (codes "file://") uri None → HasNoRest uri
no_scheme uri h rest k = elim k.0 [ inl e ↦ h rest e | inr e ↦ h (codes "localhost" ++ rest) e ]

same_rest : (rest other : List ℕ) → codes "file://" ++ rest ≡ codes "file://" ++ other → rest ≡ other
same_rest rest other e = append_cancel_left (codes "file://") rest other e

host_no_slash : (more rest : List ℕ) → codes "localhost" ++ rest ≡ 47 ∷ more → ⊥
host_no_slash more rest e = cc

module _ (uri rest path : List ℕ) (scheme : IsRestBehind (codes "file://") uri (Some rest)) (bare : IsWithoutHost rest path) where
  pub is_file : BeginsWithSlash path → IsFileUri uri path
  is_file slash = (
    elim bare [
      | inl host ↦ inr (scheme ∙ ap (λ l. codes "file://" ++ l) host)
      | inr none ↦ inl (scheme ∙ ap (λ l. codes "file://" ++ l) (sym none.1))
    ],
    slash,
  )

  pub no_file : (BeginsWithSlash path → ⊥) → HasNoRest uri
  no_file never other k = elim k.0 [
    | inl e ↦
        let same : rest ≡ other = same_rest rest other (sym scheme ∙ e) in
        elim bare [
          | inl host ↦ host_no_slash k.1.0 path (sym host ∙ same ∙ k.1.1)
          | inr none ↦ never (subst BeginsWithSlash (sym (none.1 ∙ same)) k.1)
        ]
    | inr e ↦
        let same : rest ≡ codes "localhost" ++ other = same_rest rest (codes "localhost" ++ other) (sym scheme ∙ e) in
        elim bare [
          | inl host ↦
              let equal : path ≡ other = append_cancel_left (codes "localhost") path other (sym host ∙ same) in
              never (subst BeginsWithSlash (sym equal) k.1)
          | inr none ↦ none.0 other same
        ]
  ]
