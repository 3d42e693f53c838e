-- General comments.
use Rattle.std.proofs.Common.{◌≡◌, ℕ, ◌+◌, ◌-◌, ◌≤◌, List, Some, None, sym, ap, ◌∙◌, subst, drop, take, length, get_or, arith, length-take-le, length-drop}
use Rattle.std.proofs.Common.{get_or-take, get_or-drop}
use Rattle.bstr.specs.Find.{OccursAt, FindsNeedle}
use Rattle.go_scanner.specs.Pieces.{IsLongest}
use Rattle.go_scanner.specs.Trivia.{comment_opening, comment_closing, IsGeneralComment, IsOpenComment}

pub occurs_take : (bs w : List ℕ) (k m : ℕ) → OccursAt bs w k → k + length w ≤ m → m ≤ length bs → OccursAt (take m bs) w k
occurs_take bs w k m at in_front fits = record {
  fits = omega (arith, length-take-le m bs fits);
  reads = λ j lt. get_or-take m bs (k + j) 0 (omega arith) ∙ at.reads j lt;
}

pub occurs_untake : (bs w : List ℕ) (k m : ℕ) → OccursAt (take m bs) w k → m ≤ length bs → OccursAt bs w k
occurs_untake bs w k m at fits = record {
  fits = omega (arith, at.fits, length-take-le m bs fits);
  reads = λ j lt. sym (get_or-take m bs (k + j) 0 (omega (arith, at.fits, length-take-le m bs fits))) ∙ at.reads j lt;
}

occurs_behind : (bs w : List ℕ) (k : ℕ) → OccursAt (drop 2 bs) w k → 2 ≤ length bs → OccursAt bs w (k + 2)
occurs_behind bs w k at some = record {
  fits = omega (arith, at.fits, length-drop 2 bs);
  reads = λ j lt. let same : k + 2 + j ≡ 2 + (k + j) = omega arith in ap (λ i. get_or bs i 0) same ∙ sym (get_or-drop 2 bs (k + j) 0) ∙ at.reads j lt;
}

occurs_ahead : (bs w : List ℕ) (k : ℕ) → OccursAt bs w k → 2 ≤ k → 2 ≤ length bs → OccursAt (drop 2 bs) w (k - 2)
occurs_ahead bs w k at low some = record {
  fits = omega (arith, at.fits, length-drop 2 bs);
  reads = λ j lt. let same : 2 + (k - 2 + j) ≡ k + j = omega arith in get_or-drop 2 bs (k - 2 + j) 0 ∙ ap (λ i. get_or bs i 0) same ∙ at.reads j lt;
}

pub comment_unclosed : (bs hay : List ℕ) → hay ≡ drop 2 bs → OccursAt bs comment_opening 0 → FindsNeedle hay comment_closing 0 None → IsOpenComment bs
comment_unclosed bs hay same opens none =
    let none' = subst (λ h. FindsNeedle h comment_closing 0 None) same none in
    record {
      opens = opens;
      unclosed = λ k low high at.
          none' (k - 2) (omega arith) (omega (arith, at.fits, opens.fits, length-drop 2 bs))
          (occurs_ahead bs comment_closing k at low (omega (arith, opens.fits)));
    }

pub comment_closed : (bs hay : List ℕ) (n : ℕ) → hay ≡ drop 2 bs → OccursAt bs comment_opening 0 → FindsNeedle hay comment_closing 0 (Some n) →
    IsLongest IsGeneralComment bs (n + 4)
comment_closed bs hay n same opens found' =
    let found = subst (λ h. FindsNeedle h comment_closing 0 (Some n)) same found' in
    let some : 2 ≤ length bs = omega (arith, opens.fits) in
    let fits : n + 4 ≤ length bs = omega (arith, found.1.fits, length-drop 2 bs) in
    let at = occurs_behind bs comment_closing n found.1 some in
    let long = length-take-le (n + 4) bs fits in
    record {
      fits = fits;
      some = omega arith;
      piece = record {
        opens = occurs_take bs comment_opening 0 (n + 4) opens (omega arith) fits;
        body = n + 2;
        closes = (
          record {
            low = omega arith;
            high = omega (arith, long);
            before = λ k low high here. found.0.before (k - 2) (omega arith) (omega arith)
                (occurs_ahead bs comment_closing k (occurs_untake bs comment_closing k (n + 4) here fits) low some);
          },
          occurs_take bs comment_closing (n + 2) (n + 4) at (omega arith) fits,
        );
        ends = omega (arith, long);
      };
      longest = λ m more m_fits comment. comment.closes.0.before (n + 2) (omega arith) (omega (arith, comment.ends, length-take-le m bs m_fits))
          (occurs_take bs comment_closing (n + 2) m at (omega arith) m_fits);
    }
