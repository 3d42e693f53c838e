-- The conflicts by the old names are those that the new names show.
use Rattle.std.proofs.Common.{ℕ, ◌≡◌, ◌<◌, ◌⊎◌, inl, inr, List, refl, sym, ◌∙◌, subst, arith, zero, suc}
use Rattle.go_scope.specs.Table.{Precedes}
use Rattle.go_scope.specs.Bindings.{Layout, Names, MayDeclare, IsLeftName, SameBlock, InScope, Declares, Counts, AllCount, BindsAt, IsUse, IsBoundTo}
use Rattle.go_scope.specs.Bindings.{use_bound, own}
use Rattle.go_scope.proofs.Nesting.{Nested}
use Rattle.go_scope.proofs.Innermost.{IsFirstAt, same_not_pair, nests_along_left, precedes_trans, ordered, one_in_block, first_of_bound, bound_of_first}
use Rattle.go_scope.proofs.Uniqueness.{same_or_not, use_not_may}
use Rattle.law_rename.specs.Renaming.{IsRenaming, IsLost, IsCaptured, to_renamed, to_other, WouldCapture, new_name, own_use, assigned}
use Rattle.law_rename.specs.Renaming.{WouldLose, repeats, own_repeats}
use Rattle.law_rename.proofs.AfterRename.{after_d, after_bound, after_other, declared_before, before_name, declares_other, declares_d, counts_other}
use Rattle.law_rename.proofs.AfterRename.{counts_d, keeps_use, takes_use, loses_use, keeps_own_use}

module _ (l : Layout) (nested : Nested l) where
  pub binds_named : (names : Names) (m n : List ℕ) (u d : ℕ) → m ≡ n → BindsAt l names m u d → BindsAt l names n u d
  binds_named names m n u d e b = let P : List ℕ → Type 0 = λ k. BindsAt l names k u d in subst P e b

  pub own_is_no_use : (names : Names) (x : ℕ) → Declares l names x → IsUse l names x → ⊥
  own_is_no_use names x dx (inl i) = use_not_may (l.role x) i dx.may
  own_is_no_use names x dx (inr i) = i.1 dx

  -- a declaration of the name that holds u
  abbrev pub Candidate : Names → List ℕ → ℕ → ℕ → Type 0
  Candidate names y u m = Declares l names m × (names m ≡ y) × InScope l m u

  -- one of several that is such can be improved to the first of them, where what precedes it is such too
  some_first_below : (names : Names) (y : List ℕ) (u : ℕ) (Q : ℕ → Type 0) →
      ((k m : ℕ) → Candidate names y u k → Candidate names y u m → Precedes l k m → Q m → Q k) → (k : ℕ) →
      ((m : ℕ) → Candidate names y u m → ((z : ℕ) → z < k → Candidate names y u z → (z ≡ m) ⊎ Precedes l m z) → Q m → ⊥) →
      (m : ℕ) → Candidate names y u m → Q m → ⊥
  some_first_below names y u Q down zero f m p q = f m p (λ z lt pz. absurd (omega arith)) q
  some_first_below names y u Q down (suc k) f m0 p0 q0 =
      some_first_below names y u Q down k (λ m p h q.
      let to_k : (n : ℕ) → Candidate names y u n → ((z : ℕ) → z < k → Candidate names y u z → (z ≡ n) ⊎ Precedes l n z) →
      (Candidate names y u k → (k ≡ n) ⊎ Precedes l n k) → (z : ℕ) → z < suc k → Candidate names y u z → (z ≡ n) ⊎ Precedes l n z =
      (λ n pn hn hk z lt pz. elim (same_or_not z k) [
        | inl e ↦ (let P : ℕ → Type 0 = λ v. (v ≡ n) ⊎ Precedes l n v in let C : ℕ → Type 0 = λ v. Candidate names y u v in subst P (sym e) (hk (subst C e pz)))
        | inr ne ↦ hn z (omega arith) pz
      ]) in
      let not_k : Candidate names y u k → ⊥ = (λ pk. elim (ordered l nested m k u p.0.may pk.0.may p.2 pk.2) [
        | inl e ↦ f m p (to_k m p h (λ c. inl (sym e))) q
        | inr o ↦ elim o [
          | inl a ↦ f m p (to_k m p h (λ c. inr a)) q
          | inr b ↦ f k pk (to_k k pk
              (λ z lt pz. elim (h z lt pz) [
                | inl e ↦ inr (let P : ℕ → Type 0 = λ v. Precedes l k v in subst P (sym e) b)
                | inr a ↦ inr (precedes_trans l nested k m z u pk.0.may p.0.may pz.0.may pk.2 p.2 pz.2 b a)
              ])
              (λ c. inl refl))
              (down k m pk p b q)
        ]
      ]) in
      f m p (to_k m p h (λ c. absurd (not_k c))) q) m0 p0 q0

  pub some_first : (names : Names) (y : List ℕ) (u : ℕ) (Q : ℕ → Type 0) →
      ((k m : ℕ) → Candidate names y u k → Candidate names y u m → Precedes l k m → Q m → Q k) →
      ((m : ℕ) → IsFirstAt l names y u m → Q m → ⊥) → (m : ℕ) → Candidate names y u m → Q m → ⊥
  some_first names y u Q down f = some_first_below names y u Q down nested.size (λ m p h q. f m
      (record { declares = p.0; named = p.1; in_scope = p.2; precedes = λ w dw nw hw. h w (nested.finite w dw.may) (dw, nw, hw) }) q)

  -- the first of those that precede d
  pub some_first_before : (names : Names) (y : List ℕ) (u d : ℕ) → MayDeclare l d → InScope l d u →
      ((m : ℕ) → IsFirstAt l names y u m → Precedes l m d → ⊥) → (m : ℕ) → Candidate names y u m → Precedes l m d → ⊥
  some_first_before names y u d md hd f = some_first names y u (λ m. Precedes l m d)
      (λ k m pk pm b q. precedes_trans l nested k m d u pk.0.may pm.0.may md pk.2 pm.2 hd b q) f

  -- where a name is bound to none, no declaration of it holds u
  pub none_holds : (names : Names) (y : List ℕ) (u : ℕ) → ((m : ℕ) → BindsAt l names y u m → ⊥) → (m : ℕ) → Candidate names y u m → ⊥
  none_holds names y u none m c = some_first names y u (λ k. Unit {0}) (λ k n pk pn b q. tt) (λ k f q. none k (bound_of_first l nested names y u k f)) m c tt

module _ (l : Layout) (nested : Nested l) (before after : Names) (d : ℕ) (y : List ℕ)
    (all : AllCount l before) (dec : Declares l before d) (fresh : before d ≡ y → ⊥) (ren : IsRenaming l before d y after) where
  pub other_than_d : (e : ℕ) → before e ≡ y → e ≡ d → ⊥
  other_than_d e ny p = fresh (let P : ℕ → Type 0 = λ k. before k ≡ y in subst P p ny)

  pub use_after : (u : ℕ) → IsUse l before u → IsUse l after u
  use_after u (inl i) = inl i
  use_after u (inr i) = inr (i.0, λ du. i.1 (declared_before l nested before after d y all dec ren u du))

  pub is_d_after : after d ≡ y
  is_d_after = after_d l nested before after d y all dec ren

  pub y_after : (e : ℕ) → Declares l before e → before e ≡ y → after e ≡ y
  y_after e de ny = after_other l nested before after d y all dec ren e de (other_than_d e ny) ∙ ny

  -- of a declaration after the rename: it is d, or had the new name before
  pub y_before : (z : ℕ) → Declares l after z → after z ≡ y → (z ≡ d → ⊥) → before z ≡ y
  y_before z dz nz apart = before_name l nested before after d y all dec ren z dz apart ∙ nz

  pub old_declares : (x : ℕ) → Declares l after x → Declares l before x
  old_declares x dx = declared_before l nested before after d y all dec ren x dx

  pub bound_by : (u c : ℕ) (name : List ℕ) → IsUse l after u → after u ≡ name → IsFirstAt l after name u c → IsBoundTo l after u c
  bound_by u c name i e f = use_bound i (binds_named l nested after name (after u) u c (sym e) (bound_of_first l nested after name u c f))

  pub assigned_first : (e : ℕ) → Declares l before e → before e ≡ y → IsLeftName l e → SameBlock l d e → InScope l d e → IsFirstAt l after y e d
  assigned_first e de ny left s he = record {
    declares = declares_d l nested before after d y all dec ren (λ z dz nz left_d sz hz.
        let same : z ≡ e = one_in_block l nested before z e (all z dz) (all e de) (nz ∙ sym ny) (sz ∙ s) in
        let one : z < d = nested.earlier z d dz.may left_d sz hz in
        let two : d < e = nested.earlier d e dec.may left s he in
        omega arith);
    named = is_d_after;
    in_scope = he;
    precedes = λ z dz nz hz. elim (same_or_not z d) [
      | inl p ↦ inl p
      | inr apart ↦ elim (nested.direct e z left dz.may hz) [
        | inl sz ↦
            let same : z ≡ e = one_in_block l nested before z e (all z (old_declares z dz)) (all e de) (y_before z dz nz apart ∙ sym ny) sz in
            let less : z < e = nested.earlier z e dz.may left sz hz in
            absurd (omega arith)
        | inr n ↦ inr (inr (nests_along_left l d e z s n))
      ]
    ];
  }

  pub own_assigned_first : (e : ℕ) → Declares l before e → before e ≡ y → IsLeftName l d → SameBlock l e d → InScope l e d → IsFirstAt l after y d e
  own_assigned_first e de ny left s he = record {
    declares = declares_other l nested before after d y all dec ren e de (other_than_d e ny) (λ same_y left_e se hd.
        let one : e < d = nested.earlier e d de.may left s he in
        let two : d < e = nested.earlier d e dec.may left_e se hd in
        omega arith);
    named = y_after e de ny;
    in_scope = he;
    precedes = λ z dz nz hz. elim (same_or_not z d) [
      | inl p ↦
          let less : z < d = nested.earlier z d dz.may left (let P : ℕ → Type 0 = λ k. SameBlock l k d in subst P (sym p) refl) hz in
          absurd (omega arith)
      | inr apart ↦ elim (nested.direct d z left dz.may hz) [
        | inl sz ↦ inl (one_in_block l nested before z e (all z (old_declares z dz)) (all e de) (y_before z dz nz apart ∙ sym ny) (sz ∙ sym s))
        | inr n ↦ inr (inr (nests_along_left l e d z s n))
      ]
    ];
  }

  -- what the old names say is captured is captured
  pub captures : (u c : ℕ) → WouldCapture l before d y u c → IsCaptured l before after u c
  captures u c (new_name {e = e} i ny b hd q) =
      let apart : e ≡ d → ⊥ = other_than_d e b.named in
      let was : IsBoundTo l before u e = use_bound i (binds_named l nested before y (before u) u e (sym ny) b) in
      let first : IsFirstAt l before y u e = first_of_bound l nested before all y u e b in
      record {
        old = e;
        was = was;
        other = λ p. apart (sym p);
        now_bound = bound_by u d y (use_after u i) (after_bound l nested before after d y all dec ren u e was apart ∙ ny)
            (takes_use l nested before after d y all dec ren u e first hd q);
      }
  captures u c (own_use {e = e} i b be q) =
      let apart : e ≡ d → ⊥ = other_than_d e be.named in
      let was : IsBoundTo l before u d = use_bound i b in
      let first : IsFirstAt l before y u e = first_of_bound l nested before all y u e be in
      record {
        old = d;
        was = was;
        other = apart;
        now_bound = bound_by u e y (use_after u i) (ren.renamed u was) (loses_use l nested before after d y all dec ren u e first b.in_scope q);
      }
  captures u c (assigned (to_renamed de ny left s he)) = record {
    old = u;
    was = own refl (all u de);
    other = λ p. other_than_d u ny (sym p);
    now_bound = bound_by u d y (inr (left, λ du. du.is_new left d dec.may s (is_d_after ∙ sym (y_after u de ny)) he)) (y_after u de ny)
        (assigned_first u de ny left s he);
  }
  captures u c (assigned (to_other de ny left s he)) = record {
    old = d;
    was = own refl (all d dec);
    other = other_than_d c ny;
    now_bound = bound_by d c y (inr (left, λ dd. dd.is_new left c de.may s (y_after c de ny ∙ sym is_d_after) he)) is_d_after
        (own_assigned_first c de ny left s he);
  }

  -- what the old names say is lost is lost
  pub loses : (u : ℕ) → WouldLose l before d y u → IsLost l before after u
  loses u (repeats de ny disp still) =
      let declares_u : Declares l after u = declares_other l nested before after d y all dec ren u de (other_than_d u ny) (λ same_y left s he. still left he) in
      let declares_d' : Declares l after d = declares_d l nested before after d y all dec ren (λ z dz nz left s hz. elim disp [
        | inl p ↦
            let same : z ≡ u = one_in_block l nested before z u (all z dz) (all u de) (nz ∙ sym ny) (s ∙ p.0) in
            let less : z < d = nested.earlier z d dz.may left s hz in
            let more : d < u = p.1 in
            omega arith
        | inr p ↦ (all u de).first z dz (nz ∙ sym ny) (inr (s ∙ p.0, p.1))
      ]) in
      record {
        old = u;
        was = own refl (all u de);
        bound_to_none = λ c b. elim b [
          | use_bound i x ↦ own_is_no_use l nested after u declares_u i
          | own p k ↦ (let P : ℕ → Type 0 = λ v. Counts l after v in subst P (sym p) k).first d declares_d' (is_d_after ∙ sym (y_after u de ny)) disp
        ];
      }
  loses u (own_repeats {e = e} de ny disp still) =
      let declares_e : Declares l after e = declares_other l nested before after d y all dec ren e de (other_than_d e ny) (λ same_y left s hd. elim disp [
        | inl p ↦
            let less : d < e = nested.earlier d e dec.may left s hd in
            let more : e < d = p.1 in
            omega arith
        | inr p ↦ same_not_pair l e d (sym s) p.0 p.1
      ]) in
      let declares_d' : Declares l after d = declares_d l nested before after d y all dec ren (λ z dz nz left s hz. elim disp [
        | inl p ↦ still left (let P : ℕ → Type 0 = λ v. InScope l v d in
            subst P (one_in_block l nested before z e (all z dz) (all e de) (nz ∙ sym ny) (s ∙ sym p.0)) hz)
        | inr p ↦ nested.left_inner d left p.1
      ]) in
      record {
        old = d;
        was = own refl (all d dec);
        bound_to_none = λ c b. elim b [
          | use_bound i x ↦ own_is_no_use l nested after d declares_d' i
          | own p k ↦ (let P : ℕ → Type 0 = λ v. Counts l after v in subst P (sym p) k).first e declares_e (y_after e de ny ∙ sym is_d_after) disp
        ];
      }

  -- what the old names say is neither captured nor lost stays bound
  pub keeps : (u e : ℕ) → IsBoundTo l before u e → ((c : ℕ) → WouldCapture l before d y u c → ⊥) → (WouldLose l before d y u → ⊥) → IsBoundTo l after u e
  keeps u e (use_bound i b) free safe = elim (same_or_not e d) [
    | inl p ↦
        let bd : BindsAt l before (before u) u d = (let P : ℕ → Type 0 = λ v. BindsAt l before (before u) u v in subst P p b) in
        let none : (z : ℕ) → Declares l before z → before z ≡ y → InScope l z u → Precedes l z d → ⊥ = (λ z dz nz hz q.
        some_first_before l nested before y u d dec.may bd.in_scope
        (λ m fm qm. free m (own_use i bd (bound_of_first l nested before y u m fm) qm))
        z (dz, nz, hz) q) in
        let now : IsBoundTo l after u d = bound_by u d y (use_after u i) (ren.renamed u (use_bound i bd))
        (keeps_own_use l nested before after d y all dec ren u bd.in_scope none) in
        let P : ℕ → Type 0 = λ v. IsBoundTo l after u v in subst P (sym p) now
    | inr apart ↦
        let first : IsFirstAt l before (before u) u e = first_of_bound l nested before all (before u) u e b in
        bound_by u e (before u) (use_after u i) (after_bound l nested before after d y all dec ren u e (use_bound i b) apart)
        (keeps_use l nested before after d y all dec ren u e first apart (λ ny hd q.
        free d (new_name i ny (binds_named l nested before (before u) y u e ny b) hd q)))
  ]
  keeps u e (own p c) free safe = elim (same_or_not u d) [
    | inl q ↦ own p (let P : ℕ → Type 0 = λ v. Counts l after v in subst P (sym q ∙ p)
        (counts_d l nested before after d y all dec ren (λ z dz nz disp.
        let Q : ℕ → Type 0 = λ v. WouldLose l before d y v in
        safe (subst Q (sym q) (own_repeats dz nz disp (λ left hz. elim disp [
          | inl s ↦ (let R : ℕ → Type 0 = λ v. WouldCapture l before d y v z in free z (subst R (sym q) (assigned (to_other dz nz left s.0 hz))))
          | inr s ↦ nested.left_inner d left s.1
        ]))))))
    | inr apart ↦
        let du : Declares l before u = (let P : ℕ → Type 0 = λ v. Declares l before v in subst P (sym p) c.declares) in
        own p (let P : ℕ → Type 0 = λ v. Counts l after v in subst P p
        (counts_other l nested before after d y all dec ren u du apart (λ ny disp.
        safe (repeats du ny disp (λ left hu. elim disp [
          | inl s ↦ free d (assigned (to_renamed du ny left s.0 hu))
          | inr s ↦ nested.left_inner u left s.1
        ])))))
  ]
