-- The entry stands at the path's place, under the path that was there if there was one.
use Rattle.std.proofs.Common.{◌≡◌, ◌<◌, ◌∷◌, ◌++◌, suc, true, false, length, drop, take, sym, ap, subst, ◌∙◌}
use Rattle.base_files.specs.Workspace.{path_cmp}
use Rattle.base_chunks.specs.Entries.{IsAfterAll, is_after, is_at}
use Rattle.base_chunks.proofs.Standing.{put_there, put_gap}
use Rattle.base_files.proofs.Standing.{set_parts}
use Rattle.base_files.proofs.entries.put.Goals as goal

pub returns-then-is_at-clause-ok : goal.returns-then-is_at-clause-ok
returns-then-is_at-clause-ok g c =
    let es = c.args.entries.now.items in
    let m = c.place_from_end-at.result in
    let d = c.index_mut.result.now in
    let within : m < length es = subst (λ xs. m < length xs) c.deref-2.ensures.value (c.is_at.ensures.within c.if-is_at.true) in
    let front : IsAfterAll path_cmp c.args.path (take m es) = subst (λ p. IsAfterAll path_cmp p (take m es)) c.path-2.ensures
    (subst (λ xs. IsAfterAll path_cmp c.path-2.result.now (take m xs)) c.deref.ensures.value c.place_from_end-at.ensures.front) in
    let here : is_at path_cmp c.args.path (drop m es) ≡ true =
    ap (λ p. is_at path_cmp p (drop m es)) (sym c.path-3.ensures)
    ∙ ap (λ xs. is_at path_cmp c.path-3.result.now (drop m xs)) (sym c.deref-2.ensures.value)
    ∙ sym c.is_at.ensures.there ∙ c.if-is_at.true in
    set_parts es m (d.0, c.args.value) within
    ∙ ap (λ k. take m es ++ (k, c.args.value) ∷ drop (suc m) es) (ap (λ e. e.0) c.index_mut.ensures.value)
    ∙ sym (put_there path_cmp c.args.path c.args.value es m d front here)

pub returns-in_ok-insert-clause-ok : goal.returns-in_ok-insert-clause-ok
returns-in_ok-insert-clause-ok g c =
    let es = c.args.entries.now.items in
    let m = c.place_from_end-at.result in
    let front : IsAfterAll path_cmp c.args.path (take m es) = subst (λ p. IsAfterAll path_cmp p (take m es)) c.path-2.ensures
    (subst (λ xs. IsAfterAll path_cmp c.path-2.result.now (take m xs)) c.deref.ensures.value c.place_from_end-at.ensures.front) in
    let back : is_after path_cmp c.args.path (drop m es) ≡ false =
    ap (λ p. is_after path_cmp p (drop m es)) (sym c.path-2.ensures)
    ∙ ap (λ xs. is_after path_cmp c.path-2.result.now (drop m xs)) (sym c.deref.ensures.value)
    ∙ c.place_from_end-at.ensures.back in
    let none : is_at path_cmp c.args.path (drop m es) ≡ false =
    ap (λ p. is_at path_cmp p (drop m es)) (sym c.path-3.ensures)
    ∙ ap (λ xs. is_at path_cmp c.path-3.result.now (drop m xs)) (sym c.deref-2.ensures.value)
    ∙ sym c.is_at.ensures.there ∙ c.if-is_at.false in
    c.in_ok-insert.ensures.items ∙ sym (put_gap path_cmp c.args.path c.args.value es m front back none)
