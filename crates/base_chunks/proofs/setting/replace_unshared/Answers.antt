-- The chunk with another value stands in place of the chunk.
use Rattle.std.proofs.Common.{◌≡◌, ◌<◌, [], length, get_or, set, refl, ap, sym, ◌∙◌, subst, arith, length-set}
use Rattle.std.specs.FinMap.{put}
use Rattle.std.proofs.lemmas.List.{get_or_read_under}
use Rattle.std.proofs.lemmas.Result.{on_ok_weaker}
use Rattle.base_chunks.proofs.Joining.{replaces_set, set_as_long}
use Rattle.base_chunks.proofs.setting.replace_unshared.Goals as goal

pub returns-in-Some-clause-ok : goal.returns-in-Some-clause-ok
returns-in-Some-clause-ok g c =
    let cs = c.args.chunks.now.items in
    let i = c.args.at in
    let e : g.row.K.Denot × g.row.V.Denot = (c.args.key, c.args.value) in
    let m = c.in-Some.place in
    let within : i < length cs = omega (arith, c.args.chunks.now.ok.0) in
    let part : c.items.result.now ≡ get_or cs i [] = c.items.ensures ∙ get_or_read_under cs i _ _ [] c.index.ensures within refl in
    let there : c.index_mut.result.now ≡ get_or cs i [] = get_or_read_under cs i _ _ [] c.index_mut.ensures.value within refl in
    let es = c.index_mut.result.now in
    let made : put g.K.Ord.cmp c.args.key c.args.value (get_or cs i []) ≡ set es m ((get_or es m e).0, c.args.value) =
    ap (put g.K.Ord.cmp c.args.key c.args.value) (sym part) ∙ c.in-Some.ensures.put c.args.value e
    ∙ ap (λ xs. set xs m ((get_or xs m e).0, c.args.value)) (part ∙ sym there) in
    let some : m < length es = subst (λ xs. m < length xs) (part ∙ sym there) c.in-Some.ensures.within in
    let size = ap length made ∙ length-set es m ((get_or es m e).0, c.args.value) in
    on_ok_weaker c.replace_value.result
    (λ new. replaces_set cs i c.replace_value.new.chunk (put g.K.Ord.cmp c.args.key c.args.value (get_or cs i [])) within (omega (arith, some, size))
    (new e ∙ sym made))
    c.replace_value.ensures.ok

pub returns-in-Some-clause-count : goal.returns-in-Some-clause-count
returns-in-Some-clause-count g c =
    let cs = c.args.chunks.now.items in
    let i = c.args.at in
    let e : g.row.K.Denot × g.row.V.Denot = (c.args.key, c.args.value) in
    let m = c.in-Some.place in
    let within : i < length cs = omega (arith, c.args.chunks.now.ok.0) in
    let part : c.items.result.now ≡ get_or cs i [] = c.items.ensures ∙ get_or_read_under cs i _ _ [] c.index.ensures within refl in
    let there : c.index_mut.result.now ≡ get_or cs i [] = get_or_read_under cs i _ _ [] c.index_mut.ensures.value within refl in
    let es = c.index_mut.result.now in
    let some : m < length es = subst (λ xs. m < length xs) (part ∙ sym there) c.in-Some.ensures.within in
    let size = length-set es m ((get_or es m e).0, c.args.value) in
    on_ok_weaker c.replace_value.result
    (λ new. let same = ap length (new e) in
    set_as_long cs i c.replace_value.new.chunk within (omega (arith, some, size, same)) (same ∙ size ∙ ap length there))
    c.replace_value.ensures.ok
