-- The chunk with one entry more stands in place of the chunk.
use Rattle.std.proofs.Common.{◌≡◌, ◌+◌, ◌<◌, ◌≤◌, [], length, get_or, refl, ap, sym, ◌∙◌, subst, arith}
use Rattle.std.specs.List.{insert}
use Rattle.std.specs.FinMap.{put}
use Rattle.std.proofs.lemmas.List.{get_or_read_under}
use Rattle.std.proofs.lemmas.List.Edits.{length-insert}
use Rattle.std.proofs.lemmas.Result.{on_ok_weaker}
use Rattle.base_chunks.proofs.Joining.{replaces_set, set_longer}
use Rattle.base_chunks.proofs.setting.set_unshared.Goals as goal

pub returns-in-Some-clause-ok : goal.returns-in-Some-clause-ok
returns-in-Some-clause-ok g c =
    let cs = c.args.chunks.now.items in
    let i = c.args.at in
    let e : g.row.K.Denot × g.row.V.Denot = (c.args.key, c.args.value) in
    let m = c.in-Some.place in
    let within : i < length cs = omega (arith, c.args.chunks.now.ok.0) in
    let part : c.items.result.now ≡ get_or cs i [] = c.items.ensures ∙ get_or_read_under cs i _ _ [] c.index.ensures within refl in
    let there : c.index_mut.result.now ≡ get_or cs i [] = get_or_read_under cs i _ _ [] c.index_mut.ensures.value within refl in
    let made : put g.K.Ord.cmp c.args.key c.args.value (get_or cs i []) ≡ insert c.index_mut.result.now m e =
    ap (put g.K.Ord.cmp c.args.key c.args.value) (sym part) ∙ c.in-Some.ensures.put c.args.value ∙ ap (λ es. insert es m e) (part ∙ sym there) in
    let some = length-insert c.items.result.now m e c.in-Some.ensures.within in
    let longer = ap length (c.in-Some.ensures.put c.args.value) in
    on_ok_weaker c.insert_unshared.result
    (λ new. replaces_set cs i c.insert_unshared.new.self (put g.K.Ord.cmp c.args.key c.args.value (get_or cs i [])) within
    (subst (λ es. 0 < length (put g.K.Ord.cmp c.args.key c.args.value es)) part (omega (arith, some, longer))) (new ∙ sym made))
    c.insert_unshared.ensures.ok

pub returns-in-Some-clause-count : goal.returns-in-Some-clause-count
returns-in-Some-clause-count g c =
    let cs = c.args.chunks.now.items in
    let i = c.args.at in
    let e : g.row.K.Denot × g.row.V.Denot = (c.args.key, c.args.value) in
    let m = c.in-Some.place in
    let within : i < length cs = omega (arith, c.args.chunks.now.ok.0) in
    let part : c.items.result.now ≡ get_or cs i [] = c.items.ensures ∙ get_or_read_under cs i _ _ [] c.index.ensures within refl in
    let there : c.index_mut.result.now ≡ get_or cs i [] = get_or_read_under cs i _ _ [] c.index_mut.ensures.value within refl in
    let size = ap length part in
    let some = length-insert c.index_mut.result.now m e (subst (λ es. m ≤ length es) (part ∙ sym there) c.in-Some.ensures.within) in
    let longer : length (insert c.index_mut.result.now m e) ≡ length (get_or cs i []) + 1 = some ∙ ap (λ es. length es + 1) there in
    on_ok_weaker c.insert_unshared.result
    (λ new. set_longer cs i c.insert_unshared.new.self within (ap length new ∙ longer))
    c.insert_unshared.ensures.ok
