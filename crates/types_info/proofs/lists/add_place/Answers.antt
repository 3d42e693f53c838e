-- The answers to the goals of `lists::add_place`.
use Rattle.std.proofs.Common.{length, refl, arith}
use Rattle.std.proofs.lemmas.List.{length-set}
use Rattle.std.proofs.lemmas.Option.{slice_get_read}
use Rattle.types_declared.proofs.Mentioning.{get_set_same, get_set_other}
use Rattle.types_info.specs.declared.lists.Qualified.{Qualified}
use Rattle.types_info.proofs.lists.add_place.Goals as goal

pub returns : goal.returns
returns c =
    let old = c.args.all.now.items in
    let before : Qualified = c.index_mut.result.now in
    let after : Qualified = record { path = before.path; places = c.push.new.self } in
    record {
      before = before;
      after = after;
      was = slice_get_read old (length old) c.args.number before refl (omega (arith, c.requires)) c.index_mut.ensures.value;
      is = get_set_same old c.args.number after c.requires;
      same_path = refl;
      places = c.in_ok-push.ensures.items;
      size = length-set old c.args.number after;
      elsewhere = λ k apart. get_set_other old c.args.number k after apart;
    }
