-- One package more, and all of them at the end.
use Rattle.std.proofs.Common.{◌≡◌, length, get_or, [], subst, arith}
use Rattle.std.specs.Prelude.{Some, slice_get}
use Rattle.std.proofs.lemmas.Option.{slice_get-get_or}
use Rattle.base_files.specs.Packages.{package_paths}
use Rattle.workspace_check.proofs.Telling.{known_same, known_still}
use Rattle.build_carry.specs.Learned.{LearnsFirst}
use Rattle.build_carry.proofs.TakenVerdicts.{learns_begin, learns_next, learns_still}
use Rattle.build_carry.proofs.learning.with_kept.Goals as goal

pub loop-number-init : goal.loop-number-init
loop-number-init c =
    let w = c.args.files.now in
    let known = c.in_ok-known.known in
    let same = c.in_ok-known.ensures.same in
    record {
      room = omega (arith, c.len.ensures, c.in_ok-known.ensures.size);
      learns = learns_begin w c.args.own.now c.args.from.now.judged.now c.args.from.now.found.now known
          (known_same w c.args.own.now known same c.requires.own) (λ n one has. (same n one).1 has);
    }

pub take_kept-requires : goal.take_kept-requires
take_kept-requires c = record {
  number = omega arith;
  room = c.loop-number.invariant.room;
  from = c.requires.from;
  known = c.loop-number.invariant.learns.right;
}

pub keep_earlier-requires : goal.keep_earlier-requires
keep_earlier-requires c = c.requires.from.right

pub loop-number-preserved : goal.loop-number-preserved
loop-number-preserved c =
    let w = c.args.files.now in
    let n = c.loop-number.number in
    let p = get_or (package_paths w) n [] in
    let at : slice_get (package_paths w) n ≡ Some p = slice_get-get_or (package_paths w) n [] (omega arith) in
    let e = c.in_ok-take_kept.ensures in
    record {
      room = e.room;
      learns = learns_next w c.args.own.now c.args.from.now.judged.now c.args.from.now.found.now n p c.loop-number.known c.take_kept.new.known at e.right e.kept
          (e.learned p at) c.loop-number.invariant.learns;
    }

pub returns : goal.returns
returns c =
    let w = c.args.files.now in
    let v = c.args.from.now.judged.now in
    let found = c.args.from.now.found.now in
    let known = c.loop-number.known in
    let end : c.loop-number.number ≡ length (package_paths w) = omega arith in
    let so = subst (λ n. LearnsFirst w c.args.own.now v found n known) end c.loop-number.invariant.learns in
    learns_still w c.args.own.now v found (length (package_paths w)) known c.keep_earlier.new.self c.keep_earlier.ensures
    (known_still w known c.keep_earlier.new.self c.keep_earlier.ensures so.right) so
