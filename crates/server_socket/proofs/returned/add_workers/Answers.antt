-- One seat more.
use Rattle.std.proofs.Common.{◌≡◌, ◌+◌, ℕ, ◌∙◌, arith, refl}
use Rattle.std.proofs.lemmas.List.{length_push}
use Rattle.server_socket.specs.Returned.{HasWorked}
use Rattle.server_socket.proofs.ReturnedLaws.{adds_pushed, all_pushed}
use Rattle.server_socket.proofs.returned.add_workers.Goals as goal

pub loop-held-preserved : goal.loop-held-preserved
loop-held-preserved g c = record {
  added = adds_pushed (HasWorked g.L.Opening.most) c.loop-held.yielded c.in-Some.held c.args.all.now.items c.loop-held.all.items c.push_reserved.new.self.items
      c.in-Some.held.seat c.push_reserved.ensures.items c.loop-held.invariant.added c.in-Some.held.worked;
  known = all_pushed g.L.Opening.accounts c.loop-held.all.items c.push_reserved.new.self.items c.in-Some.held.seat c.push_reserved.ensures.items
      c.loop-held.invariant.known (c.in-Some.held.here c.in-Some.held.seat (0, refl));
  len = one_more _ _ _ _ _ c.push_reserved.ensures.len c.loop-held.invariant.len (length_push c.loop-held.yielded c.in-Some.held);
  room = c.push_reserved.ensures.capacity ∙ c.loop-held.invariant.room;
}
  where
    one_more : (new old start count more : ℕ) → new ≡ old + 1 → old ≡ start + count → more ≡ count + 1 → new ≡ start + more
    one_more new old start count more pushed was longer = omega arith
