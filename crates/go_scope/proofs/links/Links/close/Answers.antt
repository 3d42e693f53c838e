-- The answers to the goals of `links::Links::close`.
use Rattle.std.proofs.Common.{ℕ, ◌<◌, ◌∷◌, [], arith, length, sym, subst}
use Rattle.go_scope.specs.Numbering.{numerals}
use Rattle.go_scope.specs.OpenBlocks.{IsLastOpen}
use Rattle.go_scope.specs.Table.{layout_of}
use Rattle.go_scope.proofs.Linking.{last_within, lasts_set}
use Rattle.go_scope.proofs.links.Links.close.Goals as goal

pub index_mut-requires : goal.index_mut-requires
index_mut-requires c =
    let within : c.number_at.result < length c.args.self.now.last.items =
    last_within c.args.identifiers.now c.args.names.now c.args.u c.args.self.now c.requires.linked c.requires.numbered c.requires.in_range c.number_at.result
    c.number_at.ensures in
    omega arith

pub returns : goal.returns
returns c =
    let xs = c.args.identifiers.now in
    let numbers = c.args.names.now in
    let l = layout_of xs in
    let h = c.requires.linked in
    let P : ℕ → Type 0 = λ k. IsLastOpen l (length xs) (numerals numbers) (k ∷ []) c.args.u c.last_open-last.result in
    record {
      outer = h.outer;
      lasts = lasts_set l (length xs) (numerals numbers) c.args.u c.args.self.now.last.items c.number_at.result c.last_open-last.result
          (let B : ℕ → Type 0 = λ k. k < length xs in subst B (sym c.number_at.ensures) (c.requires.numbered c.args.u c.requires.in_range))
          (subst P (sym c.number_at.ensures) c.last_open-last.ensures) h.lasts;
      linked = h.linked;
      near = h.near;
    }
