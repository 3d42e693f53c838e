-- The answers to the goals of `contents::table_contents`.
use Rattle.std.proofs.Common.{List, length, subst}
use Rattle.go_scope.specs.Contents.{AreBound}
use Rattle.go_scope.specs.Site.{Site, sites_layout, sites_names}
use Rattle.go_scope.proofs.Declared.{in_sites}
use Rattle.go_scope.proofs.NamedSites.{list_laid_out}
use Rattle.go_scope.proofs.contents.table_contents.Goals as goal

pub bound_of-requires : goal.bound_of-requires
bound_of-requires c = list_laid_out c.as_slice.result.now c.args.identifiers.now.sites c.as_slice.ensures.sites c.are_laid_out.ensures

pub returns : goal.returns
returns c =
    let declaring = c.in_ok-bound.bound.declaring.items in
    let bindings = c.in_ok-bound.bound.bindings.items in
    let S : List Site → Type 0 = λ zs. AreBound (sites_layout zs) (sites_names zs) (length zs) declaring bindings in
    record {
      known = subst S c.as_slice.ensures.sites
          (in_sites (λ l names n. AreBound l names n declaring bindings) c.as_slice.result.now c.in_ok-bound.ensures);
      numbers = c.in_ok-numbers.ensures;
    }
