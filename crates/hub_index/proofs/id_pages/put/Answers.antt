use Rattle.std.proofs.Common.{arith, ℕ, ◌+◌, ◌-◌, List, Vec, Global, ◌∙◌, ap}
use Rattle.std.specs.List.{insert}
use Rattle.std.proofs.lemmas.Result.{on_ok_weaker, MatchResult-weaker}
use Rattle.hub_index.specs.Order.{numbers_of, place_of}
use Rattle.hub_index.proofs.IdPageLemmas.{place_behind}
use Rattle.hub_index.proofs.id_pages.put.Goals as goal

pub returns-else-at-le-HALF : goal.returns-else-at-le-HALF
returns-else-at-le-HALF c =
    let f : Vec ℕ Global → List ℕ = λ v. v.items in
    let split = c.in_ok-split.ensures in
    let put = c.put_within-else-at-le-HALF in
    record {
      ok =
          on_ok_weaker put.result
          (λ e. e
          ∙ (ap (λ (l : List ℕ).
          insert l (place_of c.split.new.pages.items (c.args.page + 1) (c.args.at - 128)) c.args.number)
          split.numbers
          ∙ ap (λ m. insert (numbers_of c.args.pages.now.items) m c.args.number)
          (place_behind f c.args.pages.now.items c.split.new.pages.items c.args.page c.args.at split.before
          split.lower (omega arith))))
          put.ensures.ok;
      err = MatchResult-weaker put.result put.ensures.err (λ u t. t) (λ e same. same ∙ split.numbers);
      pages = λ all. put.ensures.pages (split.pages all);
    }
