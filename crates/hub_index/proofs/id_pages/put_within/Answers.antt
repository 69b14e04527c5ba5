use Rattle.std.proofs.Common.{ℕ, ◌≤◌, ◌<◌, List, Vec, Global, length}
use Rattle.std.proofs.lemmas.List.Elements.{All-set, All-get_or}
use Rattle.std.proofs.lemmas.Result.{on_ok_weaker, MatchResult-weaker}
use Rattle.hub_index.specs.Order.{IsNumberPage}
use Rattle.hub_index.proofs.IdPageLemmas.{page_put, page_same, page_kept, some_at}
use Rattle.hub_index.proofs.id_pages.put_within.Goals as goal

pub returns : goal.returns
returns c =
    let x = c.index_mut.result.now in
    let f : Vec ℕ Global → List ℕ = λ v. v.items in
    let is =
    some_at (λ (v : Vec ℕ Global). (c.args.at ≤ length v.items) × (length v.items < 256))
    c.args.pages.now.items c.args.page c.requires in
    let here = is.1 x c.index_mut.ensures.value in
    record {
      ok =
          on_ok_weaker c.insert_at.result
          (page_put f c.args.pages.now.items c.args.page x c.insert_at.new.numbers c.args.at c.args.number
          is.0 c.index_mut.ensures.value here.0)
          c.insert_at.ensures.ok;
      err =
          MatchResult-weaker c.insert_at.result c.insert_at.ensures.err (λ u t. t)
          (λ e same. page_same f c.args.pages.now.items c.args.page x c.insert_at.new.numbers is.0
          c.index_mut.ensures.value same);
      pages = λ pages. let page : IsNumberPage x =
          rw c.index_mut.ensures.value
          (All-get_or IsNumberPage c.args.pages.now.items c.args.page x is.0 pages) in
          All-set IsNumberPage c.args.pages.now.items c.args.page c.insert_at.new.numbers
          (page_kept c.insert_at.result x c.insert_at.new.numbers c.args.at c.args.number
          c.insert_at.ensures.ok
          c.insert_at.ensures.err page here.0 here.1)
          pages;
    }
