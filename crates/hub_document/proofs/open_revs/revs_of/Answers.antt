use Rattle.std.proofs.Common.{◌≡◌, ◌+◌, List, [], ◌∷◌, ◌++◌, Option, Some, drop}
use Rattle.std.proofs.Common.{option_map, sym, ap, ◌∙◌, arith}
use Rattle.std.proofs.lemmas.List.{drop_more}
use Rattle.hub_model.specs.Revision.{Revision}
use Rattle.serde_json.specs.Data.{Data, Items, item}
use Rattle.serde_json.specs.View.{view, items_view}
use Rattle.hub_document.specs.Asking.{revs_of}
use Rattle.hub_document.specs.Histories.{rev_in}
use Rattle.hub_document.proofs.FrontLemmas.{regrouped}
use Rattle.hub_document.proofs.open_revs.revs_of.Goals as goal

-- one more item is read
one_more : (done : List Revision) (rev : Revision) (content : Data) (items : Items) → rev_in content ≡ Some rev
    → option_map (λ rs. done ++ rs) (revs_of (item content items))
    ≡ option_map (λ rs. (done ++ rev ∷ []) ++ rs) (revs_of items)
one_more done rev content items found = rw found (regrouped done rev (revs_of items))

pub loop-item-preserved : goal.loop-item-preserved
loop-item-preserved c =
    let l = c.loop-item in
    let items = c.deref-item-items.result.now in
    let one = c.item-item.result in
    let rest = drop (l.item-index + 1) items in
    let here : drop l.item-index items ≡ one ∷ rest =
    drop_more items l.item-index one (omega arith) ∙ ap (λ y. y ∷ rest) (sym c.item-item.is) in
    let found : rev_in (view one) ≡ Some c.in-Some.rev = sym c.rev_in.ensures ∙ c.in-Some.is in
    l.invariant ∙ ap (λ ds. option_map (λ rs. l.list.items ++ rs) (revs_of (items_view ds))) here
    ∙ one_more l.list.items c.in-Some.rev (view one) (items_view rest) found
    ∙ ap (λ done. option_map (λ rs. done ++ rs) (revs_of (items_view rest))) (sym c.in_ok-push.ensures.items)
