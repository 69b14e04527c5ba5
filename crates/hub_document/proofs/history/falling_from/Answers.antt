use Rattle.std.proofs.Common.{◌≡◌, ℕ, ◌+◌, ◌-◌, Bool, true, false, List, [], ◌∷◌, ◌++◌, Option, None, Some, drop}
use Rattle.std.proofs.Common.{option_and_then, option_map, sym, ap, ◌∙◌, arith}
use Rattle.std.specs.Prelude.{◌==◌, if◌then◌else◌}
use Rattle.std.proofs.lemmas.List.{drop_more}
use Rattle.hub_model.specs.Revision.{Revision}
use Rattle.serde_json.specs.Data.{Data, Items, item}
use Rattle.serde_json.specs.Find.{as_str}
use Rattle.serde_json.specs.View.{view, items_view}
use Rattle.hub_document.specs.Histories.{hashed_at, falling}
use Rattle.hub_document.specs.RevisionText.{with_hash}
use Rattle.hub_document.proofs.FrontLemmas.{regrouped}
use Rattle.hub_document.proofs.history.falling_from.Goals as goal

behind_some : {A B : Type 0} (b : Bool) (x : Option A) (a : A) (f : A → Option B)
    → (if b then None else x) ≡ Some a → (if b then None else option_and_then f x) ≡ f a
behind_some true x a f e = absurd (cc)
behind_some false x a f e = ap (option_and_then f) e

-- one more hash is read
one_more : (done : List Revision) (rev : Revision) (n : ℕ) (content : Data) (items : Items)
    → hashed_at n content ≡ Some rev
    → option_map (λ rs. done ++ rs) (falling n (item content items))
    ≡ option_map (λ rs. (done ++ rev ∷ []) ++ rs) (falling (n - 1) items)
one_more done rev n content items found =
    ap (option_map (λ rs. done ++ rs))
    (behind_some (n == 0) (option_and_then (with_hash n) (as_str content)) rev
    (λ r. option_map (λ rs. r ∷ rs) (falling (n - 1) items)) found)
    ∙ regrouped done rev (falling (n - 1) items)

pub loop-id-preserved : goal.loop-id-preserved
loop-id-preserved c =
    let l = c.loop-id in
    let ids = c.deref-id-items.result.now in
    let one = c.id-item.result in
    let rest = drop (l.id-index + 1) ids in
    let here : drop l.id-index ids ≡ one ∷ rest =
    drop_more ids l.id-index one (omega arith) ∙ ap (λ y. y ∷ rest) (sym c.id-item.is) in
    let found : hashed_at l.left (view one) ≡ Some c.in-Some.rev = sym c.fallen.ensures ∙ c.in-Some.is in
    l.invariant
    ∙ ap (λ ds. option_map (λ rs. l.revisions.items ++ rs) (falling l.left (items_view ds))) here
    ∙ one_more l.revisions.items c.in-Some.rev l.left (view one) (items_view rest) found
    ∙ ap (λ done. option_map (λ rs. done ++ rs) (falling (l.left - 1) (items_view rest)))
    (sym c.in_ok-push.ensures.items)
