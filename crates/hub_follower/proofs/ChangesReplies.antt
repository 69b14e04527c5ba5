-- The next call asks for changes, and is answered by items.
use Rattle.std.proofs.Common.{◌≡◌, ℕ, List, refl, sym, ap, subst, inr, Option, Some, None}
use Rattle.std.proofs.lemmas.Option.{same_Some, none-some}
use Rattle.hub_model.specs.RightlyHanded.{ChangeItem}
use Rattle.hub_model.specs.Row.{ChangeRow}
use Rattle.hub_follow_model.specs.ChangesFeed.{IsChangesAnswer}
use Rattle.hub_follow_model.specs.Follower as follow
use Rattle.hub_follow_model.specs.Sequence.{seq_in}
use Rattle.hub_follow_model.specs.World as world
use Rattle.hub_follow_model.specs.declared.seq.Seq.{Seq}
use Rattle.hub_follower.specs.Worlds.{changes_asked}

-- the call that asks for changes above this sequence
pub asked_since : (next : Option follow.Call) (since : Seq) → Some since ≡ changes_asked next
    → next ≡ Some (follow.Changes since)
asked_since None since h = absurd (none-some since (sym h))
asked_since (Some (follow.LocalGet side)) since h = absurd (none-some since (sym h))
asked_since (Some (follow.Changes n)) since h = ap (λ z. Some (follow.Changes z)) (sym (same_Some since n h))
asked_since (Some (follow.RevsDiff asked)) since h = absurd (none-some since (sym h))
asked_since (Some (follow.OpenRevs id revs)) since h = absurd (none-some since (sym h))
asked_since (Some (follow.Merge docs)) since h = absurd (none-some since (sym h))
asked_since (Some (follow.LocalPut side log)) since h = absurd (none-some since (sym h))

-- items that are no answer change nothing
pub wrong_items : (w : world.World) (since : Seq) (next : Option follow.Call) (items : List ChangeItem)
    → next ≡ Some (follow.Changes since)
    → ((rows : List ChangeRow) (last : ℕ) → ¬ IsChangesAnswer w.source (seq_in w.life since) items rows last)
    → world.IsChangesReply w next items w
wrong_items w since next items e h = subst (λ z. world.IsChangesReply w z items w) (sym e) (inr (h, refl))
