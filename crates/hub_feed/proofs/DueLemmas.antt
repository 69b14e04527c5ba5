-- Facts about a feed to which a row or an end is due.
use Rattle.std.proofs.Common.{◌≡◌, ◌∙◌, ℕ, ◌<◌, ◌≤◌, List, true, ap, refl, subst, sym}
use Rattle.std.proofs.Common.{IfSome, Contains}
use Rattle.hub_model.specs.Current.{Current, pending}
use Rattle.hub_model.specs.Feed.{Feed, Due, DueRow, DueEnd}
use Rattle.hub_model.specs.Feed.{DueNothing, DueGone, next_due, is_in_reach}
use Rattle.hub_model.proofs.Due.{due_row, reach_parts, within_bound}
use Rattle.hub_model.proofs.Shown.{find_is}
use Rattle.hub_feed.specs.Due.{due_sequence}
use Rattle.hub_model.specs.Hand.{item_of_due}
use Rattle.hub_model.specs.declared.feeds.Item.{Item}
use Rattle.hub_model.specs.declared.feeds.Item.TheVariants as item
use Rattle.hub_feed.specs.Next.{next_of_due}
use Rattle.hub_feed.specs.declared.next.Next.TheVariants.{Give}
use Rattle.hub_feed.specs.declared.feed.DueSequence.TheVariants.{Row, End}

-- a row is due where its sequence is due
row_due : (due : Due) (seq : ℕ) → Row seq ≡ due_sequence due
    → (row : Current) × (due ≡ DueRow row) × (row.seq ≡ seq)
row_due (DueRow row) seq e = (row, refl, cc)
row_due (DueEnd last_seq) seq e = absurd (cc)
row_due DueNothing seq e = absurd (cc)
row_due DueGone seq e = absurd (cc)

-- a row that is due is a current row in reach
pub row_here : (rows : List Current) (feed : Feed) (seq : ℕ) → Row seq ≡ due_sequence (next_due rows feed)
    → (row : Current) × (next_due rows feed ≡ DueRow row) × Contains rows row × (row.seq ≡ seq)
    × (is_in_reach feed row ≡ true)
row_here rows feed seq e =
    let (row, is, same) = row_due (next_due rows feed) seq e in
    let here = find_is (is_in_reach feed) rows row (due_row rows feed row is).1 in
    (row, is, here.1, same, here.0)

-- a row that is due lies above the place, and not above the bound or the length
pub row_lies : (rows : List Current) (len : ℕ) (feed : Feed) (seq : ℕ)
    → ((row : Current) → Contains rows row → row.seq ≤ len)
    → Row seq ≡ due_sequence (next_due rows feed)
    → (feed.place < seq) × (seq ≤ len) × IfSome feed.bound (λ b. seq ≤ b)
row_lies rows len feed seq within e =
    let (row, is, here, same, reached) = row_here rows feed seq e in
    let parts = reach_parts feed row reached in
    subst (λ n. (feed.place < n) × (n ≤ len) × IfSome feed.bound (λ b. n ≤ b)) same
    (parts.0, within row here, within_bound feed.bound row.seq parts.1)

-- an end is due where its sequence is due
pub end_due : (due : Due) (last_seq : ℕ) → End last_seq ≡ due_sequence due → due ≡ DueEnd last_seq
end_due (DueRow row) last_seq e = absurd (cc)
end_due (DueEnd n) last_seq e = cc
end_due DueNothing last_seq e = absurd (cc)
end_due DueGone last_seq e = absurd (cc)

-- the answer of a feed to which the row of this sequence is due, where `made` is that row as it is shown
pub row_given : {R : Type 0} (show : Current → R) (rows : List Current) (feed : Feed) (seq : ℕ) (made : R)
    → Row seq ≡ due_sequence (next_due rows feed)
    → ((row : Current) → Contains rows row → row.seq ≡ seq → made ≡ show row)
    → next_of_due show rows (next_due rows feed) ≡ Give (item.Row made)
row_given show rows feed seq made e shows =
    let (row, is, here, same, reached) = row_here rows feed seq e in
    ap (next_of_due show rows) is ∙ ap (λ r. Give (item.Row r)) (sym (shows row here same))

-- the row of this sequence may be taken where the item that is due may be, and `made` is that row as it is shown
pub row_allowed : {R : Type 0} (show : Current → R) (rows : List Current) (feed : Feed) (seq : ℕ) (made : R)
    → Row seq ≡ due_sequence (next_due rows feed)
    → ((row : Current) → Contains rows row → row.seq ≡ seq → made ≡ show row)
    → (May : Item R → Type 0) → IfSome (item_of_due show rows (next_due rows feed)) May → May (item.Row made)
row_allowed show rows feed seq made e shows May may =
    let (row, is, here, same, reached) = row_here rows feed seq e in
    subst (λ r. May (item.Row r)) (sym (shows row here same))
    (subst (λ what. IfSome (item_of_due show rows what) May) is may)

-- the answer of a feed to which an end is due
pub end_given : {R : Type 0} (show : Current → R) (rows : List Current) (feed : Feed) (last_seq : ℕ)
    → End last_seq ≡ due_sequence (next_due rows feed)
    → next_of_due show rows (next_due rows feed) ≡ Give (item.End last_seq (pending rows last_seq))
end_given show rows feed last_seq e = ap (next_of_due show rows) (end_due (next_due rows feed) last_seq e)
