-- The row at the index that parts the rows is the first above the place.
use Rattle.std.proofs.Common.{◌≡◌, ◌∙◌, None, Some, sym, refl}
use Rattle.hub_database.proofs.ListingLemmas.{taken, taken_at}
use Rattle.hub_database.proofs.listing.Listing.first_between.Goals as goal

pub returns-in_err-seq-clause-first : goal.returns-in_err-seq-clause-first
returns-in_err-seq-clause-first c =
    let found =
    taken_at c.args.place c.args.bound c.args.self.now.rows.items c.place_above-at.result c.get.result
    c.requires c.place_above-at.ensures (rw c.deref.ensures.value at c.get.ensures.lookup.3) in
    c.from_residual.ensures ∙ (rw c.in_err-seq.was at found)

pub returns-then-is_ahead-clause-first : goal.returns-then-is_ahead-clause-first
returns-then-is_ahead-clause-first c =
    let found =
    taken_at c.args.place c.args.bound c.args.self.now.rows.items c.place_above-at.result c.get.result
    c.requires c.place_above-at.ensures (rw c.deref.ensures.value at c.get.ensures.lookup.3) in
    let is : Some c.in_ok-seq.field-0.now ≡ taken c.args.place c.args.bound
    (Some c.in_ok-seq.field-0.now) = rw (sym c.if-is_ahead.ensures) refl in
    is ∙ (rw c.in_ok-seq.was at found)

pub returns-clause-first : goal.returns-clause-first
returns-clause-first c =
    let found =
    taken_at c.args.place c.args.bound c.args.self.now.rows.items c.place_above-at.result c.get.result
    c.requires c.place_above-at.ensures (rw c.deref.ensures.value at c.get.ensures.lookup.3) in
    let is : None ≡ taken c.args.place c.args.bound (Some c.in_ok-seq.field-0.now) =
    rw (sym c.if-is_ahead.ensures) refl in
    is ∙ (rw c.in_ok-seq.was at found)
