-- The two rows at the index part the rows.
use Rattle.std.proofs.Common.{◌∙◌, arith, inl, inr, sym}
use Rattle.std.proofs.lemmas.Bool.{leb-true, ltb-true}
use Rattle.hub_database.proofs.ListingLemmas.{parted_between}
use Rattle.hub_database.proofs.listing.Listing.is_parted_at.Goals as goal
use Rattle.hub_database.proofs.listing.Listing.is_parted_at.Goals.{then-at-len+then-at-eq0}
use Rattle.hub_database.proofs.listing.Listing.is_parted_at.Goals.{then-at-len+else-at-eq0, else-at-len}

pub returns-else-at-len-2 : goal.returns-else-at-len-2
returns-else-at-len-2 c above =
    let rows = c.args.self.now.rows.items in
    let at = c.args.at in
    let first = c.index-else-at-len-2.result.now in
    let count = c.len-then-index-place.ensures in
    let by = parted_between rows c.args.place at first c.requires in
    let high = ltb-true c.args.place first above in
    elim c.if-at-len.branch [
      | then-at-len+then-at-eq0 w ↦
          by (omega (arith, w.if-at-len.true, c.if-at-len-2.false, c.len.ensures, count))
          (inl w.if-at-eq0.true) c.index-else-at-len-2.ensures high
      | then-at-len+else-at-eq0 w ↦
          by (omega (arith, w.if-at-len.true, c.if-at-len-2.false, c.len.ensures, count))
          (inr (
            w.index.result.now,
            w.index.ensures,
            leb-true w.index.result.now c.args.place (sym w.value-is ∙ c.if-index-place.true),
          ))
          c.index-else-at-len-2.ensures high
      | else-at-len w ↦
          let low = leb-true at c.len.result (sym w.value-is ∙ c.if-index-place.true) in
          absurd (omega (arith, low, w.if-at-len.false))
    ]
