-- A list that fits a feed of a log goes on fitting it. These are laws of hub_feed's Handing, where there
-- are as many edits as a log has notes (own).
use Rattle.std.specs.Prelude.{◌≡◌, List, [], ◌∷◌, ◌++◌, length, Some}
use Rattle.std.proofs.Common.{subst}
use Rattle.std.proofs.lemmas.List.{length-map}
use Rattle.hub_model.specs.Current.{current}
use Rattle.hub_model.specs.Feed.{Feed, DueNothing, feed_after_due, after_nothing, next_due}
use Rattle.hub_model.specs.Hand.{next_item}
use Rattle.hub_model.specs.Journal.{Edit}
use Rattle.hub_model.specs.RowKind.{update_rows}
use Rattle.hub_model.specs.Updates.{Note, UpdateRow, edit_of, edits_of_log}
use Rattle.hub_model.specs.declared.feeds.Item.{Item}
use Rattle.hub_feed.proofs.Handing.{fitting_handed, fitting_nothing}
use Rattle.hub_updates.specs.Log.{AreOfLog, IsFitting}

module _ (notes : List Note) (feed : Feed) (items : List (Item UpdateRow))
    (fitting : IsFitting notes feed items) where
  -- with the item that is due at its end
  pub fits_given : (item : Item UpdateRow) → next_item update_rows (edits_of_log notes) feed ≡ Some item
      → let next : Feed = feed_after_due feed (next_due (current (edits_of_log notes)) feed) (length notes) in
      IsFitting notes next (items ++ item ∷ [])
  fits_given item is =
      let J : List Edit = edits_of_log notes in
      subst (λ n. IsFitting notes (feed_after_due feed (next_due (current J) feed) n) (items ++ item ∷ []))
      (length-map notes edit_of) (fitting_handed update_rows AreOfLog J feed items fitting item is)

  -- after a hand for which nothing was due
  pub fits_waiting : next_due (current (edits_of_log notes)) feed ≡ DueNothing
      → IsFitting notes (after_nothing feed (length notes)) items
  fits_waiting is =
      subst (λ n. IsFitting notes (after_nothing feed n) items) (length-map notes edit_of)
      (fitting_nothing update_rows AreOfLog (edits_of_log notes) feed items fitting is)
