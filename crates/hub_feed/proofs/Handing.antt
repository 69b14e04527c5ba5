-- A list that fits a feed over a source with these edits still fits it after each step of the feed.
use Rattle.std.proofs.Common.{◌≡◌, List, [], ◌∷◌, ◌++◌, length, refl}
use Rattle.std.specs.Prelude.{Some, true}
use Rattle.hub_model.specs.Feed.{Feed, DueNothing, feed_after_due, after_nothing, is_beat_allowed, expired_feed}
use Rattle.hub_model.specs.Hand.{journal_due, next_item}
use Rattle.hub_model.specs.Journal.{Edit}
use Rattle.hub_model.specs.RowKind.{RowKind}
use Rattle.hub_model.specs.declared.feeds.Item.{Item}
use Rattle.hub_model.specs.declared.feeds.Item.TheVariants.{Beat}
use Rattle.hub_model.proofs.Fitting.{fits_beat, fits_expire, fits_handed, fits_nothing}
use Rattle.hub_feed.specs.Handing.{IsFitting, IsRightFor}

module _ {R : Type 0} (kind : RowKind R) (allowed : List Edit → Type 0) (journal : List Edit)
    (feed : Feed) (items : List (Item R)) (fitting : IsFitting kind allowed journal feed items) where
  -- a list that fits is right
  pub fitting_right : IsRightFor kind allowed feed.params feed.since items
  fitting_right = record {
    edits = journal;
    legal = fitting.legal;
    feed = feed;
    asks = refl;
    begins = refl;
    right = fitting.fits.right;
  }

  -- the list with the item that is due fits the feed after it
  pub fitting_handed : (item : Item R) → next_item kind journal feed ≡ Some item
      → IsFitting kind allowed journal (feed_after_due feed (journal_due journal feed) (length journal))
      (items ++ item ∷ [])
  fitting_handed item due =
      record { legal = fitting.legal; fits = fits_handed kind journal feed items item due fitting.fits }

  -- the list fits the feed after it found nothing to hand
  pub fitting_nothing : journal_due journal feed ≡ DueNothing
      → IsFitting kind allowed journal (after_nothing feed (length journal)) items
  fitting_nothing due =
      record { legal = fitting.legal; fits = fits_nothing kind journal feed items due fitting.fits }

  -- the list with a heartbeat fits the feed
  pub fitting_beat : is_beat_allowed feed ≡ true → IsFitting kind allowed journal feed (items ++ Beat ∷ [])
  fitting_beat due =
      record { legal = fitting.legal; fits = fits_beat kind journal feed items due fitting.fits }

  -- the list fits the feed once its time is over
  pub fitting_expired : IsFitting kind allowed journal (expired_feed feed) items
  fitting_expired = record { legal = fitting.legal; fits = fits_expire kind journal feed items fitting.fits }
