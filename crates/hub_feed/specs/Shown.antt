-- The status of a feed's state, as the definitions know it (own).
use Rattle.hub_model.specs.Feed as model
use Rattle.hub_feed.specs.declared.feed.Status.{Status}
use Rattle.hub_feed.specs.declared.feed.Status.TheVariants.{Open, Ending, Ended}

-- the status of the definitions for this status
abbrev pub status_of : Status → model.Status
status_of Open = model.Open
status_of Ending = model.Ending
status_of Ended = model.Ended
