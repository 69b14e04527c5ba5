-- The feeds of the definitions that parameters stand for (own).
use Rattle.std.specs.Prelude.{is_some}
use Rattle.hub_model.specs.Feed.{Params}
use Rattle.hub_params.specs.FeedParams.{FeedAsked}
use Rattle.hub_params.specs.FeedShown.{params_asked}
use Rattle.hub_params.specs.declared.feed_params.FeedParams.{FeedParams}

-- the parameters of a feed in `hub_model` for this request
abbrev pub params_in : FeedAsked → Params
params_in asked =
    record {
      mode = asked.mode;
      since = asked.since;
      limit = asked.limit;
      style = asked.style;
      include_docs = asked.include_docs;
      filter = asked.filter;
      heartbeat = is_some asked.heartbeat;
    }

-- the parameters of a feed in `hub_model` that the code's parameters stand for
abbrev pub params_of : FeedParams → Params
params_of params = params_in (params_asked params)
