-- Parameters of a feed as the definitions know them (own).
use Rattle.hub_filter.specs.Shown.{filter_of}
use Rattle.hub_params.specs.FeedParams.{FeedAsked}
use Rattle.hub_params.specs.declared.feed_params.FeedParams.{FeedParams}

-- the parameters as the definitions know them
abbrev pub params_asked : FeedParams → FeedAsked
params_asked params = record {
  mode = params.mode;
  since = params.since;
  limit = params.limit;
  descending = params.descending;
  style = params.style;
  include_docs = params.include_docs;
  filter = filter_of params.filter;
  heartbeat = params.heartbeat;
  timeout = params.timeout;
}
