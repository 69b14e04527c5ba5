-- The parameters of a changes feed, or the first fault in them (CouchDB API reference, _changes; the order of
-- the faults is own).
use Rattle.std.specs.Prelude.{ℕ, List, codes, Bool, ◌&&◌, not, if◌then◌else◌}
use Rattle.std.specs.Prelude.{Option, Some, None, Result, Ok, Err}
use Rattle.std.specs.Str.{bytes_eq}
use Rattle.hub_filter.specs.Listed.{in_order}
use Rattle.hub_model.specs.Feed.{is_waiting_mode}
use Rattle.hub_model.specs.Filter.{Filter, Everything, DocIds, Design}
use Rattle.hub_model.specs.declared.feeds.Mode.{Mode}
use Rattle.hub_model.specs.declared.feeds.Style.{Style}
use Rattle.hub_model.specs.declared.feeds.Since.{Since}
use Rattle.hub_document.specs.Read.{if_holds}
use Rattle.hub_params.specs.FeedValues.{since_in, limit_in, style_in, mode_in, heartbeat_in}
use Rattle.hub_params.specs.FeedValues.{timeout_in, flag_in}
use Rattle.hub_params.specs.ListedIds.{ids_in}
use Rattle.hub_params.specs.Query.{value_of}
use Rattle.hub_params.specs.declared.feed_fault.ParamFault.{ParamFault}
use Rattle.hub_params.specs.declared.feed_fault.ParamFault.TheVariants.{BadSince, BadLimit, BadStyle, BadFeed}
use Rattle.hub_params.specs.declared.feed_fault.ParamFault.TheVariants.{BadFilter, BadDocIds, BadHeartbeat}
use Rattle.hub_params.specs.declared.feed_fault.ParamFault.TheVariants.{DescendingMode, BadFlag}

-- the parameters that a query and a body give a feed
pub record FeedAsked : Type 0 where
  pub mode : Mode
  pub since : Since
  pub limit : Option ℕ
  pub descending : Bool
  pub style : Style
  pub include_docs : Bool
  pub filter : Filter
  pub heartbeat : Option ℕ
  pub timeout : ℕ

-- ---- the faults in their order

-- goes on with the value that was read, or stops at the fault
abbrev pub or_fault : {A B : Type 0} → Option A → ParamFault → (A → Result B ParamFault) → Result B ParamFault
or_fault None fault next = Err fault
or_fault (Some a) fault next = next a

-- goes on with the value that was read, or keeps its fault
abbrev pub or_stop : {A B : Type 0} → Result A ParamFault → (A → Result B ParamFault) → Result B ParamFault
or_stop (Err e) next = Err e
or_stop (Ok a) next = next a

-- the filter of this text: only listed documents need `doc_ids` and the body. The ids stand in byte order.
-- Their order changes no document that is shown.
abbrev pub filter_in : Option (List ℕ) → Option (List ℕ) → List ℕ → Result Filter ParamFault
filter_in None ids body = Ok Everything
filter_in (Some text) ids body =
    if bytes_eq text (codes "_doc_ids")
    then or_fault (ids_in ids body) BadDocIds (λ ids. Ok (DocIds (in_order ids)))
    else (if bytes_eq text (codes "_design") then Ok Design else Err BadFilter)

-- the parameters that a query and a body give a feed, or the first fault. Only a feed that ends at once, and
-- waits for nothing, goes downwards.
abbrev pub feed_asked : List ℕ → List ℕ → Result FeedAsked ParamFault
feed_asked query body =
    or_fault (since_in (value_of (codes "since") query)) BadSince (λ since.
    or_fault (limit_in (value_of (codes "limit") query)) BadLimit (λ limit.
    or_fault (style_in (value_of (codes "style") query)) BadStyle (λ style.
    or_fault (mode_in (value_of (codes "feed") query)) BadFeed (λ mode.
    or_stop (filter_in (value_of (codes "filter") query) (value_of (codes "doc_ids") query) body) (λ filter.
    or_fault (heartbeat_in (value_of (codes "heartbeat") query)) BadHeartbeat (λ heartbeat.
    or_fault (timeout_in (value_of (codes "timeout") query)) BadHeartbeat (λ timeout.
    or_fault (flag_in (value_of (codes "descending") query)) BadFlag (λ descending.
    or_fault (if_holds (not (descending && is_waiting_mode mode))) DescendingMode (λ _.
    or_fault (flag_in (value_of (codes "include_docs") query)) BadFlag (λ include_docs.
    Ok (record {
      mode = mode;
      since = since;
      limit = limit;
      descending = descending;
      style = style;
      include_docs = include_docs;
      filter = filter;
      heartbeat = heartbeat;
      timeout = timeout;
    })))))))))))
