-- The steps of reading a query that may run out of memory (own). They are the decoding of a name or a value
-- that is not written as it reads, and the keeping of a text that is not empty.
use Rattle.std.specs.Prelude.{◌≡◌, ◌⊎◌, ℕ, ◌<◌, All, true, false, ◌&&◌, List, length, codes, Option}
use Rattle.std.specs.Prelude.{IsSomeAnd, IsOkAnd}
use Rattle.form_urlencoded.specs.Form.{raw_pairs, IsPlainText}
use Rattle.hub_model.specs.Feed.{is_waiting_mode}
use Rattle.hub_params.specs.DocParams.{is_value}
use Rattle.hub_params.specs.FeedParams.{filter_in}
use Rattle.hub_params.specs.FeedValues.{since_in, limit_in, style_in, mode_in, heartbeat_in}
use Rattle.hub_params.specs.FeedValues.{timeout_in, flag_in}
use Rattle.hub_params.specs.Query.{value_of, written_of}

-- a name is not written as it reads: a `%` or a `+` stands in it, or it is no UTF-8. %61=1 has such a name,
-- and a=%31 has none.
abbrev pub HasEscapedName : List ℕ → Type 0
HasEscapedName query = ¬ All (λ p. IsPlainText p.0) (raw_pairs query)

-- there is a value, and it is not written as it reads
abbrev pub IsEscaped : Option (List ℕ) → Type 0
IsEscaped value = IsSomeAnd value (λ written. ¬ IsPlainText written)

-- there is a value, and it is not empty
abbrev pub HasBytes : Option (List ℕ) → Type 0
HasBytes value = IsSomeAnd value (λ written. 0 < length written)

-- reading the value of a name needs room: a name of the query is escaped, or the value is
abbrev pub ValueNeedsRoom : List ℕ → List ℕ → Type 0
ValueNeedsRoom name query = HasEscapedName query ⊎ IsEscaped (written_of name query)

-- the parameters of a document's routes need room: `rev` and `open_revs` are kept. rev=1-a needs room, and so
-- does revs=%74rue; revs=true and rev= need none.
pub data DocNeedsRoom (query : List ℕ) : Type 0 where
  name : HasEscapedName query → DocNeedsRoom query
  rev : HasBytes (written_of (codes "rev") query) → DocNeedsRoom query
  open_revs : HasBytes (written_of (codes "open_revs") query) → DocNeedsRoom query
  revs : IsEscaped (written_of (codes "revs") query) → DocNeedsRoom query
  new_edits : IsEscaped (written_of (codes "new_edits") query) → DocNeedsRoom query

-- ---- the parameters of a feed, in the order of their faults: after a fault nothing is read

-- reading a value needs room, or the value is good and the parameters behind it need room
abbrev pub or_behind : {A : Type 0} → List ℕ → (Option (List ℕ) → Option A) → List ℕ → (A → Type 0) → Type 0
or_behind parameter read query behind =
    ValueNeedsRoom parameter query ⊎ IsSomeAnd (read (value_of parameter query)) behind

-- the filter needs room: its text is escaped, or documents are listed. Then the query's value or the body is
-- parsed where it is not empty, and its ids are kept.
abbrev pub FilterNeedsRoom : List ℕ → List ℕ → Type 0
FilterNeedsRoom query body =
    ValueNeedsRoom (codes "filter") query
    ⊎ ((is_value (codes "_doc_ids") (value_of (codes "filter") query) ≡ true)
    × (HasBytes (written_of (codes "doc_ids") query) ⊎ (0 < length body)))

-- The parameters of a feed need room. The query since=1&limit=2 needs none. The query
-- filter=_doc_ids&doc_ids=["a"] does, for the list of ids. With since=1&style=%61 they need room. With
-- since=x&style=%61 they do not, because nothing is read after the fault x. In a continuous feed
-- descending=true is a fault, and include_docs=%31 after it is not read.
abbrev pub FeedNeedsRoom : List ℕ → List ℕ → Type 0
FeedNeedsRoom query body =
    or_behind (codes "since") since_in query (λ _.
    or_behind (codes "limit") limit_in query (λ _.
    or_behind (codes "style") style_in query (λ _.
    or_behind (codes "feed") mode_in query (λ mode.
    FilterNeedsRoom query body
    ⊎ IsOkAnd (filter_in (value_of (codes "filter") query) (value_of (codes "doc_ids") query) body) (λ _.
    or_behind (codes "heartbeat") heartbeat_in query (λ _.
    or_behind (codes "timeout") timeout_in query (λ _.
    or_behind (codes "descending") flag_in query (λ descending.
    (descending && is_waiting_mode mode ≡ false) × ValueNeedsRoom (codes "include_docs") query))))))))
