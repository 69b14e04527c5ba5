-- own: the rules of a service, and the moments of a connection.
use Rattle.std.specs.Prelude.{ℕ, List, Option}
use Rattle.hub_http.specs.Stream.{PlainRequest}
use Rattle.hub_session.specs.StreamItem.{StreamItem}
use Rattle.hub_session.specs.declared.service.Answer.{Answer}

-- the steps that a service may take, each from a state to the state that it leaves
pub record Rules (S : Type 0) : Type 1 where
  -- answer this request so
  pub answers : S → PlainRequest → Answer → S → Type 0
  -- go on with this item of its stream, or with none where the stream stops
  pub gives : S → Option StreamItem → S → Type 0
  -- drop its stream, and give back all that the stream holds
  pub drops : S → S → Type 0

-- a moment of a connection: the state of its service, and the bytes that were written, where they are told
pub record Moment (S : Type 0) : Type 0 where
  pub service : S
  pub written : Option (List ℕ)

-- the moment of this service and these bytes
abbrev pub moment : {S : Type 0} → S → Option (List ℕ) → Moment S
moment service written = record { service = service; written = written }
