-- The answers to calls (own; CouchDB API reference, HTTP status codes).
use Rattle.std.specs.Prelude.{◌≡◌, ◌⊎◌, ℕ, List, [], Result, Ok, Err}
use Rattle.hub_http.specs.declared.refusal.Refusal.{Refusal}
use Rattle.hub_http.specs.declared.refusal.Refusal.TheVariants.{NoMemory}
use Rattle.hub_model.specs.Revision.{Revision}
use Rattle.hub_model.specs.declared.outcomes.Outcome.{Outcome}
use Rattle.hub_service.specs.declared.response.Response.{Response}
use Rattle.hub_service.specs.declared.response.Response.TheVariants as response

-- the answer to a call that begins no feed
pub data CallAnswer : Type 0 where
  Body : (status : ℕ) (body : List ℕ) → CallAnswer
  Refusing : (refusal : Refusal) → CallAnswer

-- The response says this answer. A response of status 200 with the bytes {} says Body 200 {}, and the error
-- Missing says Refusing Missing. A response that begins a feed says no answer.
abbrev pub Says : Result Response Refusal → CallAnswer → Type 0
Says (Ok (response.Body status bytes)) (Body n body) = (status ≡ n) × (bytes.items ≡ body)
Says (Err e) (Refusing refusal) = e ≡ refusal
Says r said = ⊥

-- memory was missing
abbrev pub IsWant : Result Response Refusal → Type 0
IsWant r = r ≡ Err NoMemory

-- the response says this answer, or memory was missing for the body of the answer: a refusal takes none
abbrev pub IsSaid : CallAnswer → Result Response Refusal → Type 0
IsSaid (Body status body) r = Says r (Body status body) ⊎ IsWant r
IsSaid (Refusing refusal) r = Says r (Refusing refusal)

-- ---- writing

-- the answer to a write, and the outcomes of its documents
pub record WriteAnswer : Type 0 where
  pub said : CallAnswer
  pub outcomes : List (Outcome Revision)

-- the answer to a write that is refused as a whole
abbrev pub refuses_all : Refusal → WriteAnswer
refuses_all refusal = record { said = Refusing refusal; outcomes = [] }
