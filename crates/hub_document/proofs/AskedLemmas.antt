-- The documents that members ask for.
use Rattle.std.proofs.Common.{◌≡◌, ℕ, ◌<◌, List, [], ◌∷◌, length, Option, Some, None, option_and_then}
use Rattle.std.proofs.Common.{is_some, true, Ok, String, string_bytes, arith, sym, true≢false}
use Rattle.std.specs.Prelude.{IsOkAnd}
use Rattle.std.specs.declared.alloc.Global.{Global}
use Rattle.hub_model.specs.Missing.{RevisionsOfDoc}
use Rattle.hub_model.specs.Revision.{Revision}
use Rattle.serde_json.specs.View.{view, members_view}
use Rattle.serde_json.specs.declared.value.Value.{Value}
use Rattle.hub_document.specs.Asking.{in_front, revs_in, asked_of}
use Rattle.hub_document.specs.Read.{or_fault}
use Rattle.hub_document.specs.declared.doc.DocFault.TheVariants.{BadRev}

-- at least one document is asked for
abbrev AsksSome : Option (List RevisionsOfDoc) → Type 0
AsksSome asked = IsOkAnd (or_fault asked BadRev Ok) (λ v. 0 < length v)

one_in_front : (asked : RevisionsOfDoc) (rest : Option (List RevisionsOfDoc)) → is_some (in_front asked rest) ≡ true
    → AsksSome (in_front asked rest)
one_in_front asked None h = absurd (true≢false (sym h))
one_in_front asked (Some others) h = let some : 0 < length (asked ∷ others) = omega arith in some

one_more : (id : List ℕ) (revs : Option (List Revision)) (rest : Option (List RevisionsOfDoc))
    → is_some (option_and_then (λ r. in_front (record { id = id; revs = r }) rest) revs) ≡ true
    → AsksSome (option_and_then (λ r. in_front (record { id = id; revs = r }) rest) revs)
one_more id None rest h = absurd (true≢false (sym h))
one_more id (Some revs) rest h = one_in_front (record { id = id; revs = revs }) rest h

-- an object with a member asks for at least one document
pub asks_some : (entries : List (String Global × Value)) → 0 < length entries
    → is_some (asked_of (members_view entries)) ≡ true
    → IsOkAnd (or_fault (asked_of (members_view entries)) BadRev Ok) (λ v. 0 < length v)
asks_some [] some h = absurd (omega (arith, some))
asks_some (m ∷ ms) some h = one_more (string_bytes m.0) (revs_in (view m.1)) (asked_of (members_view ms)) h
