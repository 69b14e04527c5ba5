use Rattle.std.proofs.Common.{◌≡◌, ℕ, List, [], ◌∷◌, ◌++◌, Option, Some, None, option_map}
use Rattle.std.proofs.Common.{string_bytes, refl, sym, ap, ◌∙◌, append_assoc, rules}
use Rattle.hub_model.specs.Missing.{RevisionsOfDoc}
use Rattle.hub_model.specs.Revision.{Revision}
use Rattle.serde_json.specs.Data.{Data, Members, member}
use Rattle.serde_json.specs.View.{view, members_view}
use Rattle.hub_document.specs.Asking.{in_front, revs_in, asked_of}
use Rattle.hub_document.proofs.asked.asked_of.Goals as goal

-- an element in front of the rest stands after the elements that are done
regrouped : (done : List RevisionsOfDoc) (asked : RevisionsOfDoc) (rest : Option (List RevisionsOfDoc))
    → option_map (λ others. done ++ others) (in_front asked rest)
    ≡ option_map (λ others. (done ++ asked ∷ []) ++ others) rest
regrouped done asked None = refl
regrouped done asked (Some others) = ap Some (sym (append_assoc done (asked ∷ []) others))

-- one more member is read
one_more : (done : List RevisionsOfDoc) (id : List ℕ) (content : Data) (members : Members) (revs : List Revision)
    → revs_in content ≡ Some revs
    → option_map (λ others. done ++ others) (asked_of (member id content members))
    ≡ option_map (λ others. (done ++ record { id = id; revs = revs } ∷ []) ++ others) (asked_of members)
one_more done id content members revs found =
    rw found (regrouped done (record { id = id; revs = revs }) (asked_of members))

pub loop-key-preserved : goal.loop-key-preserved
loop-key-preserved c =
    let done = c.loop-key.asked.items in
    let revs = c.in-Some-2.revs in
    let found : revs_in (view c.in-Some.member.now) ≡ Some revs = sym c.in_ok-revs.ensures ∙ c.in-Some-2.is in
    let one : List ℕ → RevisionsOfDoc = λ id. record { id = id; revs = revs } in
    let same : string_bytes c.in_ok-id.id ≡ string_bytes c.in-Some.key.now = search rules in
    let pushed : c.push.new.self.items ≡ done ++ one (string_bytes c.in-Some.key.now) ∷ [] =
    c.in_ok-push.ensures.items ∙ ap (λ id. done ++ one id ∷ []) same in
    rw pushed (
    c.loop-key.invariant
    ∙ ap (λ es. option_map (λ others. done ++ others) (asked_of (members_view es))) c.in-Some.ensures.steps
    ∙ one_more done (string_bytes c.in-Some.key.now) (view c.in-Some.member.now)
    (members_view c.next.new.self) revs found
    )
