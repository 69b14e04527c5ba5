use Rattle.std.proofs.Common.{rules, ◌∙◌}
use Rattle.std.proofs.lemmas.List.Sorted.{answers_always}
use Rattle.hub_model.proofs.Entries.{searched}
use Rattle.hub_model.proofs.places.place_of.Goals as goal

-- the closure gives the number of an entry
pub returns : goal.returns
returns g c =
    let facts = c.binary_search_by_key.ensures in
    let by_number =
    facts.position (λ entry. entry.0) (answers_always _ _ _ (λ f a r h called. search rules)) in
    c.ok.ensures.value
    ∙ searched c.args.number c.args.entries.now c.binary_search_by_key.result
    c.requires.rising facts.bound by_number
