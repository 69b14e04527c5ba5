use Rattle.std.proofs.Common.{rules, string_bytes, ◌∙◌}
use Rattle.std.specs.Ordering.{nat_cmp}
use Rattle.std.specs.Cmp.Lexicographic.{slice_cmp}
use Rattle.std.proofs.lemmas.Fn.{always_returns_same}
use Rattle.hub_filter.proofs.ListedLemmas.{searched}
use Rattle.hub_filter.proofs.doc_ids.DocIds.contains.Goals as goal

pub returns : goal.returns
returns c =
    let facts = c.binary_search_by.ensures in
    let found =
    facts.position (λ s. slice_cmp nat_cmp (string_bytes s) c.args.id.now)
    (always_returns_same _ _ _ (λ a r f called. search rules)) in
    rw (← c.self.view_is, ← c.deref.ensures.value)
    (c.is_ok.ensures.value
    ∙ searched _ c.args.id.now _ (rw c.deref.ensures.value c.self.invariant) facts.bound found)
