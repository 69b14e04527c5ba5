use Rattle.std.proofs.Common.{◌≡◌, ◌∙◌, ◌∷◌, ◌++◌, [], List, ap, sym, map, rules, take}
use Rattle.hub_database.specs.Edits.{edit_of}
use Rattle.hub_document.specs.declared.doc.Doc.{Doc}
use Rattle.hub_model.specs.Outcome.{merges_all}
use Rattle.hub_follower.proofs.Rebuilding.{added}
use Rattle.hub_follower.proofs.rebuilt.add_edit.Goals as goal

pub returns : goal.returns
returns c =
    let copy = c.args.copy.now in
    let doc = c.in-Some.doc in
    let one : c.as_slice.result.now ≡ doc ∷ [] =
    c.as_slice.ensures.value
    ∙ (c.in_ok-push.ensures.items ∙ ap (λ (docs : List Doc). docs ++ doc ∷ []) c.new-docs.ensures.items) in
    let grown =
    added c.args.db.now.journal copy c.merged.new.db doc c.args.seq c.in_ok-merged.field-0
    c.requires.copy.copy
    c.requires.next c.requires.copy.within (sym c.in-Some.is ∙ c.in_ok-doc.ensures.doc)
    (ap (λ docs. merges_all copy.limits.journal copy.journal (map edit_of docs)) (sym one)
    ∙ c.in_ok-merged.ensures.ok) c.in_ok-merged.ensures.rest in
    record {
      copy = grown.0;
      count = grown.1;
      first = grown.0.first ∙ ap (λ n. take n c.args.db.now.journal) grown.1;
      memory = search rules;
    }
