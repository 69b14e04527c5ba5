use Rattle.std.proofs.Common.{◌∙◌, ◌<◌, ◌++◌, ◌∷◌, [], ap, sym, subst, arith}
use Rattle.std.proofs.Common.{append_assoc, length, length-append, drop, map}
use Rattle.std.specs.Prelude.{All}
use Rattle.std.proofs.lemmas.List.Elements.{All-tail}
use Rattle.hub_database.specs.Edits.{edit_of}
use Rattle.hub_follow_model.specs.Follower as follow
use Rattle.hub_follower.specs.Fetched.{HasPath}
use Rattle.hub_follower.proofs.Opening.{refused_later}
use Rattle.hub_follower.proofs.phase.first_refusal.Goals as goal

pub loop-doc-preserved : goal.loop-doc-preserved
loop-doc-preserved c =
    let i = c.loop-doc.invariant in
    let step = c.in-Some.ensures.steps in
    let rest = c.next.new.self.rest.items in
    let n = ap length i.docs in
    let m = ap length step.0 in
    let below : c.loop-doc.at < length c.args.outcomes.now = omega (
      arith,
      n,
      m,
      i.at,
      c.requires.many,
      length-append c.loop-doc.yielded c.loop-doc.doc-iterator.rest.items,
    ) in
    record {
      at = omega (arith, i.at, length-append c.loop-doc.yielded (c.in-Some.doc ∷ []));
      docs =
          append_assoc c.loop-doc.yielded (c.in-Some.doc ∷ []) rest
          ∙ (ap (λ ds. c.loop-doc.yielded ++ ds) (sym step.0) ∙ i.docs);
      left =
          sym (refused_later c.args.outcomes.now c.loop-doc.at c.result-1.given.0 (edit_of c.in-Some.doc)
          (map edit_of rest) below c.in_default.not-Refused)
          ∙ (ap (λ ds. follow.first_refusal (map edit_of ds) (drop c.loop-doc.at c.args.outcomes.now))
          (sym step.0)
          ∙ i.left);
      paths = All-tail HasPath c.in-Some.doc rest (subst (λ ds. All HasPath ds) step.0 i.paths);
    }
