use Rattle.std.proofs.Common.{◌≡◌, ◌∙◌, ◌<◌, ◌++◌, ◌∷◌, [], ap, sym, subst, arith}
use Rattle.std.proofs.Common.{append_assoc, length, length-append, ◌+◌, drop, Err, get_or}
use Rattle.std.specs.Prelude.{All, string_bytes}
use Rattle.std.proofs.lemmas.List.{drop_more}
use Rattle.std.proofs.lemmas.List.Elements.{All-tail}
use Rattle.hub_model.specs.Missing.{RevisionsOfDoc}
use Rattle.hub_model.specs.Revision.{Revision}
use Rattle.hub_database.specs.declared.answers.OpenRev.TheVariants.{Found, Missing}
use Rattle.hub_follow_model.specs.Follower as follow
use Rattle.hub_follower.specs.Fetched.{FoundHasPath}
use Rattle.hub_follower.proofs.Opening.{opens, opens_ok, opens_err, opens_end, none_left}
use Rattle.hub_follower.proofs.phase.documents_behind.Goals as goal

pub loop-opened-preserved : goal.loop-opened-preserved
loop-opened-preserved c =
    let i = c.loop-opened.invariant in
    let step = c.in-Some.ensures.steps in
    let at = c.loop-opened.at in
    let revs = c.args.asked.revs in
    let rest = c.next.new.self.rest.items in
    let doc = c.in-Found.doc in
    let got = c.loop-opened.got in
    let n = ap length i.found in
    let m = ap length step.0 in
    let below : at < length revs = omega (
      arith,
      n,
      m,
      i.at,
      c.requires.many,
      length-append c.loop-opened.yielded c.loop-opened.opened-iterator.rest.items,
    ) in
    let first : Revision = record { generation = 0; hash = [] } in
    let here : c.loop-opened.opened-iterator.rest.items ≡ Found doc ∷ rest =
    step.0 ∙ ap (λ z. z ∷ rest) c.in-Found.is in
    let bring = subst (λ z. All FoundHasPath z) here i.bring in
    record {
      at = omega (arith, i.at, length-append c.loop-opened.yielded (c.in-Some.opened ∷ []));
      found =
          append_assoc c.loop-opened.yielded (c.in-Some.opened ∷ []) rest
          ∙ (ap (λ z. c.loop-opened.yielded ++ z) (sym step.0) ∙ i.found);
      left = ap (λ z. opens c.args.asked.id (drop (at + 1) revs) rest z) c.in_ok-push-in-Found.ensures.items
          ∙ (ap (λ z. opens c.args.asked.id z (Found doc ∷ rest) got) (sym (drop_more revs at first below))
          ∙ (ap (λ z. opens c.args.asked.id (drop at revs) z got) (sym here) ∙ i.left));
      bring = All-tail FoundHasPath (Found doc) rest bring;
    }

pub returns-in-Missing-clause-err : goal.returns-in-Missing-clause-err
returns-in-Missing-clause-err c =
    let i = c.loop-opened.invariant in
    let step = c.in-Some.ensures.steps in
    let at = c.loop-opened.at in
    let revs = c.args.asked.revs in
    let rest = c.next.new.self.rest.items in
    let got = c.loop-opened.got in
    let n = ap length i.found in
    let m = ap length step.0 in
    let below : at < length revs = omega (
      arith,
      n,
      m,
      i.at,
      c.requires.many,
      length-append c.loop-opened.yielded c.loop-opened.opened-iterator.rest.items,
    ) in
    let here : c.loop-opened.opened-iterator.rest.items ≡ Missing c.in-Missing.field-0 ∷ rest =
    step.0 ∙ ap (λ asked. asked ∷ rest) c.in-Missing.is in
    let first = c.index-as_slice-at.result in
    let listed : c.as_slice.result.now ≡ revs =
    c.as_slice.ensures ∙ ap (λ (asked : RevisionsOfDoc). asked.revs) c.asked.view_is in
    let named : string_bytes c.asked.inside.id ≡ c.args.asked.id = ap
    (λ (asked : RevisionsOfDoc). asked.id) c.asked.view_is in
    let is : get_or revs at first ≡ first =
    ap (λ asked. get_or asked at first) (sym listed) ∙ sym c.index-as_slice-at.is in
    let whole : opens c.args.asked.id revs c.args.found c.args.got
    ≡ Err (follow.MissingRevision c.args.asked.id (get_or revs at first)) =
    sym i.left
    ∙ (ap (λ asked. opens c.args.asked.id (drop at revs) asked got) here
    ∙ ap (λ asked. opens c.args.asked.id asked (Missing c.in-Missing.field-0 ∷ rest) got)
    (drop_more revs at first below)) in
    opens_err c.args.asked.id revs c.args.found c.args.got _ c.requires.many whole
    ∙ (ap (λ asked. Err (follow.MissingRevision asked (get_or revs at first))) (sym named)
    ∙ ap (λ asked. Err (follow.MissingRevision (string_bytes c.asked.inside.id) asked)) is)

pub returns-clause-ok : goal.returns-clause-ok
returns-clause-ok c =
    let i = c.loop-opened.invariant in
    opens_ok c.args.asked.id c.args.asked.revs c.args.found c.args.got
    c.loop-opened.got c.requires.many
    (sym i.left
    ∙ opens_end c.args.asked.id
    (drop c.loop-opened.at c.args.asked.revs) c.loop-opened.opened-iterator.rest.items c.loop-opened.got
    (none_left c.loop-opened.opened-iterator.rest.items
    (sym c.loop-opened.opened-iterator.rest.ok.0 ∙ c.in-None.ensures.steps.0)))
