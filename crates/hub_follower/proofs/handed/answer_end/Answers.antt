use Rattle.std.proofs.Common.{◌∙◌, ◌<◌, List, ap, sym, subst, length, rules}
use Rattle.hub_model.specs.Journal.{Edit}
use Rattle.hub_model.specs.RightlyHanded.{rows_of}
use Rattle.hub_follower.specs.Handed.{numbered_end, are_listed}
use Rattle.hub_follower.specs.Listing.{all_above}
use Rattle.hub_follower.proofs.Deciding.{decided, licensed, not_numbered, not_shown, not_listed}
use Rattle.hub_follower.proofs.Rebuilding.{whole_rebuilt}
use Rattle.hub_follower.proofs.handed.answer_end.Goals as goal

pub returns-in-None : goal.returns-in-None
returns-in-None c =
    let since = c.args.since in
    let items = c.args.items.now in
    record {
      right = tt;
      wrong = λ _ rows last. not_numbered c.args.db.now.journal since items
          (c.in-None.ensures ∙ ap (λ n. numbered_end n since items) c.update_seq.ensures.value) rows last;
      memory = tt;
    }

pub returns-in_err-are_shown : goal.returns-in_err-are_shown
returns-in_err-are_shown c =
    let since = c.args.since in
    let items = c.args.items.now in
    record {
      right = search rules;
      wrong = search rules;
      memory = licensed c.args.db.now.journal since items c.from_residual.result c.in-Some.last
          c.in_err-are_shown.ensures.memory
          (sym (c.in-Some.ensures ∙ ap (λ n. numbered_end n since items) c.update_seq.ensures.value));
    }

pub returns-then-not-branch : goal.returns-then-not-branch
returns-then-not-branch c = record {
  right = tt;
  wrong = λ _ rows last. not_shown c.args.db.now.journal c.args.since c.args.items.now
      (sym c.in_ok-are_shown.ensures.ok ∙ c.if-not-branch.true) rows last;
  memory = tt;
}

pub returns-in_err-rebuild : goal.returns-in_err-rebuild
returns-in_err-rebuild c =
    let since = c.args.since in
    let items = c.args.items.now in
    record {
      right = search rules;
      wrong = search rules;
      memory = licensed c.args.db.now.journal since items c.from_residual-in_err-rebuild.result
          c.in-Some.last c.in_err-rebuild.ensures.memory
          (sym (c.in-Some.ensures ∙ ap (λ n. numbered_end n since items) c.update_seq.ensures.value));
    }

pub returns-in_err-rows : goal.returns-in_err-rows
returns-in_err-rows c =
    let J = c.args.db.now.journal in
    let since = c.args.since in
    let items = c.args.items.now in
    let whole =
    c.in_ok-rebuild.ensures.first ∙ whole_rebuilt J c.update_seq-2.result c.update_seq-2.ensures.value in
    record {
      right = search rules;
      wrong = search rules;
      memory = licensed J since items c.from_residual-in_err-rows.result c.in-Some.last
          (subst (λ (edits : List Edit). 0 < length edits) whole c.in_err-rows.ensures.memory)
          (sym (c.in-Some.ensures ∙ ap (λ n. numbered_end n since items) c.update_seq.ensures.value));
    }

pub returns-then-are_listed : goal.returns-then-are_listed
returns-then-are_listed c =
    let J = c.args.db.now.journal in
    let since = c.args.since in
    let items = c.args.items.now in
    let last = c.in-Some.last in
    let whole =
    c.in_ok-rebuild.ensures.first ∙ whole_rebuilt J c.update_seq-2.result c.update_seq-2.ensures.value in
    let same =
    c.as_slice.ensures.value ∙
    (c.in_ok-rows.ensures.ok ∙ ap (λ (edits : List Edit). all_above edits since) whole) in
    record {
      right = decided J since items last
          (sym (c.in-Some.ensures ∙ ap (λ n. numbered_end n since items) c.update_seq.ensures.value))
          (sym c.in_ok-are_shown.ensures.ok ∙ c.if-not-branch.false)
          (ap (are_listed last (rows_of items)) (sym same)
          ∙ (sym c.are_listed.ensures ∙ c.if-are_listed.true));
      wrong = search rules;
      memory = tt;
    }

pub returns : goal.returns
returns c =
    let J = c.args.db.now.journal in
    let since = c.args.since in
    let items = c.args.items.now in
    let last = c.in-Some.last in
    let whole =
    c.in_ok-rebuild.ensures.first ∙ whole_rebuilt J c.update_seq-2.result c.update_seq-2.ensures.value in
    let same =
    c.as_slice.ensures.value ∙
    (c.in_ok-rows.ensures.ok ∙ ap (λ (edits : List Edit). all_above edits since) whole) in
    record {
      right = tt;
      wrong = λ _ rows other. not_listed J since items last
          (sym (c.in-Some.ensures ∙ ap (λ n. numbered_end n since items) c.update_seq.ensures.value))
          (ap (are_listed last (rows_of items)) (sym same)
          ∙ (sym c.are_listed.ensures ∙ c.if-are_listed.false)) rows other;
      memory = tt;
    }
