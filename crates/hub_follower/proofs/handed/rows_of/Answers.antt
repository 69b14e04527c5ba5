use Rattle.std.proofs.Common.{◌∙◌, ◌++◌, ◌∷◌, [], List, ap, sym, append_assoc}
use Rattle.hub_model.specs.RightlyHanded.{rows_of, ChangeItem}
use Rattle.hub_model.specs.Row.{ChangeRow}
use Rattle.hub_model.proofs.Items.{rows_of-row, rows_of-beat, rows_of-end}
use Rattle.hub_follower.proofs.handed.rows_of.Goals as goal

pub loop-item-preserved-in-Continue-1 : goal.loop-item-preserved-in-Continue-1
loop-item-preserved-in-Continue-1 c =
    let i = c.loop-item.invariant in
    let so_far = c.loop-item.yielded in
    let item = c.in-Some.item in
    let row = c.in-Row.row in
    let step = c.in-Some.ensures.steps in
    let rest = c.next.new.self.rest.items in
    record {
      made =
          c.in_ok-push-in-Row.ensures.items
          ∙ (ap (λ (z : List ChangeRow). z ++ row ∷ []) i.made
          ∙ (sym (rows_of-row so_far row)
          ∙ ap (λ (z : ChangeItem). rows_of (so_far ++ z ∷ [])) (sym c.in-Row.is)));
      items = append_assoc so_far (item ∷ []) rest ∙ (ap (λ z. so_far ++ z) (sym step.0) ∙ i.items);
    }

pub loop-item-preserved-in-Beat : goal.loop-item-preserved-in-Beat
loop-item-preserved-in-Beat c =
    let i = c.loop-item.invariant in
    let so_far = c.loop-item.yielded in
    let item = c.in-Some.item in
    let step = c.in-Some.ensures.steps in
    let rest = c.next.new.self.rest.items in
    record {
      made =
          i.made
          ∙ (sym (rows_of-beat so_far)
          ∙ ap (λ (z : ChangeItem). rows_of (so_far ++ z ∷ [])) (sym c.in-Beat.is));
      items = append_assoc so_far (item ∷ []) rest ∙ (ap (λ z. so_far ++ z) (sym step.0) ∙ i.items);
    }

pub loop-item-preserved : goal.loop-item-preserved
loop-item-preserved c =
    let i = c.loop-item.invariant in
    let so_far = c.loop-item.yielded in
    let item = c.in-Some.item in
    let step = c.in-Some.ensures.steps in
    let rest = c.next.new.self.rest.items in
    record {
      made =
          i.made
          ∙ (sym (rows_of-end so_far c.in-End.last_seq c.in-End.pending)
          ∙ ap (λ (z : ChangeItem). rows_of (so_far ++ z ∷ [])) (sym c.in-End.is));
      items = append_assoc so_far (item ∷ []) rest ∙ (ap (λ z. so_far ++ z) (sym step.0) ∙ i.items);
    }
