use Rattle.std.proofs.Common.{◌∷◌, ◌++◌, [], length, sym, subst}
use Rattle.hub_model.specs.Entries.{entry_in}
use Rattle.hub_updates.specs.Log.{Updates, IsFitting, hosted_of}
use Rattle.hub_updates.proofs.NoteLemmas.{fitting_noted}
use Rattle.hub_shared.specs.Locked.{AreSendersOf}
use Rattle.hub_shared.proofs.Booking.{counts_nothing}
use Rattle.hub_shared.proofs.Outcomes.{either_way}
use Rattle.hub_shared.proofs.Serving.{stays_served}
use Rattle.hub_shared.proofs.updates.Locked+UpdatesState.note.Goals as goal

pub invariant_of-self : goal.invariant_of-self
invariant_of-self c =
    let senders = c.self.inside.subscribers.items in
    let old : Updates = c.self.inside.state in
    let new : Updates = c.note.new.self in
    let d = c.self.invariant.1 in (
      c.self.invariant.0,
      either_way c.note.result c.note.ensures.ok c.note.ensures.err
          (λ ok. subst (λ (log : Updates).
          AreSendersOf (λ s. s.label) (λ s. s.sent) (λ f items. IsFitting log.notes f items) (hosted_of log)
          senders) (sym ok) (record {
            rising = d.rising;
            given = d.given;
            each = λ n. stays_served (λ s. s.label) (λ s. s.sent) (λ f items. IsFitting old.notes f items)
                (λ f items. IsFitting (old.notes ++ c.args.notice ∷ []) f items)
                (fitting_noted old.notes c.args.notice) (entry_in n old.feeds)
                (entry_in n senders) (d.each n);
          }))
          (λ e err. subst (λ (log : Updates).
          AreSendersOf (λ s. s.label) (λ s. s.sent) (λ f items. IsFitting log.notes f items) (hosted_of log)
          senders) (sym err.1) d),
      counts_nothing (length new.notes),
    )
