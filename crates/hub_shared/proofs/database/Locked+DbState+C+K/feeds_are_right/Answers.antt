use Rattle.std.proofs.Common.{◌≡◌, sym, subst, Some}
use Rattle.hub_database.specs.Handing.{IsFitting}
use Rattle.hub_model.specs.Entries.{entry_in}
use Rattle.hub_shared.proofs.Serving.{sender_of}
use Rattle.hub_shared.proofs.database.Locked+DbState+C+K.feeds_are_right.Goals as goal

pub returns-clause-served : goal.returns-clause-served
returns-clause-served g c number f is =
    let db = c.self.inside.state in
    let senders = c.self.inside.subscribers.items in
    let here : entry_in number db.feeds ≡ Some f =
    subst (λ l. entry_in number l.state.feeds ≡ Some f) (sym c.self.view_is) is in
    let s =
    sender_of g.K.Outbox.label g.K.Outbox.items (λ f items. IsFitting db.journal f items)
    (entry_in number db.feeds)
    (entry_in number senders) f here (c.self.invariant.1.each number) in
    (s.0, subst (λ l. entry_in number l.senders ≡ Some s.0) c.self.view_is s.1)
