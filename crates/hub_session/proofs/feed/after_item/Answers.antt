use Rattle.std.proofs.Common.{[], ◌∷◌, ◌∙◌, false, true, sym, subst}
use Rattle.std.proofs.KnownBytes.{Appends-nil, Appends-kept, Appends-trans}
use Rattle.std.specs.Io.KnownBytes.{Appends}
use Rattle.std.specs.Prelude.{is_err}
use Rattle.hub_session.specs.Feeds.{SendsNext, Streams}
use Rattle.hub_session.proofs.FeedLemmas.{back_as_told, item_finished, none_sent, stream_fails, one_sent}
use Rattle.hub_session.proofs.feed.after_item.Goals as goal

pub returns-in_default-clause-sent : goal.returns-in_default-clause-sent
returns-in_default-clause-sent g c = λ from start count told.
    let none =
    subst (λ o. SendsNext g.S.Service.rules.gives g.W.Output.written g.W.Output.fault_count
    g.W.Output.failure_count c.args.sending o from c.args.service.now start c.args.writer.now) c.in_default.is told
    in (
      [],
      Streams.stops c.args.service.now none.0 c.drop_stream.ensures,
      subst (λ w. Appends (g.W.Output.written w) (g.W.Output.written c.send.new.writer) []) none.2
          (none_sent (is_err c.send.result) _ _ c.send.ensures.sent),
    )

pub returns-in-Err-NoMemory-clause-sent : goal.returns-in-Err-NoMemory-clause-sent
returns-in-Err-NoMemory-clause-sent g c = λ from start count told.
    let some =
    subst (λ o. SendsNext g.S.Service.rules.gives g.W.Output.written g.W.Output.fault_count
    g.W.Output.failure_count c.args.sending o from c.args.service.now start c.args.writer.now) c.in-Some.is told in
    let whole =
    item_finished _ _ _ c.args.sending some.0 c.in-Some.item _ start _ _ some.2 c.finish_item.ensures in
    let kept = rw (c.in-Err-NoMemory.is, c.in-Err-NoMemory.field-0-is) at whole in (
      [],
      Streams.loses c.args.service.now some.0 some.1
          (back_as_told g.S.Service.rules some.0 _ _ _ some.2.end c.give_back.ensures),
      Appends-trans _ _ _ [] [] (Appends-kept _ _ _ [] (Appends-nil _) kept)
          (none_sent (is_err c.send-in-Err-NoMemory.result) _ _ c.send-in-Err-NoMemory.ensures.sent),
    )

pub returns-in-Err-IoFault-clause-sent : goal.returns-in-Err-IoFault-clause-sent
returns-in-Err-IoFault-clause-sent g c = λ from start count told.
    let some =
    subst (λ o. SendsNext g.S.Service.rules.gives g.W.Output.written g.W.Output.fault_count
    g.W.Output.failure_count c.args.sending o from c.args.service.now start c.args.writer.now) c.in-Some.is told in
    let whole =
    item_finished _ _ _ c.args.sending some.0 c.in-Some.item _ start _ _ some.2 c.finish_item.ensures in
    let front = rw (c.in-Err-IoFault.is, c.in-Err-IoFault.field-0-is) at whole in (
      some.0 ∷ [],
      stream_fails g.S.Service.rules count from c.args.service.now _ some.0 some.1
          (back_as_told g.S.Service.rules some.0 _ _ _ some.2.end c.give_back-in-Err-IoFault.ensures),
      one_sent _ _ _ some.0 true _ _ front,
    )

pub returns-then-item-clause-sent : goal.returns-then-item-clause-sent
returns-then-item-clause-sent g c = λ from start count told.
    let some =
    subst (λ o. SendsNext g.S.Service.rules.gives g.W.Output.written g.W.Output.fault_count
    g.W.Output.failure_count c.args.sending o from c.args.service.now start c.args.writer.now) c.in-Some.is told in
    let whole =
    item_finished _ _ _ c.args.sending some.0 c.in-Some.item _ start _ _ some.2 c.finish_item.ensures in
    let sent = rw c.in-Ok.is at whole in (
      some.0 ∷ [],
      Streams.ends some.1 (sym some.2.end ∙ c.if-item.true),
      one_sent _ _ _ some.0 false _ _ sent,
    )
