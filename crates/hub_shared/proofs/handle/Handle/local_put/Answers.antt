use Rattle.std.proofs.Common.{◌<◌, length, sym, subst, rules}
use Rattle.std.specs.Prelude.{IfErr}
use Rattle.hub_database.specs.Database.{Database}
use Rattle.hub_database.specs.Handing.{IsFitting}
use Rattle.hub_database.specs.Hosting.{hosted_of}
use Rattle.hub_database.specs.Locals.{local_of}
use Rattle.hub_shared.specs.Locals.{IsLocalFault}
use Rattle.hub_shared.specs.Locked.{AreSendersOf, IsBookOf}
use Rattle.hub_shared.proofs.Counting.{next_above, one_of_three}
use Rattle.hub_shared.proofs.Outcomes.{either, ok_by, err_by}
use Rattle.hub_shared.proofs.handle.Handle.local_put.Goals as goal

-- local documents change neither the journal nor the feeds
pub invariant_of-locked : goal.invariant_of-locked
invariant_of-locked g c =
    let senders = c.locked-2.inside.subscribers.items in
    let total = g.C.Count.total c.locked-2.inside.book in
    let Holds : Database → Type 0 = λ db.
    AreSendersOf (λ s. s.label) (λ s. s.sent) (λ f items. IsFitting db.journal f items) (hosted_of db)
    senders
    × IsBookOf g.C.Count.counts total (length db.journal) in
    let kept : Holds c.locked-2.inside.state = (c.locked-2.invariant.1, c.locked-2.invariant.2) in
    let holds =
    either {Z = Holds c.local_put.new.self} c.local_put.result c.local_put.ensures.ok c.local_put.ensures.err
    (λ count ok. subst Holds (sym ok.2) kept) (λ e err. subst Holds (sym err.0) kept) in
    (c.locked-2.invariant.0, holds.0, holds.1)

pub returns-clause-ok : goal.returns-clause-ok
returns-clause-ok g c =
    ok_by c.local_put.result (λ count is. (c.locked-2.inside.state, is.0, is.1)) c.local_put.ensures.ok

pub returns-clause-once : goal.returns-clause-once
returns-clause-once g c =
    let db : Database = c.locked-2.inside.state in
    ok_by c.local_put.result
    (λ count is. subst (λ n. 0 < n) (sym is.1) (next_above (local_of db.locals c.args.doc.id)))
    c.local_put.ensures.ok

pub returns-clause-err : goal.returns-clause-err
returns-clause-err g c =
    let db : Database = c.locked-2.inside.state in
    let told : IfErr c.local_put.result (IsLocalFault db c.args.doc) = search rules in
    err_by c.local_put.result (λ e is. (db, is)) told

pub returns-clause-faults : goal.returns-clause-faults
returns-clause-faults g c =
    let db : Database = c.locked-2.inside.state in
    let told : IfErr c.local_put.result (IsLocalFault db c.args.doc) = search rules in
    err_by c.local_put.result (λ e is. one_of_three db c.args.doc e is) told
