use Rattle.std.proofs.Common.{◌≡◌, ◌∙◌, ◌+◌, ◌∷◌, ◌++◌, [], None}
use Rattle.std.proofs.Common.{ap, sym, refl, length, arith, rules, subst, nat_le}
use Rattle.std.specs.Prelude.{OnErr}
use Rattle.std.proofs.lemmas.List.{map-append}
use Rattle.hub_index.specs.Order.{IsOrder, with_number}
use Rattle.hub_index.specs.Rows.{rows_after_move}
use Rattle.hub_model.specs.declared.outcomes.Outcome.TheVariants.{Stored}
use Rattle.hub_database.specs.Database.{Contents}
use Rattle.hub_database.specs.Documents.{filed_document, files, one_if}
use Rattle.hub_database.specs.Filed.{FiledDocument}
use Rattle.hub_database.specs.Inside.{IsWhole, edits_inside, first_setting, ids_in, number_by}
use Rattle.hub_database.specs.Looked.{NeedsRoomFor, journal_after, look_at, look_in, outcome_of}
use Rattle.hub_database.specs.Looked.{stores_edit, unless_full}
use Rattle.hub_database.specs.declared.contents.Contents.TheInside.{Inside}
use Rattle.hub_database.specs.declared.document.Looked.TheVariants.{Refused}
use Rattle.hub_database.proofs.IndexedLemmas.{rows_below}
use Rattle.hub_database.proofs.ReadyLemmas.{ready_needs}
use Rattle.hub_database.proofs.StoreLemmas.{err_then, first_said, first_stored, inserted_whole, needs_first}
use Rattle.hub_database.proofs.StoreLemmas.{no_number, no_row, on_err, same_whole}
use Rattle.hub_database.proofs.contents.Contents.insert.Goals as goal

pub returns-in_err-look : goal.returns-in_err-look
returns-in_err-look c =
    let s = c.self.inside in
    let absent =
    no_number s c.self.invariant.documents c.args.id (rw (sym c.self.view_is) at c.requires.new) in
    record {
      ok = search rules;
      rest = search rules;
      err = search rules;
      memory =
          on_err c.from_residual.result _
          (subst (λ (contents : Contents). NeedsRoomFor contents.journal c.args.id c.args.edit) c.self.view_is
          (needs_first s c.self.invariant.documents c.args.id absent c.args.edit
          (subst (λ (z : FiledDocument). NeedsRoomFor z.edits [] c.args.edit) c.new-document.ensures
          c.in_err-look.ensures.memory)));
    }

pub enter-requires-clause-new : goal.enter-requires-clause-new
enter-requires-clause-new c =
    let s = c.self.inside in
    let absent =
    no_number s c.self.invariant.documents c.args.id (rw (sym c.self.view_is) at c.requires.new) in
    subst (λ id. number_by s id ≡ None) (sym (ap (λ (z : FiledDocument). z.id) c.new-document.ensures)) absent

pub enter-requires-clause-row : goal.enter-requires-clause-row
enter-requires-clause-row c =
    let s = c.self.inside in
    record {
      own = no_row s c.self.invariant.rows;
      above = rows_below (files s.documents.items) s.journal.items s.index c.self.invariant.rows;
    }

pub invariant_of-self : goal.invariant_of-self
invariant_of-self c =
    let e = c.in_err-number-in-Ready.ensures.err in
    (same_whole c.self.inside _ c.self.invariant
    (record {
      documents = ap files c.enter.ensures.documents;
      numbers = e.0;
      journal = c.enter.ensures.journal;
      deleted = refl;
      index = e.1;
    })
    refl).0

pub returns-in_err-number-in-Ready : goal.returns-in_err-number-in-Ready
returns-in_err-number-in-Ready c =
    let s = c.self.inside in
    let result = c.from_residual-in_err-number-in-Ready.result in
    let absent =
    no_number s c.self.invariant.documents c.args.id (rw (sym c.self.view_is) at c.requires.new) in
    record {
      ok = search rules;
      rest = search rules;
      err = search rules;
      memory =
          err_then result
          (λ needs. subst (λ (contents : Contents). NeedsRoomFor contents.journal c.args.id c.args.edit)
          c.self.view_is (needs_first s c.self.invariant.documents c.args.id absent c.args.edit needs))
          (subst (λ (z : FiledDocument). OnErr result (NeedsRoomFor z.edits [] c.args.edit)) c.new-document.ensures
          (ready_needs result c.new-document.result.id c.new-document.result.tree.edits _ c.args.edit
          c.in_ok-look.field-0 c.in-Ready.ready c.in-Ready.is c.in_ok-look.ensures.storable
          c.in_ok-look.ensures.looked));
    }

pub returns-in-Refused : goal.returns-in-Refused
returns-in-Refused c =
    let s = c.self.inside in
    let limit = s.limits.journal in
    let id = c.args.id in
    let edit = c.args.edit in
    let d = c.new-document.result in
    let absent = no_number s c.self.invariant.documents id (rw (sym c.self.view_is) at c.requires.new) in
    let many : c.len.result ≡ length s.journal.items =
    omega (arith, c.len.ensures, s.journal.ok.0) in
    let refused : look_in limit (first_setting id s) edit ≡ Refused c.in-Refused.fault =
    sym
    (c.in_ok-look.ensures.looked
    ∙ (ap (λ n. unless_full (nat_le limit n) (look_at d.id d.tree.edits edit)) many
    ∙ ap (λ (z : FiledDocument). unless_full (nat_le limit (length s.journal.items)) (look_at z.id z.edits edit))
    c.new-document.ensures))
    ∙ c.in-Refused.is in
    record {
      ok =
          rw (sym c.self.view_is)
          (subst (λ look. stores_edit limit (edits_inside s) id edit
          ≡ record { outcome = outcome_of look; journal = journal_after look id (edits_inside s) }) refused
          (first_said s c.self.invariant.documents id absent edit));
      rest = search rules;
      err = search rules;
      memory = search rules;
    }

-- the fields with the document that was taken in
abbrev after : goal.After-push_reserved → Inside
after c = record c.self.inside {
  documents = c.push_reserved.new.self;
  numbers = c.enter.new.numbers;
  hints = c.remember.new.self;
  journal = c.take-rev.new.journal;
  index = c.enter.new.index;
  deleted = c.recounted-self-inside.result;
}

-- the invariant and the outcome, by these fields
left : (c : goal.After-push_reserved) → IsWhole (after c)
    × (stores_edit c.self.inside.limits.journal (edits_inside c.self.inside) c.args.id c.args.edit
    ≡ record { outcome = Stored c.take-rev.result; journal = edits_inside (after c) })
left c =
    let old = c.self.inside in
    let look = c.in_ok-look.ensures in
    let d = c.new-document.result in
    let entered = c.in_ok-number-in-Ready.ensures in
    let number = c.in_ok-number-in-Ready.number in
    let absent =
    no_number old c.self.invariant.documents c.args.id (rw (sym c.self.view_is) at c.requires.new) in
    let many : c.len.result ≡ length old.journal.items =
    omega (arith, c.len.ensures, old.journal.ok.0) in
    let named : d.id ≡ c.args.id = ap (λ (z : FiledDocument). z.id) c.new-document.ensures in
    inserted_whole old (after c) c.self.invariant c.args.id absent c.args.edit (Stored c.take-rev.result)
    (first_stored c.args.id c.args.edit old (after c) (filed_document d) (filed_document c.take-rev.new.self)
    c.in_ok-look.field-0 c.in-Ready.ready c.take-rev.result number c.new-document.ensures
    (look.looked
    ∙ ap (λ n. unless_full (nat_le old.limits.journal n) (look_at d.id d.tree.edits c.args.edit)) many)
    c.in-Ready.is look.storable c.take-rev.ensures.rev
    (c.take-rev.ensures.filed
    ∙ (ap (λ n. record { id = d.id; latest = n + 1; edits = c.look.new.tree.edits ++ c.in-Ready.ready ∷ [] })
    (ap length c.enter.ensures.journal)
    ∙ ap (λ es. record {
      id = d.id;
      latest = length old.journal.items + 1;
      edits = es ++ c.in-Ready.ready ∷ [];
    }) look.edits))
    entered.next
    (ap files c.push_reserved.ensures.items
    ∙ (map-append filed_document c.enter.new.documents.items (_ ∷ [])
    ∙ ap (λ ds. files ds ++ filed_document c.take-rev.new.self ∷ []) c.enter.ensures.documents))
    (c.take-rev.ensures.journal
    ∙ (ap (λ es. es ++ record { document = number; revision = length c.look.new.tree.edits } ∷ [])
    c.enter.ensures.journal
    ∙ ap (λ es. old.journal.items ++ record { document = number; revision = length es } ∷ []) look.edits))
    c.self.invariant.documents.order absent
    (entered.numbers
    ∙ (ap (λ i. with_number (ids_in old) old.numbers i (length old.documents.items)) named
    ∙ ap (with_number (ids_in old) old.numbers c.args.id) (sym entered.next)))
    (subst (λ i. IsOrder (ids_in old ++ i ∷ []) c.enter.new.numbers) named entered.order)
    (omega (arith, c.recounted-self-inside.ensures, ap one_if c.is_deleted.ensures.mark))
    (entered.index ∙ ap (λ n. rows_after_move old.index n (length old.journal.items + 1)) (sym entered.next)))
    refl

pub invariant_of-self-in-Ready : goal.invariant_of-self-in-Ready
invariant_of-self-in-Ready c = (left c).0

pub returns-in_ok-number-in-Ready : goal.returns-in_ok-number-in-Ready
returns-in_ok-number-in-Ready c = record {
  ok = rw (sym c.self.view_is) (left c).1;
  rest = search rules;
  err = search rules;
  memory = search rules;
}
