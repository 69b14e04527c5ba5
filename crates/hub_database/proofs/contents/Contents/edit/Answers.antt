use Rattle.std.proofs.Common.{◌≡◌, Some, false, take, suc, arith, refl, sym, ap, ◌∙◌}
use Rattle.std.specs.Prelude.{option_map, slice_get}
use Rattle.hub_revtree.specs.Extend.{path_to}
use Rattle.hub_revtree.specs.declared.heads.StoredEdit.{StoredEdit}
use Rattle.hub_database.specs.Reads.{doc_shown}
use Rattle.hub_database.specs.Inside.{edits_inside, number_by}
use Rattle.hub_database.proofs.RowLemmas.{get_default}
use Rattle.hub_database.proofs.EntryLemmas.{bare_lent, edit_found, at_sequence, none_lent, path_lent}
use Rattle.hub_database.proofs.contents.Contents.edit.Goals as goal

pub returns-in_default-clause-edit : goal.returns-in_default-clause-edit
returns-in_default-clause-edit c =
    let look = c.in_ok-entry.ensures.lookup in
    let here : slice_get c.self.inside.journal.items c.in_ok-at.at ≡ Some c.in_ok-entry.entry.now =
    get_default c.self.inside.journal.items c.deref.result.now c.in_ok-at.at c.in_ok-entry.entry.now
    c.deref.ensures.value look.3.0
    ∙ ap Some (sym look.1) in
    let found =
    edit_found c.self.inside.limits.journal
    (number_by c.self.inside) c.self.inside.documents.items c.self.inside.journal.items
    c.self.invariant.documents.filed
    c.in_ok-at.at c.in_ok-entry.entry.now here c.index-document.result.now c.index-document.ensures in
    let a = c.in_ok-at.ensures in
    let next : c.args.seq ≡ suc c.in_ok-at.at = omega (arith, a) in
    let entry = found ∙ sym (at_sequence (edits_inside c.self.inside) c.args.seq c.in_ok-at.at next) in
    let none =
    none_lent c.index-document.result.now.id
    (slice_get c.index-document.result.now.tree.edits c.in_ok-entry.entry.now.revision)
    c.in_default.ensures.tip in
    rw (sym c.self.view_is) (rw (sym entry, none) refl)

pub returns-in_default-clause-path : goal.returns-in_default-clause-path
returns-in_default-clause-path c =
    let look = c.in_ok-entry.ensures.lookup in
    let here : slice_get c.self.inside.journal.items c.in_ok-at.at ≡ Some c.in_ok-entry.entry.now =
    get_default c.self.inside.journal.items c.deref.result.now c.in_ok-at.at c.in_ok-entry.entry.now
    c.deref.ensures.value look.3.0
    ∙ ap Some (sym look.1) in
    let found =
    edit_found c.self.inside.limits.journal
    (number_by c.self.inside) c.self.inside.documents.items c.self.inside.journal.items
    c.self.invariant.documents.filed
    c.in_ok-at.at c.in_ok-entry.entry.now here c.index-document.result.now c.index-document.ensures in
    let a = c.in_ok-at.ensures in
    let next : c.args.seq ≡ suc c.in_ok-at.at = omega (arith, a) in
    let entry = found ∙ sym (at_sequence (edits_inside c.self.inside) c.args.seq c.in_ok-at.at next) in
    let none =
    none_lent c.index-document.result.now.id
    (slice_get c.index-document.result.now.tree.edits c.in_ok-entry.entry.now.revision)
    c.in_default.ensures.tip in
    rw (sym c.self.view_is) (rw (sym entry, none) refl)

pub returns-clause-edit : goal.returns-clause-edit
returns-clause-edit c =
    let look = c.in_ok-entry.ensures.lookup in
    let here : slice_get c.self.inside.journal.items c.in_ok-at.at ≡ Some c.in_ok-entry.entry.now =
    get_default c.self.inside.journal.items c.deref.result.now c.in_ok-at.at c.in_ok-entry.entry.now
    c.deref.ensures.value look.3.0
    ∙ ap Some (sym look.1) in
    let found =
    edit_found c.self.inside.limits.journal
    (number_by c.self.inside) c.self.inside.documents.items c.self.inside.journal.items
    c.self.invariant.documents.filed
    c.in_ok-at.at c.in_ok-entry.entry.now here c.index-document.result.now c.index-document.ensures in
    let a = c.in_ok-at.ensures in
    let next : c.args.seq ≡ suc c.in_ok-at.at = omega (arith, a) in
    let entry = found ∙ sym (at_sequence (edits_inside c.self.inside) c.args.seq c.in_ok-at.at next) in
    rw (sym c.self.view_is)
    (bare_lent {A = StoredEdit} c.index-document.result.now.id (λ e. e.rev) (λ e. e.deleted)
    (λ e. e.body.now) c.in-Some.edit
    (slice_get c.index-document.result.now.tree.edits c.in_ok-entry.entry.now.revision) c.in-Some.ensures.tip
    ∙ ap (option_map (doc_shown false)) entry)

pub returns-clause-path : goal.returns-clause-path
returns-clause-path c =
    let look = c.in_ok-entry.ensures.lookup in
    let here : slice_get c.self.inside.journal.items c.in_ok-at.at ≡ Some c.in_ok-entry.entry.now =
    get_default c.self.inside.journal.items c.deref.result.now c.in_ok-at.at c.in_ok-entry.entry.now
    c.deref.ensures.value look.3.0
    ∙ ap Some (sym look.1) in
    let found =
    edit_found c.self.inside.limits.journal
    (number_by c.self.inside) c.self.inside.documents.items c.self.inside.journal.items
    c.self.invariant.documents.filed
    c.in_ok-at.at c.in_ok-entry.entry.now here c.index-document.result.now c.index-document.ensures in
    let a = c.in_ok-at.ensures in
    let next : c.args.seq ≡ suc c.in_ok-at.at = omega (arith, a) in
    let entry = found ∙ sym (at_sequence (edits_inside c.self.inside) c.args.seq c.in_ok-at.at next) in
    rw (sym c.self.view_is)
    (path_lent c.index-document.result.now.id
    (option_map (take c.in-Some.edit.count)
    (path_to c.index-document.result.now.tree.edits c.in-Some.edit.rev))
    (slice_get c.index-document.result.now.tree.edits c.in_ok-entry.entry.now.revision) c.in-Some.ensures.path
    ∙ ap (option_map (λ e. Some e.path)) entry)
