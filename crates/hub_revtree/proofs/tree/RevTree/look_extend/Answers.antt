use Rattle.std.proofs.Common.{◌≡◌, ◌∷◌, ◌+◌, ◌<◌, ◌≤◌, ◌∙◌, arith, sym, ap, inl, inr, refl, subst}
use Rattle.std.specs.Prelude.{Err, Ok}
use Rattle.std.proofs.lemmas.Result.{err_from_is_err_and}
use Rattle.hub_model.specs.Draft.{generation_of, new_revision, parent_of}
use Rattle.hub_model.specs.Journal.{IsAcceptable}
use Rattle.hub_model.specs.Path.{IsHistory}
use Rattle.hub_model.specs.Revision.{Revision}
use Rattle.hub_revtree.specs.Extend.{draft, edit_on_path, line_to}
use Rattle.hub_revtree.specs.Tree.{nameless}
use Rattle.hub_revtree.proofs.BranchLemmas.{within_generation}
use Rattle.hub_revtree.proofs.EditLemmas.{is_taken, is_new, known_conflicts, last_limits}
use Rattle.hub_revtree.proofs.EditLemmas.{new_extends, next_history, next_acceptable}
use Rattle.hub_revtree.proofs.tree.RevTree.look_extend.Goals as goal
use Rattle.hub_revtree.proofs.tree.RevTree.look_extend.Goals.{In-Ok}

-- the revision that is made
made : (c : In-Ok)
    → c.in-Ok.rev ≡ new_revision (draft c.args.id.now c.args.parent c.args.deleted c.args.body)
    (parent_of (line_to c.args.self.now.edits c.in_ok-older.older))
made c =
    c.in-Ok.ensures.ok
    ∙ ap (new_revision (draft c.args.id.now c.args.parent c.args.deleted c.args.body))
    (sym c.in_ok-older.ensures.first)

-- its history
history : (c : In-Ok) → IsHistory (c.in-Ok.rev ∷ line_to c.args.self.now.edits c.in_ok-older.older)
history c =
    subst (λ z. IsHistory (z ∷ line_to c.args.self.now.edits c.in_ok-older.older)) (sym (made c))
    (next_history c.args.self.now.edits c.branches.ensures.tree c.args.id.now c.args.parent c.args.deleted
    c.args.body _ (sym c.in_ok-older.ensures.line))

pub returns-then-knows_digest-clause-err : goal.returns-then-knows_digest-clause-err
returns-then-knows_digest-clause-err c =
    let line = line_to c.args.self.now.edits c.in_ok-older.older in
    let first = c.in_ok-older.ensures.first in
    let rev = made (goal.at.returns-then-knows_digest-clause-err c).In-Ok in
    known_conflicts c.args.self.now.edits
    c.branches.ensures.tree c.args.id.now c.args.parent c.args.deleted c.args.body line
    (sym c.in_ok-older.ensures.line) (subst (λ z. generation_of z < 65535) (sym first) c.in-Ok.ensures.below)
    (is_taken c.args.self.now.edits c.in-Ok.rev _ c.knows_digest.result c.knows_digest.ensures
    rev c.if-knows_digest.true)

pub returns-in_err-older-clause-err : goal.returns-in_err-older-clause-err
returns-in_err-older-clause-err c =
    let p = err_from_is_err_and c.from_residual.result c.from_residual.ensures.1 in
    rw (p.1, p.2, c.in_err-older.ensures.conflict)
    (ap (edit_on_path c.args.self.now.edits
    (draft c.args.id.now c.args.parent c.args.deleted c.args.body)) (sym c.in_err-older.ensures.line))

pub returns-in-Err-clause-err : goal.returns-in-Err-clause-err
returns-in-Err-clause-err c =
    let line = line_to c.args.self.now.edits c.in_ok-older.older in
    let first = c.in_ok-older.ensures.first in
    elim c.in-Err.ensures.err [
      | inl none ↦
          rw none (
            line,
            sym c.in_ok-older.ensures.line,
            subst (λ z. generation_of z < 65535) (sym first) (c.in-Err.ensures.memory (ap Err none)),
          )
      | inr past ↦
          rw past.0
          (last_limits c.args.self.now.edits c.branches.ensures.tree c.args.id.now c.args.parent
          c.args.deleted c.args.body line (sym c.in_ok-older.ensures.line)
          (subst (λ z. 65535 ≤ generation_of z) (sym first) past.1))
    ]

pub path_on-requires : goal.path_on-requires
path_on-requires c = history (goal.at.path_on-requires c).In-Ok

pub ready_with-requires : goal.ready_with-requires
ready_with-requires c =
    let line = line_to c.args.self.now.edits c.in_ok-older.older in
    let old = history (goal.at.ready_with-requires c).In-Ok in
    let up : c.in-Ok.rev.generation ≡ generation_of c.in_ok-older.older + 1 =
    ap (λ (z : Revision). z.generation) c.in-Ok.ensures.ok in
    rw c.in_ok-path.ensures (record {
      history = old;
      short = omega (arith, up, c.in-Ok.ensures.below, within_generation (c.in-Ok.rev ∷ line) c.in-Ok.rev old refl);
      front = rw c.of_one.ensures refl;
    })

pub returns-clause-ok : goal.returns-clause-ok
returns-clause-ok c =
    let line = line_to c.args.self.now.edits c.in_ok-older.older in
    let first = c.in_ok-older.ensures.first in
    let rev = made (goal.at.returns-clause-ok c).In-Ok in
    let new =
    is_new c.args.self.now.edits c.in-Ok.rev _ c.knows_digest.result c.knows_digest.ensures
    rev c.if-knows_digest.false in
    new_extends c.args.self.now.edits c.branches.ensures.tree c.args.id.now
    c.args.parent c.args.deleted c.args.body line (sym c.in_ok-older.ensures.line)
    (subst (λ z. generation_of z < 65535) (sym first) c.in-Ok.ensures.below) new
    ∙ sym (ap Ok (c.in_ok-ready.ensures.ready
    ∙ ap (λ z. nameless z c.args.deleted c.args.body) (c.in_ok-path.ensures ∙ ap (λ z. z ∷ line) rev)))

pub returns-clause-acceptable : goal.returns-clause-acceptable
returns-clause-acceptable c =
    let line = line_to c.args.self.now.edits c.in_ok-older.older in
    let rev = made (goal.at.returns-clause-acceptable c).In-Ok in
    let new =
    is_new c.args.self.now.edits c.in-Ok.rev _ c.knows_digest.result c.knows_digest.ensures
    rev c.if-knows_digest.false in
    subst (IsAcceptable c.args.self.now.edits)
    (sym (c.in_ok-ready.ensures.ready
    ∙ ap (λ z. nameless z c.args.deleted c.args.body) (c.in_ok-path.ensures ∙ ap (λ z. z ∷ line) rev)))
    (next_acceptable c.args.self.now.edits c.branches.ensures.tree c.args.id.now c.args.parent
    c.args.deleted c.args.body line (sym c.in_ok-older.ensures.line) new)
