use Rattle.std.proofs.Common.{◌≡◌, Bool, true, false, refl, sym, subst}
use Rattle.std.specs.Prelude.{not, is_some, Ok}
use Rattle.hub_document.specs.DocText.{doc_text}
use Rattle.hub_document.specs.Read.{doc_in}
use Rattle.hub_round_trip.proofs.DocLemmas.{reads_are_docs}
use Rattle.hub_round_trip.proofs.TextLemmas.{doc_text_reads}
use Rattle.hub_round_trip.proofs.documents_read_back.Goals as goal

pub returns-clause-docs : goal.returns-clause-docs
returns-clause-docs c = reads_are_docs

pub returns-clause-read : goal.returns-clause-read
returns-clause-read c = doc_text_reads

-- a document has a path exactly where its edit was not made here
kind : (has_path new_edits : Bool) → has_path ≡ not new_edits → not has_path ≡ new_edits
kind true true h = sym h
kind true false h = refl
kind false true h = refl
kind false false h = sym h

pub returns-clause-back : goal.returns-clause-back
returns-clause-back c =
    λ new_edits text d read.
    let is = reads_are_docs new_edits text d read in
    subst (λ b. doc_in b (doc_text d) ≡ Ok d) (kind (is_some d.path) new_edits is.1) (doc_text_reads d is.0)
