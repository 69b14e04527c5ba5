use Rattle.hub_document.proofs.TextLemmas.{revision_of-text_of, text_of-revision_of, IsRevision-revision_of}
use Rattle.hub_document.proofs.revision.revision_texts.Goals as goal

pub returns-clause-reads : goal.returns-clause-reads
returns-clause-reads c = revision_of-text_of

pub returns-clause-prints : goal.returns-clause-prints
returns-clause-prints c = λ s r h. (text_of-revision_of s r h, IsRevision-revision_of s r h)
