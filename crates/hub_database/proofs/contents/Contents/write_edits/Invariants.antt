use Rattle.std.proofs.Common.{◌≡◌, ◌+◌, ◌≤◌, ◌++◌, length, false}
use Rattle.std.specs.Prelude.{vec_capacity}
use Rattle.hub_database.specs.Edits.{docs_result}
use Rattle.hub_database.proofs.contents.Contents.write_edits.Given as goal

abbrev pub invariant-loop-doc : goal.invariant-loop-doc
invariant-loop-doc l = record {
  rest : l.self ≡ record l.fn.self { journal = l.self.journal };
  grown : length l.fn.self.journal ≤ length l.self.journal;
  all : docs_result l.new_edits false l.fn.self.limits.journal l.fn.self.journal l.yielded
      ≡ record { outcomes = l.list.items; journal = l.self.journal };
  docs : l.yielded ++ l.doc-iterator.rest.items ≡ l.fn.docs.items;
  replies : length l.list.items ≡ length l.yielded;
  room : length l.list.items + length l.doc-iterator.rest.items ≤ vec_capacity l.list;
}
